-- Demands 2 and 3 of document 00, over a rule book: consistent means that some assignment satisfies all clauses in force.
--   listing_of b k        the listing of the book b, begun empty, in room for k records
--   says_complete b k     whether it says complete
-- Demand 2, the lists are right:
--   Exactly b rs         the records are exactly the explanations and the repairs of the book, each once
--   ListsRight b         a listing that says complete holds exactly those
--   Leaves rs x          the choice x contains no listed explanation and shares a group with every listed repair
--   SeedOf b rs s        s is the largest number among the choices that the records leave
--   SmallestIn b s e     e is the smallest number among the inconsistent choices within s
--   NextOf b s r         what the seed s yields: where it is inconsistent, that explanation; else the repair that is its complement
--   InOrder b            the fixed order: each record is what the seed of the records before it yields
--   RoundRule b          the same whatever records stand there: the next record is what their seed yields, and where there is no seed they leave no choice
--   Demand2 b            right and in order, and a listing says complete where there is room for a record for each choice
-- Demand 3, more never unsays:
--   MoreBegins b         a listing in more room begins with all it wrote in less
--   StopsFull b          it has no more records than room, and says complete or fills the room
--   AllWritten b rs      every explanation and every repair stands in the list
--   CompleteWhen b       it says complete exactly when everything has been written
--   Demand3 b            these three
--   Gains b c            c is b with one group more, numbered last, and every added clause names the new group
--   Grown b c            the explanations without the new group are exactly the old ones; each old repair stands as it was or with the
--                        new group added, never both; and each repair with the new group is an old one plus it
-- What document 01 says of two kinds of books:
--   ConsistentBook b     with all groups chosen it is consistent
--   OneRepair b          it has no explanation and one repair, the empty set
--   BrokenCore b         with no group chosen it is inconsistent
--   OneExplanation b     it has one explanation, the empty set, and no repair
-- Assumes nothing: these are definitions.
use Rattle.std.specs.Prelude.{ℕ, suc, ◌+◌, ◌^◌, ◌≤◌, ◌<◌, ◌≡◌, ◌↔◌, ◌⊎◌, Bool, true, false, length}
use Rattle.std.proofs.Math.Option.{some, none}
use mathlib.Core.List.{List, [], ◌∷◌, ◌++◌, Memᴰ}
use Rattle.meaning.specs.Book.{Clause, Book}
use Rattle.meaning.specs.Choice.{digit, Inside, Meets, complement}
use Rattle.meaning.specs.Forced.{inconsistent}
use Rattle.meaning.specs.Explanation.{ConsistentIn, ExplanationOf, RepairOf}
use Rattle.rounds.specs.Records.{Record, explains, repairs}
use Rattle.rounds.specs.Rounds.{seed, found, listing, complete}
use Rattle.rounds.specs.Right.{Once}

abbrev pub listing_of : Book → ℕ → List Record
listing_of b k = listing b.groups (inconsistent b) k []

abbrev pub says_complete : Book → ℕ → Bool
says_complete b k = complete b.groups (listing_of b k)

-- ---- demand 2
pub record Exactly (b : Book) (rs : List Record) : Type 0 where
  pub explanations : (x : ℕ) → Memᴰ (explains x) rs ↔ ExplanationOf b x
  pub repairs : (x : ℕ) → Memᴰ (repairs x) rs ↔ RepairOf b x
  pub once : Once rs

abbrev pub ListsRight : Book → Type 0
ListsRight b = (k : ℕ) → says_complete b k ≡ true → Exactly b (listing_of b k)

pub record Leaves (rs : List Record) (x : ℕ) : Type 0 where
  pub contains_none : (e : ℕ) → Memᴰ (explains e) rs → Inside e x → ⊥
  pub shares_a_group : (r : ℕ) → Memᴰ (repairs r) rs → Meets r x

pub record SeedOf (b : Book) (rs : List Record) (s : ℕ) : Type 0 where
  pub within : s < 2 ^ b.groups
  pub left : Leaves rs s
  pub largest : (z : ℕ) → s < z → z < 2 ^ b.groups → Leaves rs z → ⊥

pub record SmallestIn (b : Book) (s e : ℕ) : Type 0 where
  pub inside : Inside e s
  pub broken : ConsistentIn b e → ⊥
  pub lower : (z : ℕ) → Inside z s → (ConsistentIn b z → ⊥) → e ≤ z

abbrev pub NextOf : Book → ℕ → Record → Type 0
NextOf b s (explains e) = (ConsistentIn b s → ⊥) × SmallestIn b s e
NextOf b s (repairs r) = ConsistentIn b s × (r ≡ complement b.groups s)

abbrev pub InOrder : Book → Type 0
InOrder b = (k : ℕ) (before : List Record) (r : Record) (after : List Record) → listing_of b k ≡ before ++ (r ∷ after) → (s : ℕ) × (SeedOf b before s × NextOf b s r)

pub record RoundRule (b : Book) : Type 0 where
  pub named : (rs : List Record) (s : ℕ) → seed b.groups rs ≡ some s → SeedOf b rs s × NextOf b s (found b.groups (inconsistent b) s)
  pub none_left : (rs : List Record) → seed b.groups rs ≡ none → (z : ℕ) → z < 2 ^ b.groups → Leaves rs z → ⊥

pub record Demand2 (b : Book) : Type 0 where
  pub right : ListsRight b
  pub order : InOrder b
  pub reached : says_complete b (2 ^ b.groups) ≡ true

-- ---- demand 3
abbrev pub MoreBegins : Book → Type 0
MoreBegins b = (j k : ℕ) → j ≤ k → (more : List Record) × (listing_of b k ≡ listing_of b j ++ more)

abbrev pub StopsFull : Book → Type 0
StopsFull b = (k : ℕ) → (length (listing_of b k) ≤ k) × (says_complete b k ≡ false → length (listing_of b k) ≡ k)

pub record AllWritten (b : Book) (rs : List Record) : Type 0 where
  pub explanations : (x : ℕ) → ExplanationOf b x → Memᴰ (explains x) rs
  pub repairs : (x : ℕ) → RepairOf b x → Memᴰ (repairs x) rs

abbrev pub CompleteWhen : Book → Type 0
CompleteWhen b = (k : ℕ) → (says_complete b k ≡ true) ↔ AllWritten b (listing_of b k)

pub record Demand3 (b : Book) : Type 0 where
  pub more : MoreBegins b
  pub stops : StopsFull b
  pub complete : CompleteWhen b

pub record Gains (b c : Book) : Type 0 where
  pub one_more : c.groups ≡ suc b.groups
  pub kept : (d : Clause) → Memᴰ d b.clauses → Memᴰ d c.clauses
  pub added : (d : Clause) → Memᴰ d c.clauses → Memᴰ d b.clauses ⊎ Memᴰ (suc b.groups) d.groups

pub record Grown (b c : Book) : Type 0 where
  pub explanations : (x : ℕ) → x < 2 ^ b.groups → ExplanationOf c x ↔ ExplanationOf b x
  pub stands : (x : ℕ) → RepairOf b x → RepairOf c x ⊎ RepairOf c (x + 2 ^ b.groups)
  pub never_both : (x : ℕ) → RepairOf b x → RepairOf c x → RepairOf c (x + 2 ^ b.groups) → ⊥
  pub came : (y : ℕ) → RepairOf c y → digit y b.groups ≡ 1 → (x : ℕ) × (RepairOf b x × (y ≡ x + 2 ^ b.groups))

-- ---- two kinds of books
abbrev pub ConsistentBook : Book → Type 0
ConsistentBook b = ConsistentIn b (complement b.groups 0)

pub record OneRepair (b : Book) : Type 0 where
  pub explanations : (x : ℕ) → ExplanationOf b x → ⊥
  pub repairs : (x : ℕ) → RepairOf b x ↔ (x ≡ 0)

abbrev pub BrokenCore : Book → Type 0
BrokenCore b = ConsistentIn b 0 → ⊥

pub record OneExplanation (b : Book) : Type 0 where
  pub explanations : (x : ℕ) → ExplanationOf b x ↔ (x ≡ 0)
  pub repairs : (x : ℕ) → RepairOf b x → ⊥
