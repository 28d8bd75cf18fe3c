-- Demands 2 and 3, proved of every accepted book.
--   demand_2                 the lists are right, and in the fixed order
--   demand_3                 more never unsays
--   round_rule               the record of each round, whatever records stand there
--   growth                   ... where a book gains a group
--   consistent_book          a consistent book has no explanation and one repair, the empty set
--   broken_core              a book whose core is inconsistent has one explanation, the empty set, and no repair
--   listed_right, listed_order, listed_reached, listed_more, listed_stops, listed_when, listed_rule, grown      the same, of every book whose heads are among its variables
-- Assumes nothing.
use mathlib.Core.Path.{◌≡◌, sym, ap, ◌∙◌, subst}
use mathlib.Core.Logic.{◌↔◌, ◌⊎◌, inl, inr}
use mathlib.Core.Bool.{Bool, true, false}
use mathlib.Core.Option.{some, none}
use mathlib.Core.List.Memᴰ
use mathlib.Core.List.{List, [], Memᴰ}
use Prim.Native.Nat.{ℕ, suc, ◌+◌, ◌-◌, ◌^◌, ◌<◌}
use native.Mathlib.Omega.{arith}
use lib.ListN.{length}
use lib.Pow.{pow_pos}
use Rattle.answer.proofs.Tests.{clash}
use Rattle.meaning.specs.Book.{Book}
use Rattle.meaning.specs.Choice.{complement}
use Rattle.meaning.specs.Forced.{inconsistent}
use Rattle.meaning.specs.Explanation.{Explanation, Repair, ConsistentIn, ExplanationOf, RepairOf}
use Rattle.meaning.proofs.Choices.{digit_lt, digit_none}
use Rattle.meaning.proofs.Marks.{Heads}
use Rattle.meaning.proofs.Deciding.{consistent_less}
use Rattle.meaning.proofs.Explanations.{fine_exactly, inconsistent_more, explanation_tested, repair_tested, inconsistent_grown}
use Rattle.book.specs.Walk.{book_of, IsBook}
use Rattle.book.proofs.Walk.{well_formed}
use Rattle.marks.proofs.Walks.{heads}
use Rattle.rounds.specs.Records.{Record, explains, repairs, allows, allowed}
use Rattle.rounds.specs.Rounds.{seed, found, Monotone}
use Rattle.rounds.specs.Right.{Fine, Right, AllRight, IsSeed, Yields, Grows}
use Rattle.rounds.proofs.Digits.{none_inside, no_group, apart_inside, back_lt}
use Rattle.rounds.proofs.Seeds.{explains_allows, repairs_allows, allowed_at, allowed_all, seed_at, complete_none}
use Rattle.rounds.proofs.Tests.{not_fine}
use Rattle.rounds.proofs.Rounds.{found_is, listing_prefix, listing_le, listing_full, listing_right, complete_iff, complete_exactly, ends}
use Rattle.rounds.proofs.Order.{ordered_none, listing_order}
use Rattle.rounds.proofs.Growth.{explanations_stay, repairs_stay, repairs_one, repairs_came}
use Rattle.demands.specs.Demands.{listing_of, says_complete, ListsRight, Leaves, SeedOf, NextOf, InOrder, Demand2, RoundRule, MoreBegins, StopsFull, AllWritten, CompleteWhen, Demand3, Gains, Grown, ConsistentBook, OneRepair, BrokenCore, OneExplanation}

-- ---- what the records leave
leaves : (rs : List Record) (x : ℕ) → (allowed rs x ≡ true) ↔ Leaves rs x
leaves rs x = (
  (λ a. record {
    contains_none = λ e m. (explains_allows e x).0 (allowed_at rs x (explains e) a m);
    shares_a_group = λ r m. (repairs_allows r x).0 (allowed_at rs x (repairs r) a m);
  }),
  (λ L. allowed_all rs x (pick L)),
)
  where
    pick : Leaves rs x → (r : Record) → Memᴰ r rs → allows r x ≡ true
    pick L (explains e) m = (explains_allows e x).1 (L.contains_none e m)
    pick L (repairs r) m = (repairs_allows r x).1 (L.shares_a_group r m)

seed_of : (b : Book) (rs : List Record) (s : ℕ) → IsSeed b.groups rs s → SeedOf b rs s
seed_of b rs s S =
    record {
      within = S.0;
      left = (leaves rs s).0 S.1;
      largest = λ z l m L. clash (allowed rs z) ((leaves rs z).1 L) (S.2 z l m);
    }

-- ---- a book whose heads are among its variables
module _ (b : Book) (H : Heads b.variables b.clauses) where
  monotone : (n : ℕ) → Monotone n (inconsistent b)
  monotone n x y h = inconsistent_more b H x y

  not_consistent : (x : ℕ) → inconsistent b x ≡ true → ConsistentIn b x → ⊥
  not_consistent x e C = clash (inconsistent b x) e ((fine_exactly b H x).0 C)

  is_inconsistent : (x : ℕ) → (ConsistentIn b x → ⊥) → inconsistent b x ≡ true
  is_inconsistent x f = not_fine (inconsistent b) x (λ e. f ((fine_exactly b H x).1 e))

  all_right : (k : ℕ) → AllRight b.groups (inconsistent b) (listing_of b k)
  all_right k = listing_right b.groups (inconsistent b) (monotone b.groups) k [] (λ r m. absurd (Memᴰ.not-nil m))

  pub listed_right : ListsRight b
  listed_right k e =
      let d = complete_exactly b.groups (inconsistent b) (monotone b.groups) k e in
      record {
        explanations = λ x. ((λ m. (explanation_tested b H x).1 ((d.0 (explains x)).0 m)), (λ E. (d.0 (explains x)).1 ((explanation_tested b H x).0 E)));
        repairs = λ x. ((λ m. (repair_tested b H x).1 ((d.0 (repairs x)).0 m)), (λ R. (d.0 (repairs x)).1 ((repair_tested b H x).0 R)));
        once = d.1;
      }

  next_of : (s : ℕ) (r : Record) → Yields b.groups (inconsistent b) s r → NextOf b s r
  next_of s (explains e) Y =
      (not_consistent s Y.0, record { inside = Y.1.inside; broken = not_consistent e Y.1.broken; lower = λ z t f. Y.1.lower z t (is_inconsistent z f) })
  next_of s (repairs r) Y = ((fine_exactly b H s).1 Y.0, Y.1)

  -- the round rule, for any records
  pub listed_rule : RoundRule b
  listed_rule =
      record {
        named = λ rs s e. (seed_of b rs s (seed_at b.groups rs (some s) e), next_of s (found b.groups (inconsistent b) s) (found_is b.groups (inconsistent b) s));
        none_left = λ rs e z h L. clash (allowed rs z) ((leaves rs z).1 L) (seed_at b.groups rs none e z h);
      }

  pub listed_order : InOrder b
  listed_order k before r after e =
      let w = listing_order b.groups (inconsistent b) k [] (ordered_none b.groups (inconsistent b)) before r after e in
      (w.0, (seed_of b before w.0 w.1.0, next_of w.0 r w.1.1))

  pub listed_reached : says_complete b (2 ^ b.groups) ≡ true
  listed_reached = complete_none b.groups (listing_of b (2 ^ b.groups)) (ends b.groups (inconsistent b) (2 ^ b.groups) [] (omega arith))

  pub listed_more : MoreBegins b
  listed_more j k l =
      let w = listing_prefix b.groups (inconsistent b) j (k - j) [] in
      (w.0, ap (listing_of b) (let e : k ≡ j + (k - j) = omega arith in e) ∙ w.1)

  pub listed_stops : StopsFull b
  listed_stops k = (omega (arith, listing_le b.groups (inconsistent b) k []), λ f. go f (listing_full b.groups (inconsistent b) k []))
    where
      go : says_complete b k ≡ false → (length (listing_of b k) ≡ length {A = Record} [] + k) ⊎ (seed b.groups (listing_of b k) ≡ none) → length (listing_of b k) ≡ k
      go f (inl e) = omega (arith, e)
      go f (inr e) = absurd (clash (says_complete b k) (complete_none b.groups (listing_of b k) e) f)

  pub listed_when : CompleteWhen b
  listed_when k = (
    (λ e. record { explanations = λ x E. c.0 e (explains x) ((explanation_tested b H x).0 E); repairs = λ x R. c.0 e (repairs x) ((repair_tested b H x).0 R) }),
    (λ A. c.1 (pick A)),
  )
    where
      c : (says_complete b k ≡ true) ↔ ((r : Record) → Right b.groups (inconsistent b) r → Memᴰ r (listing_of b k))
      c = complete_iff b.groups (inconsistent b) (monotone b.groups) (listing_of b k) (all_right k)

      pick : AllWritten b (listing_of b k) → (r : Record) → Right b.groups (inconsistent b) r → Memᴰ r (listing_of b k)
      pick A (explains x) E = A.explanations x ((explanation_tested b H x).1 E)
      pick A (repairs x) R = A.repairs x ((repair_tested b H x).1 R)

-- ---- a group more
pub grown : (b c : Book) → Heads b.variables b.clauses → Heads c.variables c.clauses → Gains b c → Grown b c
grown b c H J G =
    record {
      explanations = λ x h. (
        (λ E. (explanation_tested b H x).1 ((explanations_stay n old new g x h).0 (to_explanation x E))),
        (λ E. from_explanation x ((explanations_stay n old new g x h).1 ((explanation_tested b H x).0 E))),
      );
      stands = λ x R. keep x (repairs_stay n old new g m x ((repair_tested b H x).0 R));
      never_both = λ x R p q. repairs_one n old new g x R.within (to_repair x p) (to_repair (x + 2 ^ n) q);
      came = λ y R d. let w = repairs_came n old new g y (to_repair y R) d in (w.0, ((repair_tested b H w.0).1 w.1.0, w.1.1));
    }
  where
    n : ℕ
    n = b.groups

    old : ℕ → Bool
    old = inconsistent b

    new : ℕ → Bool
    new = inconsistent c

    g : Grows b.groups (inconsistent b) (inconsistent c)
    g = inconsistent_grown b c H J G.kept G.added

    m : Monotone (suc b.groups) (inconsistent c)
    m = monotone c J (suc n)

    to_explanation : (x : ℕ) → ExplanationOf c x → Explanation (suc n) (Fine new) x
    to_explanation x E = subst (λ (k : ℕ). Explanation k (Fine new) x) G.one_more ((explanation_tested c J x).0 E)

    from_explanation : (x : ℕ) → Explanation (suc n) (Fine new) x → ExplanationOf c x
    from_explanation x E = (explanation_tested c J x).1 (subst (λ (k : ℕ). Explanation k (Fine new) x) (sym G.one_more) E)

    to_repair : (x : ℕ) → RepairOf c x → Repair (suc n) (Fine new) x
    to_repair x R = subst (λ (k : ℕ). Repair k (Fine new) x) G.one_more ((repair_tested c J x).0 R)

    from_repair : (x : ℕ) → Repair (suc n) (Fine new) x → RepairOf c x
    from_repair x R = (repair_tested c J x).1 (subst (λ (k : ℕ). Repair k (Fine new) x) (sym G.one_more) R)

    keep : (x : ℕ) → Repair (suc n) (Fine new) x ⊎ Repair (suc n) (Fine new) (x + 2 ^ n) → RepairOf c x ⊎ RepairOf c (x + 2 ^ n)
    keep x (inl R) = inl (from_repair x R)
    keep x (inr R) = inr (from_repair (x + 2 ^ n) R)

-- ---- two kinds of books
pub consistent_book : (b : Book) → ConsistentBook b → OneRepair b
consistent_book b C = record { explanations = λ x E. E.broken (fine x E.within); repairs = λ x. (only x, λ e. subst (RepairOf b) (sym e) empty) }
  where
    n : ℕ
    n = b.groups

    fine : (x : ℕ) → x < 2 ^ b.groups → ConsistentIn b x
    fine x h = consistent_less b.clauses x (complement n 0) (apart_inside n x 0 h (pow_pos n) (λ g. omega (arith, digit_none g, digit_lt x g))) C

    only : (x : ℕ) → RepairOf b x → x ≡ 0
    only x R = no_group x (λ g d. R.needed g d (fine (complement n x + 2 ^ g) (back_lt n x g R.within d)))

    empty : RepairOf b 0
    empty = record { within = pow_pos n; mends = C; needed = λ g d. absurd (omega (arith, d, digit_none g)) }

pub broken_core : (b : Book) → BrokenCore b → OneExplanation b
broken_core b f = record { explanations = λ x. (only x, λ e. subst (ExplanationOf b) (sym e) empty); repairs = λ x R. never (complement b.groups x) R.mends }
  where
    never : (x : ℕ) → ConsistentIn b x → ⊥
    never x C = f (consistent_less b.clauses 0 x (none_inside x) C)

    only : (x : ℕ) → ExplanationOf b x → x ≡ 0
    only x E = no_group x (λ g d. never (x - 2 ^ g) (E.least g d))

    empty : ExplanationOf b 0
    empty = record { within = pow_pos b.groups; broken = f; least = λ g d. absurd (omega (arith, d, digit_none g)) }

-- ---- every accepted book
module _ (s : List ℕ) (is : IsBook s) where
  own : Heads (book_of s).variables (book_of s).clauses
  own = heads (book_of s) (well_formed s is)

  pub demand_2 : Demand2 (book_of s)
  demand_2 = let b = book_of s in record { right = listed_right b own; order = listed_order b own; reached = listed_reached b own }

  pub demand_3 : Demand3 (book_of s)
  demand_3 = let b = book_of s in record { more = listed_more b own; stops = listed_stops b own; complete = listed_when b own }

  pub round_rule : RoundRule (book_of s)
  round_rule = listed_rule (book_of s) own

  pub growth : (t : List ℕ) → IsBook t → Gains (book_of s) (book_of t) → Grown (book_of s) (book_of t)
  growth t it G = grown (book_of s) (book_of t) own (heads (book_of t) (well_formed t it)) G
