-- Demands 2 and 3 over the call: a listing that begins with no record, of an accepted book, in any room.
--   Lists, listed         the records that it leaves in the words, as many as it answers, are the listing of the book in that room
--   list_complete         complete: they are exactly the explanations and the repairs of the book, each once
--   list_order            in the fixed order: each is what the seed of those before it yields
--   list_stopped          stopped: the room is full
--   list_when             complete is said exactly when everything has been written
--   list_reached          and it is, where there is room for a record for each choice
--   list_more             in more room it begins with all that it wrote in less
-- Assumes nothing.
use Prim.Native.Nat.{ℕ, ◌-◌, ◌^◌, ◌≤◌}
use mathlib.Core.Path.{◌≡◌, refl, sym, ap, ap₂, ◌∙◌, subst}
use mathlib.Core.Logic.{◌↔◌}
use mathlib.Core.List.{List, [], ◌∷◌, ◌++◌}
use mathlib.Core.Bool.{Bool, true, false, cond}
use native.Mathlib.Omega.{arith}
use Rattle.std.specs.Prelude.{Result, Ok}
use lib.ListN.{length}
use Rattle.answer.specs.Answer.{answered}
use Rattle.answer.specs.declared.Refusal.{Refusal}
use Rattle.field.specs.Words.{Bytes}
use Rattle.meaning.specs.Book.{Book}
use Rattle.meaning.specs.Forced.{inconsistent}
use Rattle.rounds.specs.Records.{Record}
use Rattle.rounds.specs.Rounds.{listing, complete}
use Rattle.rounds.proofs.Seeds.{complete_none}
use Rattle.rounds.proofs.Rounds.{ends}
use Rattle.records.specs.Words.{room, records_of}
use Rattle.records.proofs.Words.{records_none}
use Rattle.book.specs.Walk.{book_of, IsBook}
use Rattle.demands.specs.Demands.{listing_of, says_complete, Exactly, SeedOf, NextOf, AllWritten}
use Rattle.demands.proofs.Demands.{demand_2, demand_3}
use Rattle.list.specs.Lists.{listed_is, lists, rounds, Listing}
use Rattle.list.specs.declared.Listed.{Listed}
use Rattle.list.specs.declared.Listed.TheVariants as ListedV
use Rattle.list.proofs.Opening.{Opened, lists_open}
use Rattle.list.proofs.Lists.{Tells, tells}

-- what a complete or a stopped listing says, of its book
pub record Lists (s ws ws' : List ℕ) (n m : ℕ) : Type 0 where
  pub is : IsBook s
  pub records : records_of ws' n ≡ listing_of (book_of s) (room ws)
  pub number : n ≡ length (listing_of (book_of s) (room ws))
  pub complete : m ≡ cond (says_complete (book_of s) (room ws)) 1 0

one_is : (b : Bool) (m : ℕ) → m ≡ cond b 1 0 → m ≡ 1 → b ≡ true
one_is true m e q = refl
one_is false m e q = absurd (omega arith)

zero_is : (b : Bool) (m : ℕ) → m ≡ cond b 1 0 → m ≡ 0 → b ≡ false
zero_is true m e q = absurd (omega arith)
zero_is false m e q = refl

-- the call: s is the book, ws the words lent, and `words` the size of the working space
module _ (s : List ℕ) (bytes : Bytes s) where
  module _ (ws : List ℕ) (words : ℕ) (r : Result Listed Refusal) (work ws' work' : List ℕ) (L : Listing (lists s ws 0 words) (room ws - 0) r ws 0 work ws' work') where
    pub listed : (n m : ℕ) → listed_is r ≡ answered (n ∷ m ∷ []) → Lists s ws ws' n m
    unfolding rounds
    listed n m e =
        record {
          is = o.0.is;
          records = T.records ∙ same;
          number = T.number ∙ ap length same;
          complete = T.complete ∙ ap (λ (b : Bool). cond b 1 0) (ap (complete T.book.groups) same ∙ ap (λ (b : Book). complete b.groups (listing_of (book_of s) (room ws))) (sym o.1));
        }
      where
        T : Tells (lists s ws 0 words) (room ws - 0) ws 0 ws' n m
        T = tells _ _ r ws 0 work ws' work' L n m e

        o : Opened s ws 0 × (book_of s ≡ T.book)
        o = lists_open s ws 0 words T.book bytes T.is

        same : rounds T.book (room ws - 0) ws 0 ≡ listing_of (book_of s) (room ws)
        same =
            ap₂ (λ (k : ℕ) (rs : List Record). listing T.book.groups (inconsistent T.book) k rs) (let z : room ws - 0 ≡ room ws = omega arith in z) (records_none ws)
            ∙ ap (λ (b : Book). listing_of b (room ws)) (sym o.1)

    module _ (n : ℕ) where
      done : r ≡ Ok (ListedV.Complete n) → Lists s ws ws' n 1
      done q = listed n 1 (ap listed_is q)

      halted : r ≡ Ok (ListedV.Stopped n) → Lists s ws ws' n 0
      halted q = listed n 0 (ap listed_is q)

      pub list_complete : r ≡ Ok (ListedV.Complete n) → Exactly (book_of s) (records_of ws' n)
      list_complete q =
          let A = done q in
          subst (Exactly (book_of s)) (sym A.records) ((demand_2 s A.is).right (room ws) (one_is _ _ A.complete refl))

      pub list_stopped : r ≡ Ok (ListedV.Stopped n) → n ≡ room ws
      list_stopped q = let A = halted q in A.number ∙ ((demand_3 s A.is).stops (room ws)).1 (zero_is _ _ A.complete refl)

      module _ (m : ℕ) (e : listed_is r ≡ answered (n ∷ m ∷ [])) where
        pub list_order : (before : List Record) (x : Record) (after : List Record) → records_of ws' n ≡ before ++ (x ∷ after) → (t : ℕ) × (SeedOf (book_of s) before t × NextOf (book_of s) t x)
        list_order before x after q = let A = listed n m e in (demand_2 s A.is).order (room ws) before x after (sym A.records ∙ q)

        pub list_when : (m ≡ 1) ↔ AllWritten (book_of s) (records_of ws' n)
        list_when =
            let A = listed n m e in
            let w = (demand_3 s A.is).complete (room ws) in (
              (λ q. subst (AllWritten (book_of s)) (sym A.records) (w.0 (one_is _ m A.complete q))),
              (λ W. A.complete ∙ ap (λ (b : Bool). cond b 1 0) (w.1 (subst (AllWritten (book_of s)) A.records W))),
            )

        pub list_reached : 2 ^ (book_of s).groups ≤ room ws → m ≡ 1
        list_reached h =
            let A = listed n m e in
            let b = book_of s in
            A.complete ∙ ap (λ (t : Bool). cond t 1 0) (complete_none b.groups (listing_of b (room ws)) (ends b.groups (inconsistent b) (room ws) [] h))

  -- two calls, the second in more room
  module _ (ws vs : List ℕ) (words words' : ℕ) (r q : Result Listed Refusal) (work ws' w work' vs' w' : List ℕ)
      (L : Listing (lists s ws 0 words) (room ws - 0) r ws 0 work ws' w) (M : Listing (lists s vs 0 words') (room vs - 0) q vs 0 work' vs' w') where
    pub list_more : (n m n' m' : ℕ) → listed_is r ≡ answered (n ∷ m ∷ []) → listed_is q ≡ answered (n' ∷ m' ∷ []) → room ws ≤ room vs
        → (more : List Record) × (records_of vs' n' ≡ records_of ws' n ++ more)
    list_more n m n' m' e f h =
        let A = listed ws words r work ws' w L n m e in
        let C = listed vs words' q work' vs' w' M n' m' f in
        let g = (demand_3 s A.is).more (room ws) (room vs) h in
        (g.0, C.records ∙ g.1 ∙ ap (λ (l : List Record). l ++ g.0) (sym A.records))
