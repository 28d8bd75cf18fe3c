-- A call that writes, by what it is to write.
--   written_one                 the answer determines the result
--   fitting_in, fitting_out     what fits, and what does not
--   fitting_is                  what was found to fit
--   laid_refused, laid_answered           what is left, by what was to be written
--   length_over                 a space is as long as before where its front is written
--   over_over                   a front written over one that is no longer
--   Told, told_refused, told_written      what is answered and left, by what was to be written
--   told_count, told_all        and the other way round
--   told_one                    the answer and the space are determined
--   wrote_none, wrote_one       no store, and one
--   wrote_append                one run of stores after another
--   wrote_length                the space is as long as it was
--   wrote_sole                  the space and the place after what was written are determined
--   Writing                     the invariant of a loop that writes: what is left of all that is to be written
--   writing_start, writing_next, writing_end      its start, its next turn, its end
--   writing_count, writing_length, writing_room      what it says of places
-- Assumes nothing.
use Prim.Native.Nat.{ℕ, suc, ◌+◌, ◌-◌, ◌≤◌, ◌<◌}
use mathlib.Core.Path.{◌≡◌, refl, sym, ap, ◌∙◌}
use mathlib.Core.List.{List, [], ◌∷◌, ◌++◌, append-nil, append_assoc}
use native.Mathlib.Omega.{arith}
use lib.ListN.{length, take, drop, set, length-append, length-drop}
use lib.Seq.{sets, sets-eq, length-sets, take_at, drop-drop, drop-append-add}
use borrow.Author.Tests.{lt-ltb, le-ltb}
use Rattle.answer.specs.Answer.{Answer, answered, refused, first, unless}
use Rattle.answer.specs.Space.{written_is, fitting, counted, over, laid, Wrote}
use Rattle.std.specs.Prelude.{Result, Ok, Err}
use Rattle.answer.specs.declared.Refusal.{Refusal}
use Rattle.answer.specs.Refusals.{number_of}
use Rattle.answer.proofs.Answers.{unless_is}
use Rattle.answer.proofs.Refusals.{answer_one}

pub written_one : (a b : Result ℕ Refusal) → written_is a ≡ written_is b → a ≡ b
written_one = answer_one _ (λ x y e. cc)

module _ {A : Type 0} (room : ℕ) (xs : List A) where
  pub fitting_in : length xs ≤ room → fitting room xs ≡ answered xs
  unfolding fitting unless first
  fitting_in h = simp (le-ltb room (length xs) h)

  pub fitting_out : room < length xs → fitting room xs ≡ refused 11 0
  unfolding fitting unless first
  fitting_out h = simp (lt-ltb room (length xs) h)

  pub fitting_is : (ys : List A) → fitting room xs ≡ answered ys → xs ≡ ys
  unfolding fitting
  fitting_is ys e = let q = (unless_is _ 0 (answered xs) ys e).1 in cc

-- the front of a space, written
module _ {A : Type 0} where
  pub length_over : (xs old : List A) → length xs ≤ length old → length (over xs old) ≡ length old
  length_over xs old h = omega (arith, length-append xs (drop (length xs) old), length-drop (length xs) old, h)

  pub over_over : (xs ys us : List A) → length ys ≤ length xs → over xs (over ys us) ≡ over xs us
  over_over xs ys us h =
      let d = length xs - length ys in
      let p : length xs ≡ length ys + d = omega (arith, h) in
      ap (λ (l : List A). xs ++ l)
      (ap (λ (k : ℕ). drop k (ys ++ drop (length ys) us)) p ∙ drop-append-add ys (drop (length ys) us) d ∙ drop-drop d (length ys) us ∙ ap (λ (k : ℕ). drop k us) (sym p))

-- what a call answers and leaves, where a is what it is to write
module _ {A : Type 0} (a : Answer (List A)) (old : List A) where
  pub laid_refused : (n at : ℕ) → a ≡ refused n at → laid a old ≡ old
  unfolding laid
  laid_refused n at e = ap (λ (b : Answer (List A)). laid b old) e

  pub laid_answered : (xs : List A) → a ≡ answered xs → laid a old ≡ over xs old
  unfolding laid
  laid_answered xs e = ap (λ (b : Answer (List A)). laid b old) e

  abbrev pub Told : Result ℕ Refusal → List A → Type 0
  Told r new = (written_is r ≡ counted a) × (new ≡ laid a old)

  pub told_refused : (r : Refusal) → a ≡ refused (number_of r.cause) r.place → Told (Err r) old
  unfolding counted laid
  told_refused r e = simp e (refl, refl)

  pub told_written : (xs new : List A) (n : ℕ) → a ≡ answered xs → length xs ≤ length old → Wrote old 0 xs new n → Told (Ok n) new
  unfolding counted laid
  told_written xs new n e h w =
      let z : 0 + length xs ≤ length old = omega arith in
      let k : 0 + length xs ≡ length xs = omega arith in
      simp e (
        ap (λ (m : ℕ). answered (m ∷ [])) (w.place ∙ k),
        w.list ∙ sets-eq xs old 0 z ∙ ap (λ (j : ℕ). xs ++ drop j old) k,
      )

  pub told_count : (n : ℕ) (new : List A) → Told (Ok n) new → (xs : List A) × (a ≡ answered xs) × (n ≡ length xs) × (take n new ≡ xs)
  unfolding counted laid
  told_count n new t = go a t.0 t.1
    where
      go : (b : Answer (List A)) → answered (n ∷ []) ≡ counted b → new ≡ laid b old → (xs : List A) × (b ≡ answered xs) × (n ≡ length xs) × (take n new ≡ xs)
      go (answered xs) p q = let e : n ≡ length xs = cc in (xs, refl, e, ap (take n) q ∙ take_at xs (drop (length xs) old) n (sym e))
      go (refused k at) p q = let z : ◌≡◌ {A = ℕ} 0 1 = cc in absurd (omega arith)

  pub told_all : (xs : List A) (r : Result ℕ Refusal) (new : List A) → a ≡ answered xs → Told r new → (r ≡ Ok (length xs)) × (new ≡ over xs old)
  unfolding counted laid
  told_all xs r new e t = (written_one r (Ok (length xs)) (t.0 ∙ ap counted e), t.1 ∙ ap (λ (b : Answer (List A)). laid b old) e)

  pub told_one : (r r' : Result ℕ Refusal) (new new' : List A) → Told r new → Told r' new' → (r ≡ r') × (new ≡ new')
  told_one r r' new new' p q = (written_one r r' (p.0 ∙ sym q.0), p.1 ∙ sym q.1)

module _ {A : Type 0} where
  pub wrote_none : (l : List A) (at : ℕ) → Wrote l at [] l at
  wrote_none l at = record { place = omega arith; list = refl }

  pub wrote_one : (l : List A) (at : ℕ) (x : A) → Wrote l at (x ∷ []) (set l at x) (at + 1)
  wrote_one l at x = record { place = omega arith; list = refl }

  sets_append : (xs ys l : List A) (i : ℕ) → sets (sets l i xs) (i + length xs) ys ≡ sets l i (xs ++ ys)
  sets_append [] ys l i = let e : i + 0 ≡ i = omega arith in ap (λ (k : ℕ). sets l k ys) e
  sets_append (x ∷ xs) ys l i =
      let e : i + suc (length xs) ≡ suc i + length xs = omega arith in
      ap (λ (k : ℕ). sets (sets (set l i x) (suc i) xs) k ys) e ∙ sets_append xs ys (set l i x) (suc i)

  pub wrote_append : (l : List A) (i : ℕ) (xs o : List A) (j : ℕ) (ys p : List A) (k : ℕ) → Wrote l i xs o j → Wrote o j ys p k → Wrote l i (xs ++ ys) p k
  wrote_append l i xs o j ys p k u w =
      record {
        place = omega (arith, u.place, w.place, length-append xs ys);
        list = w.list ∙ ap (λ (y : List A). sets y j ys) u.list ∙ ap (λ (n : ℕ). sets (sets l i xs) n ys) u.place ∙ sets_append xs ys l i;
      }

  pub wrote_length : (l : List A) (i : ℕ) (xs o : List A) (j : ℕ) → Wrote l i xs o j → length o ≡ length l
  wrote_length l i xs o j w = ap length w.list ∙ length-sets l i xs

  pub wrote_sole : (l : List A) (i : ℕ) (xs o o' : List A) (j j' : ℕ) → Wrote l i xs o j → Wrote l i xs o' j' → (o ≡ o') × (j ≡ j')
  wrote_sole l i xs o o' j j' u w = (u.list ∙ sym w.list, u.place ∙ sym w.place)

-- `all` is to be written into `old` from `at` on; so far this gave `new`, with the next place i, and `left` is left
pub record Writing {A : Type 0} (all old : List A) (at : ℕ) (new : List A) (i : ℕ) (left : List A) : Type 0 where
  pub done : List A
  pub wrote : Wrote old at done new i
  pub split : all ≡ done ++ left

module _ {A : Type 0} (all old : List A) (at : ℕ) where
  pub writing_start : Writing all old at old at all
  writing_start = record { done = []; wrote = wrote_none old at; split = refl }

  module _ (new : List A) (i : ℕ) (left : List A) (p : Writing all old at new i left) where
    pub writing_count : i + length left ≡ at + length all
    writing_count = omega (arith, p.wrote.place, ap length p.split ∙ length-append p.done left)

    pub writing_length : length new ≡ length old
    writing_length = wrote_length old at p.done new i p.wrote

    pub writing_room : at + length all ≤ length old → i + length left ≤ length new
    writing_room h = omega (arith, writing_count, writing_length)

    pub writing_end : left ≡ [] → Wrote old at all new i
    writing_end e = simp (p.split, e, append-nil) p.wrote

    pub writing_next : (xs rest : List A) (new' : List A) (j : ℕ) → left ≡ xs ++ rest → Wrote new i xs new' j → Writing all old at new' j rest
    writing_next xs rest new' j e w =
        record {
          done = p.done ++ xs;
          wrote = wrote_append old at p.done new i xs new' j p.wrote w;
          split = p.split ∙ ap (λ (l : List A). p.done ++ l) e ∙ sym (append_assoc p.done xs rest);
        }
