-- What turning a book into text answers and leaves, by what the bytes are.
--   text_refused, text_short, text_written      the three ways
--   ToText, to_text_one                         the contract of `to_text`; it determines its answer and the space
-- Assumes nothing.
use Prim.Native.Nat.{ℕ, ◌≤◌, ◌<◌}
use mathlib.Core.Path.{◌≡◌, ◌∙◌}
use mathlib.Core.List.{List}
use lib.ListN.{length}
use Rattle.std.specs.Prelude.{Result, Ok, Err}
use Rattle.answer.specs.Answer.{answered, refused}
use Rattle.answer.specs.Space.{Wrote}
use Rattle.answer.specs.declared.Refusal.{Refusal}
use Rattle.answer.specs.declared.Cause.TheVariants.{SpaceTooSmall}
use Rattle.answer.specs.Refusals.{number_of}
use Rattle.answer.proofs.Answers.{then_by, then_not}
use Rattle.answer.proofs.Spaces.{fitting_in, fitting_out, Told, told_one, told_refused, told_written, wrote_append}
use Rattle.meaning.specs.Book.{Book}
use Rattle.book.specs.Reading.{reading}
use Rattle.text.specs.Writing.{heading_text, clauses_text, text_of}
use Rattle.text_writer.specs.ToText.{to_text}

-- the contract of `to_text`
abbrev pub ToText : List ℕ → List ℕ → Result ℕ Refusal → List ℕ → Type 0
ToText s out r new = Told (to_text s (length out)) out r new

pub to_text_one : (s out : List ℕ) (r r' : Result ℕ Refusal) (new new' : List ℕ) → ToText s out r new → ToText s out r' new' → (r ≡ r') × (new ≡ new')
to_text_one s out = told_one (to_text s (length out)) out

module _ (s out : List ℕ) where
  pub text_refused : (r : Refusal) → reading s ≡ refused (number_of r.cause) r.place → ToText s out (Err r) out
  unfolding to_text
  text_refused r e = told_refused (to_text s (length out)) out r (then_not _ _ _ _ e)

  module _ (b : Book) (is : reading s ≡ answered b) where
    pub text_short : (r : Refusal) → r.cause ≡ SpaceTooSmall → r.place ≡ 0 → length out < length (text_of b) → ToText s out (Err r) out
    unfolding to_text
    text_short r ec ep h = told_refused (to_text s (length out)) out r (then_by _ b _ is ∙ fitting_out (length out) (text_of b) h ∙ simp (ec, ep))

    pub text_written : (o1 : List ℕ) (a : ℕ) (o2 : List ℕ) (n : ℕ) → length (text_of b) ≤ length out
        → Wrote out 0 (heading_text b) o1 a → Wrote o1 a (clauses_text b.clauses) o2 n → ToText s out (Ok n) o2
    unfolding to_text text_of
    text_written o1 a o2 n h p q =
        told_written (to_text s (length out)) out (text_of b) o2 n (then_by _ b _ is ∙ fitting_in (length out) (text_of b) h) h
        (wrote_append out 0 (heading_text b) o1 a (clauses_text b.clauses) o2 n p q)
