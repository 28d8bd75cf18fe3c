-- What is to be written of a book into a space of so many bytes.
--   bytes_long      a book that is too long: refusal 1
--   bytes_fit       another one: it fits, or refusal 11
--   bytes_in_lem        one that fits
--   bytes_is        what was found to fit
-- Assumes nothing.
use Prim.Native.Nat.{ℕ, ◌≤◌, ◌<◌}
use mathlib.Core.Path.{◌≡◌, refl, ◌∙◌}
use mathlib.Core.List.{List, [], ◌∷◌}
use native.Mathlib.Omega.{arith}
use lib.ListN.{length}
use lib.Dec.{ltb}
use borrow.Author.Tests.{lt-ltb, le-ltb, ltb-false}
use Rattle.answer.specs.Answer.{answered, refused, ◌⇒◌, first}
use Rattle.answer.specs.Space.{fitting}
use Rattle.answer.proofs.Answers.{unless_none, unless_some, unless_is}
use Rattle.answer.proofs.Tests.{first_clear}
use Rattle.answer.proofs.Spaces.{fitting_in, fitting_is}
use Rattle.meaning.specs.Book.{Book}
use Rattle.book.specs.Bytes.{most_bytes, bytes_of, bytes_in}

module _ (room : ℕ) (b : Book) where
  pub bytes_long : most_bytes < length (bytes_of b) → bytes_in room b ≡ refused 1 0
  unfolding first
  bytes_long h = simp (lt-ltb most_bytes (length (bytes_of b)) h) (unless_some 1 1 0 _ refl (λ z. omega arith))

  pub bytes_fit : length (bytes_of b) ≤ most_bytes → bytes_in room b ≡ fitting room (bytes_of b)
  unfolding first
  bytes_fit h = simp (le-ltb most_bytes (length (bytes_of b)) h) (unless_none 0 0 _ refl)

  pub bytes_in_lem : length (bytes_of b) ≤ most_bytes → length (bytes_of b) ≤ room → bytes_in room b ≡ answered (bytes_of b)
  bytes_in_lem short fits = bytes_fit short ∙ fitting_in room (bytes_of b) fits

  pub bytes_is : (s : List ℕ) → bytes_in room b ≡ answered s → (bytes_of b ≡ s) × (length (bytes_of b) ≤ most_bytes)
  bytes_is s e =
      let u = unless_is (first ((ltb most_bytes (length (bytes_of b)) ⇒ 1) ∷ [])) 0 (fitting room (bytes_of b)) s e in
      (fitting_is room (bytes_of b) s u.1, ltb-false _ _ (first_clear ((ltb most_bytes (length (bytes_of b)) ⇒ 1) ∷ []) u.0).0)
