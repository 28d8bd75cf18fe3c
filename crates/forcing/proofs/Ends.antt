-- What the front of the working space comes to where it is lent on.
--   forcing           the forced variables
-- Assumes nothing.
use Prim.Native.Nat.{ℕ}
use mathlib.Core.Path.{◌≡◌, sym, ap, ◌∙◌}
use mathlib.Core.List.{List, ◌++◌}
use lib.ListN.{length, take, drop}
use Rattle.meaning.specs.Forced.{forced_in}
use Rattle.meaning.proofs.Forced.{forced_partly}
use Rattle.book.specs.Clauses.{meant}
use Rattle.book.specs.declared.accepted.Book.{Book}
use Rattle.book.proofs.Walk.{found}
use Rattle.marks.proofs.Walks.{heads}
use Rattle.table.specs.Table.{Kept}
use Rattle.table.proofs.Stores.{sized, front_put}
use Rattle.forcing.specs.Forcing.{Forcing}

pub forcing : (b : Book) (kept pool x : ℕ) (w₀ w f : List ℕ) → Kept b.bytes.now kept pool w₀ w → f ≡ forced_in (meant b) x → Forcing b.bytes.now x w₀ (f ++ drop b.variables w)
forcing b kept pool x w₀ w f K e =
    let C = front_put b.bytes.now b.variables b.clauses (sized b) w f K.ready.room (ap length e ∙ (forced_partly (meant b) x (heads (meant b) (found b))).length) in
    record {
      marks = ap (λ (k : ℕ). take k (f ++ drop b.variables w)) (sym b.variables_are) ∙ C.levels ∙ e;
      rest = C.beside.rest ∙ K.rest;
      long = C.beside.long ∙ K.long;
    }
