-- What stands first in some bytes.
--   front_of r     what stands first after the header: a clause, told by its head and by where its groups, its body and its field
--                 lie, or the end. The end is three bytes long, and a clause at least seven
-- Assumes nothing: this is a definition.
use Rattle.std.specs.Prelude.{ℕ, List, cond, length, ltb}
use Rattle.field.specs.Field.{size}
use Rattle.book.specs.Reading.{head_of}
use Rattle.book.specs.declared.front.Front.{Front}
use Rattle.book.specs.declared.front.Front.TheVariants as FrontV

unfoldable pub front_of : List ℕ → Front
front_of r = cond (ltb (length r) 7) FrontV.End (FrontV.Clause 3 (head_of r) 7 (size r))
