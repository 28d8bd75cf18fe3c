-- `book::Book::of` meets its contract.
-- Assumes nothing.
use Rattle.book.proofs.Checks.{check_found}
use Rattle.book.proofs.accepted.Book.of.Goals as goal

pub unwrap-requires : goal.unwrap-requires
unwrap-requires c = check_found c.args.bytes.now c.requires c.check.result c.check.ensures.checked
