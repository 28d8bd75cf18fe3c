-- `decimal::number_length` meets its contract.
-- Assumes nothing.
use mathlib.Core.Path.{sym, ap}
use native.Mathlib.Omega.{arith}
use lib.ListN.{length}
use Rattle.decimal.proofs.Digits.{number_low, number_log}
use Rattle.decimal.proofs.number_length.Goals as goal

pub returns : goal.returns
returns c = number_log c.args.n c.ilog10.result (omega arith) (omega arith)

pub returns-then-n-lt10 : goal.returns-then-n-lt10
returns-then-n-lt10 c = sym (ap length (number_low c.args.n c.if-n-lt10.true))
