-- `closing::pass` meets its contract. The places from k on are looked at; of the first ones, those that may not be open are settled.
-- Assumes nothing.
use Prim.Native.Nat.{◌≤◌, min}
use mathlib.Core.Path.{◌≡◌}
use lib.ListN.{length}
use Rattle.path.specs.Paths.{Leaves, Same, Narrows}
use Rattle.closing.proofs.pass.Given as goal

abbrev pub invariant-loop-k : goal.invariant-loop-k
invariant-loop-k l = let s = l.fn.before.sides in let t = l.now.sides in record {
  low : min l.k l.places.front ≤ l.now.most;
  most : l.now.most ≤ l.fn.before.most;
  long : length l.list ≡ length l.initial.list;
  same : Same s.free l.initial.why l.why;
  narrows : Narrows l.listed.groups (Leaves l.listed) s.taken s.left s.free l.initial.why t.free t.taken t.left l.why;
}
