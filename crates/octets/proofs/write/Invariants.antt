-- `octets::write` meets its contract. The loop's invariant: the bytes that are left, with what stands behind them, are what is wanted, and what
-- stands before is untouched. Assumes nothing.
use Rattle.std.proofs.Common.{◌≡◌, ◌++◌, ◌+◌, ◌-◌, ◌≤◌, take, drop}
use Rattle.octets.specs.Octets.{bytes_of}
use Rattle.octets.proofs.write.Given as goal

abbrev pub invariant-loop-i : goal.invariant-loop-i
invariant-loop-i l = record {
  within : l.at ≤ l.i;
  before : take l.at l.out ≡ take l.at l.initial.out;
  behind : bytes_of (l.i - l.at) l.rest ++ drop l.i l.out ≡ bytes_of l.n l.number ++ drop (l.at + l.n) l.initial.out;
}
