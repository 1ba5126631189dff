-- `magma::substitute` meets its contract. The loop's invariant: the rows passed have substituted their nibbles. Assumes nothing.
use Rattle.std.proofs.Common.{◌≡◌}
use Rattle.magma.specs.Magma.{substituted}
use Rattle.magma.proofs.substitute.Given as goal

abbrev pub invariant-loop-row : goal.invariant-loop-row
invariant-loop-row l = l.done ≡ substituted l.row l.x
