-- `magma::run` meets its contract: the four times eight rounds are those of the schedule. Assumes nothing.
use Rattle.std.proofs.Common.{◌∙◌, arith}
use Rattle.magma.proofs.Rounds.{joined}
use Rattle.magma.proofs.run.Goals as goal

pub returns : goal.returns
returns c =
    c.into-2.ensures
    ∙ joined c.args.key.now (omega arith) c.args.block c.backward-last.result
    (rw (c.backward-last.ensures, c.forward-third.ensures, c.forward-second.ensures, c.forward-first.ensures, c.into.ensures))
