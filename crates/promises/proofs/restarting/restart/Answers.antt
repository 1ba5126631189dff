-- `promises::restarting::restart` says what is proved of that name in `promises.proofs.Restarts`. Assumes nothing.
use Rattle.promises.proofs.Restarts.{restart}
use Rattle.promises.proofs.restarting.restart.Goals as goal

pub returns : goal.returns
returns c = λ r.
    restart r.table r.other_table r.long r.other_long r.keys r.frame r.keyid r.source r.slot r.installs r.other_installs r.calls r.goes
    r.other_calls r.other_goes r.other_counts_nothing r.out r.room
