-- `promises::reports::turn_silent` says what is proved of that name in `feed.proofs.Turns`. Assumes nothing.
use Rattle.feed.proofs.Turns.{turn_silent}
use Rattle.promises.proofs.reports.turn_silent.Goals as goal

pub returns : goal.returns
returns c = λ t r. turn_silent t r
