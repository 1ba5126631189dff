-- `promises::reports::text_most` says what is proved of that name in `feed.proofs.Room`. Assumes nothing.
use Rattle.feed.proofs.Room.{text_most}
use Rattle.promises.proofs.reports.text_most.Goals as goal

pub returns : goal.returns
returns c = λ o file t most. text_most o file most t
