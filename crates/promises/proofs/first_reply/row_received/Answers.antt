-- `promises::first_reply::row_received` says what is proved of that name in `promises.proofs.Cases`. Assumes nothing.
use Rattle.promises.proofs.Cases.{row_received}
use Rattle.promises.proofs.first_reply.row_received.Goals as goal

pub returns : goal.returns
returns c = λ b i t e ss cs accepted marks begins like follows. row_received e begins like ss cs follows accepted marks
