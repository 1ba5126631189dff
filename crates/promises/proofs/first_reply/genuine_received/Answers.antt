-- `promises::first_reply::genuine_received` says what is proved of that name in `promises.proofs.Cases`. Assumes nothing.
use Rattle.promises.proofs.Cases.{genuine_received}
use Rattle.promises.proofs.first_reply.genuine_received.Goals as goal

pub returns : goal.returns
returns c = λ b i t m source out h begins bytes room. genuine_received begins m source out bytes room h
