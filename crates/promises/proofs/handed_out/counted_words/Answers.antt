-- `promises::handed_out::counted_words` says what is proved of that name in `promises.proofs.Counting`. Assumes nothing.
use Rattle.promises.proofs.Counting.{counted_words}
use Rattle.promises.proofs.handed_out.counted_words.Goals as goal

pub returns : goal.returns
returns c = λ b past c. counted_words b past c
