-- `text::hexed::byte` meets its contract: the first digit counts sixteen times. Assumes nothing.
use Rattle.text.proofs.Unhexed.{two_digits}
use Rattle.text.proofs.hexed.byte.Goals as goal

pub returns : goal.returns
returns c = rw (c.value.ensures.0, c.value-2.ensures.0) (two_digits c.args.pair.now c.requires)
