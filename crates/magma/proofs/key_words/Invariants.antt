-- `magma::key_words` meets its contract. The loop's invariant: the words passed are the key's. Assumes nothing.
use Rattle.std.proofs.Common.{◌≡◌, length, take}
use Rattle.magma.specs.Magma.{words}
use Rattle.magma.proofs.key_words.Given as goal

abbrev pub invariant-loop-i : goal.invariant-loop-i
invariant-loop-i l = record { eight : length l.words ≡ 8; passed : take l.i l.words ≡ words l.i l.bytes }
