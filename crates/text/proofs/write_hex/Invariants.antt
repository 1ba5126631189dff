-- `text::write_hex` meets its contract. The loop's invariant: the bytes passed are written in hex, and the others stay. Assumes nothing.
use Rattle.std.proofs.Common.{◌≡◌, take}
use Rattle.octets.specs.Octets.{put}
use Rattle.text.specs.Text.{hex_of}
use Rattle.text.proofs.write_hex.Given as goal

abbrev pub invariant-loop-i : goal.invariant-loop-i
invariant-loop-i l = l.out ≡ put l.initial.out l.at (hex_of (take l.i l.bytes))
