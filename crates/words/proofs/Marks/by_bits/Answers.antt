-- `Marks::by_bits` meets its contract: its words are those of the number scaled by 2 ^ s.
use Rattle.std.proofs.Common.{rules}
use Rattle.words.proofs.FourWords.{scaled_four}
use Rattle.words.proofs.Marks.by_bits.Goals as goal

pub returns : goal.returns
returns c =
    rw (← c.self.view_is)
    (scaled_four _ c.self.inside.words c.self.invariant.0 (search rules) c.filled.ensures
    c.filled-2.ensures c.filled-3.ensures c.filled-4.ensures)
