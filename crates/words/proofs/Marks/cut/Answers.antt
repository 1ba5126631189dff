-- `Marks::cut` meets its contract: each word is cut for the place where it stands.
use Rattle.words.proofs.FourWords.{cut_four}
use Rattle.words.proofs.Marks.cut.Goals as goal

pub returns : goal.returns
returns c =
    rw (← c.self.view_is)
    (cut_four c.args.s c.self.inside.words c.self.invariant.0 c.self.invariant.1 c.cut_word.ensures
    c.cut_word-2.ensures c.cut_word-3.ensures c.cut_word-4.ensures)
