-- `Marks::by_a_word` meets its contract: its words are those of the number scaled by 2 ^ 64, of which nothing stays and all goes on.
use Rattle.std.proofs.Common.{◌^◌, lit<, get_or}
use Rattle.words.proofs.FourWords.{scaled_four, word_up}
use Rattle.words.proofs.Marks.by_a_word.Goals as goal

pub returns : goal.returns
returns c =
    let m = c.self.inside.words in
    let d = c.self.invariant.1 in
    rw (← c.self.view_is)
    (scaled_four (2 ^ 64) m c.self.invariant.0 (lit< tt, d 0, d 1, d 2) (word_up (get_or m 0 0) 0) (word_up (get_or m 1 0) (get_or m 0 0))
    (word_up (get_or m 2 0) (get_or m 1 0)) (word_up (get_or m 3 0) (get_or m 2 0)))
