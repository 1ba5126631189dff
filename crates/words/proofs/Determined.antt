-- `Marks::words` hands back four words that write the number: there are no other four.
-- Assumes nothing.
use mathlib.Core.Path.{◌≡◌, sym, ap, ◌∙◌}
use mathlib.Core.List.{List}
use Prim.Native.Nat.{ℕ}
use Rattle.numbers.specs.Digits.{from_digits}
use Rattle.words.specs.FourWords.{IsFourWords, words_of, words_back}

pub words_determined : {v w : List ℕ} → IsFourWords v → IsFourWords w → {n : ℕ} → from_digits 64 v ≡ n → from_digits 64 w ≡ n → v ≡ w
words_determined {v} {w} p q d e = sym (words_back v p) ∙ ap words_of (d ∙ sym e) ∙ words_back w q
