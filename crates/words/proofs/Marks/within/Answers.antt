-- `Marks::within` meets its contract: cutting changes none of the words exactly where the number is that narrow.
use Rattle.std.proofs.Common.{◌∙◌, ℕ, ◌%◌, ◌^◌, ap, sym}
use Rattle.words.proofs.FourWords.{kept_narrow}
use Rattle.words.proofs.Marks.within.Goals as goal

pub returns : goal.returns
returns c = rw (← c.self.view_is) (c.eq.ensures ∙ kept_narrow c.self.inside.words c.kept.inside.words c.args.s c.self.invariant c.kept.invariant
    (c.kept.view_is ∙ c.cut-kept.ensures ∙ ap (λ (n : ℕ). n % 2 ^ c.args.s) (sym c.self.view_is)))
