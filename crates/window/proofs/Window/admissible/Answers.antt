-- `Window::admissible` meets its contract: each return knows what the two tests of the verdict say.
use Rattle.std.proofs.Common.{sym, ◌∙◌, arith}
use Rattle.window.proofs.Marks.{marked_above, marked_within, says_admissible, says_below, says_marked}
use Rattle.window.proofs.Window.admissible.Goals as goal

pub returns-then-n-floor : goal.returns-then-n-floor
returns-then-n-floor c = says_below _ _ (omega arith)

pub returns-then-self-n : goal.returns-then-self-n
returns-then-self-n c = says_admissible _ _ (omega arith) (marked_above _ _ c.if-self-n.true)

pub returns-then-has_bit : goal.returns-then-has_bit
returns-then-has_bit c =
    says_marked _ _ (omega arith) (marked_within _ _ (omega arith) ∙ sym (rw c.marks.ensures at c.has_bit.ensures) ∙ c.if-has_bit.true)

pub returns : goal.returns
returns c =
    says_admissible _ _ (omega arith) (marked_within _ _ (omega arith) ∙ sym (rw c.marks.ensures at c.has_bit.ensures) ∙ c.if-has_bit.false)
