-- `capture::order::magic_of` meets its contract, by its two tests. Assumes nothing.
use Rattle.std.proofs.Common.{sym, ◌∙◌}
use Rattle.capture.proofs.Orders.{high_first, low_first, no_magic}
use Rattle.capture.proofs.order.magic_of.Goals as goal

pub returns-then-number-eq-MAGIC : goal.returns-then-number-eq-MAGIC
returns-then-number-eq-MAGIC c = high_first _ (sym c.number.ensures.0 ∙ c.if-number-eq-MAGIC.true)

pub returns-then-number-eq-MAGIC-2 : goal.returns-then-number-eq-MAGIC-2
returns-then-number-eq-MAGIC-2 c =
    low_first _ (λ e. c.if-number-eq-MAGIC.false (c.number.ensures.0 ∙ e)) (sym c.number-2.ensures.0 ∙ c.if-number-eq-MAGIC-2.true)

pub returns : goal.returns
returns c =
    no_magic _ (λ e. c.if-number-eq-MAGIC.false (c.number.ensures.0 ∙ e)) (λ e. c.if-number-eq-MAGIC-2.false (c.number-2.ensures.0 ∙ e))
