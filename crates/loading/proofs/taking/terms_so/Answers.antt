-- Each refusal denies one fact, and the start decides at the end. Assumes nothing.
use Rattle.std.proofs.Common.{sym, ap, ◌∙◌, eqb, arith}
use Rattle.window.specs.declared.Frame.{Frame}
use Rattle.loading.proofs.Standing.{by_start, not_terms}
use Rattle.loading.proofs.taking.terms_so.Goals as goal

pub returns-then-from-terms : goal.returns-then-from-terms
returns-then-from-terms c = not_terms _ _ (λ m. c.if-from-terms.true (c.from.ensures ∙ c.suite.ensures ∙ m.suite_same))

pub returns-then-from-terms-2 : goal.returns-then-from-terms-2
returns-then-from-terms-2 c = not_terms _ _ (λ m. omega (arith, m.edition_same))

pub returns-then-held-frame : goal.returns-then-held-frame
returns-then-held-frame c = not_terms _ _ (λ m. c.if-held-frame.true (ap (λ (f : Frame). f.size) c.frame-held.ensures ∙ m.size_same))

pub returns : goal.returns
returns c =
    let a = c.args in
    ap (λ (f : Frame). eqb f.start a.terms.frame.start) c.frame-held.ensures
    ∙ by_start a.terms a.slot.now
    (sym (c.from.ensures ∙ c.suite.ensures) ∙ c.if-from-terms.false)
    (omega arith)
    (sym (ap (λ (f : Frame). f.size) c.frame-held.ensures) ∙ c.if-held-frame.false)
