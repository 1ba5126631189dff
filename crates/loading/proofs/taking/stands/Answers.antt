-- `loading::taking::stands` meets its contract: name, terms and total, one after the other. Assumes nothing.
use Rattle.std.proofs.Common.{rules, ◌≡◌, sym, ap, ◌∙◌, true, ℕ, eqb}
use Rattle.form.specs.Found.{named_values, settled_values}
use Rattle.loading.specs.Load.{named_so}
use Rattle.loading.proofs.Standing.{by_total, other_name, other_terms}
use Rattle.loading.proofs.taking.stands.Goals.{Else-not-named_so}
use Rattle.loading.proofs.taking.stands.Goals as goal

pub returns-then-not-named_so : goal.returns-then-not-named_so
returns-then-not-named_so c =
    let a = c.args in
    other_name (settled_values a.settled.now) a.slot.now (sym c.named_so.ensures ∙ c.if-not-named_so.true)

-- flag, KeyId and source are the listed ones
named : (c : Else-not-named_so) → let a = c.args in named_so (named_values a.settled.now.named) a.slot.now ≡ true
named c = sym c.named_so.ensures ∙ c.if-not-named_so.false

pub returns-then-not-terms_so : goal.returns-then-not-terms_so
returns-then-not-terms_so c =
    let a = c.args in
    other_terms (settled_values a.settled.now) a.slot.now (named (goal.at.returns-then-not-terms_so c).Else-not-named_so)
    (sym c.terms_so.ensures ∙ c.if-not-terms_so.true)

pub returns : goal.returns
returns c =
    let a = c.args in
    let total = by_total (settled_values a.settled.now) a.slot.now (named (goal.at.returns c).Else-not-named_so) (sym c.terms_so.ensures ∙ c.if-not-terms_so.false) in
    rw (← total) (search rules)
