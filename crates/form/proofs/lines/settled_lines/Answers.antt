-- `form::lines::settled_lines` meets its contract: the second is read behind the first, and the first that is not in its form decides. Assumes nothing.
use Rattle.std.proofs.Common.{sym, ◌∙◌}
use Rattle.form.proofs.Chains.{one_fails, other_fails, both_got}
use Rattle.form.specs.Form.{read_named, read_terms}
use Rattle.form.proofs.Stretches.{settled_from, settled_two}
use Rattle.form.proofs.lines.settled_lines.Goals as goal

pub returns-in_err-named : goal.returns-in_err-named
returns-in_err-named c =
    let text = c.args.text.now in
    rw c.from_residual.ensures (sym (settled_two text ∙ one_fails read_named read_terms settled_from text (sym c.in_err-named.ensures)))

pub returns-in_err-terms : goal.returns-in_err-terms
returns-in_err-terms c =
    let text = c.args.text.now in
    rw c.from_residual-in_err-terms.ensures
    (sym (settled_two text ∙ other_fails read_named read_terms settled_from text (sym c.in_ok-named.ensures) (sym c.in_err-terms.ensures)))

pub returns : goal.returns
returns c =
    let text = c.args.text.now in
    sym (settled_two text ∙ both_got read_named read_terms settled_from text (sym c.in_ok-named.ensures) (sym c.in_ok-terms.ensures))
