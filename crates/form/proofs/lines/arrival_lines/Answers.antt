-- `form::lines::arrival_lines` meets its contract: the second is read behind the first, and the first that is not in its form decides. Assumes nothing.
use Rattle.std.proofs.Common.{sym, ◌∙◌}
use Rattle.form.proofs.Chains.{one_fails, other_fails, both_got}
use Rattle.form.specs.Form.{read_moved, read_counters}
use Rattle.form.proofs.Stretches.{arrivals_from, arrivals_two}
use Rattle.form.proofs.lines.arrival_lines.Goals as goal

pub returns-in_err-moved : goal.returns-in_err-moved
returns-in_err-moved c =
    let text = c.args.text.now in
    rw c.from_residual.ensures (sym (arrivals_two text ∙ one_fails read_moved read_counters arrivals_from text (sym c.in_err-moved.ensures)))

pub returns-in_err-counters : goal.returns-in_err-counters
returns-in_err-counters c =
    let text = c.args.text.now in
    rw c.from_residual-in_err-counters.ensures
    (sym (arrivals_two text ∙ other_fails read_moved read_counters arrivals_from text (sym c.in_ok-moved.ensures) (sym c.in_err-counters.ensures)))

pub returns : goal.returns
returns c =
    let text = c.args.text.now in
    sym (arrivals_two text ∙ both_got read_moved read_counters arrivals_from text (sym c.in_ok-moved.ensures) (sym c.in_ok-counters.ensures))
