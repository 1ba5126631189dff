-- `form::lines::counter_lines` meets its contract: the second is read behind the first, and the first that is not in its form decides. Assumes nothing.
use Rattle.std.proofs.Common.{sym, ◌∙◌}
use Rattle.form.proofs.Chains.{one_fails, other_fails, both_got}
use Rattle.form.proofs.Stretches.{replays_line, forged_line, counters_from, counters_two}
use Rattle.form.proofs.lines.counter_lines.Goals as goal

pub returns-in_err-replays : goal.returns-in_err-replays
returns-in_err-replays c =
    let text = c.args.text.now in
    rw c.from_residual.ensures (sym (counters_two text ∙ one_fails replays_line forged_line counters_from text (sym c.in_err-replays.ensures)))

pub returns-in_err-forged : goal.returns-in_err-forged
returns-in_err-forged c =
    let text = c.args.text.now in
    rw c.from_residual-in_err-forged.ensures
    (sym (counters_two text ∙ other_fails replays_line forged_line counters_from text (sym c.in_ok-replays.ensures) (sym c.in_err-forged.ensures)))

pub returns : goal.returns
returns c =
    let text = c.args.text.now in
    sym (counters_two text ∙ both_got replays_line forged_line counters_from text (sym c.in_ok-replays.ensures) (sym c.in_ok-forged.ensures))
