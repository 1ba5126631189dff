-- `form::lines::named_lines` meets its contract: each line is read behind the one before it, and the first that is not in its form decides.
-- Assumes nothing.
use Rattle.std.proofs.Common.{sym, ◌∙◌}
use Rattle.form.proofs.Chains.{first_fails, second_fails, third_fails, fourth_fails, all_four}
use Rattle.form.proofs.Stretches.{slot_line, flag_line, keyid_line, source_line, named_of, named_four}
use Rattle.form.proofs.lines.named_lines.Goals as goal

pub returns-in_err-slot : goal.returns-in_err-slot
returns-in_err-slot c =
    let text = c.args.text.now in
    rw c.from_residual.ensures
    (sym (named_four text ∙ first_fails slot_line flag_line keyid_line source_line named_of text (sym c.in_err-slot.ensures)))

pub returns-in_err-flag : goal.returns-in_err-flag
returns-in_err-flag c =
    let text = c.args.text.now in
    rw c.from_residual-in_err-flag.ensures
    (sym (named_four text ∙ second_fails slot_line flag_line keyid_line source_line named_of text (sym c.in_ok-slot.ensures) (sym c.in_err-flag.ensures)))

pub returns-in_err-keyid : goal.returns-in_err-keyid
returns-in_err-keyid c =
    let text = c.args.text.now in
    rw c.from_residual-in_err-keyid.ensures
    (sym (named_four text ∙ third_fails slot_line flag_line keyid_line source_line named_of text (sym c.in_ok-slot.ensures) (sym c.in_ok-flag.ensures) (sym c.in_err-keyid.ensures.found)))

pub returns-in_err-source : goal.returns-in_err-source
returns-in_err-source c =
    let text = c.args.text.now in
    rw c.from_residual-in_err-source.ensures
    (sym (named_four text ∙ fourth_fails slot_line flag_line keyid_line source_line named_of text (sym c.in_ok-slot.ensures) (sym c.in_ok-flag.ensures) (sym c.in_ok-keyid.ensures.found) (sym c.in_err-source.ensures.found)))

pub returns : goal.returns
returns c =
    let text = c.args.text.now in
    sym (named_four text ∙ all_four slot_line flag_line keyid_line source_line named_of text (sym c.in_ok-slot.ensures) (sym c.in_ok-flag.ensures) (sym c.in_ok-keyid.ensures.found) (sym c.in_ok-source.ensures.found))
