-- `form::lines::moved_lines` meets its contract: each line is read behind the one before it, and the first that is not in its form decides.
-- Assumes nothing.
use Rattle.std.proofs.Common.{sym, ◌∙◌}
use Rattle.text.proofs.ReadPrinted.{bytes_line_back}
use Rattle.text.specs.Written.{written}
use Rattle.listing.specs.Listing.{marks_name}
use Rattle.form.proofs.Chains.{first_fails, second_fails, third_fails, fourth_fails, all_four}
use Rattle.form.proofs.Stretches.{highest_line, marks_line, accepted_line, bytes_line, moved_of, moved_four}
use Rattle.form.proofs.lines.moved_lines.Goals as goal

pub returns-in_err-highest : goal.returns-in_err-highest
returns-in_err-highest c =
    let text = c.args.text.now in
    rw c.from_residual.ensures
    (sym (moved_four text ∙ first_fails highest_line marks_line accepted_line bytes_line moved_of text (sym c.in_err-highest.ensures)))

pub returns-in_err-marks : goal.returns-in_err-marks
returns-in_err-marks c =
    let text = c.args.text.now in
    rw c.from_residual-in_err-marks.ensures
    (sym (moved_four text ∙ second_fails highest_line marks_line accepted_line bytes_line moved_of text (sym c.in_ok-highest.ensures) (sym c.in_err-marks.ensures.found)))

pub returns-in_err-accepted : goal.returns-in_err-accepted
returns-in_err-accepted c =
    let text = c.args.text.now in
    rw c.from_residual-in_err-accepted.ensures
    (sym (moved_four text ∙ third_fails highest_line marks_line accepted_line bytes_line moved_of text (sym c.in_ok-highest.ensures) (sym c.in_ok-marks.ensures.found) (sym c.in_err-accepted.ensures)))

pub returns-in_err-bytes : goal.returns-in_err-bytes
returns-in_err-bytes c =
    let text = c.args.text.now in
    rw c.from_residual-in_err-bytes.ensures
    (sym (moved_four text ∙ fourth_fails highest_line marks_line accepted_line bytes_line moved_of text (sym c.in_ok-highest.ensures) (sym c.in_ok-marks.ensures.found) (sym c.in_ok-accepted.ensures) (sym c.in_err-bytes.ensures)))

pub returns : goal.returns
returns c =
    let text = c.args.text.now in
    sym (moved_four text ∙ all_four highest_line marks_line accepted_line bytes_line moved_of text (sym c.in_ok-highest.ensures) (sym c.in_ok-marks.ensures.found) (sym c.in_ok-accepted.ensures) (sym c.in_ok-bytes.ensures))

pub invariant_of-moved : goal.invariant_of-moved
invariant_of-moved c =
    record { whole = (bytes_line_back marks_name c.in_ok-highest.rest.now c.in_ok-marks.rest.now 32 (written c.in_ok-marks.marks) (sym c.in_ok-marks.ensures.found)).1 }
