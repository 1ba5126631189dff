-- `form::lines::term_lines` meets its contract: each line is read behind the one before it, and the first that is not in its form decides.
-- Assumes nothing.
use Rattle.std.proofs.Common.{sym, ◌∙◌}
use Rattle.form.proofs.Chains.{first_fails, second_fails, third_fails, fourth_fails, all_four}
use Rattle.form.proofs.Stretches.{suite_line, edition_line, size_line, start_line, terms_of, terms_four}
use Rattle.form.proofs.lines.term_lines.Goals as goal

pub returns-in_err-suite : goal.returns-in_err-suite
returns-in_err-suite c =
    let text = c.args.text.now in
    rw c.from_residual.ensures
    (sym (terms_four text ∙ first_fails suite_line edition_line size_line start_line terms_of text (sym c.in_err-suite.ensures)))

pub returns-in_err-edition : goal.returns-in_err-edition
returns-in_err-edition c =
    let text = c.args.text.now in
    rw c.from_residual-in_err-edition.ensures
    (sym (terms_four text ∙ second_fails suite_line edition_line size_line start_line terms_of text (sym c.in_ok-suite.ensures) (sym c.in_err-edition.ensures)))

pub returns-in_err-size : goal.returns-in_err-size
returns-in_err-size c =
    let text = c.args.text.now in
    rw c.from_residual-in_err-size.ensures
    (sym (terms_four text ∙ third_fails suite_line edition_line size_line start_line terms_of text (sym c.in_ok-suite.ensures) (sym c.in_ok-edition.ensures) (sym c.in_err-size.ensures)))

pub returns-in_err-start : goal.returns-in_err-start
returns-in_err-start c =
    let text = c.args.text.now in
    rw c.from_residual-in_err-start.ensures
    (sym (terms_four text ∙ fourth_fails suite_line edition_line size_line start_line terms_of text (sym c.in_ok-suite.ensures) (sym c.in_ok-edition.ensures) (sym c.in_ok-size.ensures) (sym c.in_err-start.ensures)))

pub returns : goal.returns
returns c =
    let text = c.args.text.now in
    sym (terms_four text ∙ all_four suite_line edition_line size_line start_line terms_of text (sym c.in_ok-suite.ensures) (sym c.in_ok-edition.ensures) (sym c.in_ok-size.ensures) (sym c.in_ok-start.ensures))
