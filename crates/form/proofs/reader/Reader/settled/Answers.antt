-- `form::reader::Reader::settled` meets its contract: what is left behind the lines is the end of the text. Assumes nothing.
use Rattle.std.proofs.Common.{◌≡◌, sym, ap, ◌∙◌, ◌-◌, ◌++◌, arith, List, ℕ, length, take, drop}
use Rattle.text.specs.Reading.{got}
use Rattle.form.specs.Form.{read_settled}
use Rattle.form.specs.Found.{settled_values}
use Rattle.form.proofs.Behind.{from_place, rest_within, rest_is}
use Rattle.form.proofs.Texts.{settled_text, settled_print}
use Rattle.form.proofs.reader.Reader.settled.Goals.{In_ok-settled}
use Rattle.form.proofs.reader.Reader.settled.Goals as goal

-- the text from the place on is the lines that were read, and what is left
lines : (c : In_ok-settled) → let text = c.args.self.now.text.now in let at = c.args.self.now.at in
    take (length text - at) (drop at text) ≡ settled_text (settled_values c.in_ok-settled.settled) ++ c.in_ok-settled.rest.now
lines c =
    let text = c.args.self.now.text.now in
    let at = c.args.self.now.at in
    settled_print (take (length text - at) (drop at text)) (settled_values c.in_ok-settled.settled) c.in_ok-settled.rest.now (sym c.in_ok-settled.ensures)

pub overflow_sub-self : goal.overflow_sub-self
overflow_sub-self c =
    let r = c.args.self.now in
    rest_within r.text.now (settled_text (settled_values c.in_ok-settled.settled)) c.in_ok-settled.rest.now r.at (lines (goal.at.overflow_sub-self c).In_ok-settled)

pub returns-clause-found : goal.returns-clause-found
returns-clause-found c =
    let r = c.args.self.now in
    let text = r.text.now in
    let values = settled_values c.in_ok-settled.settled in
    record {
      read =
          ap (λ (m : List ℕ). got values m) (rest_is text (settled_text values) c.in_ok-settled.rest.now r.at (lines (goal.at.returns-clause-found c).In_ok-settled))
          ∙ c.in_ok-settled.ensures ∙ ap read_settled (from_place text r.at);
      stays = λ e. cc;
    }
