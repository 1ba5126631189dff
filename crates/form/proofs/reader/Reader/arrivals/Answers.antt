-- `form::reader::Reader::arrivals` meets its contract: what is left behind the lines is the end of the text. Assumes nothing.
use Rattle.std.proofs.Common.{◌≡◌, sym, ap, ◌∙◌, ◌-◌, ◌++◌, arith, List, ℕ, length, take, drop}
use Rattle.text.specs.Reading.{got}
use Rattle.form.specs.Form.{read_arrivals}
use Rattle.form.specs.Found.{arrival_values}
use Rattle.form.proofs.Behind.{from_place, rest_within, rest_is}
use Rattle.form.proofs.Texts.{arrival_text, arrivals_print}
use Rattle.form.proofs.reader.Reader.arrivals.Goals.{In_ok-arrivals}
use Rattle.form.proofs.reader.Reader.arrivals.Goals as goal

-- the text from the place on is the lines that were read, and what is left
lines : (c : In_ok-arrivals) → let text = c.args.self.now.text.now in let at = c.args.self.now.at in
    take (length text - at) (drop at text) ≡ arrival_text (arrival_values c.in_ok-arrivals.arrivals) ++ c.in_ok-arrivals.rest.now
lines c =
    let text = c.args.self.now.text.now in
    let at = c.args.self.now.at in
    arrivals_print (take (length text - at) (drop at text)) (arrival_values c.in_ok-arrivals.arrivals) c.in_ok-arrivals.rest.now (sym c.in_ok-arrivals.ensures)

pub overflow_sub-self : goal.overflow_sub-self
overflow_sub-self c =
    let r = c.args.self.now in
    rest_within r.text.now (arrival_text (arrival_values c.in_ok-arrivals.arrivals)) c.in_ok-arrivals.rest.now r.at (lines (goal.at.overflow_sub-self c).In_ok-arrivals)

pub returns-clause-found : goal.returns-clause-found
returns-clause-found c =
    let r = c.args.self.now in
    let text = r.text.now in
    let values = arrival_values c.in_ok-arrivals.arrivals in
    record {
      read =
          ap (λ (m : List ℕ). got values m) (rest_is text (arrival_text values) c.in_ok-arrivals.rest.now r.at (lines (goal.at.returns-clause-found c).In_ok-arrivals))
          ∙ c.in_ok-arrivals.ensures ∙ ap read_arrivals (from_place text r.at);
      stays = λ e. cc;
    }
