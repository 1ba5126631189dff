-- `loading::taking::load_in` meets its contract: a text whose stretches are not in their form, or do not end it, is refused; else its values are taken up.
-- Assumes nothing.
use Rattle.std.proofs.Common.{refl, sym, ap, ◌∙◌, true≢false}
use Rattle.entries.specs.Install.{Left}
use Rattle.loading.proofs.Loads.{first_refused, second_refused, more_refused, all_taken}
use Rattle.loading.proofs.taking.load_in.Goals as goal

pub returns-in_default : goal.returns-in_default
returns-in_default c = first_refused c.args.table.now c.args.text.now c.new-reader.ensures.whole c.in_default.ensures.found.read refl

pub returns-in_default-arrivals : goal.returns-in_default-arrivals
returns-in_default-arrivals c =
    second_refused c.args.table.now c.args.text.now c.new-reader.ensures.whole c.in-Some.ensures.found.read c.in_default-arrivals.ensures.found.read refl

pub returns-then-not-is_at_end : goal.returns-then-not-is_at_end
returns-then-not-is_at_end c =
    more_refused c.args.table.now c.args.text.now c.new-reader.ensures.whole c.in-Some.ensures.found.read c.in-Some-arrivals.ensures.found.read
    (λ e. true≢false (sym (c.if-not-is_at_end.ensures.1 e))) refl

pub returns : goal.returns
returns c =
    let is = all_taken c.args.table.now c.args.text.now c.new-reader.ensures.whole c.in-Some.ensures.found.read c.in-Some-arrivals.ensures.found.read (c.if-not-is_at_end.ensures.0 refl) in
    let t = c.take_up.ensures in
    record { answers = t.answers ∙ ap (λ (l : Left). l.answer) (sym is); leaves = t.leaves ∙ ap (λ (l : Left). l.table) (sym is) }
