-- `gateway::receiving::arrive` meets its contract: what each test found is the fact of its reply. Assumes nothing.
use Rattle.std.proofs.Common.{◌≡◌, refl, sym, ap, ◌∙◌, arith, List, ℕ}
use Rattle.answers.specs.declared.Refusal.TheVariants.{BelowFloor, Repeated}
use Rattle.window.specs.Entry.{Entry, entry_view}
use Rattle.window.specs.Window.{verdict_of}
use Rattle.window.specs.declared.Verdict.{Verdict}
use Rattle.window.specs.declared.Verdict.TheVariants.{Below, Marked, Admissible}
use Rattle.slots.specs.Record.{IsUndamagedAs, undamaged}
use Rattle.slots.specs.Table.{slot_of, cs_of, entry_of}
use Rattle.gateway.specs.Receive.{judged, arrived}
use Rattle.gateway.proofs.Arrivals.{refused_damaged, suite_refused, by_verdict, leaves_same, leaves_kept, leaves_turned}
use Rattle.gateway.proofs.receiving.arrive.Goals.{Else-not-is_undamaged_by, After-admissible-verdict}
use Rattle.gateway.proofs.receiving.arrive.Goals as goal

pub returns-then-not-is_undamaged_by : goal.returns-then-not-is_undamaged_by
returns-then-not-is_undamaged_by c =
    let a = c.args in
    let m = a.message.now in
    leaves_kept
    (refused_damaged a.table.now a.slot m.header m.bytes.now a.out.now (sym (c.is_undamaged_by.ensures ∙ ap undamaged c.at-held.ensures.value) ∙ c.if-not-is_undamaged_by.true))
    refl

-- the slot is not damaged, and its entry was read
unharmed : (c : Else-not-is_undamaged_by) → IsUndamagedAs (entry_view c.entry-entry.result) (slot_of c.args.table.now c.args.slot)
unharmed c =
    record { unharmed = sym (c.is_undamaged_by.ensures ∙ ap undamaged c.at-held.ensures.value) ∙ c.if-not-is_undamaged_by.false; entry = c.entry-entry.ensures ∙ ap entry_of c.at-held.ensures.value }

pub returns-then-suite-number : goal.returns-then-suite-number
returns-then-suite-number c =
    let a = c.args in
    let m = a.message.now in
    leaves_kept
    (suite_refused a.table.now a.slot m.header m.bytes.now a.out.now (unharmed (goal.at.returns-then-suite-number c).Else-not-is_undamaged_by).unharmed (λ e. c.if-suite-number.true (omega (arith, ap (λ (s : List ℕ). cs_of s) c.at-held.ensures.value))))
    refl

pub check_and_take-requires-clause-is_undamaged : goal.check_and_take-requires-clause-is_undamaged
check_and_take-requires-clause-is_undamaged c =
    unharmed (goal.at.check_and_take-requires-clause-is_undamaged c).Else-not-is_undamaged_by

-- the verdict decides: 9, 10, or on to the ICV
judging : (c : After-admissible-verdict) → IsUndamagedAs (entry_view c.entry-entry.result) (slot_of c.args.table.now c.args.slot) → (v : Verdict) → c.admissible-verdict.result ≡ v → let a = c.args in let m = a.message.now in
    judged v a.table.now a.slot m.header m.bytes.now a.out.now ≡ arrived a.table.now a.slot m.header m.bytes.now a.out.now
judging c held v e =
    let a = c.args in
    let m = a.message.now in
    by_verdict a.table.now a.slot m.header m.bytes.now a.out.now held.unharmed
    (omega (arith, ap (λ (s : List ℕ). cs_of s) c.at-held.ensures.value))
    v
    (ap (λ (x : Entry). verdict_of x.window m.header.seqnum) (sym held.entry) ∙ sym c.admissible-verdict.ensures ∙ e)

pub returns-in-Below : goal.returns-in-Below
returns-in-Below c =
    leaves_turned c.args.table.now c.args.slot BelowFloor (judging (goal.at.returns-in-Below c).After-admissible-verdict (unharmed (goal.at.returns-in-Below c).Else-not-is_undamaged_by) Below c.in-Below.is) c.turn_away.ensures

pub returns-in-Marked : goal.returns-in-Marked
returns-in-Marked c =
    leaves_turned c.args.table.now c.args.slot Repeated (judging (goal.at.returns-in-Marked c).After-admissible-verdict (unharmed (goal.at.returns-in-Marked c).Else-not-is_undamaged_by) Marked c.in-Marked.is) c.turn_away-in-Marked.ensures

pub returns-in-Admissible : goal.returns-in-Admissible
returns-in-Admissible c =
    leaves_same
    (judging (goal.at.returns-in-Admissible c).After-admissible-verdict (unharmed (goal.at.returns-in-Admissible c).Else-not-is_undamaged_by) Admissible c.in-Admissible.is)
    c.check_and_take.ensures
