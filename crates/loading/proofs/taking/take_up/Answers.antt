-- `loading::taking::take_up` meets its contract: each refusal by its own test; done, window, totals and counters are written into the slot. Assumes nothing.
use Rattle.std.proofs.Common.{List, ℕ, ◌≡◌, ◌<◌, refl, sym, ap, ◌∙◌, true}
use Rattle.window.specs.Window.{View}
use Rattle.window.specs.Entry.{undamaged_entry}
use Rattle.slots.specs.Table.{slot_of, slot_count, key_data_of, restored}
use Rattle.format.specs.KeyData.{sound_of}
use Rattle.form.specs.Form.{Listing}
use Rattle.form.specs.declared.values.SettledLines.{SettledLines}
use Rattle.form.specs.declared.values.ArrivalLines.{ArrivalLines}
use Rattle.form.specs.Found.{settled_values, arrival_values}
use Rattle.loading.specs.Load.{stands, listed_entry}
use Rattle.loading.proofs.Loads.{past_last_slot, no_such_entry, unsound, unfit, takes_listed}
use Rattle.loading.proofs.taking.take_up.Goals.{After-at-held, Else-not-stands, After-is_undamaged}
use Rattle.loading.proofs.taking.take_up.Goals as goal

-- what the lines list
abbrev listed : SettledLines → ArrivalLines → Listing
listed settled arrivals = record { settled = settled_values settled; arrivals = arrival_values arrivals }

pub returns-in_default : goal.returns-in_default
returns-in_default c =
    past_last_slot c.args.table.now (listed c.args.settled.now c.args.arrivals.now) c.in_default.ensures.past refl

-- the slot as it was read
here : (c : After-at-held) → c.at-held.result ≡ slot_of c.args.table.now c.args.settled.now.named.slot
here c = c.at-held.ensures.value ∙ ap (slot_of c.args.table.now) c.in-Some.ensures.same

small : (c : After-at-held) → c.args.settled.now.named.slot < slot_count
small c = c.in-Some.ensures.within.0 refl

pub returns-then-not-stands : goal.returns-then-not-stands
returns-then-not-stands c =
    let after = (goal.at.returns-then-not-stands c).After-at-held in
    no_such_entry c.args.table.now (listed c.args.settled.now c.args.arrivals.now) (small after)
    (sym (c.stands.ensures ∙ ap (stands (listed c.args.settled.now c.args.arrivals.now).settled) (here after)) ∙ c.if-not-stands.true) refl

-- the entry stands
standing : (c : Else-not-stands) → stands (listed c.args.settled.now c.args.arrivals.now).settled c.at-held.result ≡ true
standing c = sym c.stands.ensures ∙ c.if-not-stands.false

pub returns-then-not-is_sound : goal.returns-then-not-is_sound
returns-then-not-is_sound c =
    let after = (goal.at.returns-then-not-is_sound c).After-at-held in
    unsound c.args.table.now (listed c.args.settled.now c.args.arrivals.now) (small after) (sym (ap (stands (listed c.args.settled.now c.args.arrivals.now).settled) (here after)) ∙ standing (goal.at.returns-then-not-is_sound c).Else-not-stands)
    (sym (c.is_sound.ensures ∙ ap (λ (s : List ℕ). sound_of (key_data_of s)) (here after)) ∙ c.if-not-is_sound.true) refl

-- the test of window, totals and counters is one of what is listed
fit : (c : After-is_undamaged) → c.is_undamaged.result ≡ undamaged_entry (listed_entry (listed c.args.settled.now c.args.arrivals.now))
fit c =
    let a = c.args in
    let m = a.arrivals.now.moved in
    c.is_undamaged.ensures ∙ ap (λ (w : View). undamaged_entry (record { window = w; accepted = m.accepted; bytes = m.bytes; counters = a.arrivals.now.counters })) c.listed_window.ensures

pub returns-then-not-is_undamaged : goal.returns-then-not-is_undamaged
returns-then-not-is_undamaged c =
    let after = (goal.at.returns-then-not-is_undamaged c).After-at-held in
    unfit c.args.table.now (listed c.args.settled.now c.args.arrivals.now) (small after) (sym (ap (stands (listed c.args.settled.now c.args.arrivals.now).settled) (here after)) ∙ standing (goal.at.returns-then-not-is_undamaged c).Else-not-stands)
    (sym (fit (goal.at.returns-then-not-is_undamaged c).After-is_undamaged) ∙ c.if-not-is_undamaged.true) refl

pub returns : goal.returns
returns c =
    let a = c.args in
    let m = a.arrivals.now.moved in
    let after = (goal.at.returns c).After-at-held in
    let same = c.in-Some.ensures.same in
    rw (c.at.ensures, c.slot.view_is, same)
    (takes_listed a.table.now (listed c.args.settled.now c.args.arrivals.now) (small after) (sym (ap (stands (listed c.args.settled.now c.args.arrivals.now).settled) (here after)) ∙ standing (goal.at.returns c).Else-not-stands)
    (sym (c.is_sound.ensures ∙ ap (λ (s : List ℕ). sound_of (key_data_of s)) (here after)) ∙ c.if-not-is_sound.false)
    (sym (fit (goal.at.returns c).After-is_undamaged) ∙ c.if-not-is_undamaged.false)
    (c.restore.ensures
    ∙ ap (λ (w : View). restored a.table.now c.in-Some.slot (record { window = w; accepted = m.accepted; bytes = m.bytes; counters = a.arrivals.now.counters })) c.listed_window.ensures
    ∙ ap (λ (i : ℕ). restored a.table.now i (listed_entry (listed c.args.settled.now c.args.arrivals.now))) same))
