-- Each refusal by its own test, and the lines of the entry. Assumes nothing.
use Rattle.std.proofs.Common.{◌≡◌, ◌<◌, sym, ap, ◌∙◌, refl, List, ℕ, length, arith}
use Rattle.octets.specs.Octets.{put}
use Rattle.slots.specs.Record.{undamaged}
use Rattle.slots.specs.Table.{slot_of, slot_count, occupied}
use Rattle.slots.proofs.Damage.{source_short}
use Rattle.listing.proofs.Listed.{little_room, past_last_slot, free_slot, listing_damaged, all_written}
use Rattle.listing.specs.Listing.{listing_of}
use Rattle.listing.proofs.list_in.Goals.{After-at-held}
use Rattle.listing.proofs.list_in.Goals as goal

pub returns-then-out-lt-OUTPUT : goal.returns-then-out-lt-OUTPUT
returns-then-out-lt-OUTPUT c =
    let a = c.args in
    little_room a.table.now a.slot a.out.now c.if-out-lt-OUTPUT.true refl

pub returns-in_default : goal.returns-in_default
returns-in_default c =
    let a = c.args in
    past_last_slot a.table.now a.slot a.out.now (omega arith) c.in_default.ensures.past refl

-- the slot as it was read
here : (c : After-at-held) → c.at-held.result ≡ slot_of c.args.table.now c.args.slot
here c = c.at-held.ensures.value ∙ ap (slot_of c.args.table.now) c.in-Some.ensures.same

small : (c : After-at-held) → c.args.slot < slot_count
small c = c.in-Some.ensures.within.0 refl

pub returns-then-not-is_occupied : goal.returns-then-not-is_occupied
returns-then-not-is_occupied c =
    let a = c.args in
    let after = (goal.at.returns-then-not-is_occupied c).After-at-held in
    free_slot a.table.now a.slot a.out.now (omega arith) (small after)
    (sym (c.is_occupied.ensures ∙ ap (λ (s : List ℕ). occupied s) (here after)) ∙ c.if-not-is_occupied.true) refl

pub returns-then-not-is_undamaged : goal.returns-then-not-is_undamaged
returns-then-not-is_undamaged c =
    let a = c.args in
    let after = (goal.at.returns-then-not-is_undamaged c).After-at-held in
    listing_damaged a.table.now a.slot a.out.now (omega arith) (small after)
    (sym (c.is_occupied.ensures ∙ ap (λ (s : List ℕ). occupied s) (here after)) ∙ c.if-not-is_occupied.false)
    (sym (c.is_undamaged.ensures ∙ ap undamaged (here after)) ∙ c.if-not-is_undamaged.true) refl

pub write_lines-requires : goal.write_lines-requires
write_lines-requires c =
    let whole = c.at-held.ensures.whole in
    record { whole = whole; source_fits = source_short _ (sym c.is_undamaged.ensures ∙ c.if-not-is_undamaged.false) whole; room = omega arith }

pub returns : goal.returns
returns c =
    let a = c.args in
    let after = (goal.at.returns c).After-at-held in
    all_written a.table.now a.slot a.out.now (omega arith) (small after)
    (sym (c.is_occupied.ensures ∙ ap (λ (s : List ℕ). occupied s) (here after)) ∙ c.if-not-is_occupied.false)
    (sym (c.is_undamaged.ensures ∙ ap undamaged (here after)) ∙ c.if-not-is_undamaged.false)
    (c.write_lines.ensures.value ∙ ap (λ (s : List ℕ). length (listing_of a.slot s)) (here after))
    (c.write_lines.ensures.out_after ∙ ap (λ (s : List ℕ). put a.out.now 0 (listing_of a.slot s)) (here after))
