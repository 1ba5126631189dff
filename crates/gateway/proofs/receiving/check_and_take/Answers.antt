-- An undamaged slot has room for its source, and what opening answers decides. Assumes nothing.
use Rattle.std.proofs.Common.{◌≡◌, ap, ◌∙◌, arith, length, List, ℕ}
use Rattle.slots.specs.Record.{undamaged}
use Rattle.slots.specs.Table.{slot_of, edition_of, key_of, source_of}
use Rattle.format.proofs.Room.{read_room}
use Rattle.gateway.proofs.Arrivals.{leaves_wrong, payload_right, leaves_payload}
use Rattle.slots.proofs.Damage.{undamaged_sound, source_short}
use Rattle.gateway.proofs.receiving.check_and_take.Goals.{After-source}
use Rattle.gateway.proofs.receiving.check_and_take.Goals as goal

pub source-requires : goal.source-requires
source-requires c =
    source_short _ (ap undamaged c.at-held.ensures.value ∙ c.requires.is_undamaged.unharmed) c.at-held.ensures.whole

key : (c : After-source) → c.key.result.now ≡ key_of (slot_of c.args.table.now c.args.slot)
key c = c.key.ensures ∙ ap (λ (s : List ℕ). key_of s) c.at-held.ensures.value

source : (c : After-source) → c.source.result.now ≡ source_of (slot_of c.args.table.now c.args.slot)
source c = c.source.ensures ∙ ap (λ (s : List ℕ). source_of s) c.at-held.ensures.value

pub open-opened-requires : goal.open-opened-requires
open-opened-requires c =
    let after = (goal.at.open-opened-requires c).After-source in
    let p = c.requires in
    let sound = undamaged_sound _ p.is_undamaged.unharmed in
    let room = read_room _ c.args.message.now.read in
    (omega (arith, ap length (key after), sound.key_length), rw (source after) sound.source_most, omega (arith, room.short, p.output_fits))

pub returns-in_default : goal.returns-in_default
returns-in_default c =
    let a = c.args in
    let m = a.message.now in
    let after = (goal.at.returns-in_default c).After-source in
    let opened = c.open-opened.ensures in
    let edition = ap (λ (s : List ℕ). edition_of s) c.at-held.ensures.value in
    leaves_wrong a.table.now a.slot m.header m.bytes.now a.out.now opened.answers opened.writes (omega (arith, edition)) (key after) (source after)
    c.in_default.is
    c.turn_away.ensures

pub take-requires-clause-short : goal.take-requires-clause-short
take-requires-clause-short c =
    let a = c.args in
    let m = a.message.now in
    let after = (goal.at.take-requires-clause-short c).After-source in
    let opened = c.open-opened.ensures in
    let edition = ap (λ (s : List ℕ). edition_of s) c.at-held.ensures.value in
    let room = read_room _ m.read in
    let payload =
    payload_right a.table.now a.slot m.header m.bytes.now a.out.now opened.answers opened.writes (omega (arith, edition)) (key after) (source after)
    _
    c.in-Some.is in
    omega (arith, room.short, payload.1)

pub returns : goal.returns
returns c =
    let a = c.args in
    let m = a.message.now in
    let after = (goal.at.returns c).After-source in
    let opened = c.open-opened.ensures in
    let edition = ap (λ (s : List ℕ). edition_of s) c.at-held.ensures.value in
    rw c.slot.view_is
    (leaves_payload a.table.now a.slot m.header m.bytes.now a.out.now opened.answers opened.writes (omega (arith, edition)) (key after) (source after)
    _
    _
    c.in-Some.is
    c.take.ensures)
