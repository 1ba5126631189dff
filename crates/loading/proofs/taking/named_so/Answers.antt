-- Each refusal denies one fact of a slot that matches, and the source decides at the end. Assumes nothing.
use Rattle.std.proofs.Common.{◌≡◌, refl, sym, ap, ◌∙◌, true≢false, not, List, ℕ, ne_eqb}
use Rattle.octets.specs.Octets.{same}
use Rattle.octets.proofs.Same.{same_true}
use Rattle.text.specs.Written.{written}
use Rattle.slots.specs.Table.{key_id_of}
use Rattle.lookup.proofs.Matching.{Alike, held_true, same_test}
use Rattle.form.specs.Found.{named_values}
use Rattle.loading.proofs.Standing.{not_named, source_decides}
use Rattle.loading.proofs.taking.named_so.Goals.{After-is}
use Rattle.loading.proofs.taking.named_so.Goals as goal

pub returns-then-not-is_occupied : goal.returns-then-not-is_occupied
returns-then-not-is_occupied c =
    not_named _ _ (λ m. true≢false (sym (ap not (ne_eqb _ 0 m.held)) ∙ sym c.is_occupied.ensures ∙ c.if-not-is_occupied.true))

pub returns-then-not-has_room : goal.returns-then-not-has_room
returns-then-not-has_room c = not_named _ _ (λ m. true≢false (sym (c.if-not-has_room.ensures.1 (m.keyid_short, m.source_short))))

pub returns-then-from-named : goal.returns-then-from-named
returns-then-from-named c = not_named _ _ (λ m. c.if-from-named.true (c.from.ensures ∙ c.flag.ensures ∙ m.flag_same))

keyid : (c : After-is) → let a = c.args in c.is.result ≡ same (key_id_of a.slot.now) (written a.named.now.keyid)
keyid c = c.is.ensures ∙ ap (λ (l : List ℕ). same l (written c.args.named.now.keyid)) c.keyid.ensures

pub returns-then-not-is : goal.returns-then-not-is
returns-then-not-is c =
    not_named _ _ λ m. true≢false (sym (same_test _ _ m.keyid_same) ∙ sym (keyid (goal.at.returns-then-not-is c).After-is) ∙ c.if-not-is.true)

pub returns : goal.returns
returns c =
    let a = c.args in
    let room = c.if-not-has_room.ensures.0 refl in
    let like : Alike a.named.now.flag (written a.named.now.keyid) a.slot.now =
    record {
      held = held_true _ (sym c.is_occupied.ensures ∙ c.if-not-is_occupied.false);
      keyid_short = room.0;
      source_short = room.1;
      flag_same = sym (c.from.ensures ∙ c.flag.ensures) ∙ c.if-from-named.false;
      keyid_same = same_true _ _ (sym (keyid (goal.at.returns c).After-is) ∙ c.if-not-is.false);
    } in
    c.is-2.ensures ∙ ap (λ (l : List ℕ). same l (written a.named.now.source)) c.source.ensures
    ∙ source_decides (named_values a.named.now) a.slot.now like
