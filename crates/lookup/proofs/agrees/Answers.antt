-- Each refusal denies one fact of a slot that matches, and where none is denied the source decides. Assumes nothing.
use Rattle.std.proofs.Common.{refl, sym, true≢false, ap, ◌∙◌, List, ℕ, arith, eq-eqb, ne_eqb}
use Rattle.octets.specs.Octets.{same}
use Rattle.lookup.proofs.Matching.{Alike, held_true, no_match, free_no_match, own_source_decides, pointwise_same, equal_lists, unequal_lists}
use Rattle.lookup.proofs.agrees.Goals.{Else-ne}
use Rattle.lookup.proofs.agrees.Goals as goal

pub returns-then-not-is_occupied : goal.returns-then-not-is_occupied
returns-then-not-is_occupied c = free_no_match _ _ _ _ (sym c.is_occupied.ensures ∙ c.if-not-is_occupied.true)

pub returns-then-not-has_room : goal.returns-then-not-has_room
returns-then-not-has_room c = no_match _ _ _ _ (λ m. true≢false (sym (c.if-not-has_room.ensures.1 (m.keyid_short, m.source_short))))

pub returns-then-flag : goal.returns-then-flag
returns-then-flag c = no_match _ _ _ _ (λ m. c.if-flag.true (c.flag.ensures ∙ m.flag_same))

pub returns-then-ne : goal.returns-then-ne
returns-then-ne c = no_match _ _ _ _ (λ m. unequal_lists _ _ c.if-ne.ensures (c.keyid.ensures ∙ m.keyid_same))

alike : (c : Else-ne) → let a = c.args in Alike a.flag a.keyid.now a.slot.now
alike c =
    let room = c.if-not-has_room.ensures.0 refl in
    record {
      held = held_true _ (sym c.is_occupied.ensures ∙ c.if-not-is_occupied.false);
      keyid_short = room.0;
      source_short = room.1;
      flag_same = sym c.flag.ensures ∙ c.if-flag.false;
      keyid_same = sym c.keyid.ensures ∙ equal_lists _ _ c.if-ne.ensures;
    }

pub returns-then-flag-eq0 : goal.returns-then-flag-eq0
returns-then-flag-eq0 c =
    let a = c.args in
    let zero = eq-eqb a.flag 0 (omega arith) in
    eq-eqb _ 0 c.if-flag-eq0.true ∙ simp zero at (own_source_decides a.flag a.keyid.now a.source.now a.slot.now (alike (goal.at.returns-then-flag-eq0 c).Else-ne))

pub returns-else-flag-eq0 : goal.returns-else-flag-eq0
returns-else-flag-eq0 c =
    let a = c.args in
    c.eq.ensures ∙ pointwise_same _ _ ∙ ap (λ (l : List ℕ). same l a.source.now) c.source.ensures
    ∙ simp (ne_eqb a.flag 0 (λ e. omega arith)) at (own_source_decides a.flag a.keyid.now a.source.now a.slot.now (alike (goal.at.returns-else-flag-eq0 c).Else-ne))
