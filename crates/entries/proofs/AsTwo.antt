-- A change is a removal and an install without the gap: its reply is theirs, and where the install would take the freed slot it leaves the same table.
-- Assumes nothing.
use mathlib.Core.Path.{◌≡◌, refl, sym, ap, ◌∙◌}
use mathlib.Core.Bool.{Bool, true, false, cond, ◌&&◌, not}
use mathlib.Core.List.{List}
use mathlib.Core.Logic.{◌⊎◌, inl, inr}
use Prim.Native.Nat.{ℕ, ◌≤◌, ◌<◌}
use native.Mathlib.Decide.{ℕ_discrete}
use native.Mathlib.Omega.{arith}
use borrow.Author.Tests.{eq-eqb, ne_eqb}
use lib.Dec.{eqb}
use lib.ListN.{length, length-replicate}
use Rattle.octets.specs.Octets.{Bytes}
use Rattle.answers.specs.declared.Answer.{Answer}
use Rattle.format.specs.KeyData.{KeyData}
use Rattle.format.proofs.Soundness.{sound_facts}
use Rattle.window.specs.declared.Frame.{Frame}
use Rattle.slots.specs.Table.{slot_of, occupied, replaced, empty_slot, slot_count, slot_length, table_length, is_held}
use Rattle.slots.proofs.Replacing.{slot_own, slot_other, replaced_again}
use Rattle.lookup.specs.Lookup.{matches, leads_to, leads_elsewhere, first_free}
use Rattle.lookup.proofs.Firsts.{first_same, free_found}
use Rattle.lookup.proofs.Matching.{no_match}
use Rattle.entries.specs.Change.{changed}
use Rattle.entries.specs.Fresh.{fresh_slot}
use Rattle.entries.specs.Install.{Left, done_at, placed, unless_twin, installed, removed, is_fair}
use Rattle.entries.proofs.Changes.{changes_not, changes_unfair, changes, changes_alone}
use Rattle.entries.proofs.Fresh.{length_fresh}
use Rattle.entries.proofs.Installs.{fair_facts, fair_is_true, installs_unfair, installs}
use Rattle.entries.proofs.Outcomes.{Refuses, Enters, Frees, not_done, install_outcome, remove_outcome}
use Rattle.entries.proofs.Removing.{removes_not, removes, held_small, held_is_true}
use Rattle.std.specs.Prelude.{None, Option, Some}

empty_length : length empty_slot ≡ slot_length
empty_length = length-replicate {A = ℕ} slot_length 0

module _ (t : List ℕ) (long : length t ≡ table_length) (i : ℕ) where
  abbrev freed : List ℕ
  freed = replaced t i empty_slot

  module _ (small : i < slot_count) where
    -- a freed slot matches nothing, so the others are left
    freed_leads : (flag : ℕ) (key_id source : List ℕ) → leads_to freed flag key_id source ≡ leads_elsewhere t i flag key_id source
    unfolding leads_to leads_elsewhere
    freed_leads flag key_id source = first_same _ _ slot_count 0 (λ j l. by j (omega arith) (ℕ_discrete j i))
      where
        by : (j : ℕ) → j < slot_count → Dec (j ≡ i) → matches flag key_id source (slot_of freed j) ≡ (not (eqb j i) && matches flag key_id source (slot_of t j))
        by j l (yes same) =
            rw (same, slot_own t i empty_slot long small empty_length, eq-eqb i i refl) (sym (no_match flag key_id source empty_slot (λ a. a.held refl)))
        by j l (no other) = rw (slot_other t i empty_slot long small empty_length j l other, ne_eqb j i other)

    -- and an install finds a free slot
    freed_free : (j : ℕ) × (first_free freed ≡ Some j) × (j ≤ i)
    freed_free = free_found freed i small (ap occupied (slot_own t i empty_slot long small empty_length))

  module _ (k : KeyData) (f : Frame) where
    abbrev done : List ℕ → ℕ → Left
    done u j = record { answer = done_at j; table = replaced u j (fresh_slot k f) }

    -- the install after the removal, where key data, Size and start are sound
    installs_freed : i < slot_count → is_fair k f ≡ true → (led : Option ℕ) → leads_elsewhere t i k.flag k.key_id k.source ≡ led
        → installed freed k f ≡ unless_twin freed (placed freed (fresh_slot k f) (first_free freed)) led
    installs_freed small fair led l =
        installs freed k f (fair_facts k f fair)
        ∙ ap (unless_twin freed (placed freed (fresh_slot k f) (first_free freed))) (freed_leads small k.flag k.key_id k.source ∙ l)

    -- The reply to a change is that to the removal, if it is a refusal, and else that to the install after it.
    pub replies_as_two : let r = removed t i in
        (changed t i k f).answer.reply ≡ cond (eqb r.answer.reply 0) (installed r.table k f).answer.reply r.answer.reply
    replies_as_two = by (is_held t i) refl (is_fair k f) refl (leads_elsewhere t i k.flag k.key_id k.source) refl
      where
        by : (held : Bool) → is_held t i ≡ held → (fair : Bool) → is_fair k f ≡ fair
            → (led : Option ℕ) → leads_elsewhere t i k.flag k.key_id k.source ≡ led
            → let r = removed t i in (changed t i k f).answer.reply ≡ cond (eqb r.answer.reply 0) (installed r.table k f).answer.reply r.answer.reply
        by false h fair s led l = rw (changes_not t i k f h, removes_not t i h)
        by true h false s led l = rw (changes_unfair t i k f h s, removes t i h, installs_unfair freed k f s)
        by true h true s (Some j) l =
            rw (changes t i k f h s, l, removes t i h, installs_freed (held_small t i h) s (Some j) l)
        by true h true s None l =
            rw (changes_alone t i k f h s l, removes t i h, installs_freed (held_small t i h) s None l, (freed_free (held_small t i h)).1)

    -- Where both would succeed and the freed slot is the lowest free one, a change answers and leaves what the install would.
    pub change_is_two : Bytes k.key_id → (removed t i).answer ≡ done_at i → (installed (removed t i).table k f).answer ≡ done_at i
        → changed t i k f ≡ installed (removed t i).table k f
    change_is_two bytes freeing entering = by (remove_outcome t i)
      where
        at_freed : Frees t i → Refuses freed (installed freed k f) ⊎ ((j : ℕ) × Enters freed k f j) → (installed freed k f).answer ≡ done_at i
            → changed t i k f ≡ installed freed k f
        at_freed g (inl r) e = absurd (not_done r (ap (λ (a : Answer). a.reply) e))
        at_freed g (inr (j, n)) e =
            let same : j ≡ i = ap (λ (a : Answer). a.slot) (rw n.is at e) in
            let full = length_fresh (sound_facts k n.fair.sound) (bytes 0) f in
            changes_alone t i k f (held_is_true t i g.small g.held) (fair_is_true n.fair) (sym (freed_leads g.small k.flag k.key_id k.source) ∙ n.alone)
            ∙ sym (n.is ∙ ap (done freed) same
            ∙ ap (λ (u : List ℕ). record { answer = done_at i; table = u }) (replaced_again t i empty_slot long g.small empty_length (fresh_slot k f) full))

        by : Refuses t (removed t i) ⊎ Frees t i → changed t i k f ≡ installed (removed t i).table k f
        by (inl r) = absurd (not_done r (ap (λ (a : Answer). a.reply) freeing))
        by (inr g) = rw g.is (at_freed g (install_outcome freed k f) (rw g.is at entering))
