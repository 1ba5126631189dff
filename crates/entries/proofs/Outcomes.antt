-- What install, remove and change come to: a refusal, which leaves the table as it was, or done at one slot; and that its length stays.
-- Assumes nothing.
use mathlib.Core.Path.{◌≡◌, refl, ap, ◌∙◌}
use mathlib.Core.Bool.{Bool, true, false}
use mathlib.Core.List.{List}
use mathlib.Core.Logic.{◌⊎◌, inl, inr}
use Prim.Native.Nat.{ℕ, ◌≤◌, ◌<◌}
use native.Mathlib.Omega.{arith}
use lib.Dec.{lit≤}
use Rattle.window.specs.declared.Frame.{Frame}
use Rattle.answers.specs.Answers.{refused, unsound, twin, full, no_slot}
use Rattle.format.specs.KeyData.{KeyData}
use Rattle.slots.specs.Table.{slot_of, occupied, replaced, empty_slot, slot_count, slot_length, table_length, is_held}
use Rattle.lookup.specs.Lookup.{leads_to, leads_elsewhere, first_free}
use Rattle.entries.specs.Change.{changed}
use Rattle.entries.specs.Fresh.{fresh_slot}
use Rattle.entries.specs.Install.{Left, done_at, placed, unless_twin, installed, removed, is_fair}
use lib.ListN.{length, length-replicate}
use Rattle.octets.specs.Octets.{Bytes}
use Rattle.format.proofs.Soundness.{sound_facts}
use Rattle.slots.proofs.Replacing.{length_replaced}
use Rattle.lookup.proofs.Firsts.{free_small}
use Rattle.entries.proofs.Changes.{changes_not, changes_unfair, changes, changes_alone}
use Rattle.entries.proofs.Fresh.{length_fresh}
use Rattle.entries.proofs.Installs.{Fair, fair_facts, installs_unfair, installs, installs_alone}
use Rattle.entries.proofs.Removing.{removes_not, removes, held_small, held_occupied}
use Rattle.std.specs.Prelude.{None, Option, Some}

pub record Refuses (t : List ℕ) (left : Left) : Type 0 where
  pub reply : ℕ
  pub some : 1 ≤ reply
  pub is : left ≡ record { answer = refused reply; table = t }

-- what is refused is not done
pub not_done : {t : List ℕ} {l : Left} → Refuses t l → l.answer.reply ≡ 0 → ⊥
not_done r done = omega (arith, r.some, ap (λ (x : Left). x.answer.reply) r.is)

-- a fresh entry without a twin takes the lowest free slot
pub record Enters (t : List ℕ) (k : KeyData) (f : Frame) (i : ℕ) : Type 0 where
  pub fair : Fair k f
  pub alone : leads_to t k.flag k.key_id k.source ≡ None
  pub free : first_free t ≡ Some i
  pub is : installed t k f ≡ record { answer = done_at i; table = replaced t i (fresh_slot k f) }

module _ (t : List ℕ) (k : KeyData) (f : Frame) where
  abbrev fresh : List ℕ
  fresh = fresh_slot k f

  pub install_outcome : Refuses t (installed t k f) ⊎ ((i : ℕ) × Enters t k f i)
  install_outcome = by (is_fair k f) refl (leads_to t k.flag k.key_id k.source) refl (first_free t) refl
    where
      by : (b : Bool) → is_fair k f ≡ b → (led : Option ℕ) → leads_to t k.flag k.key_id k.source ≡ led
          → (free : Option ℕ) → first_free t ≡ free → Refuses t (installed t k f) ⊎ ((i : ℕ) × Enters t k f i)
      by false e led l free g = inl (record { reply = unsound; some = lit≤ tt; is = installs_unfair t k f e })
      by true e (Some j) l free g =
          inl (record {
            reply = twin;
            some = lit≤ tt;
            is = installs t k f (fair_facts k f e) ∙ ap (unless_twin t (placed t fresh (first_free t))) l;
          })
      by true e None l None g =
          inl (record {
            reply = full;
            some = lit≤ tt;
            is = installs_alone t k f (fair_facts k f e) l ∙ ap (placed t fresh) g;
          })
      by true e None l (Some i) g =
          inr (
            i,
            record {
              fair = fair_facts k f e;
              alone = l;
              free = g;
              is = installs_alone t k f (fair_facts k f e) l ∙ ap (placed t fresh) g;
            },
          )

-- the slot is freed
pub record Frees (t : List ℕ) (i : ℕ) : Type 0 where
  pub small : i < slot_count
  pub held : occupied (slot_of t i) ≡ true
  pub is : removed t i ≡ record { answer = done_at i; table = replaced t i empty_slot }

pub remove_outcome : (t : List ℕ) (i : ℕ) → Refuses t (removed t i) ⊎ Frees t i
remove_outcome t i = by (is_held t i) refl
  where
    by : (b : Bool) → is_held t i ≡ b → Refuses t (removed t i) ⊎ Frees t i
    by false e = inl (record { reply = no_slot; some = lit≤ tt; is = removes_not t i e })
    by true e = inr (record { small = held_small t i e; held = held_occupied t i e; is = removes t i e })

-- the slot holds a fresh entry without a twin elsewhere
pub record Changes (t : List ℕ) (i : ℕ) (k : KeyData) (f : Frame) : Type 0 where
  pub small : i < slot_count
  pub held : occupied (slot_of t i) ≡ true
  pub fair : Fair k f
  pub alone : leads_elsewhere t i k.flag k.key_id k.source ≡ None
  pub is : changed t i k f ≡ record { answer = done_at i; table = replaced t i (fresh_slot k f) }

pub change_outcome : (t : List ℕ) (i : ℕ) (k : KeyData) (f : Frame) → Refuses t (changed t i k f) ⊎ Changes t i k f
change_outcome t i k f = by (is_held t i) refl (is_fair k f) refl (leads_elsewhere t i k.flag k.key_id k.source) refl
  where
    by : (b : Bool) → is_held t i ≡ b → (s : Bool) → is_fair k f ≡ s
        → (led : Option ℕ) → leads_elsewhere t i k.flag k.key_id k.source ≡ led → Refuses t (changed t i k f) ⊎ Changes t i k f
    by false h s e led l = inl (record { reply = no_slot; some = lit≤ tt; is = changes_not t i k f h })
    by true h false e led l = inl (record { reply = unsound; some = lit≤ tt; is = changes_unfair t i k f h e })
    by true h true e (Some j) l =
        inl (record {
          reply = twin;
          some = lit≤ tt;
          is = changes t i k f h e ∙ ap (unless_twin t (placed t (fresh_slot k f) (Some i))) l;
        })
    by true h true e None l =
        inr (record {
          small = held_small t i h;
          held = held_occupied t i h;
          fair = fair_facts k f e;
          alone = l;
          is = changes_alone t i k f h e l;
        })

-- a change that is not refused
pub change_done : (t : List ℕ) (i : ℕ) (k : KeyData) (f : Frame) → (changed t i k f).answer.reply ≡ 0 → Changes t i k f
change_done t i k f done = by (change_outcome t i k f)
  where
    by : Refuses t (changed t i k f) ⊎ Changes t i k f → Changes t i k f
    by (inl r) = absurd (not_done r done)
    by (inr n) = n

-- ---- the table stays as long as it was

module _ (t : List ℕ) (long : length t ≡ table_length) where
  pub install_length : (k : KeyData) (f : Frame) → Bytes k.key_id → length (installed t k f).table ≡ table_length
  install_length k f b = by (install_outcome t k f)
    where
      by : Refuses t (installed t k f) ⊎ ((j : ℕ) × Enters t k f j) → length (installed t k f).table ≡ table_length
      by (inl r) = rw r.is long
      by (inr (j, n)) =
          rw n.is
          (length_replaced t j (fresh_slot k f) long (free_small t j n.free) (length_fresh (sound_facts k n.fair.sound) (b 0) f))

  pub remove_length : (i : ℕ) → length (removed t i).table ≡ table_length
  remove_length i = by (remove_outcome t i)
    where
      by : Refuses t (removed t i) ⊎ Frees t i → length (removed t i).table ≡ table_length
      by (inl r) = rw r.is long
      by (inr f) = rw f.is (length_replaced t i empty_slot long f.small (length-replicate {A = ℕ} slot_length 0))

  pub change_length : (i : ℕ) (k : KeyData) (f : Frame) → Bytes k.key_id → length (changed t i k f).table ≡ table_length
  change_length i k f b = by (change_outcome t i k f)
    where
      by : Refuses t (changed t i k f) ⊎ Changes t i k f → length (changed t i k f).table ≡ table_length
      by (inl r) = rw r.is long
      by (inr c) =
          rw c.is (length_replaced t i (fresh_slot k f) long c.small (length_fresh (sound_facts k c.fair.sound) (b 0) f))
