-- An entry's damage rule as facts: a fresh entry is undamaged, one that takes a message stays so, and its numbers are small.
-- Assumes nothing.
use mathlib.Core.Path.{◌≡◌}
use mathlib.Core.Bool.{true, false}
use Prim.Native.Nat.{ℕ, ◌+◌, ◌-◌, ◌*◌, ◌^◌, ◌≤◌, ◌<◌}
use native.Mathlib.Omega.{arith}
use borrow.Author.Tests.{leb-true, le-leb}
use lib.Count.{ones_in, ones-le}
use Rattle.numbers.proofs.Bits.{ones_within}
use Rattle.window.proofs.Floor.{floor_start, floor_le}
use Rattle.numbers.proofs.Tests.{and_left, and_right, and_both, refuted}
use Rattle.window.specs.declared.Verdict.TheVariants.{Admissible}
use Rattle.window.specs.Window.{View, sound_frame, floor_of, verdict_of, count_of, undamaged_window}
use Rattle.window.specs.declared.Frame.{Frame}
use Rattle.window.specs.Counters.{counter_limit}
use Rattle.window.specs.Entry.{Entry, fresh_entry, taken, undamaged_entry, longest_payload}
use Rattle.window.proofs.Undamaged.{marks_small, undamaged_facts, undamaged_test, takes, accept_undamaged, accept_count, fresh_undamaged}

-- the rule's tests, as facts
pub record UndamagedEntry (e : Entry) : Type 0 where
  pub window : undamaged_window e.window ≡ true
  pub enough : count_of e.window ≤ e.accepted
  pub few : e.accepted ≤ count_of e.window + floor_of e.window - e.window.frame.start
  pub light : e.bytes ≤ longest_payload * e.accepted
  pub few_replays : e.counters.replays ≤ counter_limit
  pub few_forged : e.counters.forged ≤ counter_limit

pub entry_facts : (e : Entry) → undamaged_entry e ≡ true → UndamagedEntry e
unfolding undamaged_entry
entry_facts e h = search (and_left, and_right, leb-true) depth 9

pub entry_test : (e : Entry) → UndamagedEntry e → undamaged_entry e ≡ true
unfolding undamaged_entry
entry_test e w = search (and_both, le-leb) depth 9

-- An entry of which one fact fails is damaged.
pub entry_damaged : (e : Entry) → (UndamagedEntry e → ⊥) → false ≡ undamaged_entry e
entry_damaged e bad = refuted (undamaged_entry e) (λ t. bad (entry_facts e t))

pub entry_damaged_window : (e : Entry) → undamaged_window e.window ≡ false → false ≡ undamaged_entry e
unfolding undamaged_entry
entry_damaged_window e d = rw d

pub fresh_entry_undamaged : (f : Frame) → sound_frame f ≡ true → UndamagedEntry (fresh_entry f)
unfolding ones_in
fresh_entry_undamaged f h = record {
  window = undamaged_test (fresh_entry f).window (fresh_undamaged f h);
  enough = omega arith;
  few = omega arith;
  light = omega arith;
  few_replays = omega arith;
  few_forged = omega arith;
}

-- "These bounds keep both totals within 64 bits."
pub taken_undamaged : (e : Entry) (n payload : ℕ) → UndamagedEntry e → verdict_of e.window n ≡ Admissible → n < 2 ^ 48 → payload ≤ longest_payload → UndamagedEntry (taken e n payload)
taken_undamaged e n payload w v small short =
    let u = undamaged_facts e.window w.window in
    let t = takes n u v in
    let c = accept_count u t in record {
      window = undamaged_test (taken e n payload).window (accept_undamaged u t small);
      enough = omega (arith, w.enough);
      few = omega (arith, w.few, floor_start e.window.frame e.window.highest);
      light = omega (arith, w.light);
      few_replays = w.few_replays;
      few_forged = w.few_forged;
    }

-- ---- how small the rule keeps its numbers

pub floor_small : (w : View) → undamaged_window w ≡ true → floor_of w < 2 ^ 48
floor_small w e =
    let u = undamaged_facts w e in
    omega (arith, floor_le w.frame w.highest (2 ^ 48 - 1) (omega (arith, u.framed.start_high)) (omega (arith, u.high)))

count_small : (w : View) → undamaged_window w ≡ true → count_of w ≤ 256
count_small w e = let wide = marks_small (undamaged_facts w e) in rw (ones_within 256 w.marks wide) (ones-le 256 w.marks wide)

-- both totals have room for one message more
pub totals_small : (e : Entry) → UndamagedEntry e → (e.accepted < 2 ^ 49) × (e.bytes < 2 ^ 60)
totals_small e w =
    let c = count_small e.window w.window in
    let f = floor_small e.window w.window in
    (omega (arith, w.few), omega (arith, w.few, w.light))
