-- What a record comes to: an arrival, or nothing; how long its line is at most; and that its payload is empty unless the reply is 0.
-- Assumes nothing.
use mathlib.Core.Path.{◌≡◌, refl, subst}
use mathlib.Core.List.{List, []}
use Prim.Native.Nat.{ℕ, ◌+◌, ◌-◌, ◌*◌, ◌≤◌, ◌<◌}
use native.Mathlib.Omega.{arith}
use borrow.Author.Tests.{eq-eqb, ne_eqb}
use lib.Dec.{eqb}
use lib.ListN.{length, take, length-take}
use Rattle.numbers.proofs.Tests.{either}
use Rattle.format.specs.Header.{least_message}
use Rattle.capture.specs.Capture.{Item}
use Rattle.answers.specs.declared.Answer.{Answer}
use Rattle.octets.specs.Octets.{put}
use Rattle.gateway.specs.Receive.{Received, IsReceived, received}
use Rattle.gateway.proofs.Cascade.{received_brief}
use Rattle.feed.specs.Report.{Turn, blank, brought_by, turn_of, line_of, line_for, IsTold}
use Rattle.feed.proofs.Lines.{line_most}

module _ (t : List ℕ) (r : Item) where
  pub turn_arrival : r.reply ≡ 0 → brought_by (received t r.message r.source blank) ≡ turn_of t r
  unfolding turn_of
  turn_arrival e = rw (eq-eqb r.reply 0 e)

  pub turn_nothing : (r.reply ≡ 0 → ⊥) → record { reply = r.reply; payload = []; table = t } ≡ turn_of t r
  unfolding turn_of
  turn_nothing d = rw (ne_eqb r.reply 0 d)

  -- a line has at most 31 bytes and two for each byte that its message has beyond the shortest
  record Short (n : ℕ) (u : Turn) : Type 0 where
    is : length (line_for n u) ≤ 31 + 2 * (length r.message - least_message)

  pub turn_most : (n : ℕ) → n < 10000 → r.reply < 100 → length (line_for n (turn_of t r)) ≤ 31 + 2 * (length r.message - least_message)
  unfolding turn_of
  turn_most n h k =
      (either (Short n) (eqb r.reply 0) (brought_by (received t r.message r.source blank)) (record { reply = r.reply; payload = []; table = t })
      (λ _.
      let q = received t r.message r.source blank in
      let brief = received_brief t r.message r.source blank in
      record { is = omega (arith, line_most n q.answer.reply (take q.answer.length q.out) h brief.listed, length-take q.answer.length q.out, brief.short) })
      (λ _. record { is = omega (arith, line_most n r.reply [] h k) })
      ).is

  -- "`payload=` .., empty unless the answer is 0"
  record Silent (u : Turn) : Type 0 where
    is : (u.reply ≡ 0 → ⊥) → u.payload ≡ []

  pub turn_silent : ((turn_of t r).reply ≡ 0 → ⊥) → (turn_of t r).payload ≡ []
  unfolding turn_of
  turn_silent =
      (either Silent (eqb r.reply 0) (brought_by (received t r.message r.source blank)) (record { reply = r.reply; payload = []; table = t })
      (λ _. record { is = λ no. rw ((received_brief t r.message r.source blank).silent no) })
      (λ _. record { is = λ no. refl })
      ).is

-- ---- what is said of a record that is taken

pub told_same : {u v : Turn} {n at end : ℕ} {before table out : List ℕ} → u ≡ v → IsTold u n at before end table out → IsTold v n at before end table out
told_same {u} {v} {n} {at} {end} {before} {table} {out} e w = subst (λ (x : Turn). IsTold x n at before end table out) e w

-- a record that cannot be read, from what the code has tested and written
pub unread_told : (t : List ℕ) (r : Item) (n at : ℕ) (before : List ℕ) {end : ℕ} {out : List ℕ} → (r.reply ≡ 0 → ⊥)
    → end ≡ at + length (line_of n r.reply []) → out ≡ put before at (line_of n r.reply []) → IsTold (turn_of t r) n at before end t out
unread_told t r n at before d e w = told_same (turn_nothing t r d) (record { ends = e; leaves = refl; writes = w })

pub arrival_told : {q : Received} {a : Answer} {table brought : List ℕ} → IsReceived q a table brought → {n at end : ℕ} {before out : List ℕ}
    → end ≡ at + length (line_of n a.reply (take a.length brought)) → out ≡ put before at (line_of n a.reply (take a.length brought))
    → IsTold (brought_by q) n at before end table out
arrival_told r e w = record { ends = rw (← r.answers, ← r.writes) e; leaves = r.leaves; writes = rw (← r.answers, ← r.writes) w }
