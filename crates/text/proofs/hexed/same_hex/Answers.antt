use Rattle.std.proofs.Common.{◌≡◌, sym, ap, ◌∙◌, true, ◌*◌, ◌<◌, ◌∷◌, [], ℕ, List, arith, length, take, drop, eq-eqb, ne_eqb}
use native.Mathlib.Nat.{add-sub_cancel_left}
use mathlib.Core.Logic.{inl, inr}
use Rattle.octets.specs.Octets.{part, same}
use Rattle.octets.proofs.Parts.{length_part}
use Rattle.octets.proofs.Same.{other_length}
use Rattle.text.specs.Found.{unhexed}
use Rattle.text.proofs.Unhexed.{length_unhexed_part, Pair, pair_ahead, length_after, nothing_left}
use Rattle.text.proofs.hexed.same_hex.Goals.{After-from}
use Rattle.text.proofs.hexed.same_hex.Goals as goal

-- the bytes that the digits write
abbrev written : (text : List ℕ) (at n : ℕ) → List ℕ
written text at n = unhexed (part at (2 * n) text)

pub returns-then-count-bytes : goal.returns-then-count-bytes
returns-then-count-bytes c =
    let a = c.args in
    sym (other_length a.bytes.now (written a.text.now a.at a.count) (λ e. omega (arith, c.if-count-bytes.true, e, length_unhexed_part a.at a.count a.text.now c.requires)))

pub loop-pair-init : goal.loop-pair-init
loop-pair-init c =
    let a = c.args in
    let start = c.into_iter-pair-iterator.ensures.into_iter_gives in
    let zip = c.zip-pair-items.ensures in
    let digits = c.chunks_exact.ensures in
    let cut = add-sub_cancel_left a.at (2 * a.count) in
    record {
      size = rw (start, zip.first) digits.size;
      long =
          rw (start, zip.first, digits.rest, zip.second.0)
          (rw cut (omega (arith, c.if-count-bytes.false, length_part a.at (2 * a.count) a.text.now c.requires)));
      decides =
          rw (start, zip.first, digits.rest, zip.second.0)
          (ap (λ (m : ℕ). same a.bytes.now (unhexed (take m (drop a.at a.text.now)))) (sym cut));
    }

-- the pair that comes next
pair : (c : After-from) → Pair c.loop-pair.pair-iterator.a.rest.now c.in-Some.pair.now c.next.new.self.a.rest.now
pair c = let s = c.in-Some.ensures.steps in record { cut = s.0.1.0; two = s.0.1.1 ∙ c.loop-pair.invariant.size }

-- the byte that it writes, against the next of the bytes
decides : (c : After-from) → same c.args.bytes.now (written c.args.text.now c.args.at c.args.count) ≡ same (c.in-Some.x.now ∷ c.next.new.self.b.rest.now) (c.byte.result ∷ unhexed c.next.new.self.a.rest.now)
decides c =
    c.loop-pair.invariant.decides
    ∙ ap (λ (l : List ℕ). same l (unhexed c.loop-pair.pair-iterator.a.rest.now)) c.in-Some.ensures.steps.1
    ∙ ap (same (c.in-Some.x.now ∷ c.next.new.self.b.rest.now)) (pair_ahead (pair c) c.byte.ensures)

pub returns-then-byte-from : goal.returns-then-byte-from
unfolding same
returns-then-byte-from c =
    sym (decides (goal.at.returns-then-byte-from c).After-from
    ∙ rw (ne_eqb c.in-Some.x.now c.byte.result (λ e. c.if-byte-from.true (sym e ∙ sym c.from.ensures))))

pub loop-pair-preserved : goal.loop-pair-preserved
unfolding same
loop-pair-preserved c =
    let l = c.loop-pair in
    let after = (goal.at.loop-pair-preserved c).After-from in
    let s = c.in-Some.ensures.steps in
    record {
      size = s.0.0 ∙ l.invariant.size;
      long = omega (arith, l.invariant.long, length_after (pair after), ap length s.1);
      decides = decides after ∙ rw (eq-eqb c.in-Some.x.now c.byte.result (sym (c.if-byte-from.false ∙ c.from.ensures)));
    }

-- both have ended
ended : (a b : List ℕ) → length a < 2 → length b ≡ 0 → true ≡ same b (unhexed a)
unfolding same
ended a [] h e = rw (nothing_left a h)
ended a (x ∷ b) h e = absurd (omega arith)

pub returns : goal.returns
returns c =
    let l = c.loop-pair in
    let both : (length l.pair-iterator.a.rest.now < 2) × (length l.pair-iterator.b.rest.now ≡ 0) =
    elim c.in-None.ensures.steps [
      | inl r ↦ (omega (arith, r.1.1.0, l.invariant.size), omega (arith, r.1.1.0, l.invariant.size, l.invariant.long))
      | inr r ↦ (omega (arith, r.1.0, l.invariant.long), r.1.0)
    ] in
    ended l.pair-iterator.a.rest.now l.pair-iterator.b.rest.now both.0 both.1 ∙ sym l.invariant.decides
