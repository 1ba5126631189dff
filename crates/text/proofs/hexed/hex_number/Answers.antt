use Rattle.std.proofs.Common.{◌≡◌, refl, sym, ap, ◌∙◌, ℕ, suc, ◌*◌, ◌+◌, ◌^◌, ◌<◌, ◌∷◌, [], ◌++◌, List, arith, rules, length, take, drop, length-append, length-drop}
use native.Mathlib.Nat.{add-sub_cancel_left}
use Rattle.octets.specs.Octets.{big_endian, part}
use Rattle.octets.proofs.BigEndian.{grown, word}
use Rattle.text.specs.Found.{unhexed}
use Rattle.text.proofs.Unhexed.{length_unhexed, length_unhexed_part, Pair, pair_ahead, length_after, nothing_left, Next, next_is, after_is}
use Rattle.text.proofs.hexed.hex_number.Goals.{In-Some, After-byte}
use Rattle.text.proofs.hexed.hex_number.Goals as goal

pub loop-pair-init : goal.loop-pair-init
unfolding big_endian
loop-pair-init c =
    let a = c.args in
    let start = c.into_iter-pair-iterator.ensures.into_iter_gives in record {
      size = search rules;
      left =
          rw (start, c.chunks_exact-pair-items.ensures.rest)
          (ap (λ (m : ℕ). unhexed (take m (drop a.at a.text.now))) (add-sub_cancel_left a.at (2 * a.n)));
      within = search rules;
      width = search rules;
      value = refl;
    }

-- the bytes that the digits write
abbrev bytes : (text : List ℕ) (at n : ℕ) → List ℕ
bytes text at n = unhexed (part at (2 * n) text)

-- the pair that comes next, and that a byte is left for it
pair : (c : In-Some) → Pair c.loop-pair.pair-iterator.rest.now c.in-Some.pair.now c.next.new.self.rest.now
pair c = let s = c.in-Some.ensures.steps in record { cut = s.1.0; two = s.1.1 ∙ c.loop-pair.invariant.size }

one_left : (c : In-Some) → length c.loop-pair.yielded < c.args.n
one_left c =
    let l = c.loop-pair in
    let a = c.args in
    omega (arith, length_after (pair c), length_unhexed l.pair-iterator.rest.now, ap length l.invariant.left, length-drop (length l.yielded) (bytes a.text.now a.at a.n), length_unhexed_part a.at a.n a.text.now c.requires.0)

-- its byte fits, whichever it is
fits : (c : In-Some) (y : ℕ) → y < 256 → c.loop-pair.number * 256 + y < 2 ^ 64
fits c y h =
    word (suc (length c.loop-pair.yielded)) _ (omega (arith, one_left c, c.requires.1))
    (grown (length c.loop-pair.yielded) c.loop-pair.number y c.loop-pair.invariant.width h)

-- what comes next, and that it is a byte
next : (c : After-byte) → Next (bytes c.args.text.now c.args.at c.args.n) (length c.loop-pair.yielded) c.byte.result (unhexed c.next.new.self.rest.now)
next c = record { left = sym (pair_ahead (pair (goal.at.After-byte c).In-Some) c.byte.ensures) ∙ c.loop-pair.invariant.left }

small : (c : After-byte) → c.byte.result < 256
small c = omega (arith, next_is (next c), c.requires.2 (length c.loop-pair.yielded))

pub overflow_mul-number : goal.overflow_mul-number
overflow_mul-number c = omega (arith, fits (goal.at.overflow_mul-number c).In-Some 0 (omega arith))

pub overflow_add-number : goal.overflow_add-number
overflow_add-number c =
    let here = goal.at.overflow_add-number c in
    record { fits = fits here.In-Some c.byte.result (small here.After-byte) }

pub loop-pair-preserved : goal.loop-pair-preserved
unfolding big_endian
loop-pair-preserved c =
    let l = c.loop-pair in
    let here = goal.at.loop-pair-preserved c in
    let more = next here.After-byte in
    let one_more : length (l.yielded ++ (c.in-Some.pair ∷ [])) ≡ suc (length l.yielded) = simp length-append (omega arith) in
    record {
      size = c.in-Some.ensures.steps.0 ∙ l.invariant.size;
      within = rw one_more (omega (arith, one_left here.In-Some));
      left = rw one_more (after_is more);
      width = rw one_more (grown (length l.yielded) l.number c.byte.result l.invariant.width (small here.After-byte));
      value = rw (one_more, l.invariant.value, next_is more);
    }

pub returns : goal.returns
returns c =
    let l = c.loop-pair in
    let a = c.args in
    let none = nothing_left l.pair-iterator.rest.now (omega (arith, c.in-None.ensures.steps.1.0, l.invariant.size)) in
    let all : length l.yielded ≡ a.n =
    omega (arith, l.invariant.within, ap length (sym none ∙ l.invariant.left), length-drop (length l.yielded) (bytes a.text.now a.at a.n), length_unhexed_part a.at a.n a.text.now c.requires.0) in
    (rw all at l.invariant.value, rw all at l.invariant.width)
