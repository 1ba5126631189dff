use Rattle.std.proofs.Common.{◌≡◌, ◌∙◌, ℕ, List, min, ◌+◌, ◌-◌, ◌*◌, ◌^◌, ◌<◌, suc, ap, arith, length, length-drop}
use lib.Seq.{paste}
use Rattle.magma.specs.Magma.{encrypted}
use Rattle.octets.specs.Octets.{part, put}
use Rattle.octets.proofs.Places.{all_put}
use Rattle.modes.specs.Modes.{byte_of, masked, magma_counter}
use Rattle.modes.proofs.Blocks.{Chunk, chunk_is, left_after, rest_length}
use Rattle.modes.proofs.Gamma.{counter_length, written}
use Rattle.modes.proofs.ctr.counter.Goals as goal

pub loop-k-preserved : goal.loop-k-preserved
loop-k-preserved c =
    let l = c.loop-k in
    let a = c.args in
    let xs = a.bytes.now in
    let E = encrypted a.key.now in
    let new = magma_counter a.key.now a.iv xs in
    let n = l.k-iterator.count in
    let done = 8 * n in
    let s = c.in-Some.ensures.steps in
    let item = c.in-Some.block.now in
    let next : Chunk 8 xs n l.k-iterator.iter.rest.now item c.next.new.self.iter.rest.now =
    record { left = l.invariant.left; cut = s.0.1.0; size = omega arith } in
    let end = min (8 * c.next.new.self.count) (length xs) in
    let begins : done < length xs = omega (arith, rest_length next) in
    let here : min done (length xs) ≡ done = omega arith in
    let long : length item ≡ end - done = omega (arith, rest_length next) in
    let stretch : item ≡ part done (end - done) xs = chunk_is next ∙ ap (λ (i : ℕ). part done i xs) long in
    let up : c.next.new.self.count ≡ suc n = omega arith in
    record {
      blocks = omega arith;
      left = rw up (left_after next);
      value = (rw (s.1, l.invariant.value, here) at c.mask.ensures)
          ∙ ap (λ (u : List ℕ). put (paste a.out.now a.at new done) (a.at + done) (masked (byte_of 8 c.encrypt-gamma.result) 0 u)) stretch
          ∙ written 8 E (a.iv * 2 ^ 32) xs a.out.now a.at n done end c.encrypt-gamma.result (omega arith) (omega arith) (omega arith) (omega arith) (omega arith)
          (c.encrypt-gamma.ensures ∙ ap E (omega arith));
    }

pub returns : goal.returns
returns c =
    let l = c.loop-k in
    let a = c.args in
    let new = magma_counter a.key.now a.iv a.bytes.now in
    all_put a.out.now l.out a.at (min (8 * l.k-iterator.count) (length a.bytes.now)) new l.invariant.value
    (omega (arith, c.in-None.ensures.steps.0.1.0, counter_length 8 (encrypted a.key.now) (a.iv * 2 ^ 32) a.bytes.now, rw length-drop at (ap length l.invariant.left)))
