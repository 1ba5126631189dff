use Rattle.std.proofs.Common.{◌≡◌, refl, suc, ◌/◌, arith, rules, length, ◌∷◌, [], ◌++◌, length-append, length-drop, ap}
use Rattle.modes.specs.Modes.{chained}
use Rattle.modes.proofs.Blocks.{Chunk, chunk_block, left_after, rest_length}
use Rattle.modes.proofs.cmac.chain.Goals as goal

pub loop-block-init : goal.loop-block-init
unfolding chained
loop-block-init c = record { blocks = search rules; within = search rules; left = search rules; value = refl }

pub loop-block-preserved : goal.loop-block-preserved
unfolding chained
loop-block-preserved c =
    let l = c.loop-block in
    let n = length l.yielded in
    let s = c.in-Some.ensures.steps in
    let cut = s.1.0 in
    let whole : length c.in-Some.block.now ≡ 8 = omega arith in
    let next : Chunk 8 c.args.bytes.now n l.block-iterator.rest.now c.in-Some.block.now c.next.new.self.rest.now =
    record { left = l.invariant.left; cut = cut; size = omega (arith, simp length-append at (ap length cut)) } in
    let one_more : length (l.yielded ++ (c.in-Some.block ∷ [])) ≡ suc n = simp length-append (omega arith) in
    record {
      blocks = omega arith;
      within = rw one_more (omega (arith, rest_length next, simp length-append at (ap length cut)));
      left = rw one_more (left_after next);
      value = rw (one_more, c.encrypt-chain.ensures, l.invariant.value, c.read.ensures.0, chunk_block next (omega arith) whole);
    }

pub returns : goal.returns
returns c =
    let l = c.loop-block in
    let all : length l.yielded ≡ length c.args.bytes.now / 8 = omega (arith, c.in-None.ensures.steps.1.0, rw length-drop at (ap length l.invariant.left)) in
    rw all at l.invariant.value
