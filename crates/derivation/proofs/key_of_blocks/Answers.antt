use Rattle.std.proofs.Common.{◌+◌, refl, arith, rules, length-set}
use Rattle.std.proofs.Math.Seq.{set_split}
use Rattle.derivation.specs.Derivation.{block_words}
use Rattle.derivation.proofs.Keys.{one_block, all_blocks}
use Rattle.derivation.proofs.key_of_blocks.Goals as goal

pub loop-k-init : goal.loop-k-init
unfolding block_words
loop-k-init c = record { eight = search rules; rest = refl; stored = refl }

pub loop-k-preserved : goal.loop-k-preserved
loop-k-preserved c =
    let l = c.loop-k in
    let a = c.args in
    let number = a.first + l.k in record {
      eight = simp length-set l.invariant.eight;
      rest = rw (set_split l.bytes 0 number (search rules)) l.invariant.rest;
      stored = one_block _ a.first l.words l.k l.invariant.stored c.from-block.result (omega arith)
          (rw (c.from-block.ensures, c.check_value.ensures, set_split l.bytes 0 number (search rules), l.invariant.rest));
    }

pub returns : goal.returns
returns c =
    let l = c.loop-k in
    all_blocks _ c.args.first l.words l.k l.invariant.stored 4 (omega arith) l.invariant.eight
