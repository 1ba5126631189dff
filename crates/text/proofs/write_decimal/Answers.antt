use Rattle.std.proofs.Common.{◌∙◌, ap, arith, rules, List, ℕ}
use Rattle.octets.specs.Octets.{put}
use Rattle.text.proofs.Decimals.{more_room, one_made, last_room, all_count, all_taken}
use Rattle.text.proofs.write_decimal.Goals as goal

pub overflow_sub-start : goal.overflow_sub-start
overflow_sub-start c =
    let l = c.loop-left in
    let i = l.invariant in
    more_room c.args.number l.left l.start l.digits i.1 i.0 i.2 (omega arith) c.loop-left-test.true

pub loop-left-preserved : goal.loop-left-preserved
loop-left-preserved c =
    let l = c.loop-left in
    let i = l.invariant in
    (omega arith, search rules, one_made c.args.number l.left l.start l.digits i.1 i.0 i.2 (omega arith) c.loop-left-test.true)

pub overflow_sub-start-2 : goal.overflow_sub-start-2
overflow_sub-start-2 c =
    let l = c.loop-left in
    let i = l.invariant in
    last_room c.args.number l.left l.start l.digits i.1 i.0 i.2 (omega arith)

pub returns : goal.returns
returns c =
    let l = c.loop-left in
    let i = l.invariant in
    let count = all_count c.args.number l.left l.start l.digits i.1 i.0 i.2 c.loop-left-test.false in
    record {
      value = (omega (arith, count), omega arith);
      out_after = c.copy.ensures
          ∙ ap (λ (u : List ℕ). put c.args.out.now c.args.at u) (all_taken c.args.number l.left l.start l.digits i.1 i.0 i.2 c.loop-left-test.false);
    }
