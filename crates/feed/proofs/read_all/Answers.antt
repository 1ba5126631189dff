use Rattle.std.proofs.Common.{arith}
use Rattle.feed.proofs.Reading.{begins, all_done, passes, may_take, takes}
use Rattle.feed.proofs.read_all.Goals as goal

pub loop-at-init : goal.loop-at-init
loop-at-init c = let a = c.args in begins a.order a.file.now a.table.now a.out.now

pub overflow_add-records : goal.overflow_add-records
overflow_add-records c = omega (arith, (c.loop-at.invariant.room (omega arith)).1)

pub take-end-requires : goal.take-end-requires
take-end-requires c =
    let may = let a = c.args in
    may_take a.order a.file.now a.table.now a.out.now c.requires.1 c.requires.2 c.loop-at.invariant (omega arith)
    c.ordered_at-found.ensures in
    record { record_in_file = may.0; room = may.1 }

pub loop-at-smaller : goal.loop-at-smaller
loop-at-smaller c =
    let a = c.args in
    let on = passes a.order a.file.now a.table.now a.out.now c.requires.1 c.requires.2
    c.loop-at.invariant (omega arith) c.ordered_at-found.ensures in
    omega arith

pub loop-at-preserved : goal.loop-at-preserved
loop-at-preserved c =
    let a = c.args in
    rw c.number.ensures
    (takes a.order a.file.now a.table.now a.out.now c.requires.1 c.requires.2
    c.loop-at.invariant (omega arith) c.ordered_at-found.ensures
    c.take-end.ensures)

pub shape_of-out : goal.shape_of-out
shape_of-out c = c.loop-at.invariant.same

pub returns : goal.returns
returns c =
    let a = c.args in
    all_done a.order a.file.now a.table.now a.out.now c.requires.1 c.requires.2 c.loop-at.invariant (omega arith)
