-- Each refusal by its own test, and a file with an order has a size that is read. Assumes nothing.
use Rattle.std.proofs.Common.{refl, arith}
use Rattle.capture.proofs.Orders.{known_size}
use Rattle.feed.proofs.Reports.{little_room, no_capture, all_read}
use Rattle.feed.proofs.report_in.Goals as goal

pub returns-then-out-lt-TEXT : goal.returns-then-out-lt-TEXT
returns-then-out-lt-TEXT c =
    let a = c.args in
    little_room a.table.now a.file.now a.out.now c.if-out-lt-TEXT.true refl

pub returns-in_default : goal.returns-in_default
returns-in_default c =
    let a = c.args in
    no_capture a.table.now a.file.now a.out.now (omega arith) c.in_default.ensures refl

pub read_all-requires : goal.read_all-requires
read_all-requires c =
    let size = known_size c.args.file.now c.in-Some.ensures in
    (size.0, size.1, omega arith)

pub returns : goal.returns
returns c =
    let a = c.args in
    all_read a.table.now a.file.now a.out.now (omega arith) c.in-Some.ensures c.read_all.ensures
