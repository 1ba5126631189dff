-- `feed::take` meets its contract, by the record's reply. Assumes nothing.
use Rattle.std.proofs.Common.{arith, rules}
use Rattle.capture.specs.Capture.{item_of}
use Rattle.feed.proofs.Turns.{turn_arrival, told_same, unread_told}
use Rattle.feed.proofs.take.Goals as goal

pub returns-then-found-ne-DONE : goal.returns-then-found-ne-DONE
returns-then-found-ne-DONE c = search (rules, unread_told)

pub returns : goal.returns
returns c =
    let a = c.args in
    told_same (turn_arrival a.table.now (item_of a.file.now a.found) (omega arith)) c.arrive.ensures
