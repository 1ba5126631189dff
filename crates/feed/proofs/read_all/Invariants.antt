-- `feed::read_all` meets its contract. The loop's invariant: what is left of the file decides what comes out in the end. Assumes nothing.
use Rattle.std.proofs.Common.{◌-◌, length}
use Rattle.feed.proofs.Reading.{Underway}
use Rattle.feed.proofs.read_all.Given as goal

abbrev pub invariant-loop-at : goal.invariant-loop-at
invariant-loop-at l = Underway l.order l.file l.initial.table l.initial.out l.table l.out l.at l.records l.end l.cut

abbrev pub decreases-loop-at : goal.decreases-loop-at
decreases-loop-at l = length l.file - l.at
