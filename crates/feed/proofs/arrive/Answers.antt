-- `feed::arrive` meets its contract: what receive answers fits the payload and the line. Assumes nothing.
use Rattle.std.proofs.Common.{sym, ap, ◌-◌, ◌≤◌, arith, length, length-take-le}
use Rattle.answers.specs.declared.Answer.{Answer}
use Rattle.format.specs.Header.{least_message}
use Rattle.feed.specs.Report.{blank}
use Rattle.gateway.proofs.Cascade.{received_brief}
use Rattle.feed.proofs.Turns.{arrival_told}
use Rattle.feed.proofs.arrive.Goals.{After-receive-answer}
use Rattle.feed.proofs.arrive.Goals as goal

-- what is known of the answer's length
known : (c : After-receive-answer) → let q = c.receive-answer.result in (q.length ≤ length c.args.message.now - least_message) × (q.length ≤ length c.receive-answer.new.out)
known c =
    let a = c.args in
    let brief = received_brief a.table.now a.message.now a.source.now blank in
    let is = c.receive-answer.ensures.answers in
    (rw is brief.short, omega (arith, ap (λ (r : Answer). r.length) is, brief.fits, c.receive-answer.auto.out))

pub slice_bounds-payload-end : goal.slice_bounds-payload-end
slice_bounds-payload-end c = (known (goal.at.slice_bounds-payload-end c).After-receive-answer).1

pub slice_bounds-write_line-end : goal.slice_bounds-write_line-end
slice_bounds-write_line-end c =
    sym (length-take-le c.receive-answer.result.length _ (known (goal.at.slice_bounds-write_line-end c).After-receive-answer).1)

pub write_line-requires : goal.write_line-requires
write_line-requires c =
    let k = known (goal.at.write_line-requires c).After-receive-answer in
    omega (arith, length-take-le c.receive-answer.result.length c.receive-answer.new.out k.1)

pub returns : goal.returns
returns c = arrival_told c.receive-answer.ensures c.write_line.ensures.value c.write_line.ensures.out_after
