-- `Entry::taken` meets its contract: the damage rule keeps both totals small. Assumes nothing.
use Rattle.std.proofs.Common.{ap, arith, ◌+◌}
use Rattle.window.specs.Window.{View}
use Rattle.window.specs.Entry.{Entry, entry_view}
use Rattle.window.proofs.Entries.{entry_facts, totals_small}
use Rattle.window.proofs.Entry.taken.Goals as goal

pub accept-requires : goal.accept-requires
accept-requires c =
    let p = c.requires in ((entry_facts (entry_view c.args.self.now) p.is_undamaged).window, p.admissible)

pub overflow_add-result : goal.overflow_add-result
overflow_add-result c =
    let e = entry_view c.args.self.now in
    let small = totals_small e (entry_facts e c.requires.is_undamaged) in omega arith

pub overflow_add-result-2 : goal.overflow_add-result-2
overflow_add-result-2 c =
    let e = entry_view c.args.self.now in
    let small = totals_small e (entry_facts e c.requires.is_undamaged) in omega arith

pub returns : goal.returns
returns c =
    let e = entry_view c.args.self.now in
    let with : View → Entry = λ w. record { window = w; accepted = e.accepted + 1; bytes = e.bytes + c.args.payload; counters = e.counters } in
    ap with c.accept.ensures
