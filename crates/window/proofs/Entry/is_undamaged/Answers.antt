-- `Entry::is_undamaged` meets its contract: each refusal denies one fact, and where none is denied all hold. Assumes nothing.
use Rattle.std.proofs.Common.{◌≡◌, sym, ◌∙◌, true, arith}
use Rattle.window.specs.Window.{view_of, undamaged_window}
use Rattle.window.proofs.Entries.{floor_small, entry_test, entry_damaged, entry_damaged_window}
use Rattle.window.proofs.Floor.{floor_start}
use Rattle.window.proofs.Entry.is_undamaged.Goals.{Else-not-is_undamaged}
use Rattle.window.proofs.Entry.is_undamaged.Goals as goal

pub returns-then-not-is_undamaged : goal.returns-then-not-is_undamaged
returns-then-not-is_undamaged c = entry_damaged_window _ (sym c.is_undamaged.ensures ∙ c.if-not-is_undamaged.true)

pub returns-then-accepted-count : goal.returns-then-accepted-count
returns-then-accepted-count c = entry_damaged _ (λ w. omega (arith, w.enough))

-- past the first test
undamaged : (c : Else-not-is_undamaged) → undamaged_window (view_of c.args.self.now.window) ≡ true
undamaged c = sym c.is_undamaged.ensures ∙ c.if-not-is_undamaged.false

pub overflow_add-count : goal.overflow_add-count
overflow_add-count c =
    let f = floor_small _ (undamaged (goal.at.overflow_add-count c).Else-not-is_undamaged) in omega arith

pub overflow_sub-count : goal.overflow_sub-count
overflow_sub-count c = let w = c.args.self.now.window in omega (arith, floor_start w.frame w.highest)

pub returns-then-count-floor : goal.returns-then-count-floor
returns-then-count-floor c = entry_damaged _ (λ w. omega (arith, w.few))

pub overflow_mul-accepted : goal.overflow_mul-accepted
overflow_mul-accepted c =
    let f = floor_small _ (undamaged (goal.at.overflow_mul-accepted c).Else-not-is_undamaged) in omega arith

pub returns-then-accepted-self : goal.returns-then-accepted-self
returns-then-accepted-self c = entry_damaged _ (λ w. omega (arith, w.light))

pub returns-then-self-gt-COUNTER_LIMIT : goal.returns-then-self-gt-COUNTER_LIMIT
returns-then-self-gt-COUNTER_LIMIT c = entry_damaged _ (λ w. omega (arith, w.few_replays))

pub returns-then-self-gt-COUNTER_LIMIT-2 : goal.returns-then-self-gt-COUNTER_LIMIT-2
returns-then-self-gt-COUNTER_LIMIT-2 c = entry_damaged _ (λ w. omega (arith, w.few_forged))

pub returns : goal.returns
returns c =
    sym
    (entry_test _
    (record { window = undamaged (goal.at.returns c).Else-not-is_undamaged; enough = omega arith; few = omega arith; light = omega arith; few_replays = omega arith; few_forged = omega arith }))
