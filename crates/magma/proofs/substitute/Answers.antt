use Rattle.std.proofs.Common.{◌≡◌, ◌+◌, ◌*◌, ◌%◌, ◌^◌, add-one, arith, rules, refl}
use Rattle.magma.specs.Magma.{nibble_for, substituted}
use Rattle.magma.proofs.Substitution.{one_further, substituted_word}
use Rattle.magma.proofs.substitute.Goals.{After-from}
use Rattle.magma.proofs.substitute.Goals as goal

pub loop-row-init : goal.loop-row-init
unfolding substituted
loop-row-init c = refl

-- what the turn adds makes it the substitution by one row more
added : (c : After-from) → c.loop-row.done + c.from.result * 2 ^ (4 * c.loop-row.row) % 2 ^ 32 ≡ substituted (c.loop-row.row + 1) c.args.x
unfolding nibble_for
added c =
    let l = c.loop-row in
    rw (c.from.ensures, c.args.rows.now.standard, l.invariant, add-one) (one_further l.row c.args.x (search rules))

pub overflow_add-done : goal.overflow_add-done
overflow_add-done c = record { fits = omega (arith, added (goal.at.overflow_add-done c).After-from, substituted_word (c.loop-row.row + 1) c.args.x (omega arith)) }

pub loop-row-preserved : goal.loop-row-preserved
loop-row-preserved c = added (goal.at.loop-row-preserved c).After-from
