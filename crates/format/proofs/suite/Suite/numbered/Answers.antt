-- `format::suite::Suite::numbered` meets its contract: the four numbers by their names, and the others. Assumes nothing.
use Rattle.std.proofs.Common.{arith, ◌≡◌, sym, ap, ◌∙◌, ℕ, ne_eqb}
use Rattle.format.specs.Suite.{number_of, suite_of}
use Rattle.format.specs.declared.suite.Suite.{Suite}
use Rattle.format.specs.declared.suite.Suite.TheVariants.{MagmaCtr, MagmaNull, MagmaCtrLong, MagmaNullLong}
use Rattle.format.proofs.Suites.{number_suite}
use Rattle.format.proofs.suite.Suite.numbered.Goals as goal
use Rattle.std.specs.Prelude.{Some}

found : (s : Suite) {cs : ℕ} → cs ≡ number_of s → Some s ≡ suite_of cs
found s e = sym (ap suite_of e ∙ number_suite s)

pub returns-in-1 : goal.returns-in-1
returns-in-1 c = found MagmaCtr c.in-1.is

pub returns-in-2 : goal.returns-in-2
returns-in-2 c = found MagmaNull c.in-2.is

pub returns-in-241 : goal.returns-in-241
returns-in-241 c = found MagmaCtrLong c.in-241.is

pub returns-in-242 : goal.returns-in-242
returns-in-242 c = found MagmaNullLong c.in-242.is

pub returns-in_default : goal.returns-in_default
unfolding suite_of
returns-in_default c =
    simp (ne_eqb c.args.cs 1 (omega arith), ne_eqb c.args.cs 2 (omega arith), ne_eqb c.args.cs 241 (omega arith), ne_eqb c.args.cs 242 (omega arith))
