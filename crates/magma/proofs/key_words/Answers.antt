use Rattle.std.proofs.Common.{◌≡◌, ◌∙◌, refl, sym, add-one, arith, rules, take_all, take-suc-set}
use Rattle.magma.specs.Magma.{words}
use Rattle.magma.proofs.key_words.Goals as goal

pub loop-i-init : goal.loop-i-init
unfolding words
loop-i-init c = record { eight = search rules; passed = refl }

pub loop-i-preserved : goal.loop-i-preserved
unfolding words
loop-i-preserved c =
    let l = c.loop-i in record {
      eight = search rules;
      passed = rw (add-one, take-suc-set l.words l.i _ (omega arith), l.invariant.passed, c.read.ensures.0);
    }

pub returns : goal.returns
returns c =
    let l = c.loop-i in
    let all : l.i ≡ 8 = omega arith in
    sym (take_all 8 l.words (omega arith)) ∙ rw all at l.invariant.passed
