use Rattle.std.proofs.Common.{refl, sym, ap, ◌∙◌, ◌+◌, arith, List, ℕ, drop, length-drop}
use lib.Seq.{take_all}
use Rattle.text.specs.Reading.{got}
use Rattle.text.proofs.ReadDecimals.{ends, stops, goes, past}
use Rattle.text.proofs.reading.digits.Goals as goal

pub loop-i-init : goal.loop-i-init
loop-i-init c = refl

pub returns-then-c-eq-LINE_FEED : goal.returns-then-c-eq-LINE_FEED
returns-then-c-eq-LINE_FEED c =
    let l = c.loop-i in
    let text = c.args.text.now in
    ap (λ (m : List ℕ). got l.number m) (take_all _ (drop (l.i + 1) text) (omega (arith, length-drop (l.i + 1) text)))
    ∙ sym (l.invariant ∙ ends text l.number l.i c.loop-i-test.true c.if-c-eq-LINE_FEED.true)

pub returns-in_err-number : goal.returns-in_err-number
returns-in_err-number c =
    let l = c.loop-i in
    rw c.from_residual.ensures (sym (l.invariant ∙ stops c.args.text.now l.number l.i c.loop-i-test.true c.if-c-eq-LINE_FEED.false c.in_err-number.ensures))

pub loop-i-preserved : goal.loop-i-preserved
loop-i-preserved c =
    let l = c.loop-i in
    l.invariant ∙ goes c.args.text.now l.number l.i c.loop-i-test.true c.if-c-eq-LINE_FEED.false c.in_ok-number.ensures

pub returns : goal.returns
returns c =
    let l = c.loop-i in
    sym (l.invariant ∙ past c.args.text.now l.number l.i (omega arith))
