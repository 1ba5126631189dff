use Rattle.std.proofs.Common.{sym, ap, ◌∙◌, ◌+◌, add-one, arith, List, ℕ, take, drop, length-drop}
use lib.Seq.{take_all}
use Rattle.text.specs.Reading.{got}
use Rattle.text.specs.Found.{unhexed}
use Rattle.text.proofs.ReadHex.{whole, broken, endless, stands_at}
use Rattle.text.proofs.reading.pairs.Goals.{then-c-ne-LINE_FEED-via-then-c-ne-LINE_FEED, then-c-ne-LINE_FEED-via-else-c-ne-LINE_FEED+then-i-ne0}
use Rattle.text.proofs.reading.pairs.Goals as goal

pub loop-i-init : goal.loop-i-init
loop-i-init c = λ k h. absurd (omega arith)

pub returns-then-c-ne-LINE_FEED-clause-found : goal.returns-then-c-ne-LINE_FEED-clause-found
returns-then-c-ne-LINE_FEED-clause-found c =
    let l = c.loop-i in
    broken c.args.text.now l.i c.loop-i-test.true l.invariant (sym c.if-not-is_hex.ensures)
    (elim c.then-c-ne-LINE_FEED.branch [
      | then-c-ne-LINE_FEED-via-then-c-ne-LINE_FEED w ↦ λ e even. w.if-c-ne-LINE_FEED.true e
      | then-c-ne-LINE_FEED-via-else-c-ne-LINE_FEED+then-i-ne0 w ↦ λ e even. w.if-i-ne0.true even
    ])

pub returns-then-not-is_hex-clause-found : goal.returns-then-not-is_hex-clause-found
returns-then-not-is_hex-clause-found c =
    let l = c.loop-i in
    let text = c.args.text.now in
    ap (λ (m : List ℕ). got (unhexed (take l.i text)) m) (take_all _ (drop (l.i + 1) text) (omega (arith, length-drop (l.i + 1) text)))
    ∙ rw (add-one l.i) (whole text l.i c.loop-i-test.true l.invariant c.if-i-ne0.false c.if-c-ne-LINE_FEED.false)

pub returns-then-not-is_hex-clause-stands : goal.returns-then-not-is_hex-clause-stands
returns-then-not-is_hex-clause-stands c = stands_at c.args.text.now c.loop-i.i c.loop-i-test.true c.if-c-ne-LINE_FEED.false

pub returns-clause-found : goal.returns-clause-found
returns-clause-found c = endless c.args.text.now (λ k h. c.loop-i.invariant k (omega arith))
