-- `format::header::read_header` meets its contract: each answer by the test that led there, and the places by the KeyId's length, at most 128.
-- Assumes nothing.
use Rattle.std.proofs.Common.{sym, ◌∙◌, ◌≤◌, arith}
use Rattle.format.proofs.Headers.{Begun, reads_short, reads_long, reads_version, reads_suite, reads_too_short, reads}
use Rattle.format.proofs.KeyIds.{length_most}
use Rattle.format.proofs.Suites.{icv_most}
use Rattle.format.proofs.header.read_header.Goals.{After-length-at, then-message-lt-LEAST-via-then-message-lt-LEAST, then-message-lt-LEAST-via-else-message-lt-LEAST+then-message-gt-GREATEST}
use Rattle.format.proofs.header.read_header.Goals as goal

pub returns-then-message-lt-LEAST : goal.returns-then-message-lt-LEAST
returns-then-message-lt-LEAST c =
    elim c.then-message-lt-LEAST.branch [
      | then-message-lt-LEAST-via-then-message-lt-LEAST w ↦ reads_short _ w.if-message-lt-LEAST.true
      | then-message-lt-LEAST-via-else-message-lt-LEAST+then-message-gt-GREATEST w ↦ reads_long _ w.if-message-gt-GREATEST.true
    ]

pub returns-then-front-ne0 : goal.returns-then-front-ne0
returns-then-front-ne0 c =
    reads_version _ (omega arith) (omega arith) _ c.read-front.ensures.0 c.if-front-ne0.true

pub returns-in_default : goal.returns-in_default
returns-in_default c =
    reads_suite _ (omega arith) (omega arith) _ c.read-front.ensures.0 c.if-front-ne0.false (sym c.in_default.is ∙ c.numbered.ensures)

small : (c : After-length-at) → c.length-at.result ≤ 128
small c =
    rw (c.length-at.ensures, c.starting-keyid.ensures) (length_most _ 3 (omega arith))

pub overflow_add-at : goal.overflow_add-at
overflow_add-at c = omega (arith, small c)

pub overflow_add-at-2 : goal.overflow_add-at-2
overflow_add-at-2 c = omega (arith, small c)

pub overflow_add-at-3 : goal.overflow_add-at-3
overflow_add-at-3 c =
    omega (arith, small (goal.at.overflow_add-at-3 c).After-length-at, c.icv_length.ensures, icv_most c.in-Some.suite)

begun : (c : After-length-at) → Begun c.args.message.now c.read-front.result c.in-Some.suite c.starting-keyid.result c.length-at.result
begun c =
    record {
      least = omega arith;
      most = omega arith;
      is = c.read-front.ensures.0;
      version = c.if-front-ne0.false;
      known = sym c.in-Some.is ∙ c.numbered.ensures;
      found = c.starting-keyid.ensures;
      long = c.length-at.ensures;
    }

pub returns-then-message-at : goal.returns-then-message-at
returns-then-message-at c =
    reads_too_short (begun (goal.at.returns-then-message-at c).After-length-at) (rw (← c.icv_length.ensures) c.if-message-at.true)

pub returns : goal.returns
returns c =
    reads (begun (goal.at.returns c).After-length-at) (rw (← c.icv_length.ensures) c.if-message-at.false) _ c.read.ensures.0
