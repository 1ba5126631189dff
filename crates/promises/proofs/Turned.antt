-- What is turned away (02, No. 8), by the answers: an arrival is told as a replay exactly if it is of the entry, with a header that can be read, and is
-- answered 9 or 10, and as a forgery exactly if it is answered 11. So the counters are those of the beginning and how many such answers came back since,
-- "arrivals refused with 9 or 10, and with 11", cut at their limit.
-- Assumes nothing.
use mathlib.Core.Path.{◌≡◌, refl, sym, ap, subst, ◌∙◌}
use mathlib.Core.Bool.{Bool, true, false, and-false, cond, ◌&&◌}
use mathlib.Core.List.{List, [], ◌∷◌}
use Prim.Native.Nat.{ℕ, ◌+◌}
use native.Mathlib.Omega.{arith}
use borrow.Author.Tests.{ltb-false, ltb-true}
use lib.Dec.{ltb}
use lib.ListN.{length}
use Rattle.answers.specs.Answers.{output_room, output_small}
use Rattle.octets.specs.Octets.{Bytes}
use Rattle.format.specs.Header.{read_of}
use Rattle.gateway.specs.Receive.{Received}
use Rattle.gateway.proofs.Arrivals.{short_output}
use Rattle.promises.specs.Calls.{Call, arrival, install, remove, change, load, OfBytes, called, after, run, results, Trace, last_of}
use Rattle.promises.specs.Counted.{Beginning, Told, apart, below, used, forged, new, is_replay, is_forgery, how_many, is_of, told_of, told, told_from}
use Rattle.promises.specs.Histories.{CountersBy}
use Rattle.promises.specs.History.{Begins, GoesOn, Unended, reply_to, is_mine, is_answered, answered_in, nine_or_ten, eleven}
use Rattle.promises.proofs.History.{history}
use Rattle.promises.proofs.Runs.{begun}
use Rattle.promises.proofs.Steps.{Stands, replied, step}
use Rattle.promises.proofs.Traces.{trace_results, trace_run}
use Rattle.std.specs.Prelude.{Err, Ok, Result}
use Rattle.format.specs.declared.header.HeaderError.{HeaderError}
use Rattle.format.specs.declared.header.Header.{Header}

-- a test of what is told, and one of the reply that says the same: no arrival without room passes, nor one that is nothing to the entry
record SaidBy (is : Told → Bool) (test : ℕ → Bool) : Type 0 where
  none : is apart ≡ false
  small : test output_small ≡ false
  says : (w : Told) → is w ≡ test (reply_to w)

module _ {is : Told → Bool} {test : ℕ → Bool} (said : SaidBy is test) {b : Beginning} {i : ℕ} where
  module _ {t : List ℕ} {past : List Told} (now : Stands b i t past) (message source out : List ℕ) (bytes : Bytes message) where
    abbrev reply : ℕ
    reply = (called t (arrival message source out)).answer.reply

    by_answer : is (told b past (arrival message source out)) ≡ (is_mine b.keys (read_of message) message source && test reply)
    by_answer = by (ltb (length out) output_room) refl
      where
        mine : Bool
        mine = is_mine b.keys (read_of message) message source

        read : (p : Result Header HeaderError) → read_of message ≡ p → ltb (length out) output_room ≡ false
            → is (told_of b past p message source) ≡ (is_mine b.keys p message source && test reply)
        read (Ok h) e room = at (is_of b.keys h message source) refl
          where
            at : (x : Bool) → is_of b.keys h message source ≡ x → is (told_of b past (Ok h) message source) ≡ (is_of b.keys h message source && test reply)
            at true m =
                let r = replied now message source out bytes (ltb-false (length out) output_room room) h e m in
                let same : reply ≡ reply_to (told_of b past (Ok h) message source) = r ∙ rw (room, e) in
                said.says (told_of b past (Ok h) message source) ∙ ap test (sym same) ∙ sym (ap (λ (y : Bool). y && test reply) m)
            at false m = rw m said.none
        read (Err why) e room = said.none

        by : (short : Bool) → ltb (length out) output_room ≡ short → is (cond short apart (told_of b past (read_of message) message source)) ≡ (mine && test reply)
        by true e =
            let r : reply ≡ output_small = sym (ap (λ (x : Received). x.answer.reply) (short_output t message source out (ltb-true (length out) output_room e))) in
            said.none ∙ sym (rw (r, said.small) (and-false mine))
        by false e = read (read_of message) refl e

  -- of any call
  answered_told : {t : List ℕ} {past : List Told} → Stands b i t past → (c : Call) → OfBytes c → is (told b past c) ≡ is_answered b.keys test c (called t c).answer
  answered_told now (arrival message source out) bytes = by_answer now message source out bytes
  answered_told now (install k f) bytes = said.none
  answered_told now (remove j) bytes = said.none
  answered_told now (change j k f) bytes = said.none
  answered_told now (load text) bytes = said.none

  -- and of several
  answered_on : {t : List ℕ} {past : List Told} → Stands b i t past → (cs : List Call) → GoesOn i t cs
      → how_many is (told_from b past cs) ≡ how_many is past + answered_in b.keys test cs (results t cs)
  answered_on now [] goes = omega arith
  answered_on {t} {past} now (c ∷ cs) goes =
      let rest = answered_on {t = after t c} (step now c goes.0 goes.1).stands cs goes.2 in
      let first : ◌≡◌ {A = ℕ} (cond (is (told b past c)) 1 0) (cond (is_answered b.keys test c (called t c).answer) 1 0) = ap (λ (x : Bool). cond x 1 0) (answered_told now c goes.0) in
      omega (arith, rest, first)

replays_said : SaidBy is_replay nine_or_ten
replays_said = record { none = refl; small = refl; says = says }
  where
    says : (w : Told) → is_replay w ≡ nine_or_ten (reply_to w)
    says apart = refl
    says below = refl
    says used = refl
    says forged = refl
    says (new x) = refl

just_eleven : SaidBy is_forgery eleven
just_eleven = record { none = refl; small = refl; says = says }
  where
    says : (w : Told) → is_forgery w ≡ eleven (reply_to w)
    says apart = refl
    says below = refl
    says used = refl
    says forged = refl
    says (new x) = refl

pub counters_answered : {b : Beginning} {i : ℕ} {t : List ℕ} → Begins b i t → (cs : List Call) → GoesOn i t cs → CountersBy b i (run t cs) cs (results t cs)
counters_answered begins cs goes =
    let a = history begins cs goes in
    let r = answered_on replays_said (begun begins) cs goes in
    let f = answered_on just_eleven (begun begins) cs goes in
    (omega (arith, a.replays, r), omega (arith, a.forged, f))

-- The same of calls that were made, by what came back from them.
pub counters_traced : {b : Beginning} {i : ℕ} {t : List ℕ} → Begins b i t → (cs : List Call) (rs : List Received) → Trace t cs rs → Unended i cs rs → CountersBy b i (last_of t rs) cs rs
counters_traced {b} {i} {t} begins cs rs trace unended =
    let same = trace_results t cs rs trace in
    subst (CountersBy b i (last_of t rs) cs) (sym same) (rw (trace_run t cs rs trace) (counters_answered begins cs (subst (Unended i cs) same unended)))
