-- Captures (02, No. 1): what a report leaves is what the calls of its file leave, so demand 3 speaks of captures; a file that is read again hands
-- out nothing; and files read in any order book no number twice.
-- Assumes nothing.
use mathlib.Core.Path.{◌≡◌, refl, sym, ap, subst, ◌∙◌}
use mathlib.Core.Bool.{Bool, true, false, cond}
use mathlib.Core.List.{List, [], ◌∷◌, ◌++◌}
use Prim.Native.Nat.{ℕ, zero, suc, ◌-◌, ◌≤◌}
use borrow.Author.Tests.{le-ltb, eqb-true, eqb-false}
use lib.Dec.{eqb, ltb}
use lib.ListN.{length, drop}
use Rattle.numbers.proofs.Tests.{either}
use Rattle.answers.specs.Answers.{bad_capture}
use Rattle.octets.specs.Octets.{Bytes, part}
use Rattle.octets.proofs.BigEndian.{bytes_drop, bytes_take}
use Rattle.slots.specs.Table.{table_length}
use Rattle.gateway.specs.Receive.{Received, received}
use Rattle.std.specs.Prelude.{Option, Some, None, is_some}
use Rattle.capture.specs.Capture.{Item, order_of, header_length, item_of, ordered_at, records_in, records_by, records_of}
use Rattle.capture.specs.declared.order.Order.{Order}
use Rattle.feed.specs.Report.{Turn, blank, brought_by, turn_of, table_after, text_room, IsReported, refused, read_in, reported}
use Rattle.feed.specs.declared.Summary.{Summary}
use Rattle.feed.proofs.Turns.{turn_arrival, turn_nothing, turn_silent}
use Rattle.promises.specs.Calls.{Call, arrival, install, remove, change, load, AllOfBytes, run, results, Trace, last_of}
use Rattle.promises.specs.Captures.{calls_of, calls_in, AllArrive, NothingHanded, AllRefused, BooksOnce}
use Rattle.promises.specs.Counted.{Beginning, told_by, counted}
use Rattle.promises.specs.History.{Begins, handed_by, TableButCounters, Accounts}
use Rattle.promises.proofs.Arrivals.{arrivals_go_on, arrivals_append, nothing_again, nothing_moves, books_once}
use Rattle.promises.proofs.History.{history, all_handed}
use Rattle.promises.proofs.Runs.{run_long, run_append}
use Rattle.promises.proofs.Traces.{trace_run, results_trace, trace_append, last_append}

-- ---- the calls of a file

-- the table after some records is the table after their calls
calls_run : (t : List ℕ) (rs : List Item) → table_after t rs ≡ run t (calls_of rs)
unfolding turn_of
calls_run t [] = refl
calls_run t (r ∷ rs) = by (eqb r.reply 0) (calls_run (received t r.message r.source blank).table rs) (calls_run t rs)
  where
    by : (readable : Bool) → table_after (received t r.message r.source blank).table rs ≡ run (received t r.message r.source blank).table (calls_of rs)
        → table_after t rs ≡ run t (calls_of rs)
        → table_after (cond readable (brought_by (received t r.message r.source blank)) (record { reply = r.reply; payload = []; table = t })).table rs
        ≡ run t (cond readable (arrival r.message r.source blank ∷ calls_of rs) (calls_of rs))
    by true p q = p
    by false p q = q

module _ (file : List ℕ) (bytes : Bytes file) where
  records_arrive : (n : ℕ) (o : Order) (at : ℕ) → AllArrive (calls_of (records_in n o file at))
  unfolding records_in
  records_arrive zero o at = tt
  records_arrive (suc n) o at =
      let r = ordered_at o file at in
      let message = part r.message (r.next - r.message) file in
      let rest = records_arrive n o r.next in
      either (λ (rs : List Item). AllArrive (calls_of rs)) (ltb at (length file)) (item_of file r ∷ records_in n o file r.next) []
      (λ _. either AllArrive (eqb r.reply 0) (arrival message (part r.source (r.message - r.source) file) blank ∷ calls_of (records_in n o file r.next)) _
      (λ _. (bytes_take (r.next - r.message) (drop r.message file) (bytes_drop r.message file bytes), rest)) (λ _. rest))
      (λ _. tt)

  pub calls_arrive : AllArrive (calls_in file)
  calls_arrive = by (order_of file)
    where
      by : (o : Option Order) → AllArrive (calls_of (records_by o file))
      by (Some o) = records_arrive (length file) o header_length
      by None = tt

-- With room for its text, a report leaves the table that the calls of its file leave; where the header is bad there are none.
pub reported_run : (t file out : List ℕ) → text_room ≤ length out → (reported t file out).table ≡ run t (calls_in file)
unfolding reported read_in
reported_run t file out room = rw (le-ltb (length out) text_room room) (by (order_of file))
  where
    by : (o : Option Order) → (cond (is_some o) (read_in (records_by o file) t out) (record { answer = refused bad_capture; table = t; out = out })).table
        ≡ run t (calls_of (records_by o file))
    by (Some o) = calls_run t (records_by (Some o) file)
    by None = refl

-- where the calls of some records hand out nothing, no line of theirs has a payload
lines_refused : (t : List ℕ) (rs : List Item) → NothingHanded (results t (calls_of rs)) → AllRefused t rs
lines_refused t [] none = tt
lines_refused t (r ∷ rs) none = by (eqb r.reply 0) refl none (lines_refused q.table rs) (lines_refused t rs)
  where
    q : Received
    q = received t r.message r.source blank

    told : {u : Turn} → u ≡ turn_of t r → (u.reply ≡ 0 → ⊥) → AllRefused u.table rs → AllRefused t (r ∷ rs)
    told e denied rest =
        let refused : (turn_of t r).reply ≡ 0 → ⊥ = λ z. denied (ap (λ (x : Turn). x.reply) e ∙ z) in
        (refused, turn_silent t r refused, subst (λ (x : Turn). AllRefused x.table rs) e rest)

    by : (readable : Bool) → eqb r.reply 0 ≡ readable → NothingHanded (results t (cond readable (arrival r.message r.source blank ∷ calls_of rs) (calls_of rs)))
        → (NothingHanded (results q.table (calls_of rs)) → AllRefused q.table rs) → (NothingHanded (results t (calls_of rs)) → AllRefused t rs) → AllRefused t (r ∷ rs)
    by true p none first second = told (turn_arrival t r (eqb-true r.reply 0 p)) none.0 (first none.1)
    by false p none first second = told (turn_nothing t r (eqb-false r.reply 0 p)) (eqb-false r.reply 0 p) (second none)

-- A report that was made goes into a trace of calls as the calls of its file.
pub report_traced : (t : List ℕ) (cs : List Call) (rs : List Received) → Trace t cs rs → (file out : List ℕ) → text_room ≤ length out → {a : Summary} {now left : List ℕ}
    → IsReported (reported (last_of t rs) file out) a now left → let qs = results (last_of t rs) (calls_in file) in
    Trace t (cs ++ calls_in file) (rs ++ qs) × (last_of t (rs ++ qs) ≡ now)
report_traced t cs rs trace file out room r =
    let last = last_of t rs in
    let qs = results last (calls_in file) in
    let further = results_trace last (calls_in file) in (
      trace_append t cs (calls_in file) rs qs trace further,
      last_append t rs qs ∙ trace_run last (calls_in file) qs further ∙ sym (r.leaves ∙ reported_run last file out room),
    )

arrivals_bytes : (cs : List Call) → AllArrive cs → AllOfBytes cs
arrivals_bytes [] all = tt
arrivals_bytes (arrival m source out ∷ cs) all = (all.0, arrivals_bytes cs all.1)
arrivals_bytes (install k f ∷ cs) all = absurd all.0
arrivals_bytes (remove j ∷ cs) all = absurd all.0
arrivals_bytes (change j k f ∷ cs) all = absurd all.0
arrivals_bytes (load text ∷ cs) all = absurd all.0

-- ---- what an auditor reads off it

-- The history of a slot goes on through a report: exactly the counted messages of the file are handed out, and the totals are those of demand 3.
pub history_captured : {b : Beginning} {i : ℕ} {t : List ℕ} → Begins b i t → (file out : List ℕ) → Bytes file → text_room ≤ length out
    → Accounts b i (reported t file out).table (told_by b (calls_in file)) × (handed_by i [] (calls_in file) (results t (calls_in file)) ≡ counted b (calls_in file))
history_captured {b} {i} {t} begins file out bytes room =
    let goes = arrivals_go_on i t (calls_in file) (calls_arrive file bytes) in
    (rw (reported_run t file out room) (history begins (calls_in file) goes), all_handed begins (calls_in file) goes)

module _ (t : List ℕ) (long : length t ≡ table_length) where
  -- The same file read a second time, whatever arrivals came between, hands out nothing, on any table: no line of it has a payload, and the
  -- table is left as it was found but for counters of refused arrivals.
  pub read_twice : (file out : List ℕ) → Bytes file → text_room ≤ length out → (others : List Call) → AllArrive others → let then = run (reported t file out).table others in
      NothingHanded (results then (calls_in file)) × AllRefused then (records_of file) × ((other : List ℕ) → text_room ≤ length other → TableButCounters then (reported then file other).table)
  read_twice file out bytes room others between =
      let all = calls_arrive file bytes in
      let found = run (run t (calls_in file)) others in
      let none = nothing_again t long (calls_in file) others all between in
      let first = run_long t long (calls_in file) (arrivals_bytes (calls_in file) all) in
      let whole = run_long (run t (calls_in file)) first others (arrivals_bytes others between) in
      rw (reported_run t file out room)
      (none, lines_refused found (records_of file) none, λ other enough. rw (reported_run found file other enough) (nothing_moves found whole (calls_in file) all none))

  -- Two files, read one after the other, are the calls of both, and these book no number twice. That holds of any two files, so in either order.
  pub two_files : (first second out other : List ℕ) → Bytes first → Bytes second → text_room ≤ length out → text_room ≤ length other
      → ((reported (reported t first out).table second other).table ≡ run t (calls_in first ++ calls_in second))
      × BooksOnce (results t (calls_in first ++ calls_in second)) × BooksOnce (results t (calls_in second ++ calls_in first))
  two_files first second out other a b room enough =
      let p = calls_arrive first a in
      let q = calls_arrive second b in (
        rw (reported_run t first out room) (reported_run (run t (calls_in first)) second other enough ∙ sym (run_append t (calls_in first) (calls_in second))),
        books_once t long (calls_in first ++ calls_in second) (arrivals_append (calls_in first) (calls_in second) p q),
        books_once t long (calls_in second ++ calls_in first) (arrivals_append (calls_in second) (calls_in first) q p),
      )
