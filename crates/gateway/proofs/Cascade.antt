-- What holds of every refusal and of what is handed out holds of any arrival: so an arrival leaves a table as long as it was, and answers no
-- more than its message has.
-- Assumes nothing.
use mathlib.Core.Path.{◌≡◌, refl}
use mathlib.Core.Bool.{Bool, true, false, cond}
use mathlib.Core.List.{List}
use Prim.Native.Nat.{ℕ, ◌-◌, ◌≤◌, ◌<◌}
use native.Mathlib.Omega.{arith}
use borrow.Author.Tests.{ltb-false}
use lib.Dec.{eqb, ltb, lit≤, lit<}
use lib.ListN.{length}
use Rattle.numbers.proofs.Tests.{either}
use Rattle.answers.specs.Answers.{output_room, output_small, bad_length, bad_version, bad_suite, too_short, no_entry, damaged, other_suite, below_floor, repeated, wrong_icv}
use Rattle.window.specs.Window.{verdict_of}
use Rattle.window.specs.declared.Verdict.{Verdict}
use Rattle.window.specs.declared.Verdict.TheVariants.{Below, Marked, Admissible}
use Rattle.format.specs.Header.{read_of, key_id_bytes, payload_length, least_message}
use Rattle.message.specs.Sealing.{right}
use Rattle.format.specs.Suite.{number_of}
use Rattle.format.specs.declared.header.Header.{Header}
use Rattle.format.proofs.KeyIds.{length_least}
use Rattle.format.proofs.Room.{read_room, payload_most}
use Rattle.format.proofs.Suites.{icv_least}
use Rattle.window.specs.Entry.{taken}
use Rattle.lookup.specs.Lookup.{leads_to}
use Rattle.lookup.proofs.Firsts.{leads_small}
use Rattle.slots.proofs.Rewriting.{raised_rewritten, rewritten_length}
use Rattle.slots.proofs.Settled.{settled_rewritten}
use Rattle.gateway.specs.Receive.{Received, received, parsed, led, arrived, judged, checked, unsealed, handed_out, kept, counter_of, turned_away}
use Rattle.slots.specs.Record.{undamaged}
use Rattle.slots.specs.Table.{slot_of, entry_of, cs_of, window_of, table_length, key_data_of}
use Rattle.gateway.proofs.Arrivals.{Led, counter_within}
use Rattle.std.specs.Prelude.{Err, None, Ok, Option, Result, Some}
use Rattle.format.specs.declared.header.HeaderError.{HeaderError}
use Rattle.format.specs.declared.header.HeaderError.TheVariants.{BadLength, BadVersion, BadSuite, TooShort}

module _ (P : Received → Type 0) (t out : List ℕ) where
  -- at a slot
  module _ (i : ℕ) (h : Header) (m : List ℕ) (turned : (n : ℕ) → 9 ≤ n → n ≤ 11 → P (turned_away t i out n)) (done : P (handed_out (payload_length h m) t i h m out)) where
    by_verdict : (v : Verdict) → P (judged v t i h m out)
    unfolding checked
    by_verdict Below = turned below_floor (lit≤ tt) (lit≤ tt)
    by_verdict Marked = turned repeated (lit≤ tt) (lit≤ tt)
    by_verdict Admissible = by_icv (right h (key_data_of (slot_of t i)) m)
      where
        by_icv : (icv : Bool) → P (unsealed (cond icv (Some (payload_length h m)) None) t i h m out)
        by_icv true = done
        by_icv false = turned wrong_icv (lit≤ tt) (lit≤ tt)

    -- that is undamaged
    pub of_undamaged : P (kept t out other_suite)
        → P (cond (eqb (cs_of (slot_of t i)) (number_of h.suite)) (judged (verdict_of (window_of (slot_of t i)) h.seqnum) t i h m out) (kept t out other_suite))
    of_undamaged refused =
        either P (eqb (cs_of (slot_of t i)) (number_of h.suite)) (judged (verdict_of (window_of (slot_of t i)) h.seqnum) t i h m out) (kept t out other_suite)
        (λ _. by_verdict (verdict_of (window_of (slot_of t i)) h.seqnum)) (λ _. refused)

  module _ (refused : (n : ℕ) → 1 ≤ n → n < 9 → P (kept t out n)) where
    -- or not
    pub of_arrived : (i : ℕ) (h : Header) (m : List ℕ) → (undamaged (slot_of t i) ≡ true → (n : ℕ) → 9 ≤ n → n ≤ 11 → P (turned_away t i out n))
        → (undamaged (slot_of t i) ≡ true → P (handed_out (payload_length h m) t i h m out)) → P (arrived t i h m out)
    unfolding arrived
    of_arrived i h m turned done =
        either P (undamaged (slot_of t i)) _ (kept t out damaged) (λ unharmed. of_undamaged i h m (turned unharmed) (done unharmed) (refused other_suite (lit≤ tt) (lit< tt)))
        (λ _. refused damaged (lit≤ tt) (lit< tt))

    module _ (m source : List ℕ)
        (turned : (h : Header) (i : ℕ) → Led t m source out h i → undamaged (slot_of t i) ≡ true → (n : ℕ) → 9 ≤ n → n ≤ 11 → P (turned_away t i out n))
        (done : (h : Header) (i : ℕ) → Led t m source out h i → undamaged (slot_of t i) ≡ true → P (handed_out (payload_length h m) t i h m out)) where
      module _ (room : output_room ≤ length out) where
        of_led : (h : Header) → read_of m ≡ Ok h → (f : Option ℕ) → leads_to t h.flag (key_id_bytes h m) source ≡ f → P (led f t h m out)
        of_led h read None l = refused no_entry (lit≤ tt) (lit< tt)
        of_led h read (Some i) l = let there : Led t m source out h i = record { room = room; read = read; found = l } in of_arrived i h m (turned h i there) (done h i there)

        of_parsed : (p : Result Header HeaderError) → read_of m ≡ p → P (parsed p t m source out)
        of_parsed (Ok h) e = of_led h e (leads_to t h.flag (key_id_bytes h m) source) refl
        of_parsed (Err BadLength) e = refused bad_length (lit≤ tt) (lit< tt)
        of_parsed (Err BadVersion) e = refused bad_version (lit≤ tt) (lit< tt)
        of_parsed (Err BadSuite) e = refused bad_suite (lit≤ tt) (lit< tt)
        of_parsed (Err TooShort) e = refused too_short (lit≤ tt) (lit< tt)

      pub of_received : P (received t m source out)
      unfolding received
      of_received =
          either P (ltb (length out) output_room) (kept t out output_small) _ (λ _. refused output_small (lit≤ tt) (lit< tt))
          (λ room. of_parsed (ltb-false (length out) output_room room) (read_of m) refl)

-- an arrival at an undamaged record is not answered 7
pub record NotSeven (r : Received) : Type 0 where
  pub other : r.answer.reply ≡ 7 → ⊥

pub never_seven : (t : List ℕ) (i : ℕ) (h : Header) (m out : List ℕ) → undamaged (slot_of t i) ≡ true → NotSeven (arrived t i h m out)
unfolding arrived handed_out
never_seven t i h m out unharmed =
    rw unharmed
    (of_undamaged NotSeven t out i h m (λ n least most. record { other = λ z. omega arith }) (record { other = λ z. omega arith }) (record { other = λ z. omega arith }))

-- ---- the table stays as long as it was

record Long (r : Received) : Type 0 where
  is : length r.table ≡ table_length

pub received_length : (t : List ℕ) → length t ≡ table_length → (m source out : List ℕ) → length (received t m source out).table ≡ table_length
unfolding handed_out
received_length t long m source out =
    (of_received Long t out (λ n some small. record { is = long }) m source
    (λ h i l unharmed n least most.
    let small = leads_small t i h.flag (key_id_bytes h m) source l.found in
    let within = counter_within n in
    record { is = rewritten_length t i long small (raised_rewritten t i long small (counter_of n) within.0 within.1) })
    (λ h i l unharmed.
    let small = leads_small t i h.flag (key_id_bytes h m) source l.found in
    record { is = rewritten_length t i long small (settled_rewritten t i (taken (entry_of (slot_of t i)) h.seqnum (payload_length h m)) long small) })
    ).is

-- ---- what is answered

-- a listed reply, and a length that the message has room for behind its shortest header and before its ICV
pub record Brief (m : List ℕ) (r : Received) : Type 0 where
  pub listed : r.answer.reply < 100
  pub short : r.answer.length ≤ length m - least_message
  pub fits : r.answer.length ≤ output_room
  -- a refusal's length is 0
  pub silent : (r.answer.reply ≡ 0 → ⊥) → r.answer.length ≡ 0

pub received_brief : (t m source out : List ℕ) → Brief m (received t m source out)
unfolding handed_out
received_brief t m source out =
    of_received (Brief m) t out (λ n some small. record { listed = omega arith; short = omega arith; fits = omega arith; silent = λ no. refl }) m source
    (λ h i l unharmed n least most. record { listed = omega arith; short = omega arith; fits = omega arith; silent = λ no. refl })
    (λ h i l unharmed.
    let room = read_room m l.read in
    record { listed = lit< tt; short = omega (arith, icv_least h.suite, length_least h.keyid); fits = omega (arith, payload_most room); silent = λ no. absurd (no refl) })
