-- An entry that agrees with what was counted since a beginning goes on to agree, whether it takes a message or not; and what is counted is
-- what the demand's sentence says.
-- Assumes nothing.
use mathlib.Core.Path.{◌≡◌, refl, sym, ap, subst, ◌∙◌}
use mathlib.Core.Bool.{Bool, true, false, false≢true, cond, not, ◌&&◌, ◌||◌, or_assoc, or-true}
use mathlib.Core.List.{List, [], ◌∷◌}
use Prim.Native.Nat.{ℕ, ◌+◌, ◌^◌, ◌≤◌, ◌<◌}
use native.Mathlib.Omega.{arith}
use borrow.Author.Tests.{ltb-false}
use lib.Dec.{eqb, ltb}
use lib.ListN.{length}
use Rattle.numbers.proofs.Tests.{neither_left, neither_right}
use Rattle.answers.specs.Answers.{output_room}
use Rattle.format.specs.Header.{seq_num_in, read_of, payload_length}
use Rattle.format.specs.Suite.{number_of}
use Rattle.format.specs.declared.header.Header.{Header}
use Rattle.format.proofs.Room.{read_room}
use Rattle.message.specs.Sealing.{right}
use Rattle.window.specs.Window.{floor_of, marked, judge, verdict_of}
use Rattle.window.specs.declared.Counters.{Counters}
use Rattle.window.specs.Entry.{Entry, taken, counting, longest_payload}
use Rattle.window.specs.declared.Verdict.TheVariants.{Admissible}
use Rattle.window.proofs.Accept.{Takes, accept_marked, accept_rises}
use Rattle.window.proofs.Entries.{UndamagedEntry, taken_undamaged}
use Rattle.window.proofs.Undamaged.{undamaged_facts, takes}
use Rattle.promises.specs.Calls.{Call, arrival, install, remove, change, load}
use Rattle.promises.specs.Counted.{Beginning, Message, Told, apart, below, used, forged, new, messages, numbers, is_in, counters_since, highest_since, is_below, is_used, is_of, tested, told_of, told, told_from, is_genuine, is_counted, is_new}
use Rattle.promises.specs.History.{nothing, one, noted, counted_of, counters_by, different, total}
use Rattle.std.specs.Prelude.{Err, Ok, Result}
use Rattle.format.specs.declared.header.HeaderError.{HeaderError}

pub record Agrees (b : Beginning) (e : Entry) (past : List Told) : Type 0 where
  pub framed : e.window.frame ≡ b.frame
  pub high : e.window.highest ≡ highest_since b past
  pub marks : (j : ℕ) → floor_of e.window ≤ j → marked e.window j ≡ is_used b past j
  pub once : different (numbers past) ≡ numbers past
  pub number : e.accepted ≡ b.accepted + length (messages past)
  pub sum : e.bytes ≡ b.bytes + total (messages past)
  pub counters : e.counters ≡ counters_since b past
  pub unharmed : UndamagedEntry e

-- what is counted of a call is added to what was counted
pub grown : (w : Told) (past : List Told) → noted (messages past) (counted_of w) ≡ messages (w ∷ past)
grown apart past = refl
grown below past = refl
grown used past = refl
grown forged past = refl
grown (new x) past = refl

pub counters_alike : {r s f g : ℕ} → r ≡ s → f ≡ g → ◌≡◌ {A = Counters} (record { replays = r; forged = f }) (record { replays = s; forged = g })
counters_alike p q = rw (p, q)

-- one call more moves the counters by what is told of it
counters_grow : (b : Beginning) (past : List Told) (w : Told) → counters_by w (counters_since b past) ≡ counters_since b (w ∷ past)
counters_grow b past apart = counters_alike (omega arith) (omega arith)
counters_grow b past below = counters_alike (omega arith) (omega arith)
counters_grow b past used = counters_alike (omega arith) (omega arith)
counters_grow b past forged = counters_alike (omega arith) (omega arith)
counters_grow b past (new x) = counters_alike (omega arith) (omega arith)

module _ {b : Beginning} {e : Entry} {past : List Told} (a : Agrees b e past) where
  -- the window's verdict on a number is what the counted numbers and the beginning say of it
  pub verdict_agrees : (n : ℕ) → verdict_of e.window n ≡ judge (is_below b past n) (is_used b past n)
  verdict_agrees n = by (ltb n (floor_of e.window)) refl ∙ rw (a.framed, a.high)
    where
      by : (x : Bool) → ltb n (floor_of e.window) ≡ x → judge x (marked e.window n) ≡ judge x (is_used b past n)
      by true q = refl
      by false q = ap (judge false) (a.marks n (ltb-false n (floor_of e.window) q))

  -- what is not counted moves nothing but counters
  pub still_agrees : (w : Told) → counted_of w ≡ nothing → Agrees b (counting e (counters_by w e.counters)) (w ∷ past)
  still_agrees w none =
      let same : messages (w ∷ past) ≡ messages past = sym (grown w past) ∙ rw none in
      let counters : counters_by w e.counters ≡ counters_since b (w ∷ past) = ap (counters_by w) a.counters ∙ counters_grow b past w in
      record {
        framed = a.framed;
        high = rw same a.high;
        marks = λ j h. rw same (a.marks j h);
        once = rw same a.once;
        number = rw same a.number;
        sum = rw same a.sum;
        counters = counters;
        unharmed = record {
          window = a.unharmed.window;
          enough = a.unharmed.enough;
          few = a.unharmed.few;
          light = a.unharmed.light;
          few_replays = omega (arith, ap (λ (c : Counters). c.replays) counters);
          few_forged = omega (arith, ap (λ (c : Counters). c.forged) counters);
        };
      }

  pub taken_agrees : (x : Message) → verdict_of e.window x.number ≡ Admissible → x.number < 2 ^ 48 → x.payload ≤ longest_payload
      → Agrees b (taken e x.number x.payload) (new x ∷ past)
  taken_agrees x v small short =
      let n : ℕ = x.number in
      let t : Takes e.window n = takes n (undamaged_facts e.window a.unharmed.window) v in
      let unused : is_used b past n ≡ false = sym (a.marks n t.reached) ∙ t.unused in record {
        framed = a.framed;
        high = omega (arith, a.high);
        marks =
            λ j h.
            accept_marked t j h ∙ ap (λ (y : Bool). eqb j n || y) (a.marks j (omega (arith, accept_rises e.window n)))
            ∙ sym (or_assoc (eqb j n) (is_in j (numbers past)) _);
        once = rw (neither_left (is_in n (numbers past)) _ unused, a.once);
        number = omega (arith, a.number);
        sum = omega (arith, a.sum);
        counters = a.counters ∙ counters_grow b past (new x);
        unharmed = taken_undamaged e n x.payload a.unharmed v small short;
      }

-- what was counted stays counted
pub stays_in : (b : Beginning) (n : ℕ) (past : List Told) → is_in n (numbers past) ≡ true → (cs : List Call) → is_in n (numbers (told_from b past cs)) ≡ true
stays_in b n past p [] = p
stays_in b n past p (c ∷ cs) = stays_in b n (told b past c ∷ past) (by (told b past c)) cs
  where
    by : (w : Told) → is_in n (numbers (w ∷ past)) ≡ true
    by apart = p
    by below = p
    by used = p
    by forged = p
    by (new x) = rw p (or-true (eqb n x.number))

-- ---- the demand's sentence

by_words : (mine low met icv short : Bool) (x : Message)
    → is_new (cond short apart (cond mine (tested low met icv x) apart)) ≡ (mine && icv && not short && not low && not met)
by_words false low met icv true x = refl
by_words false low met icv false x = refl
by_words true low met true true x = refl
by_words true low met false true x = refl
by_words true true met true false x = refl
by_words true true met false false x = refl
by_words true false true true false x = refl
by_words true false true false false x = refl
by_words true false false true false x = refl
by_words true false false false false x = refl

not_read : (short : Bool) → is_new (cond short apart apart) ≡ false
not_read true = refl
not_read false = refl

module _ (b : Beginning) (past : List Told) where
  -- What is counted of a call is what the demand says.
  pub counted_words : (c : Call) → is_new (told b past c) ≡ is_counted b past c
  counted_words (arrival message source out) = by (read_of message) refl
    where
      short : Bool
      short = ltb (length out) output_room

      by : (p : Result Header HeaderError) → read_of message ≡ p
          → is_new (cond short apart (told_of b past p message source))
          ≡ (is_genuine b.keys p message source && not short && not (is_below b past (seq_num_in message)) && not (is_used b past (seq_num_in message)))
      by (Ok h) e =
          let k = b.keys in
          rw (← (read_room message e).number)
          (by_words (is_of k h message source && eqb k.suite (number_of h.suite)) (is_below b past h.seqnum) (is_used b past h.seqnum)
          (right h k message) short (record { number = h.seqnum; payload = payload_length h message }))
      by (Err why) e = not_read short
  counted_words (install k f) = refl
  counted_words (remove i) = refl
  counted_words (change i k f) = refl
  counted_words (load text) = refl

  -- A counted message's number was not below the floor, and neither counted nor used before.
  pub record New (n : ℕ) : Type 0 where
    pub reached : is_below b past n ≡ false
    pub uncounted : is_in n (numbers past) ≡ false
    pub unused : b.used n ≡ false

  pub counted_new : (c : Call) (y : Message) → told b past c ≡ new y → New y.number
  counted_new (arrival message source out) y e = by_room (ltb (length out) output_room) (read_of message) e
    where
      by_tests : (low met icv : Bool) (x : Message) → is_below b past x.number ≡ low → is_used b past x.number ≡ met → tested low met icv x ≡ new y → New y.number
      by_tests true met icv x p q e = absurd (false≢true (ap is_new e))
      by_tests false true icv x p q e = absurd (false≢true (ap is_new e))
      by_tests false false false x p q e = absurd (false≢true (ap is_new e))
      by_tests false false true x p q e =
          let same : x ≡ y = cc in
          subst (λ (z : Message). New z.number) same
          (record { reached = p; uncounted = neither_left (is_in x.number (numbers past)) _ q; unused = neither_right (is_in x.number (numbers past)) _ q })

      told_by_name : (mine : Bool) (h : Header) (x : Message) → x.number ≡ h.seqnum
          → cond mine (tested (is_below b past h.seqnum) (is_used b past h.seqnum) (right h b.keys message) x) apart ≡ new y → New y.number
      told_by_name true h x n e =
          by_tests (is_below b past h.seqnum) (is_used b past h.seqnum) (right h b.keys message) x (rw n) (rw n) e
      told_by_name false h x n e = absurd (false≢true (ap is_new e))

      by_room : (short : Bool) (p : Result Header HeaderError) → cond short apart (told_of b past p message source) ≡ new y → New y.number
      by_room true p e = absurd (false≢true (ap is_new e))
      by_room false (Ok h) e = told_by_name (is_of b.keys h message source && eqb b.keys.suite (number_of h.suite)) h (record { number = h.seqnum; payload = payload_length h message }) refl e
      by_room false (Err why) e = absurd (false≢true (ap is_new e))
  counted_new (install k f) y e = absurd (false≢true (ap is_new e))
  counted_new (remove i) y e = absurd (false≢true (ap is_new e))
  counted_new (change i k f) y e = absurd (false≢true (ap is_new e))
  counted_new (load text) y e = absurd (false≢true (ap is_new e))

-- what is handed out tells what was told
pub counted_told : (w : Told) (y : Message) → counted_of w ≡ one y → w ≡ new y
counted_told apart y e = cc
counted_told below y e = cc
counted_told used y e = cc
counted_told forged y e = cc
counted_told (new x) y e = cc
