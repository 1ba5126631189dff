-- A message is genuine for the entry in slot i exactly if it leads there and none of the tests of replies 2, 3, 4, 5, 6, 8 and 11 fits it.
-- Assumes nothing.
use mathlib.Core.Path.{◌≡◌, refl, sym, ap, ◌∙◌}
use mathlib.Core.Bool.{Bool, true, false, true≢false, cond, not, ◌&&◌, ◌||◌, and-false}
use mathlib.Core.List.{List, [], ◌∷◌}
use Prim.Native.Nat.{ℕ}
use borrow.Author.Tests.{eq-eqb, ne_eqb}
use lib.Dec.{eqb, ltb}
use lib.ListN.{length}
use Rattle.format.specs.KeyData.{KeyData}
use Rattle.format.specs.Suite.{suite_of, number_of}
use Rattle.format.specs.Header.{version_in, cs_in, read_of, key_id_bytes, least_message, greatest_message}
use Rattle.format.specs.declared.header.Header.{Header}
use Rattle.format.proofs.Suites.{suite_number}
use Rattle.message.specs.Sealing.{right}
use Rattle.lookup.specs.Lookup.{leads_to}
use Rattle.slots.specs.Table.{cs_of}
use Rattle.promises.specs.Counted.{is_of, is_genuine}
use Rattle.promises.specs.Replies.{none_of, is_nothing, of_suite, is_short, led_to, slot_in, is_at, right_in, receive_replies}
use Rattle.promises.proofs.Reading.{header_in, said_by_tests}
use Rattle.promises.proofs.Held.{Held, names_facts, names_test, leads_here, leads_named}
use Rattle.std.specs.Prelude.{None, Ok, Option, Some, is_some}

past_four : (a b c d x y : Bool) → cond a false (cond b false (cond c false (cond d false (x && y)))) ≡ ((not a && (not b && (not c && (not d && x)))) && y)
past_four true b c d x y = refl
past_four false true c d x y = refl
past_four false false true d x y = refl
past_four false false false true x y = refl
past_four false false false false x y = refl

not_at : (i : ℕ) (f : Option ℕ) → (f ≡ Some i → ⊥) → is_at i f ≡ false
not_at i None other = refl
not_at i (Some j) other = ne_eqb j i (λ same. other (ap Some same))

module _ {k : KeyData} {i : ℕ} {t : List ℕ} (held : Held k i t) (m source : List ℕ) where
  -- none of the tests of replies 6, 8 and 11 fits, by what was found
  abbrev none_at : Option ℕ → Bool
  none_at f =
      let s = slot_in t f in
      not (is_nothing f) && (not (not (eqb (cs_of s) (cs_in m))) && (not (not (right_in (read_of m) s m)) && true))

  module _ (h : Header) (read : read_of m ≡ Ok h) (suite : number_of h.suite ≡ cs_in m) where
    found : (f : Option ℕ) → leads_to t h.flag (key_id_bytes h m) source ≡ f
        → (is_of k h m source && eqb k.suite (number_of h.suite) && right h k m) ≡ (none_at f && is_at i f)
    found f l = by (is_of k h m source) refl
      where
        by : (mine : Bool) → is_of k h m source ≡ mine → (mine && eqb k.suite (number_of h.suite) && right h k m) ≡ (none_at f && is_at i f)
        by true e =
            let there : f ≡ Some i = sym l ∙ leads_here held h.flag (key_id_bytes h m) source (names_facts k h.flag (key_id_bytes h m) source e) in
            rw (
              there,
              read,
              ← suite,
              ap (λ (x : KeyData). x.suite) held.keys,
              ap (λ (x : KeyData). right h x m) held.keys,
              eq-eqb i i refl,
            )
            (both (eqb k.suite (number_of h.suite)) (right h k m))
          where
            both : (c r : Bool) → (c && r) ≡ (not (not c) && (not (not r) && true) && true)
            both true true = refl
            both true false = refl
            both false r = refl
        by false e =
            rw (not_at i f
            (λ there. true≢false (sym (names_test k h.flag (key_id_bytes h m) source (leads_named held h.flag (key_id_bytes h m) source (l ∙ there))) ∙ e)))
            (sym (and-false (none_at f)))

  pub genuine_held : (out : List ℕ)
      → is_genuine k (read_of m) m source ≡ (none_of (2 ∷ 3 ∷ 4 ∷ 5 ∷ 6 ∷ 8 ∷ 11 ∷ []) (receive_replies t m source out) && is_at i (led_to t m source))
  unfolding receive_replies
  genuine_held out =
      let f = led_to t m source in
      let n = suite_of (cs_in m) in
      said_by_tests (λ p. is_genuine k p m source) m (none_at f && is_at i f) (λ s q e. found (header_in s m) e (suite_number (cs_in m) s q) f refl)
      ∙ past_four (ltb (length m) least_message || ltb greatest_message (length m)) (not (eqb (version_in m) 0)) (not (is_some n))
      (of_suite (is_short m) n) (none_at f) (is_at i f)
