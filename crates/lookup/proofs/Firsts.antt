-- The lowest slot that passes a test: a turn of a loop that looks for it, and what the answer says.
-- Assumes nothing.
use mathlib.Core.Path.{◌≡◌, refl, sym, ap, ◌∙◌}
use mathlib.Core.Bool.{Bool, true, false, cond, not, ◌&&◌, and-false, not-eq-not, true≢false}
use mathlib.Core.List.{List}
use Prim.Native.Nat.{ℕ, zero, suc, ◌+◌, ◌-◌, ◌≤◌, ◌<◌}
use native.Mathlib.Decide.{dec_lt, ℕ_discrete}
use native.Mathlib.Numerals.{add-one}
use native.Mathlib.Omega.{arith}
use borrow.Author.Tests.{eq-eqb, ne_eqb, not-true}
use lib.Dec.{eqb}
use Rattle.slots.specs.Table.{slot_of, occupied, slot_count}
use Rattle.lookup.specs.Lookup.{matches, first_from, leads_to, leads_elsewhere, first_free}
use Rattle.std.specs.Prelude.{Option, None, Some}

module _ (test : ℕ → Bool) where
  -- a loop through the sixteen slots goes on
  pub further : (i : ℕ) → i < slot_count → test i ≡ false → first_from test (slot_count - i) i ≡ first_from test (slot_count - (i + 1)) (i + 1)
  further i h fails =
      let more : slot_count - i ≡ suc (slot_count - 1 - i) = omega arith in
      let less : slot_count - (i + 1) ≡ slot_count - 1 - i = omega arith in
      rw (more, fails, less, add-one)

  -- what is found lies among those looked at, and passes
  pub found : (n i j : ℕ) → first_from test n i ≡ Some j → (j < i + n) × (test j ≡ true) × (i ≤ j)
  found zero i j e = let z : ◌≡◌ {A = ℕ} 0 1 = cc in absurd (omega arith)
  found (suc n) i j e = by (test i) refl e (found n (suc i) j)
    where
      by : (b : Bool) → test i ≡ b → cond b (Some i) (first_from test n (suc i)) ≡ Some j
          → (first_from test n (suc i) ≡ Some j → (j < suc i + n) × (test j ≡ true) × (suc i ≤ j)) → (j < i + suc n) × (test j ≡ true) × (i ≤ j)
      by true p e later = let same : i ≡ j = cc in (omega arith, rw same at p, omega arith)
      by false p e later = let l = later e in (omega arith, l.1, omega (arith, l.2))

  -- a slot that passes is found, or one below it
  pub reached : (n i k : ℕ) → i ≤ k → k < i + n → test k ≡ true → (j : ℕ) × (first_from test n i ≡ Some j) × (j ≤ k)
  reached zero i k a b p = absurd (omega arith)
  reached (suc n) i k a b p = by (test i) refl (dec_lt i k) (reached n (suc i) k)
    where
      by : (b : Bool) → test i ≡ b → Dec (i < k)
          → (suc i ≤ k → k < suc i + n → test k ≡ true → (j : ℕ) × (first_from test n (suc i) ≡ Some j) × (j ≤ k))
          → (j : ℕ) × (cond b (Some i) (first_from test n (suc i)) ≡ Some j) × (j ≤ k)
      by true e d later = (i, refl, a)
      by false e (yes l) later = later (omega arith) (omega arith) p
      by false e (no l) later =
          let same : k ≡ i = omega arith in
          let z : ◌≡◌ {A = Bool} false true = sym e ∙ rw same at p in
          let o : ◌≡◌ {A = ℕ} 0 1 = cc in
          absurd (omega arith)

  -- where nothing is found, none passes
  pub none : (n i k : ℕ) → first_from test n i ≡ None → i ≤ k → k < i + n → test k ≡ false
  none n i k e a b =
      not-eq-not.0
      (λ passes.
      let r = reached n i k a b passes in
      let z : ◌≡◌ {A = ℕ} 0 1 = cc in
      omega arith)

  -- and where none passes, nothing is found
  all_fail : (n i : ℕ) → ((j : ℕ) → i ≤ j → j < i + n → test j ≡ false) → first_from test n i ≡ None
  all_fail zero i fail = refl
  all_fail (suc n) i fail = rw (fail i (omega arith) (omega arith)) (all_fail n (suc i) (λ j a b. fail j (omega arith) (omega arith)))

  -- what is found is the lowest that passes, and the lowest that passes is found
  pub lower : (n from i : ℕ) → first_from test n from ≡ Some i → (j : ℕ) → from ≤ j → j < i → test j ≡ false
  lower n from i e j a l =
      let small = (found n from i e).0 in
      not-eq-not.0
      (λ passes.
      let r = reached n from j a (omega arith) passes in
      let same : r.0 ≡ i = cc in
      omega (arith, r.2))

  pub lowest : (i : ℕ) → i < slot_count → test i ≡ true → ((j : ℕ) → j < i → test j ≡ false) → first_from test slot_count 0 ≡ Some i
  lowest i small passes fail =
      let r = reached slot_count 0 i (omega arith) (omega arith) passes in
      by r.0 r.1 r.2 (found slot_count 0 r.0 r.1).1 (ℕ_discrete r.0 i)
    where
      by : (j : ℕ) → first_from test slot_count 0 ≡ Some j → j ≤ i → test j ≡ true → Dec (j ≡ i) → first_from test slot_count 0 ≡ Some i
      by j e l p (yes same) = e ∙ ap Some same
      by j e l p (no other) = absurd (true≢false (sym p ∙ fail j (omega arith)))

-- all slots but one: the lowest that passes, or the next where that is the one
module _ (test : ℕ → Bool) (i : ℕ) where
  abbrev pub others : ℕ → Bool
  others j = not (eqb j i) && test j

  pub other_is : (j : ℕ) → (j ≡ i → ⊥) → others j ≡ test j
  other_is j other = simp (ne_eqb j i other)

  fails_too : (j : ℕ) → test j ≡ false → others j ≡ false
  fails_too j fails = simp (fails, and-false)

  pub none_other : first_from test slot_count 0 ≡ None → first_from others slot_count 0 ≡ None
  none_other e = all_fail others slot_count 0 (λ k a l. fails_too k (none test slot_count 0 k e a l))

  pub other_first : (j : ℕ) → first_from test slot_count 0 ≡ Some j → (j ≡ i → ⊥) → first_from others slot_count 0 ≡ Some j
  other_first j e other =
      let there = found test slot_count 0 j e in
      lowest others j there.0 (other_is j other ∙ there.1) (λ k l. fails_too k (lower test slot_count 0 j e k (omega arith) l))

  pub other_next : first_from test slot_count 0 ≡ Some i → first_from others slot_count 0 ≡ first_from test (slot_count - (i + 1)) (i + 1)
  other_next e = by (first_from test (slot_count - (i + 1)) (i + 1)) refl
    where
      -- below the slot none passes, and the slot does not count
      fails : (k : ℕ) → (i < k → test k ≡ false) → others k ≡ false
      fails k above = at (dec_lt k i) (dec_lt i k)
        where
          at : Dec (k < i) → Dec (i < k) → others k ≡ false
          at (yes l) d = fails_too k (lower test slot_count 0 i e k (omega arith) l)
          at (no l) (yes h) = fails_too k (above h)
          at (no l) (no h) = simp (eq-eqb k i (omega arith))

      by : (f : Option ℕ) → first_from test (slot_count - (i + 1)) (i + 1) ≡ f → first_from others slot_count 0 ≡ f
      by (Some j) p =
          let there = found test (slot_count - (i + 1)) (i + 1) j p in
          lowest others j (omega (arith, there.0, there.2)) (other_is j (λ same. omega (arith, there.2)) ∙ there.1)
          (λ k l. fails k (λ h. lower test (slot_count - (i + 1)) (i + 1) j p k (omega arith) l))
      by None p = all_fail others slot_count 0 (λ k a l. fails k (λ h. none test (slot_count - (i + 1)) (i + 1) k p (omega arith) (omega arith)))

-- a slot that one test finds is found by another that it passes, where below it nothing passes the other alone
pub found_too : (test other : ℕ → Bool) (i : ℕ) → first_from test slot_count 0 ≡ Some i → other i ≡ true
    → ((j : ℕ) → j < i → other j ≡ true → test j ≡ true) → first_from other slot_count 0 ≡ Some i
found_too test other i e passes both =
    lowest other i (found test slot_count 0 i e).0 passes
    (λ j l. not-eq-not.0 (λ p. true≢false (sym (both j l p) ∙ lower test slot_count 0 i e j (omega arith) l)))

-- two tests that agree find the same
pub first_same : (test other : ℕ → Bool) (n i : ℕ) → ((j : ℕ) → j < i + n → test j ≡ other j) → first_from test n i ≡ first_from other n i
first_same test other zero i agree = refl
first_same test other (suc n) i agree =
    ap (λ (b : Bool). cond b (Some i) (first_from test n (suc i))) (agree i (omega arith))
    ∙ ap (cond (other i) (Some i)) (first_same test other n (suc i) (λ j l. agree j (omega arith)))

module _ (t : List ℕ) (i : ℕ) where
  pub leads_small : (flag : ℕ) (key_id source : List ℕ) → leads_to t flag key_id source ≡ Some i → i < slot_count
  unfolding leads_to
  leads_small flag key_id source e = (found (λ j. matches flag key_id source (slot_of t j)) slot_count 0 i e).0

  pub leads_matches : (flag : ℕ) (key_id source : List ℕ) → leads_to t flag key_id source ≡ Some i → matches flag key_id source (slot_of t i) ≡ true
  unfolding leads_to
  leads_matches flag key_id source e = (found (λ j. matches flag key_id source (slot_of t j)) slot_count 0 i e).1

  pub leads_nowhere : (flag : ℕ) (key_id source : List ℕ) → leads_to t flag key_id source ≡ None → i < slot_count → matches flag key_id source (slot_of t i) ≡ false
  unfolding leads_to
  leads_nowhere flag key_id source e small = none (λ j. matches flag key_id source (slot_of t j)) slot_count 0 i e (omega arith) small

  pub elsewhere_nowhere : (k flag : ℕ) (key_id source : List ℕ) → leads_elsewhere t k flag key_id source ≡ None → i < slot_count → (i ≡ k → ⊥)
      → matches flag key_id source (slot_of t i) ≡ false
  unfolding leads_elsewhere
  elsewhere_nowhere k flag key_id source e small other =
      let test : ℕ → Bool = λ j. matches flag key_id source (slot_of t j) in
      sym (other_is test k i other) ∙ none (others test k) slot_count 0 i e (omega arith) small

  pub free_small : first_free t ≡ Some i → i < slot_count
  unfolding first_free
  free_small e = (found (λ j. not (occupied (slot_of t j))) slot_count 0 i e).0

  -- where a slot is free, one is found: it, or one below it
  pub free_found : i < slot_count → occupied (slot_of t i) ≡ false → (j : ℕ) × (first_free t ≡ Some j) × (j ≤ i)
  unfolding first_free
  free_found small e = reached (λ j. not (occupied (slot_of t j))) slot_count 0 i (omega arith) small (ap not e)

  pub free_empty : first_free t ≡ Some i → occupied (slot_of t i) ≡ false
  unfolding first_free
  free_empty e = not-true (occupied (slot_of t i)) (found (λ j. not (occupied (slot_of t j))) slot_count 0 i e).1
