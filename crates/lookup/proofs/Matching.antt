-- When a slot matches, as facts: both ways between the test and the facts, and what makes it fail.
-- Assumes nothing.
use mathlib.Core.Path.{◌≡◌, refl, sym, ap, ◌∙◌}
use mathlib.Core.Bool.{Bool, true, false, ◌&&◌, ◌||◌, not, not-eq-not, true≢false}
use mathlib.Core.List.{List, [], ◌∷◌}
use lib.Pointwise.{pointwise}
use Prim.Native.Nat.{ℕ, ◌≤◌}
use borrow.Author.Tests.{leb-true, le-leb, eqb-true, eqb-false, eq-eqb, ne_eqb, not-true, not-false}
use lib.Dec.{eqb}
use lib.ListN.{get_or}
use Rattle.numbers.proofs.Tests.{and_left, and_right}
use Rattle.octets.specs.Octets.{same}
use Rattle.octets.proofs.Same.{same_refl, same_true}
use Rattle.slots.specs.Table.{occupied, flag_of, key_id_length_of, key_id_of, source_length_of, source_of, occupied_at, key_id_room, source_room}
use Rattle.slots.proofs.Rewriting.{SameKeys}
use Rattle.lookup.specs.Lookup.{matches}

-- all but the source agrees
pub record Alike (flag : ℕ) (key_id s : List ℕ) : Type 0 where
  pub held : get_or s occupied_at 0 ≡ 0 → ⊥
  pub keyid_short : key_id_length_of s ≤ key_id_room
  pub source_short : source_length_of s ≤ source_room
  pub flag_same : flag_of s ≡ flag
  pub keyid_same : key_id_of s ≡ key_id

pub held_true : (n : ℕ) → not (eqb n 0) ≡ true → n ≡ 0 → ⊥
held_true n h = eqb-false n 0 (not-true (eqb n 0) h)

pub same_test : (a b : List ℕ) → a ≡ b → same a b ≡ true
same_test a b e = ap (same a) (sym e) ∙ same_refl a

-- std's comparison of two slices is the definitions'
pub pointwise_same : (a b : List ℕ) → pointwise eqb a b ≡ same a b
unfolding same
pointwise_same [] [] = refl
pointwise_same [] (y ∷ ys) = refl
pointwise_same (x ∷ xs) [] = refl
pointwise_same (x ∷ xs) (y ∷ ys) = ap (λ (b : Bool). eqb x y && b) (pointwise_same xs ys)

pub equal_lists : (a b : List ℕ) → false ≡ not (pointwise eqb a b) → a ≡ b
equal_lists a b e = same_true a b (sym (pointwise_same a b) ∙ not-false (pointwise eqb a b) (sym e))

pub unequal_lists : (a b : List ℕ) → true ≡ not (pointwise eqb a b) → a ≡ b → ⊥
unequal_lists a b e same_bytes = true≢false (sym (pointwise_same a b ∙ same_test a b same_bytes) ∙ not-true (pointwise eqb a b) (sym e))

-- for flag 0 any source will do
pub source_fact : (flag : ℕ) (a b : List ℕ) → (eqb flag 0 || same a b) ≡ true → (flag ≡ 0 → ⊥) → a ≡ b
source_fact flag a b h other = same_true a b (simp (ne_eqb flag 0 other) at h)

pub source_test : (flag : ℕ) (a b : List ℕ) → ((flag ≡ 0 → ⊥) → a ≡ b) → (eqb flag 0 || same a b) ≡ true
source_test flag a b e = by (eqb flag 0) refl
  where
    by : (x : Bool) → eqb flag 0 ≡ x → (x || same a b) ≡ true
    by true p = refl
    by false p = same_test a b (e (eqb-false flag 0 p))

module _ (flag : ℕ) (key_id source s : List ℕ) where
  pub match_facts : matches flag key_id source s ≡ true → Alike flag key_id s
  unfolding matches
  match_facts h = search (and_left, and_right, leb-true, eqb-true, held_true, same_true) depth 12

  -- the source decides
  pub own_source_decides : Alike flag key_id s → (eqb flag 0 || same (source_of s) source) ≡ matches flag key_id source s
  unfolding matches
  own_source_decides a =
      simp (
        ne_eqb (get_or s occupied_at 0) 0 a.held,
        le-leb (key_id_length_of s) key_id_room a.keyid_short,
        le-leb (source_length_of s) source_room a.source_short,
        eq-eqb (flag_of s) flag a.flag_same,
        same_test (key_id_of s) key_id a.keyid_same,
      )

  -- for flag 0 any source will do, from what the code has tested
  pub any_source : (get_or s occupied_at 0 ≡ 0 → ⊥) → key_id_length_of s ≤ key_id_room → source_length_of s ≤ source_room
      → flag_of s ≡ flag → same (key_id_of s) key_id ≡ true → flag ≡ 0 → true ≡ matches flag key_id source s
  any_source held keyid_short source_short flag_same keyid_same none =
      let alike : Alike flag key_id s = record {
        held = held;
        keyid_short = keyid_short;
        source_short = source_short;
        flag_same = flag_same;
        keyid_same = same_true _ _ keyid_same;
      } in
      simp (eq-eqb flag 0 none) at (own_source_decides alike)

  -- for flag 1, the source too
  pub match_source : matches flag key_id source s ≡ true → (flag ≡ 0 → ⊥) → source_of s ≡ source
  match_source h = source_fact flag (source_of s) source (own_source_decides (match_facts h) ∙ h)

  pub match_test : Alike flag key_id s → ((flag ≡ 0 → ⊥) → source_of s ≡ source) → matches flag key_id source s ≡ true
  match_test a e = sym (own_source_decides a) ∙ source_test flag (source_of s) source e

  -- where one fact fails
  pub no_match : (Alike flag key_id s → ⊥) → false ≡ matches flag key_id source s
  no_match bad = sym ((not-eq-not {a = matches flag key_id source s} {b = false}).0 (λ h. bad (match_facts h)))

  -- a free slot
  pub free_no_match : occupied s ≡ false → false ≡ matches flag key_id source s
  unfolding matches
  free_no_match e = rw e

-- a slot with the same key data matches the same
pub same_matches : {s other : List ℕ} → SameKeys s other → (flag : ℕ) (key_id source : List ℕ) → matches flag key_id source other ≡ matches flag key_id source s
unfolding matches
same_matches k flag key_id source = rw (k.keyid, k.source, k.first, k.flag, k.keyid_length, k.source_length)
