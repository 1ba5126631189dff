-- Sound key data as facts: both ways between the test and the facts, and what makes it fail.
-- Assumes nothing.
use mathlib.Core.Path.{◌≡◌}
use mathlib.Core.Bool.{true, false, ◌&&◌, not}
use mathlib.Core.List.{List}
use Prim.Native.Nat.{ℕ, ◌≤◌}
use borrow.Author.Tests.{leb-true, le-leb, eqb-true, eq-eqb}
use lib.Dec.{eqb}
use lib.ListN.{length, get_or}
use Rattle.numbers.proofs.Tests.{and_left, and_right, and_both, refuted}
use Rattle.format.specs.KeyId.{length_asked}
use Rattle.format.specs.KeyData.{KeyData, goes_with, sound_of}
use Rattle.format.specs.Suite.{suite_of}
use Rattle.std.specs.Prelude.{is_some}

pub record Sound (k : KeyData) : Type 0 where
  pub flag_small : k.flag ≤ 1
  pub keyid_length : length k.key_id ≡ length_asked (get_or k.key_id 0 0)
  pub source_least : 4 ≤ length k.source
  pub source_most : length k.source ≤ 32
  pub key_length : length k.key ≡ 32
  pub suite_known : is_some (suite_of k.suite) ≡ true
  pub edition_goes : goes_with k.edition k.suite ≡ true
  pub named : not (eqb k.flag 0 && eqb (get_or k.key_id 0 0) 0x80) ≡ true

-- key data is told by its parts
pub key_data_is : {flag flag' : ℕ} {key_id key_id' source source' : List ℕ} {suite suite' edition edition' : ℕ} {key key' : List ℕ}
    → flag ≡ flag' → key_id ≡ key_id' → source ≡ source' → suite ≡ suite' → edition ≡ edition' → key ≡ key'
    → ◌≡◌ {A = KeyData} (record { flag = flag; key_id = key_id; source = source; suite = suite; edition = edition; key = key })
    (record { flag = flag'; key_id = key_id'; source = source'; suite = suite'; edition = edition'; key = key' })
key_data_is a b c d e f = rw (a, b, c, d, e, f)

module _ (k : KeyData) where
  pub sound_facts : sound_of k ≡ true → Sound k
  unfolding sound_of
  sound_facts h = search (and_left, and_right, leb-true, eqb-true) depth 12

  pub sound_test : Sound k → sound_of k ≡ true
  unfolding sound_of
  sound_test s = search (and_both, le-leb, eq-eqb) depth 12

  -- where one fact fails
  pub unsound : (Sound k → ⊥) → false ≡ sound_of k
  unsound bad = refuted (sound_of k) (λ e. bad (sound_facts e))

-- soundness asks no more of a base key than its length
pub sound_alike : {k other : KeyData} → Sound k → other.flag ≡ k.flag → other.key_id ≡ k.key_id → other.source ≡ k.source → other.suite ≡ k.suite
    → other.edition ≡ k.edition → length other.key ≡ 32 → Sound other
sound_alike s a b c d e f = record {
  flag_small = rw a s.flag_small;
  keyid_length = rw b s.keyid_length;
  source_least = rw c s.source_least;
  source_most = rw c s.source_most;
  key_length = f;
  suite_known = rw d s.suite_known;
  edition_goes = rw (d, e) s.edition_goes;
  named = rw (a, b) s.named;
}
