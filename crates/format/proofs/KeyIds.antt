-- KeyIds: the three kinds by their first byte, and how long each is, wherever it stands.
-- Assumes nothing.
use mathlib.Core.Path.{◌≡◌, ap, subst}
use Prim.Native.Nat.{ℕ, ◌+◌, ◌-◌, ◌≤◌, ◌<◌}
use native.Mathlib.Decide.{dec_lt}
use native.Mathlib.Omega.{arith}
use borrow.Author.Tests.{lt-ltb, le-ltb, eq-eqb, ne_eqb}
use Rattle.format.specs.KeyId.{key_id_starting, length_of, length_asked}
use Rattle.format.specs.declared.key_id.KeyId.{KeyId}
use Rattle.format.specs.declared.key_id.KeyId.TheVariants.{Absent, Short, Long}

module _ (first at : ℕ) where
  pub starts_short : first < 128 → Short first ≡ key_id_starting first at
  unfolding key_id_starting
  starts_short h = simp (lt-ltb first 128 h)

  pub starts_absent : first ≡ 128 → Absent ≡ key_id_starting first at
  unfolding key_id_starting
  starts_absent h = simp (le-ltb first 128 (omega arith), eq-eqb first 128 h)

  pub starts_long : 128 < first → Long (first - 128) (at + 1) ≡ key_id_starting first at
  unfolding key_id_starting
  starts_long h = simp (le-ltb first 128 (omega arith), ne_eqb first 128 (λ e. omega arith))

  -- what holds of each kind
  each : (P : KeyId → Type 0) → (first < 128 → P (Short first)) → (first ≡ 128 → P Absent) → (128 < first → P (Long (first - 128) (at + 1)))
      → P (key_id_starting first at)
  each P short absent long = go (dec_lt first 128) (dec_lt 128 first)
    where
      go : Dec (first < 128) → Dec (128 < first) → P (key_id_starting first at)
      go (yes h) _ = subst P (starts_short h) (short h)
      go (no h) (yes k) = subst P (starts_long k) (long k)
      go (no h) (no k) = let e : first ≡ 128 = omega arith in subst P (starts_absent e) (absent e)

pub length_anywhere : (first at : ℕ) → length_of (key_id_starting first at) ≡ length_asked first
length_anywhere first at =
    each first at (λ (k : KeyId). length_of k ≡ length_asked first)
    (λ h. ap length_of (starts_short first 0 h))
    (λ h. ap length_of (starts_absent first 0 h))
    (λ h. ap length_of (starts_long first 0 h))

pub length_least : (k : KeyId) → 1 ≤ length_of k
length_least Absent = omega arith
length_least (Short value) = omega arith
length_least (Long count start) = omega arith

pub length_most : (first at : ℕ) → first < 256 → length_of (key_id_starting first at) ≤ 128
length_most first at b = each first at (λ (k : KeyId). length_of k ≤ 128) (λ h. omega arith) (λ h. omega arith) (λ h. omega arith)
