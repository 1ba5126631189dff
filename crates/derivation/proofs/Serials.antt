-- Which numbers share both SN and IV, and so derived keys and gamma: in edition 2 none; in edition 1 a number and each that is a multiple of 2^35
-- above it, and none that are nearer than 2^35.
-- Assumes nothing.
use mathlib.Core.Path.{◌≡◌}
use Prim.Native.Nat.{ℕ, ◌+◌, ◌*◌, ◌^◌, ◌≤◌, ◌<◌}
use native.Mathlib.Omega.{arith}
use Rattle.derivation.specs.Derivation.{serial_of, iv_of}

pub none_share : (n m : ℕ) → serial_of 2 n ≡ serial_of 2 m → iv_of n ≡ iv_of m → n ≡ m
none_share n m top low = omega arith

pub nearby_differ : (n m : ℕ) → n ≤ m → m < n + 2 ^ 35 → serial_of 1 n ≡ serial_of 1 m → n ≡ m
nearby_differ n m least near low = omega arith

pub far_share : (n k : ℕ) → (serial_of 1 (n + 2 ^ 35 * k) ≡ serial_of 1 n) × (iv_of (n + 2 ^ 35 * k) ≡ iv_of n)
far_share n k = (omega arith, omega arith)
