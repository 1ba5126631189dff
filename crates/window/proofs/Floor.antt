-- The floor, by what the layers above use of it: it is the least number within Size of the highest and not below the start, and it never falls.
-- Assumes nothing.
use Prim.Native.Nat.{ℕ, ◌+◌, ◌≤◌}
use native.Mathlib.Omega.{arith}
use Rattle.window.specs.Window.{floor_at}
use Rattle.window.specs.declared.Frame.{Frame}

pub floor_law : (f : Frame) (h : ℕ) → 1 ≤ f.size → h + 1 ≤ floor_at f h + f.size
unfolding floor_at
floor_law f h s = omega arith

pub floor_start : (f : Frame) (h : ℕ) → f.start ≤ floor_at f h
unfolding floor_at
floor_start f h = omega arith

pub floor_le : (f : Frame) (h j : ℕ) → f.start ≤ j → h + 1 ≤ j + f.size → floor_at f h ≤ j
unfolding floor_at
floor_le f h j s l = omega arith

pub floor_mono : (f : Frame) {h top : ℕ} → h ≤ top → floor_at f h ≤ floor_at f top
unfolding floor_at
floor_mono f up = omega arith
