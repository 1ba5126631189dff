-- Reading bytes in hex: the digits go on to the first byte that is none, and there, behind pairs, a line feed must stand.
-- Assumes nothing.
use mathlib.Core.Path.{◌≡◌, refl, sym, ap, ◌∙◌}
use mathlib.Core.Bool.{true, false, true≢false, and-false}
use mathlib.Core.List.{List, [], ◌∷◌, ◌++◌}
use Prim.Native.Nat.{ℕ, zero, suc, ◌+◌, ◌-◌, ◌%◌, ◌<◌}
use native.Mathlib.Omega.{arith}
use borrow.Author.Tests.{ne_eqb, eq-eqb}
use lib.ListN.{length, get_or, take, drop, length-drop}
use lib.Seq.{take_all}
use Rattle.std.specs.Prelude.{Option, Some, None}
use Rattle.std.specs.Borrow.{Bor}
use Rattle.text.specs.Reading.{failed, got, is_hex, read_hex}
use Rattle.text.specs.Found.{unhexed}
use Rattle.text.specs.Written.{Stands}
use Rattle.text.specs.declared.hexed.Hex.{Hex}

-- the first i bytes are digits
abbrev pub Run : List ℕ → ℕ → Type 0
Run text i = (k : ℕ) → k < i → is_hex (get_or text k 0) ≡ true

-- a line feed is none
no_feed : (c : ℕ) → is_hex c ≡ true → c ≡ 10 → ⊥
no_feed c h e = true≢false (sym h ∙ ap is_hex e)

pub whole : (text : List ℕ) (i : ℕ) → i < length text → Run text i → i % 2 ≡ 0 → get_or text i 0 ≡ 10
    → got (unhexed (take i text)) (drop (suc i) text) ≡ read_hex text
unfolding read_hex unhexed
whole [] i h r even feed = absurd (omega arith)
whole (a ∷ []) zero h r even feed = sym (rw (eq-eqb a 10 feed))
whole (a ∷ []) (suc i) h r even feed = absurd (omega arith)
whole (a ∷ b ∷ text) zero h r even feed = sym (rw (eq-eqb a 10 feed))
whole (a ∷ b ∷ text) (suc zero) h r even feed = absurd (omega arith)
whole (a ∷ b ∷ text) (suc (suc i)) h r even feed =
    let rest = whole text i (omega arith) (λ k j. r (suc (suc k)) (omega arith)) (omega arith) feed in
    sym (rw (ne_eqb a 10 (no_feed a (r 0 (omega arith))), r 0 (omega arith), r 1 (omega arith), ← rest))

pub broken : (text : List ℕ) (i : ℕ) → i < length text → Run text i → is_hex (get_or text i 0) ≡ false → (get_or text i 0 ≡ 10 → i % 2 ≡ 0 → ⊥)
    → failed ≡ read_hex text
unfolding read_hex
broken [] i h r none bad = absurd (omega arith)
broken (a ∷ []) zero h r none bad = sym (rw (ne_eqb a 10 (λ e. bad e refl)))
broken (a ∷ []) (suc i) h r none bad = absurd (omega arith)
broken (a ∷ b ∷ text) zero h r none bad = sym (rw (ne_eqb a 10 (λ e. bad e refl), none))
broken (a ∷ b ∷ text) (suc zero) h r none bad = sym (rw (ne_eqb a 10 (no_feed a (r 0 (omega arith))), none, and-false))
broken (a ∷ b ∷ text) (suc (suc i)) h r none bad =
    let rest = broken text i (omega arith) (λ k j. r (suc (suc k)) (omega arith)) none (λ e even. bad e (omega arith)) in
    sym (rw (ne_eqb a 10 (no_feed a (r 0 (omega arith))), r 0 (omega arith), r 1 (omega arith), ← rest))

pub endless : (text : List ℕ) → Run text (length text) → failed ≡ read_hex text
unfolding read_hex
endless [] r = refl
endless (a ∷ []) r = sym (rw (ne_eqb a 10 (no_feed a (r 0 (omega arith)))))
endless (a ∷ b ∷ text) r =
    let rest = endless text (λ k j. r (suc (suc k)) (omega arith)) in
    sym (rw (ne_eqb a 10 (no_feed a (r 0 (omega arith))), r 0 (omega arith), r 1 (omega arith), ← rest))

-- ---- where they stand

split_at : (l : List ℕ) (i : ℕ) → i < length l → take i l ++ (get_or l i 0 ∷ drop (suc i) l) ≡ l
split_at [] i h = absurd (omega arith)
split_at (x ∷ l) zero h = refl
split_at (x ∷ l) (suc i) h = ap (λ (m : List ℕ). x ∷ m) (split_at l i (omega arith))

-- the digits, the line feed at i and what is left make the text
pub stands_at : (text : List ℕ) (i : ℕ) → i < length text → get_or text i 0 ≡ 10
    → take i text ++ (10 ∷ take (length text - (i + 1)) (drop (i + 1) text)) ≡ text
stands_at text i h feed =
    ap (λ (m : List ℕ). take i text ++ (10 ∷ m)) (take_all (length text - (i + 1)) (drop (i + 1) text) (omega (arith, length-drop (i + 1) text)))
    ∙ ap (λ (n : ℕ). take i text ++ (10 ∷ drop n text)) {y = suc i} (omega arith)
    ∙ ap (λ (x : ℕ). take i text ++ (x ∷ drop (suc i) text)) (sym feed)
    ∙ split_at text i h

-- and so they do behind a name
pub stands_behind : (name behind text : List ℕ) (o : Option (Hex × Bor (List ℕ))) → name ++ behind ≡ text → Stands [] behind o → Stands name text o
stands_behind name behind text (Some (hex, rest)) e s = ap (λ (m : List ℕ). name ++ m) s ∙ e
stands_behind name behind text None e s = tt
