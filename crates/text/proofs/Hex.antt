-- Bytes in hex: how long the text is, and the text of one byte more.
-- Assumes nothing.
use mathlib.Core.Path.{◌≡◌, refl, sym, ap, ◌∙◌}
use mathlib.Core.List.{List, [], ◌∷◌, ◌++◌}
use Prim.Native.Nat.{ℕ, ◌+◌, ◌*◌, ◌/◌, ◌%◌, ◌≤◌, ◌<◌}
use native.Mathlib.Numerals.{add-one}
use native.Mathlib.Omega.{arith}
use lib.ListN.{length, get_or, take, set}
use lib.Seq.{length-take-le, take-suc, take_all}
use Rattle.octets.specs.Octets.{put}
use Rattle.text.specs.Text.{glyph, hex_of}
use Rattle.octets.proofs.Places.{Written}
use Rattle.text.proofs.Lines.{byte_further}

pub length_hex : (l : List ℕ) → length (hex_of l) ≡ 2 * length l
unfolding hex_of
length_hex [] = refl
length_hex (x ∷ xs) = omega (arith, length_hex xs)

hex_snoc : (xs : List ℕ) (x : ℕ) → hex_of (xs ++ (x ∷ [])) ≡ hex_of xs ++ (glyph (x / 16) ∷ []) ++ (glyph (x % 16) ∷ [])
unfolding hex_of
hex_snoc [] x = refl
hex_snoc (y ∷ ys) x = ap (λ (t : List ℕ). glyph (y / 16) ∷ glyph (y % 16) ∷ t) (hex_snoc ys x)

-- i bytes of a list are written: one more, and all
module _ (l out bytes : List ℕ) (at i : ℕ) (h : at + 2 * length bytes ≤ length l) (done : out ≡ put l at (hex_of (take i bytes))) where
  pub hex_more : i < length bytes
      → set (set out (at + 2 * i) (glyph (get_or bytes i 0 / 16))) (at + 2 * i + 1) (glyph (get_or bytes i 0 % 16)) ≡ put l at (hex_of (take (i + 1) bytes))
  hex_more k =
      let x : ℕ = get_or bytes i 0 in
      let long : length (hex_of (take i bytes)) ≡ 2 * i = length_hex (take i bytes) ∙ rw (length-take-le i bytes (omega arith)) in
      let before : Written l at (hex_of (take i bytes)) out (at + 2 * i) = record { ends = rw long; is = done } in
      let both = byte_further (byte_further before (glyph (x / 16)) (omega arith)) (glyph (x % 16)) (omega arith) in
      both.is ∙ ap (put l at) (sym (rw (add-one, take-suc bytes i 0 k) (hex_snoc (take i bytes) x)))

  pub hex_all : length bytes ≤ i → out ≡ put l at (hex_of bytes)
  hex_all k = done ∙ rw (take_all i bytes k)
