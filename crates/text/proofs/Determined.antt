-- What a reader of a line answers is settled by the text: two answers that its contract allows have the same value and leave the same text, or both are none.
-- Assumes nothing.
use mathlib.Core.Path.{◌≡◌, refl, sym, ap, ap₂, ◌∙◌}
use mathlib.Core.List.{List, ◌∷◌, ◌++◌, append_cancel_left, append_cancel_right}
use Prim.Native.Nat.{ℕ}
use Rattle.std.specs.Prelude.{Option, Some, None}
use Rattle.std.specs.Borrow.{Bor}
use Rattle.text.specs.Reading.{Read}
use Rattle.text.specs.Found.{found}
use Rattle.text.specs.Written.{written, found_bytes, Stands}
use Rattle.text.specs.declared.hexed.Hex.{Hex}
use Rattle.text.proofs.ReadPrinted.{got_value, got_rest, never}

-- an answer without the places where it stands
abbrev pub answered : {A : Type 0} → Option (A × Bor (List ℕ)) → Option (A × List ℕ)
answered (Some (value, rest)) = Some (value, rest.now)
answered None = None

pub determined : {A : Type 0} (o : Read A) (a b : Option (A × Bor (List ℕ))) → found a ≡ o → found b ≡ o → answered a ≡ answered b
determined {A} o (Some (x, p)) (Some (y, q)) a b =
    let same = a ∙ sym b in
    ap₂ (λ (v : A) (l : List ℕ). Some (v, l)) (got_value same) (got_rest same)
determined o (Some (x, p)) None a b = never (b ∙ sym a)
determined o None (Some (y, q)) a b = never (a ∙ sym b)
determined o None None a b = refl

-- of a number
pub number_determined : (o : Read ℕ) (a b : Option (ℕ × Bor (List ℕ))) → found a ≡ o → found b ≡ o → answered a ≡ answered b
number_determined o a b p q = determined o a b p q

-- of bytes in hex, without the place where they stand
abbrev pub answered_bytes : Option (Hex × Bor (List ℕ)) → Option (List ℕ × List ℕ)
answered_bytes (Some (hex, rest)) = Some (written hex, rest.now)
answered_bytes None = None

pub span_determined : (o : Read (List ℕ)) (a b : Option (Hex × Bor (List ℕ))) → found_bytes a ≡ o → found_bytes b ≡ o → answered_bytes a ≡ answered_bytes b
span_determined o (Some (x, p)) (Some (y, q)) a b =
    let same = a ∙ sym b in
    ap₂ (λ (v : List ℕ) (l : List ℕ). Some (v, l)) (got_value same) (got_rest same)
span_determined o (Some (x, p)) None a b = never (b ∙ sym a)
span_determined o None (Some (y, q)) a b = never (a ∙ sym b)
span_determined o None None a b = refl

-- and with the place: where the contract says that they stand, the digits are one
abbrev pub digits_of : Option (Hex × Bor (List ℕ)) → Option (List ℕ × List ℕ)
digits_of (Some (hex, rest)) = Some (hex.digits.now, rest.now)
digits_of None = None

module _ (o : Read (List ℕ)) (name text : List ℕ) where
  pub digits_determined : (a b : Option (Hex × Bor (List ℕ))) → found_bytes a ≡ o → Stands name text a → found_bytes b ≡ o → Stands name text b → digits_of a ≡ digits_of b
  digits_determined (Some (x, p)) (Some (y, q)) a s b t =
      let rest = got_rest (a ∙ sym b) in
      let both = append_cancel_left name (x.digits.now ++ (10 ∷ p.now)) (y.digits.now ++ (10 ∷ q.now)) (s ∙ sym t) in
      let digits = append_cancel_right x.digits.now y.digits.now (10 ∷ q.now) (ap (λ (m : List ℕ). x.digits.now ++ (10 ∷ m)) (sym rest) ∙ both) in
      ap₂ (λ (v : List ℕ) (l : List ℕ). Some (v, l)) digits rest
  digits_determined (Some (x, p)) None a s b t = never (b ∙ sym a)
  digits_determined None (Some (y, q)) a s b t = never (a ∙ sym b)
  digits_determined None None a s b t = refl
