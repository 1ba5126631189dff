-- What the reader says of a text is settled: in two answers that its contracts allow, each stretch has the same values and the same text is left behind it,
-- or neither has.
-- Assumes nothing.
use mathlib.Core.Path.{◌≡◌, refl, sym, ap, ◌∙◌}
use mathlib.Core.List.{List}
use Prim.Native.Nat.{ℕ}
use Rattle.std.specs.Prelude.{Option, Some, None, IsNone}
use Rattle.text.specs.Reading.{Read}
use Rattle.text.proofs.ReadPrinted.{got_rest, never}
use Rattle.form.specs.Form.{read_settled, read_arrivals}
use Rattle.form.specs.Found.{settled_values, arrival_values, reached, Answers}
use Rattle.form.specs.declared.values.SettledLines.{SettledLines}
use Rattle.form.specs.declared.values.ArrivalLines.{ArrivalLines}

module _ {A B : Type 0} (values : A → B) (grammar : List ℕ → Read B) (text : List ℕ) where
  left_same : (a b : Option A) (l m : List ℕ) → Answers values grammar text a l → Answers values grammar text b m → l ≡ m
  left_same (Some v) (Some w) l m p q = got_rest (p.read ∙ sym q.read)
  left_same (Some v) None l m p q = never (q.read ∙ sym p.read)
  left_same None (Some w) l m p q = never (p.read ∙ sym q.read)
  left_same None None l m p q = p.stays refl ∙ sym (q.stays refl)

-- both stretches, the second behind the first, or at the start where that is not in its form
module _ (text : List ℕ) (a b : Option SettledLines) (l m : List ℕ) (p : Answers settled_values read_settled text a l) (q : Answers settled_values read_settled text b m) where
  pub lines_determined : (c d : Option ArrivalLines) (n o : List ℕ) → Answers arrival_values read_arrivals l c n → Answers arrival_values read_arrivals m d o
      → (reached settled_values a l ≡ reached settled_values b m) × (reached arrival_values c n ≡ reached arrival_values d o)
  lines_determined c d n o r s =
      (p.read ∙ sym q.read, r.read ∙ ap read_arrivals (left_same settled_values read_settled text a b l m p q) ∙ sym s.read)
