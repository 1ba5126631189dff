-- `Refusal::from` says of a header that cannot be read which number its refusal has; there is one refusal for it.
-- Assumes nothing.
use mathlib.Core.Path.{◌≡◌, refl, sym, ap, ◌∙◌}
use mathlib.Core.List.{List, [], ◌∷◌}
use Prim.Native.Nat.{ℕ, ◌-◌}
use lib.ListN.{get_or}
use Rattle.answers.specs.Answers.{refusal_number}
use Rattle.answers.specs.declared.Refusal.{Refusal}
use Rattle.answers.specs.declared.Refusal.TheVariants as refusal
use Rattle.format.specs.Header.{refusal_of}
use Rattle.format.specs.declared.header.HeaderError.{HeaderError}

-- the refusals in the order of their numbers, from 1 on
abbrev all : List Refusal
all =
    refusal.OutputSmall ∷ refusal.BadLength ∷ refusal.BadVersion ∷ refusal.BadSuite ∷ refusal.TooShort ∷ refusal.NoEntry ∷ refusal.Damaged ∷ refusal.OtherSuite ∷ refusal.BelowFloor ∷ refusal.Repeated ∷ refusal.WrongIcv ∷ refusal.NoNumber ∷ refusal.Unsound ∷ refusal.Twin ∷ refusal.Full ∷ refusal.NoSlot ∷ refusal.BadCapture ∷ refusal.CutShort ∷ refusal.LengthsDiffer ∷ refusal.Unreadable ∷ refusal.BadText ∷ refusal.NotStanding ∷ refusal.WouldBeDamaged ∷ []

abbrev with_number : ℕ → Refusal
with_number n = get_or all (n - 1) refusal.OutputSmall

number_back : (r : Refusal) → with_number (refusal_number r) ≡ r
number_back refusal.OutputSmall = refl
number_back refusal.BadLength = refl
number_back refusal.BadVersion = refl
number_back refusal.BadSuite = refl
number_back refusal.TooShort = refl
number_back refusal.NoEntry = refl
number_back refusal.Damaged = refl
number_back refusal.OtherSuite = refl
number_back refusal.BelowFloor = refl
number_back refusal.Repeated = refl
number_back refusal.WrongIcv = refl
number_back refusal.NoNumber = refl
number_back refusal.Unsound = refl
number_back refusal.Twin = refl
number_back refusal.Full = refl
number_back refusal.NoSlot = refl
number_back refusal.BadCapture = refl
number_back refusal.CutShort = refl
number_back refusal.LengthsDiffer = refl
number_back refusal.Unreadable = refl
number_back refusal.BadText = refl
number_back refusal.NotStanding = refl
number_back refusal.WouldBeDamaged = refl

pub refusal_determined : (why : HeaderError) (r s : Refusal) → refusal_number r ≡ refusal_of why → refusal_number s ≡ refusal_of why → r ≡ s
refusal_determined why r s p q = sym (number_back r) ∙ ap with_number (p ∙ sym q) ∙ number_back s
