-- What the readers of a listing find, as their contracts say it: the values that the grammar has for what the lines say.
use Rattle.std.specs.Prelude.{◌≡◌, List, ℕ, Option, Some, None, IsNone}
use Rattle.octets.specs.Octets.{big_endian}
use Rattle.text.specs.Reading.{Read, failed, got}
use Rattle.text.specs.Written.{written}
use Rattle.form.specs.Form.{NamedValues, SettledValues, MovedValues, ArrivalValues}
use Rattle.form.specs.declared.values.NamedLines.{NamedLines}
use Rattle.form.specs.declared.values.MovedLines.{MovedLines}
use Rattle.form.specs.declared.values.SettledLines.{SettledLines}
use Rattle.form.specs.declared.values.ArrivalLines.{ArrivalLines}

-- ---- the values of lines

abbrev pub named_values : NamedLines → NamedValues
named_values v = record { slot = v.slot; flag = v.flag; key_id = written v.keyid; source = written v.source }

abbrev pub settled_values : SettledLines → SettledValues
settled_values v = record { named = named_values v.named; terms = v.terms }

abbrev pub moved_values : MovedLines → MovedValues
moved_values v = record { highest = v.highest; marks = big_endian 32 (written v.marks); accepted = v.accepted; bytes = v.bytes }

abbrev pub arrival_values : ArrivalLines → ArrivalValues
arrival_values v = record { moved = moved_values v.moved; counters = v.counters }

-- ---- what is found

-- a reading, by the values of its lines
abbrev pub valued : {A B : Type 0} → (A → B) → Read A → Read B
valued values failed = failed
valued values (got lines rest) = got (values lines) rest

-- what a reader answers, and the text that it has left then
abbrev pub reached : {A B : Type 0} → (A → B) → Option A → List ℕ → Read B
reached values (Some lines) left = got (values lines) left
reached values None left = failed

-- what the reader answers of the text that it has left, and what it has left then: where the lines are not in their form, it stays
pub record Answers {A B : Type 0} (values : A → B) (grammar : List ℕ → Read B) (text : List ℕ) (a : Option A) (left : List ℕ) : Type 0 where
  pub read : reached values a left ≡ grammar text
  pub stays : IsNone a → left ≡ text
