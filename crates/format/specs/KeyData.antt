-- Key data (01, "The message, big-endian": "Key data is sound when L is what the first byte asks; the SourceIdentifier has 4 to 32 bytes; the
-- base key has 32; the suite is 1 or 2; flag 0 does not go with KeyId 80"). A flag is a byte here, and one over 1 is unsound. 02, No. 4: "Key data
-- gets an edition"; No. 5: "the soundness rule now admit[s] 241 and 242".
use Rattle.std.specs.Prelude.{Bool, ◌&&◌, ◌||◌, not, List, ℕ, eqb, leb, length, get_or, is_some}
use Rattle.format.specs.KeyId.{length_asked}
use Rattle.format.specs.Suite.{suite_of}

-- "An entry has: flag, KeyId bytes, SourceIdentifier, suite, 32-byte base key, .. A sender's record has the first five": these five, and an edition
pub record KeyData : Type 0 where
  pub flag : ℕ
  pub key_id : List ℕ
  pub source : List ℕ
  pub suite : ℕ
  pub edition : ℕ
  pub key : List ℕ

-- key data as a caller hands it in
abbrev pub handed_in : ℕ → List ℕ → List ℕ → ℕ → ℕ → List ℕ → KeyData
handed_in flag key_id source suite edition key =
    record { flag = flag; key_id = key_id; source = source; suite = suite; edition = edition; key = key }

-- "an edition, 1 for these and 2 for the rule in 01. Edition 1 is sound only with suite 1."
abbrev pub goes_with : ℕ → ℕ → Bool
goes_with edition suite = eqb edition 2 || (eqb edition 1 && eqb suite 1)

unfoldable pub sound_of : KeyData → Bool
sound_of k =
    leb k.flag 1
    && eqb (length k.key_id) (length_asked (get_or k.key_id 0 0))
    && leb 4 (length k.source)
    && leb (length k.source) 32
    && eqb (length k.key) 32
    && is_some (suite_of k.suite)
    && goes_with k.edition k.suite
    && not (eqb k.flag 0 && eqb (get_or k.key_id 0 0) 0x80)
