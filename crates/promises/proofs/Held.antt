-- An entry in its slot: exactly the messages that name it lead there, and what another slot is given changes nothing of it.
-- Assumes nothing.
use mathlib.Core.Path.{◌≡◌, refl, sym, ap, subst, ◌∙◌}
use mathlib.Core.Bool.{Bool, true, ◌&&◌, ◌||◌}
use mathlib.Core.List.{List, []}
use Prim.Native.Nat.{ℕ, ◌≤◌, ◌<◌}
use native.Mathlib.Decide.{ℕ_discrete}
use native.Mathlib.Omega.{arith}
use borrow.Author.Tests.{eqb-true, eq-eqb}
use lib.Dec.{eqb}
use lib.ListN.{length}
use Rattle.numbers.proofs.Tests.{and_left, and_right, and_both}
use Rattle.octets.specs.Octets.{same}
use Rattle.octets.proofs.Same.{same_true}
use Rattle.window.proofs.Entries.{UndamagedEntry, entry_test}
use Rattle.format.specs.KeyData.{KeyData, sound_of}
use Rattle.format.proofs.Soundness.{Sound, sound_test}
use Rattle.slots.specs.Table.{slot_of, entry_of, key_data_of, replaced, slot_length, slot_count, table_length, key_id_length_of, key_id_room, source_length_of, source_room}
use Rattle.slots.specs.Record.{undamaged}
use Rattle.slots.proofs.Damage.{undamaged_by_entry}
use Rattle.slots.proofs.Replacing.{length_replaced, slot_own, slot_other}
use Rattle.slots.proofs.Rewriting.{same_keydata, Rewritten, rewritten_keys}
use Rattle.lookup.specs.Lookup.{matches, leads_to}
use Rattle.lookup.proofs.Firsts.{found_too, leads_small, leads_matches}
use Rattle.lookup.proofs.Matching.{Alike, same_test, source_fact, source_test, match_facts, match_source, match_test, same_matches}
use Rattle.std.specs.Prelude.{Some}

-- whether a slot matches key data
abbrev pub is_named : KeyData → List ℕ → Bool
is_named k s = matches k.flag k.key_id k.source s

-- sound key data stands in slot i, and what names it leads there
pub record Held (k : KeyData) (i : ℕ) (t : List ℕ) : Type 0 where
  pub long : length t ≡ table_length
  pub sound : Sound k
  pub keys : key_data_of (slot_of t i) ≡ k
  pub leads : leads_to t k.flag k.key_id k.source ≡ Some i

-- ---- names

-- flag, KeyId and, for flag 1, source are those of the key data
pub record Names (k : KeyData) (flag : ℕ) (key_id source : List ℕ) : Type 0 where
  pub flag_same : k.flag ≡ flag
  pub keyid_same : k.key_id ≡ key_id
  pub source_same : (flag ≡ 0 → ⊥) → k.source ≡ source

pub names_back : {k other : KeyData} → Names k other.flag other.key_id other.source → Names other k.flag k.key_id k.source
names_back n = record {
  flag_same = sym n.flag_same;
  keyid_same = sym n.keyid_same;
  source_same = λ some. sym (n.source_same (λ z. some (n.flag_same ∙ z)));
}

module _ (k : KeyData) (flag : ℕ) (key_id source : List ℕ) where
  abbrev named : Bool
  named = eqb k.flag flag && same k.key_id key_id && (eqb flag 0 || same k.source source)

  pub names_facts : named ≡ true → Names k flag key_id source
  names_facts h = record {
    flag_same = eqb-true k.flag flag (search (and_left));
    keyid_same = same_true k.key_id key_id (search (and_left, and_right));
    source_same = source_fact flag k.source source (search (and_right));
  }

  pub names_test : Names k flag key_id source → named ≡ true
  names_test n =
      and_both (eqb k.flag flag && same k.key_id key_id) (eqb flag 0 || same k.source source)
      (and_both (eqb k.flag flag) (same k.key_id key_id) (eq-eqb k.flag flag n.flag_same) (same_test k.key_id key_id n.keyid_same))
      (source_test flag k.source source n.source_same)

  -- a slot with the key data names it where it matches
  pub match_names : (s : List ℕ) → key_data_of s ≡ k → matches flag key_id source s ≡ true → Names k flag key_id source
  match_names s e h =
      let a = match_facts flag key_id source s h in record {
        flag_same = sym (ap (λ (x : KeyData). x.flag) e) ∙ a.flag_same;
        keyid_same = sym (ap (λ (x : KeyData). x.key_id) e) ∙ a.keyid_same;
        source_same = λ some. sym (ap (λ (x : KeyData). x.source) e) ∙ match_source flag key_id source s h some;
      }

  -- a slot that matches what names the key data matches the key data
  match_named : (s : List ℕ) → Names k flag key_id source → matches flag key_id source s ≡ true → is_named k s ≡ true
  match_named s n h =
      rw (n.flag_same, n.keyid_same)
      (match_test flag key_id k.source s (match_facts flag key_id source s h) (λ some. match_source flag key_id source s h some ∙ sym (n.source_same some)))

-- ---- where messages lead

-- to a slot whose own name leads there too
pub own_leads : (t : List ℕ) (i flag : ℕ) (key_id source : List ℕ) → leads_to t flag key_id source ≡ Some i
    → let k = key_data_of (slot_of t i) in leads_to t k.flag k.key_id k.source ≡ Some i
unfolding leads_to
own_leads t i flag key_id source l =
    let k = key_data_of (slot_of t i) in
    let other : KeyData = record { flag = flag; key_id = key_id; source = source; suite = 0; edition = 0; key = [] } in
    let hit = leads_matches t i flag key_id source l in
    let n = match_names k flag key_id source (slot_of t i) refl hit in
    found_too (λ j. matches flag key_id source (slot_of t j)) (λ j. is_named k (slot_of t j)) i l (match_named k flag key_id source (slot_of t i) n hit)
    (λ j m. match_named other k.flag k.key_id k.source (slot_of t j) (names_back {k = k} {other = other} n))

module _ {k : KeyData} {i : ℕ} {t : List ℕ} (held : Held k i t) where
  pub held_small : i < slot_count
  held_small = leads_small t i k.flag k.key_id k.source held.leads

  pub held_matches : is_named k (slot_of t i) ≡ true
  held_matches = leads_matches t i k.flag k.key_id k.source held.leads

  pub held_alike : Alike k.flag k.key_id (slot_of t i)
  held_alike = match_facts k.flag k.key_id k.source (slot_of t i) held_matches

  module _ (flag : ℕ) (key_id source : List ℕ) where
    pub leads_here : Names k flag key_id source → leads_to t flag key_id source ≡ Some i
    unfolding leads_to
    leads_here n =
        let other : KeyData = record { flag = flag; key_id = key_id; source = source; suite = 0; edition = 0; key = [] } in
        found_too (λ j. is_named k (slot_of t j)) (λ j. matches flag key_id source (slot_of t j)) i held.leads
        (match_named other k.flag k.key_id k.source (slot_of t i) (names_back {k = k} {other = other} n) held_matches)
        (λ j l. match_named k flag key_id source (slot_of t j) n)

    pub leads_named : leads_to t flag key_id source ≡ Some i → Names k flag key_id source
    leads_named l = match_names k flag key_id source (slot_of t i) held.keys (leads_matches t i flag key_id source l)

  -- the slot is undamaged where its entry is
  pub held_undamaged : UndamagedEntry (entry_of (slot_of t i)) → undamaged (slot_of t i) ≡ true
  held_undamaged w =
      sym (undamaged_by_entry (slot_of t i) (ap sound_of held.keys ∙ sound_test k held.sound)) ∙ entry_test (entry_of (slot_of t i)) w

  -- ---- writes

  -- a slot is given bytes that match the key data only if what stood there did
  module _ (j : ℕ) (small : j < slot_count) (s : List ℕ) (n : length s ≡ slot_length) (mild : is_named k s ≡ true → is_named k (slot_of t j) ≡ true) where
    abbrev next : List ℕ
    next = replaced t j s

    held_replaced : key_data_of (slot_of next i) ≡ k → is_named k (slot_of next i) ≡ true → Held k i next
    unfolding leads_to
    held_replaced keys passes = record {
      long = length_replaced t j s held.long small n;
      sound = held.sound;
      keys = keys;
      leads =
          found_too (λ x. is_named k (slot_of t x)) (λ x. is_named k (slot_of next x)) i held.leads passes
          (λ x l. by x (omega (arith, held_small)) (ℕ_discrete x j));
    }
      where
        by : (x : ℕ) → x < slot_count → Dec (x ≡ j) → is_named k (slot_of next x) ≡ true → is_named k (slot_of t x) ≡ true
        by x l (yes same) h = rw same (mild (rw (same, slot_own t j s held.long small n) at h))
        by x l (no off) h = rw (slot_other t j s held.long small n x l off) at h

    module _ (other : j ≡ i → ⊥) where
      pub slot_beside : slot_of next i ≡ slot_of t i
      slot_beside = slot_other t j s held.long small n i held_small (λ e. other (sym e))

      pub held_beside : Held k i next
      held_beside = held_replaced (rw slot_beside held.keys) (rw slot_beside held_matches)

  -- into the slot, behind what an install settled
  pub held_rewritten : {s u : List ℕ} → Rewritten t i s u → Held k i u
  held_rewritten {s} {u} w =
      let long = held.long in
      let small = held_small in
      let keys = rewritten_keys t i long small w held_alike.keyid_short held_alike.source_short in
      let matched = same_matches keys k.flag k.key_id k.source in
      let is = slot_own t i s long small w.full in
      subst (Held k i) (sym w.is)
      (held_replaced i small s w.full (λ h. sym matched ∙ h) (ap key_data_of is ∙ same_keydata keys ∙ held.keys) (rw is (matched ∙ held_matches)))

  -- and into another, of which KeyId and source are within their room
  module _ (j : ℕ) (small : j < slot_count) {s u : List ℕ} (w : Rewritten t j s u) (keyid : key_id_length_of (slot_of t j) ≤ key_id_room) (source : source_length_of (slot_of t j) ≤ source_room) (other : j ≡ i → ⊥) where
    mild_there : is_named k s ≡ true → is_named k (slot_of t j) ≡ true
    mild_there h = sym (same_matches (rewritten_keys t j held.long small w keyid source) k.flag k.key_id k.source) ∙ h

    pub held_aside : Held k i u
    held_aside = subst (Held k i) (sym w.is) (held_beside j small s w.full mild_there other)

    pub slot_aside : slot_of u i ≡ slot_of t i
    slot_aside = ap (λ (x : List ℕ). slot_of x i) w.is ∙ slot_beside j small s w.full mild_there other
