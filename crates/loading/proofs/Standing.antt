-- When the listed entry stands in a slot, as facts: from the test to the facts and back, and what makes it fail.
-- Assumes nothing.
use mathlib.Core.Path.{◌≡◌, refl, sym, ap, ◌∙◌}
use mathlib.Core.Bool.{Bool, true, false, ◌&&◌, ◌||◌}
use mathlib.Core.List.{List}
use Prim.Native.Nat.{ℕ}
use borrow.Author.Tests.{eqb-true, eq-eqb}
use lib.Dec.{eqb}
use Rattle.numbers.proofs.Tests.{and_left, and_right, and_both, refuted}
use Rattle.octets.specs.Octets.{same}
use Rattle.octets.proofs.Same.{same_true}
use Rattle.slots.specs.Table.{cs_of, edition_of, source_of, frame_of, entry_of}
use Rattle.lookup.specs.Lookup.{matches}
use Rattle.lookup.proofs.Matching.{Alike, same_test, match_facts, own_source_decides, match_test}
use Rattle.form.specs.Form.{NamedValues, SettledValues}
use Rattle.loading.specs.Load.{named_so, terms_so, stands}
use Rattle.form.specs.declared.values.TermLines.{TermLines}

-- flag, KeyId and source
pub record NamedAlike (v : NamedValues) (s : List ℕ) : Type 0 where
  pub alike : Alike v.flag v.key_id s
  pub source_same : source_of s ≡ v.source

-- a test that is made twice
twice : (a b : Bool) → ((a || b) && b) ≡ b
twice true b = refl
twice false true = refl
twice false false = refl

module _ (v : NamedValues) (s : List ℕ) where
  pub named_alike : named_so v s ≡ true → NamedAlike v s
  unfolding named_so
  named_alike h = record {
    alike = match_facts v.flag v.key_id v.source s (and_left (matches v.flag v.key_id v.source s) (same (source_of s) v.source) h);
    source_same = same_true (source_of s) v.source (and_right (matches v.flag v.key_id v.source s) (same (source_of s) v.source) h);
  }

  pub alike_named : NamedAlike v s → named_so v s ≡ true
  unfolding named_so
  alike_named a =
      and_both (matches v.flag v.key_id v.source s) (same (source_of s) v.source)
      (match_test v.flag v.key_id v.source s a.alike (λ other. a.source_same)) (same_test (source_of s) v.source a.source_same)

  -- the source decides
  pub source_decides : Alike v.flag v.key_id s → same (source_of s) v.source ≡ named_so v s
  unfolding named_so
  source_decides a =
      sym (ap (λ (b : Bool). b && same (source_of s) v.source) (sym (own_source_decides v.flag v.key_id v.source s a)) ∙ twice (eqb v.flag 0) (same (source_of s) v.source))

  pub not_named : (Alike v.flag v.key_id s → ⊥) → false ≡ named_so v s
  not_named bad = refuted (named_so v s) (λ h. bad (named_alike h).alike)

-- suite, edition, size and start
pub record TermsAlike (v : TermLines) (s : List ℕ) : Type 0 where
  pub suite_same : cs_of s ≡ v.suite
  pub edition_same : edition_of s ≡ v.edition
  pub size_same : (frame_of s).size ≡ v.frame.size
  pub start_same : (frame_of s).start ≡ v.frame.start

module _ (v : TermLines) (s : List ℕ) where
  pub terms_alike : terms_so v s ≡ true → TermsAlike v s
  unfolding terms_so
  terms_alike h = search (and_left, and_right, eqb-true) depth 16

  pub by_start : cs_of s ≡ v.suite → edition_of s ≡ v.edition → (frame_of s).size ≡ v.frame.size
      → eqb (frame_of s).start v.frame.start ≡ terms_so v s
  unfolding terms_so
  by_start a b c = simp (eq-eqb (cs_of s) v.suite a, eq-eqb (edition_of s) v.edition b, eq-eqb (frame_of s).size v.frame.size c)

  pub alike_terms : TermsAlike v s → terms_so v s ≡ true
  alike_terms a = sym (by_start a.suite_same a.edition_same a.size_same) ∙ eq-eqb (frame_of s).start v.frame.start a.start_same

  pub not_terms : (TermsAlike v s → ⊥) → false ≡ terms_so v s
  not_terms bad = refuted (terms_so v s) (λ h. bad (terms_alike h))

  pub frame_alike : TermsAlike v s → frame_of s ≡ v.frame
  frame_alike a = rw (a.size_same, a.start_same)

-- ---- both, and accepted 0

pub record Stands (v : SettledValues) (s : List ℕ) : Type 0 where
  pub named : NamedAlike v.named s
  pub terms : TermsAlike v.terms s
  pub unused : (entry_of s).accepted ≡ 0

module _ (v : SettledValues) (s : List ℕ) where
  pub stand_facts : stands v s ≡ true → Stands v s
  unfolding stands
  stand_facts h =
      let front = and_left (named_so v.named s && terms_so v.terms s) (eqb (entry_of s).accepted 0) h in record {
        named = named_alike v.named s (and_left (named_so v.named s) (terms_so v.terms s) front);
        terms = terms_alike v.terms s (and_right (named_so v.named s) (terms_so v.terms s) front);
        unused = eqb-true (entry_of s).accepted 0 (and_right (named_so v.named s && terms_so v.terms s) (eqb (entry_of s).accepted 0) h);
      }

  pub by_total : named_so v.named s ≡ true → terms_so v.terms s ≡ true → eqb (entry_of s).accepted 0 ≡ stands v s
  unfolding stands
  by_total a b = simp (a, b)

  pub stand_test : Stands v s → stands v s ≡ true
  stand_test a = sym (by_total (alike_named v.named s a.named) (alike_terms v.terms s a.terms)) ∙ eq-eqb (entry_of s).accepted 0 a.unused

  pub other_name : named_so v.named s ≡ false → false ≡ stands v s
  unfolding stands
  other_name e = rw e

  pub other_terms : named_so v.named s ≡ true → terms_so v.terms s ≡ false → false ≡ stands v s
  unfolding stands
  other_terms a b = simp (a, b)
