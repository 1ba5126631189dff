-- Two readings in a row, or four, each in the text that the one before it left: the first that fails decides, and where all succeed, so do their values.
-- What two or four lines print is read so, and what was read is what they print.
-- Assumes nothing.
use mathlib.Core.Path.{◌≡◌, sym, ap, ◌∙◌}
use mathlib.Core.List.{List, ◌++◌, append_assoc}
use Prim.Native.Nat.{ℕ}
use Rattle.text.specs.Reading.{Read, failed, got, and_then}
use Rattle.text.proofs.ReadPrinted.{got_value, got_rest, through}

module _ {A B C D E : Type 0} (a : List ℕ → Read A) (b : List ℕ → Read B) (c : List ℕ → Read C) (d : List ℕ → Read D) (f : A → B → C → D → E) where
  abbrev pub four : List ℕ → Read E
  four text = and_then (a text) λ w l₁. and_then (b l₁) λ x l₂. and_then (c l₂) λ y l₃. and_then (d l₃) λ z l₄. got (f w x y z) l₄

  module _ (text : List ℕ) where
    pub first_fails : a text ≡ failed → four text ≡ failed
    first_fails n = rw n

    module _ {w : A} {l₁ : List ℕ} (e₁ : a text ≡ got w l₁) where
      pub second_fails : b l₁ ≡ failed → four text ≡ failed
      second_fails n = rw (e₁, n)

      module _ {x : B} {l₂ : List ℕ} (e₂ : b l₁ ≡ got x l₂) where
        pub third_fails : c l₂ ≡ failed → four text ≡ failed
        third_fails n = rw (e₁, e₂, n)

        module _ {y : C} {l₃ : List ℕ} (e₃ : c l₂ ≡ got y l₃) where
          pub fourth_fails : d l₃ ≡ failed → four text ≡ failed
          fourth_fails n = rw (e₁, e₂, e₃, n)

          pub all_four : {z : D} {l₄ : List ℕ} → d l₃ ≡ got z l₄ → four text ≡ got (f w x y z) l₄
          all_four e₄ = rw (e₁, e₂, e₃, e₄)

module _ {A B E : Type 0} (a : List ℕ → Read A) (b : List ℕ → Read B) (f : A → B → E) where
  abbrev pub two : List ℕ → Read E
  two text = and_then (a text) λ w l₁. and_then (b l₁) λ x l₂. got (f w x) l₂

  module _ (text : List ℕ) where
    pub one_fails : a text ≡ failed → two text ≡ failed
    one_fails n = rw n

    module _ {w : A} {l₁ : List ℕ} (e₁ : a text ≡ got w l₁) where
      pub other_fails : b l₁ ≡ failed → two text ≡ failed
      other_fails n = rw (e₁, n)

      pub both_got : {x : B} {l₂ : List ℕ} → b l₁ ≡ got x l₂ → two text ≡ got (f w x) l₂
      both_got e₂ = rw (e₁, e₂)

-- ---- what is printed is read, and what was read was printed

-- how a line is read, and how it is printed
pub record Line (A : Type 0) : Type 0 where
  pub read : List ℕ → Read A
  pub print : A → List ℕ

-- printed, it is read as the same, whatever follows; and what is read was printed
abbrev pub Reads : {A : Type 0} → Line A → A → Type 0
Reads line x = (rest : List ℕ) → line.read (line.print x ++ rest) ≡ got x rest

abbrev pub Prints : {A : Type 0} → Line A → Type 0
Prints {A} line = (text : List ℕ) (x : A) (rest : List ℕ) → line.read text ≡ got x rest → text ≡ line.print x ++ rest

module _ {A B C D E : Type 0} (a : Line A) (b : Line B) (c : Line C) (d : Line D) (f : A → B → C → D → E) where
  abbrev reading : List ℕ → Read E
  reading = four a.read b.read c.read d.read f

  behind : (w : A) (x : B) (y : C) (z : D) (rest : List ℕ)
      → a.print w ++ b.print x ++ c.print y ++ d.print z ++ rest ≡ a.print w ++ (b.print x ++ (c.print y ++ (d.print z ++ rest)))
  behind w x y z rest = simp append_assoc

  pub four_reads : (w : A) (x : B) (y : C) (z : D) → Reads a w → Reads b x → Reads c y → Reads d z
      → (rest : List ℕ) → reading (a.print w ++ b.print x ++ c.print y ++ d.print z ++ rest) ≡ got (f w x y z) rest
  four_reads w x y z i j k l rest =
      ap reading (behind w x y z rest)
      ∙ all_four a.read b.read c.read d.read f (a.print w ++ (b.print x ++ (c.print y ++ (d.print z ++ rest)))) (i (b.print x ++ (c.print y ++ (d.print z ++ rest))))
      (j (c.print y ++ (d.print z ++ rest))) (k (d.print z ++ rest)) (l rest)

  -- the four values, and the text that they were printed as
  pub record Was (text : List ℕ) (value : E) (rest : List ℕ) : Type 0 where
    pub w : A
    pub x : B
    pub y : C
    pub z : D
    pub made : f w x y z ≡ value
    pub is : text ≡ a.print w ++ b.print x ++ c.print y ++ d.print z ++ rest

  pub four_was : Prints a → Prints b → Prints c → Prints d → (text : List ℕ) (value : E) (rest : List ℕ) → reading text ≡ got value rest → Was text value rest
  four_was i j k l text value rest e =
      let p = through (a.read text) _ value rest e in
      let q = through (b.read p.left) _ value rest p.next in
      let r = through (c.read q.left) _ value rest q.next in
      let s = through (d.read r.left) _ value rest r.next in
      let last : r.left ≡ d.print s.value ++ rest = l r.left s.value s.left s.is ∙ ap (λ (m : List ℕ). d.print s.value ++ m) (got_rest s.next) in
      record {
        w = p.value;
        x = q.value;
        y = r.value;
        z = s.value;
        made = got_value s.next;
        is =
            i text p.value p.left p.is
            ∙ ap (λ (m : List ℕ). a.print p.value ++ m) (j p.left q.value q.left q.is
            ∙ ap (λ (m : List ℕ). b.print q.value ++ m) (k q.left r.value r.left r.is ∙ ap (λ (m : List ℕ). c.print r.value ++ m) last))
            ∙ sym (behind p.value q.value r.value s.value rest);
      }

module _ {A B E : Type 0} (a : Line A) (b : Line B) (f : A → B → E) where
  abbrev pair : List ℕ → Read E
  pair = two a.read b.read f

  pub two_reads : (w : A) (x : B) → Reads a w → Reads b x → (rest : List ℕ) → pair (a.print w ++ b.print x ++ rest) ≡ got (f w x) rest
  two_reads w x i j rest =
      ap pair (append_assoc (a.print w) (b.print x) rest) ∙ both_got a.read b.read f (a.print w ++ (b.print x ++ rest)) (i (b.print x ++ rest)) (j rest)

  -- the two values, and the text that they were printed as
  pub record Both (text : List ℕ) (value : E) (rest : List ℕ) : Type 0 where
    pub w : A
    pub x : B
    pub left : List ℕ
    pub first : a.read text ≡ got w left
    pub second : b.read left ≡ got x rest
    pub made : f w x ≡ value

  pub two_got : (text : List ℕ) (value : E) (rest : List ℕ) → pair text ≡ got value rest → Both text value rest
  two_got text value rest e =
      let p = through (a.read text) _ value rest e in
      let q = through (b.read p.left) _ value rest p.next in
      record {
        w = p.value;
        x = q.value;
        left = p.left;
        first = p.is;
        second = q.is ∙ ap (got q.value) (got_rest q.next);
        made = got_value q.next;
      }

  pub two_was : Prints a → Prints b → (text : List ℕ) (value : E) (rest : List ℕ) → pair text ≡ got value rest
      → (both : Both text value rest) × (text ≡ a.print both.w ++ b.print both.x ++ rest)
  two_was i j text value rest e =
      let q = two_got text value rest e in
      (q, i text q.w q.left q.first ∙ ap (λ (m : List ℕ). a.print q.w ++ m) (j q.left q.x rest q.second) ∙ sym (append_assoc (a.print q.w) (b.print q.x) rest))
