-- What `seal_under` says for every key with the words that it was lent determines its results: eight words are those of a key.
-- Assumes nothing.
use mathlib.Core.Path.{◌≡◌, refl, sym, ap, ap₂, ◌∙◌}
use mathlib.Core.List.{List, [], ◌∷◌, ◌++◌, append_assoc}
use Prim.Native.Nat.{ℕ, zero, suc, ◌*◌, ◌^◌, ◌≤◌, ◌<◌}
use native.Mathlib.Omega.{arith}
use lib.ListN.{length, get_or, take, length-append}
use lib.Seq.{take-suc, take-length}
use Rattle.octets.specs.Octets.{bytes_of, put}
use Rattle.octets.proofs.BigEndian.{length_bytes, number_there}
use Rattle.magma.specs.Magma.{words, key_words}
use Rattle.format.specs.KeyData.{handed_in}
use Rattle.derivation.specs.Derivation.{Inputs, IsBase}
use Rattle.message.specs.Sealing.{sealed}

-- the bytes of the first n words
bytes_of_words : List ℕ → ℕ → List ℕ
bytes_of_words ws zero = []
bytes_of_words ws (suc n) = bytes_of_words ws n ++ bytes_of 4 (get_or ws n 0)

module _ (ws : List ℕ) (small : (i : ℕ) → get_or ws i 0 < 2 ^ 32) where
  length_words : (n : ℕ) → length (bytes_of_words ws n) ≡ 4 * n
  unfolding bytes_of_words
  length_words zero = refl
  length_words (suc n) = simp (length-append, length_bytes) (omega (arith, length_words n))

  -- n words are read from their bytes, whatever comes behind them
  read_back : (n : ℕ) (rest : List ℕ) → n ≤ length ws → words n (bytes_of_words ws n ++ rest) ≡ take n ws
  unfolding words bytes_of_words
  read_back zero rest h = refl
  read_back (suc n) rest h =
      let front = bytes_of_words ws n in
      let last = bytes_of 4 (get_or ws n 0) in
      ap₂ (λ (u : List ℕ) (x : ℕ). u ++ (x ∷ []))
      (ap (words n) (append_assoc front last rest) ∙ read_back n (last ++ rest) (omega arith))
      (number_there 4 (get_or ws n 0) (4 * n) front rest (length_words n) (small n))
      ∙ sym (take-suc ws n 0 h)

  of_a_key : length ws ≡ 8 → key_words (bytes_of_words ws 8 ++ []) ≡ ws
  of_a_key e = read_back 8 [] (omega arith) ∙ ap (λ (n : ℕ). take n ws) (sym e) ∙ take-length ws

  -- two results, each what f makes of whatever key has the words
  pub seal_under_determined : {A : Type 0} (f : List ℕ → A) {x y : A} → length ws ≡ 8
      → ((key : List ℕ) → key_words key ≡ ws → x ≡ f key) → ((key : List ℕ) → key_words key ≡ ws → y ≡ f key) → x ≡ y
  seal_under_determined f e p q = p _ (of_a_key e) ∙ sym (q _ (of_a_key e))

-- the two results of a call, the answer and the output, by the clauses of `seal_under`
module _ (d : Inputs) (flag : ℕ) (key_id payload out : List ℕ) where
  pub record Sealed (answer : ℕ) (left : List ℕ) : Type 0 where
    pub base : IsBase d.base
    pub answers : (key : List ℕ) (cs : ℕ) → key_words key ≡ d.base → answer ≡ length (sealed d.suite (handed_in flag key_id d.source cs d.edition key) d.seq_num payload)
    pub writes : (key : List ℕ) (cs : ℕ) → key_words key ≡ d.base → left ≡ put out 0 (sealed d.suite (handed_in flag key_id d.source cs d.edition key) d.seq_num payload)

  -- there is one message
  pub message_determined : {a b : ℕ} {x y : List ℕ} → Sealed a x → Sealed b y → (a ≡ b) × (x ≡ y)
  message_determined p q =
      let message : List ℕ → List ℕ = λ key. sealed d.suite (handed_in flag key_id d.source 0 d.edition key) d.seq_num payload in (
        seal_under_determined d.base p.base.1 (λ key. length (message key)) p.base.0 (λ key. p.answers key 0) (λ key. q.answers key 0),
        seal_under_determined d.base p.base.1 (λ key. put out 0 (message key)) p.base.0 (λ key. p.writes key 0) (λ key. q.writes key 0),
      )
