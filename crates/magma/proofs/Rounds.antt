-- The rounds: those of a list put together, and the swap that is undone after the last.
-- Assumes nothing.
use Rattle.std.proofs.Common.{◌≡◌, ℕ, List, [], ◌∷◌, ◌++◌, reverse, length, get_or, take, sym, ap, ◌∙◌, arith, length-append, take_all, take-suc}
use lib.ListN.{length-reverse}
use Rattle.std.proofs.lemmas.List.Sums.{fold-append}
use Rattle.magma.specs.declared.Halves.{Halves}
use Rattle.magma.specs.Magma.{swapping, staying, through, schedule, halves_of, block_of, encrypted}

pub through_append : (a b : List ℕ) (h : Halves) → through (a ++ b) h ≡ through b (through a h)
through_append a b h = fold-append (λ (g : Halves) (word : ℕ). swapping word g) h a b

module _ (key : List ℕ) where
  -- the key forwards three times, then backwards
  pub in_turn : (h : Halves) → through (schedule key) h ≡ through (reverse key) (through key (through key (through key h)))
  unfolding schedule
  in_turn h = rw (through_append, through_append, through_append)

  module _ (eight : length key ≡ 8) where
    thirty_two : length (schedule key) ≡ 32
    unfolding schedule
    thirty_two = simp (length-append, length-reverse) (omega arith)

    -- the 32nd round by itself
    last : (h : Halves) → through (schedule key) h ≡ swapping (get_or (schedule key) 31 0) (through (take 31 (schedule key)) h)
    last h =
        ap (λ (l : List ℕ). through l h) (sym (take_all 32 (schedule key) (omega (arith, thirty_two))) ∙ take-suc (schedule key) 31 0 (omega (arith, thirty_two)))
        ∙ through_append (take 31 (schedule key)) (get_or (schedule key) 31 0 ∷ []) h

    -- the rounds as the code makes them, with the swap after each, and the last swap undone
    pub joined : (block : ℕ) (last : Halves) → last ≡ through (reverse key) (through key (through key (through key (halves_of block))))
        → block_of (record { high = last.low; low = last.high }) ≡ encrypted key block
    unfolding encrypted staying swapping
    joined block h e = rw (e ∙ sym (in_turn (halves_of block)) ∙ last (halves_of block))
