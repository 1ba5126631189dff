-- `derivation::key_of_blocks` meets its contract. The loop's invariant: the words of the blocks passed are stored, and of the data only
-- the first byte changes. Assumes nothing.
use Rattle.std.proofs.Common.{◌≡◌, ◌∷◌, ◌*◌, length, take, drop}
use Rattle.modes.specs.Modes.{magma_check}
use Rattle.derivation.specs.Derivation.{block_words}
use Rattle.derivation.proofs.key_of_blocks.Given as goal

abbrev pub invariant-loop-k : goal.invariant-loop-k
invariant-loop-k l = record {
  eight : length l.words ≡ 8;
  rest : drop 1 l.bytes ≡ drop 1 l.initial.bytes;
  stored : take (2 * l.k) l.words ≡ block_words (λ i. magma_check l.base (i ∷ drop 1 l.initial.bytes)) l.first l.k;
}
