-- `Derivation::key_from` meets its contract: the blocks' data is what was written behind the place of their number. Assumes nothing.
use Rattle.std.proofs.Common.{◌≡◌, ap, ◌∙◌, ◌∷◌, ◌+◌, arith, rules, List, ℕ, length, take, drop, replicate}
use Rattle.modes.specs.Modes.{magma_check}
use Rattle.derivation.specs.Derivation.{data_after, block_words}
use Rattle.derivation.proofs.Pieces.{data_length, data_front}
use Rattle.derivation.proofs.Derivation.key_from.Goals.{After-write_data}
use Rattle.derivation.proofs.Derivation.key_from.Goals as goal

-- the data as it is lent
front : (c : After-write_data) → let d = c.self.inside in
    take (18 + length d.source.now) c.write_data.new.out ≡ 0 ∷ data_after d.purpose.suite d.purpose.edition d.source.now d.purpose.seqnum
front c =
    let d = c.self.inside in
    data_front d.purpose.suite d.purpose.edition d.source.now d.purpose.seqnum (replicate 50 0) (search rules) c.write_data.ensures

lent : (c : After-write_data) → let d = c.self.inside in
    length (take (18 + length d.source.now) c.write_data.new.out) ≡ 18 + length d.source.now
lent c =
    let d = c.self.inside in
    omega (arith, ap length (front c), data_length d.purpose.suite d.purpose.edition d.source.now d.purpose.seqnum)

pub slice_bounds-key_of_blocks-end : goal.slice_bounds-key_of_blocks-end
slice_bounds-key_of_blocks-end c = omega (arith, lent (goal.at.slice_bounds-key_of_blocks-end c).After-write_data)

pub key_of_blocks-requires : goal.key_of_blocks-requires
key_of_blocks-requires c = (omega (arith, lent (goal.at.key_of_blocks-requires c).After-write_data), search rules)

pub returns : goal.returns
returns c =
    let d = c.self.inside in
    rw (← c.self.view_is)
    (c.key_of_blocks.ensures
    ∙ ap (λ (bytes : List ℕ). block_words (λ i. magma_check d.base (i ∷ drop 1 bytes)) c.args.first 4) (front (goal.at.returns c).After-write_data))
