-- `message::sealing::seal` meets its contract: the words are those of the key. Assumes nothing.
use Rattle.std.proofs.Common.{◌∙◌, sym, ap}
use Rattle.magma.specs.Magma.{key_words}
use Rattle.derivation.specs.Derivation.{Inputs}
use Rattle.message.proofs.sealing.seal.Goals as goal

pub returns : goal.returns
returns c =
    let k = c.keys.inside in
    let made = c.new-derived.ensures in
    let words = sym (c.key_words-base.ensures ∙ ap key_words (rw c.unwrap.ensures at c.try_into.ensures).1.same) ∙ sym (ap (λ (d : Inputs). d.base) made) in
    rw (← c.keys.view_is)
    (record {
      answers = rw made at (c.seal_under.ensures.answers k.key.now k.suite words);
      writes = rw made at (c.seal_under.ensures.writes k.key.now k.suite words);
    })
