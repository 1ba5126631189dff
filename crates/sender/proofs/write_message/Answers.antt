-- The message is that of the key data with these words. Assumes nothing.
use Rattle.std.proofs.Common.{ap, sym, ◌∙◌}
use Rattle.derivation.specs.Derivation.{Inputs}
use Rattle.sender.proofs.write_message.Goals as goal

pub returns : goal.returns
returns c =
    let k = c.args.keys in
    let made = c.new-derived.ensures in
    let words = c.requires.words ∙ sym (ap (λ (d : Inputs). d.base) made) in
    record {
      value = rw made at (c.seal_under.ensures.answers k.key k.suite words);
      out_after = rw made at (c.seal_under.ensures.writes k.key k.suite words);
    }
