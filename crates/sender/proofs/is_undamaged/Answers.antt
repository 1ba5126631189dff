-- Sound key data has a flag under 2. Assumes nothing.
use Rattle.std.proofs.Common.{sym, ◌∙◌, arith, Bool, true, false, ℕ, ◌<◌}
use Rattle.std.specs.Bool.{OnTrue}
use Rattle.format.proofs.Soundness.{sound_facts}
use Rattle.sender.specs.Protect.{key_data_in}
use Rattle.sender.proofs.is_undamaged.Goals as goal

either_way : (b : Bool) (flag : ℕ) → flag < 2 → OnTrue b (flag < 2)
either_way true flag small = small
either_way false flag small = tt

pub returns-then-is_sound-clause-flag : goal.returns-then-is_sound-clause-flag
returns-then-is_sound-clause-flag c =
    either_way _ _ (omega (arith, (sound_facts (key_data_in c.args.sender.keys) (sym c.is_sound.ensures.answers ∙ c.if-is_sound.true)).flag_small))
