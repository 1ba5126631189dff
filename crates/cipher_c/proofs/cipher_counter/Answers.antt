-- `cipher_c::cipher_counter` meets its contract: what `modes::counter` writes, where there is room. Assumes nothing.
use Rattle.std.proofs.Common.{◌∙◌, le-leb}
use Rattle.cipher_c.proofs.cipher_counter.Goals as goal

pub returns : goal.returns
returns c =
    let room = le-leb _ _ c.if-bytes-gt-LONGEST.false in
    record { value = simp room; out_after = c.counter.ensures ∙ simp room }
