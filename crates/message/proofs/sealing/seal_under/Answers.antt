-- `message::sealing::seal_under` meets its contract: header, payload and ICV are written side by side, and the ICV is that of what stands before it.
-- Assumes nothing.
use Rattle.std.proofs.Common.{◌≡◌, sym, List, ℕ, arith, length-take}
use Rattle.magma.specs.Magma.{key_words}
use Rattle.octets.specs.Octets.{put}
use Rattle.format.specs.KeyData.{handed_in}
use Rattle.message.specs.Sealing.{front_of}
use Rattle.message.proofs.Fronts.{same_inputs, front_written, sealed_written}
use Rattle.message.proofs.RoundTrip.{sealed_length}
use Rattle.message.proofs.sealing.seal_under.Goals.{After-encipher}
use Rattle.message.proofs.sealing.seal_under.Goals as goal

-- the output as the ICV finds it, for a key with these words
written : (c : After-encipher) (key : List ℕ) (cs : ℕ) → key_words key ≡ c.args.keys.now.base
    → let a = c.args in let d = a.keys.now in
    c.encipher.new.out ≡ put a.out.now 0 (front_of d.suite (handed_in a.flag a.keyid.now d.source cs d.edition key) d.seq_num a.payload.now)
written c key cs words =
    let a = c.args in
    let d = a.keys.now in
    front_written d.suite (handed_in a.flag a.keyid.now d.source cs d.edition key) d.seq_num a.payload.now a.out.now (rw (c.suite-suite.ensures, c.seqnum.ensures.answers) at c.write_header.ensures)
    (rw (same_inputs d words) at c.encipher.ensures)

pub slice_bounds-icv-end-2 : goal.slice_bounds-icv-end-2
slice_bounds-icv-end-2 c = simp length-take (omega arith)

pub returns : goal.returns
returns c =
    let a = c.args in
    let d = a.keys.now in record {
      base = c.seqnum.ensures.base;
      answers = λ key cs words. rw (c.icv_length-2.ensures, c.suite-suite.ensures)
          (sym (sealed_length d.suite (handed_in a.flag a.keyid.now d.source cs d.edition key) d.seq_num a.payload.now));
      writes = λ key cs words. sealed_written d.suite (handed_in a.flag a.keyid.now d.source cs d.edition key) d.seq_num a.payload.now a.out.now
          (written (goal.at.returns c).After-encipher key cs words) c.icv-icv.result _
          (rw (same_inputs d words) at c.icv-icv.ensures)
          (rw c.suite-suite.ensures at c.icv_length.ensures)
          c.write.ensures;
    }
