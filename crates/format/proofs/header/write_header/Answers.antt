-- `format::header::write_header` meets its contract: four writes, each behind the one before. Assumes nothing.
use Rattle.format.proofs.Written.{parts_put}
use Rattle.format.proofs.header.write_header.Goals as goal

pub returns : goal.returns
returns c =
    let a = c.args in
    parts_put a.flag a.suite a.keyid.now a.out.now _ _ _ _ _ a.seqnum
    c.number.ensures
    c.write.ensures
    c.write-2.ensures
    c.copy.ensures
    c.write-3.ensures
