-- `form::reader::Reader::is_at_end` meets its contract: nothing is left behind the whole text. Assumes nothing.
use Rattle.form.proofs.Behind.{none_left, is_the_end}
use Rattle.form.proofs.reader.Reader.is_at_end.Goals as goal

pub returns : goal.returns
returns c =
    let r = c.args.self.now in
    (none_left r.text.now r.at, is_the_end r.text.now r.at r.within)
