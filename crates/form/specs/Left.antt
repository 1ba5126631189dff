-- The text that a reader has left.
use Rattle.std.specs.Prelude.{List, ℕ, drop}
use Rattle.form.specs.declared.reader.Reader.{Reader}

abbrev pub left : Reader → List ℕ
left r = drop r.at r.text.now
