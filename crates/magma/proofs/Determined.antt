-- What `table` hands out is determined by its type: the rows of a substitution are the standard's.
-- Assumes nothing.
use mathlib.Core.Path.{◌≡◌, sym, ◌∙◌}
use Rattle.magma.specs.declared.Rows.{Rows}

pub rows_determined : (r s : Rows) → r.rows ≡ s.rows
rows_determined r s = r.standard ∙ sym s.standard
