-- `Window::accept` meets its contract: its steps are those of the definition, and 256 bits hold all that the window reaches.
use Rattle.std.proofs.Common.{◌≡◌, ◌∙◌, arith}
use Rattle.window.specs.Window.{view_of, moved}
use Rattle.window.proofs.Steps.{Accepting, accepts, has_room, moves}
use Rattle.window.proofs.Undamaged.{undamaged_facts}
use Rattle.window.proofs.Window.accept.Goals.{After-max-top, After-cut-moved}
use Rattle.window.proofs.Window.accept.Goals as goal

accepting : (l : After-max-top) → Accepting (view_of l.args.self) l.args.n l.max-top.result
accepting l =
    record { undamaged = undamaged_facts _ l.requires.0; admitted = l.requires.1; larger = l.max-top.ensures }

pub shifted-requires : goal.shifted-requires
shifted-requires c =
    omega (arith, (accepting (goal.at.shifted-requires c).After-max-top).undamaged.framed.size_high)

moving : (c : After-cut-moved) → Accepting (view_of c.args.self) c.args.n c.max-top.result
    → c.cut-moved.result ≡ moved (view_of c.args.self) c.max-top.result
moving c may =
    moves may c.min-rise.ensures (rw c.marks.ensures at c.shifted.ensures) c.reach.ensures c.cut-moved.ensures

pub with_bit-marked-requires : goal.with_bit-marked-requires
with_bit-marked-requires c =
    let may = accepting (goal.at.with_bit-marked-requires c).After-max-top in has_room may (moving c may)

pub returns : goal.returns
returns c =
    let may = accepting (goal.at.returns c).After-max-top in
    accepts may (moving (goal.at.returns c).After-cut-moved may) (c.words-words.ensures ∙ c.with_bit-marked.ensures)
