-- `Window::is_undamaged` meets its contract: a return of false names the fact that fails, and the last test decides.
use Rattle.std.proofs.Common.{◌≡◌, sym, ◌∙◌, arith, true}
use Rattle.window.specs.Window.{view_of, sound_frame}
use Rattle.window.proofs.Undamaged.{damaged, damaged_frame, damaged_outside, undamaged_at_zero, undamaged_by_mark}
use Rattle.window.proofs.Window.is_undamaged.Goals.{Else-not-is_sound}
use Rattle.window.proofs.Window.is_undamaged.Goals as goal

pub returns-then-not-is_sound : goal.returns-then-not-is_sound
returns-then-not-is_sound c = damaged_frame _ (sym c.is_sound.ensures ∙ c.if-not-is_sound.true)

pub returns-then-self-gt-LAST : goal.returns-then-self-gt-LAST
returns-then-self-gt-LAST c = damaged _ (λ u. omega (arith, u.high))

pub returns-then-not-within : goal.returns-then-not-within
returns-then-not-within c =
    damaged_outside _ (rw (c.reach.ensures, c.marks.ensures) at (sym c.within.ensures ∙ c.if-not-within.true))

-- past the first test
framed : (c : Else-not-is_sound) → sound_frame (view_of c.args.self).frame ≡ true
framed c = sym c.is_sound.ensures ∙ c.if-not-is_sound.false

pub returns-then-self-eq0 : goal.returns-then-self-eq0
returns-then-self-eq0 c =
    undamaged_at_zero _ (framed (goal.at.returns-then-self-eq0 c).Else-not-is_sound) (omega arith)
    (rw (c.reach.ensures, c.marks.ensures) at (sym c.within.ensures ∙ c.if-not-within.false)) c.if-self-eq0.true

pub returns : goal.returns
returns c =
    (rw c.marks-2.ensures at c.has_bit.ensures)
    ∙ undamaged_by_mark _ (framed (goal.at.returns c).Else-not-is_sound) (omega arith)
    (rw (c.reach.ensures, c.marks.ensures) at (sym c.within.ensures ∙ c.if-not-within.false)) c.if-self-eq0.false
