-- The window of accepted numbers (01, "Key lookup, window and totals"; 02, No. 2): floor, admissible, accept, and what of the damage rule speaks of
-- the window.
use Rattle.std.specs.Prelude.{Bool, true, false, ◌&&◌, ◌||◌, ℕ, ◌+◌, ◌-◌, ◌*◌, ◌%◌, ◌^◌, min, max, eqb, leb, ltb}
use Rattle.std.specs.Int.Count.{ones_in}
use Rattle.numbers.specs.Digits.{bit, from_digits}
use Rattle.window.specs.declared.Frame.{Frame}
use Rattle.window.specs.declared.Window.{Window}
use Rattle.window.specs.declared.Verdict.{Verdict}
use Rattle.window.specs.declared.Verdict.TheVariants.{Below, Marked, Admissible}

-- A frame, of the code, holds what an install settles of a window: its Size and its start. "for an entry, Size is 1 to 256"; "a start number, 0 to
-- 2^48 − 1"
abbrev pub sound_frame : Frame → Bool
sound_frame f = leb 1 f.size && leb f.size 256 && ltb f.start (2 ^ 48)

-- A window as the definitions see it. The marks are one number: its digit of value 2 ^ i stands for the number highest − i.
pub record View : Type 0 where
  pub frame : Frame
  pub highest : ℕ
  pub marks : ℕ

-- What a window of the code stands for: its four words, the lowest first, are the marks.
abbrev pub view_of : Window → View
view_of w = record { frame = w.frame; highest = w.highest; marks = from_digits 64 w.marks }

-- "Floor = highest − Size + 1, or 0 where that is negative." Size is at least 1. "The floor becomes the larger of start and the old floor."
unfoldable pub floor_at : Frame → ℕ → ℕ
floor_at f highest = max f.start (highest - (f.size - 1))

abbrev pub floor_of : View → ℕ
floor_of w = floor_at w.frame w.highest

-- Whether a number is within the window and marked.
unfoldable pub marked : View → ℕ → Bool
marked w n = leb n w.highest && bit w.marks (w.highest - n)

-- The verdict on a number by two tests: is it below the floor, is it used.
abbrev pub judge : Bool → Bool → Verdict
judge true used = Below
judge false true = Marked
judge false false = Admissible

-- "A number is admissible unless it is below the floor, or within the window and marked."
abbrev pub verdict_of : View → ℕ → Verdict
verdict_of w n = judge (ltb n (floor_of w)) (marked w n)

-- The marks under a new highest number: each moves up by as much as highest rises, and those below the new floor go. (A rise of Size or more
-- moves them all below it, so the distance is cut at Size.)
unfoldable pub moved : View → ℕ → ℕ
moved w top = w.marks * 2 ^ min (top - w.highest) w.frame.size % 2 ^ (top + 1 - floor_at w.frame top)

-- "On acceptance it is marked; if above highest it becomes the highest, and marks below the new floor go."
abbrev pub accept_of : View → ℕ → View
accept_of w n =
    let top : ℕ = max w.highest n in
    record { frame = w.frame; highest = top; marks = moved w top + 2 ^ (top - n) }

-- How many numbers are marked.
abbrev pub count_of : View → ℕ
count_of w = ones_in 256 w.marks

-- The damage rule as far as it speaks of the window: its frame is sound; highest does not exceed 2^48 − 1; nothing is marked outside floor to
-- highest; highest is 0 or marked.
unfoldable pub undamaged_window : View → Bool
undamaged_window w =
    sound_frame w.frame && ltb w.highest (2 ^ 48)
    && ltb w.marks (2 ^ (w.highest + 1 - floor_of w)) && (eqb w.highest 0 || marked w w.highest)

-- A window as an install leaves it.
abbrev pub fresh_of : Frame → View
fresh_of f = record { frame = f; highest = 0; marks = 0 }
