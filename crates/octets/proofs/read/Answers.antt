use Rattle.std.proofs.Common.{refl, ℕ, ◌+◌, ◌-◌, ◌*◌, ◌^◌, ◌<◌, add-one, arith, rules, drop, get_or-take}
use Rattle.octets.specs.Octets.{big_endian}
use Rattle.octets.proofs.BigEndian.{grown, word}
use Rattle.octets.proofs.read.Goals.{In-loop-byte}
use Rattle.octets.proofs.read.Goals as goal

pub loop-byte-init : goal.loop-byte-init
unfolding big_endian
loop-byte-init c = record { width = search rules; value = refl }

-- one byte more, whichever it is
more : (c : In-loop-byte) (y : ℕ) → y < 256 → c.loop-byte.number * 256 + y < 2 ^ (8 * (c.loop-byte.byte-index + 1))
more c y h = rw add-one (grown c.loop-byte.byte-index c.loop-byte.number y c.loop-byte.invariant.width h)

fits : (c : In-loop-byte) (y : ℕ) → y < 256 → c.loop-byte.number * 256 + y < 2 ^ 64
fits c y h = word (c.loop-byte.byte-index + 1) _ (omega arith) (more c y h)

pub overflow_mul-number : goal.overflow_mul-number
overflow_mul-number c = omega (arith, fits c 0 (omega arith))

pub overflow_add-number : goal.overflow_add-number
overflow_add-number c =
    record { fits = fits (goal.at.overflow_add-number c).In-loop-byte c.from.result (search rules) }

pub loop-byte-preserved : goal.loop-byte-preserved
unfolding big_endian
loop-byte-preserved c =
    let l = c.loop-byte in
    let a = c.args in
    let within : l.byte-index < a.at + a.n - a.at = search rules in record {
      width = more (goal.at.loop-byte-preserved c).In-loop-byte c.from.result (search rules);
      value = rw (add-one, l.invariant.value, c.from.ensures, get_or-take {A = ℕ} (a.at + a.n - a.at) (drop a.at a.bytes.now) l.byte-index 0 within);
    }
