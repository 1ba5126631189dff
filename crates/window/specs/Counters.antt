-- An entry's two counters of refused arrivals (02, No. 8): "arrivals refused with 9 or 10, and with 11. They stop at 2^32 − 1. .. a larger one is
-- damage."
use Rattle.std.specs.Prelude.{Bool, ◌&&◌, ℕ, ◌+◌, ◌-◌, ◌^◌, min, leb}
use Rattle.window.specs.declared.Counters.{Counters}

abbrev pub counter_limit : ℕ
counter_limit = 2 ^ 32 - 1

-- a number "cut at that limit"
abbrev pub cut : ℕ → ℕ
cut n = min n counter_limit

-- a counter after one refusal more
abbrev pub one_more : ℕ → ℕ
one_more n = cut (n + 1)

-- Counters, of the code, holds both. A fresh entry's:
abbrev pub none_refused : Counters
none_refused = record { replays = 0; forged = 0 }

-- both after an arrival that is refused with 9 or 10, and after one that is refused with 11
abbrev pub one_replay : Counters → Counters
one_replay c = record { replays = one_more c.replays; forged = c.forged }

abbrev pub one_forgery : Counters → Counters
one_forgery c = record { replays = c.replays; forged = one_more c.forged }

abbrev pub undamaged_counters : Counters → Bool
undamaged_counters c = leb c.replays counter_limit && leb c.forged counter_limit
