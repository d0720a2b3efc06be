-- Sums of numbers of 64 bits.
use Rattle.std.specs.Prelude.{ℕ, ◌^◌, ◌-◌, min}

-- a number, or the greatest one of 64 bits
abbrev pub capped : ℕ → ℕ
capped n = min n (2 ^ 64 - 1)
