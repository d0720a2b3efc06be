-- Bytes that stand for themselves in a string.
use Rattle.std.specs.Prelude.{ℕ, Bool, not, ◌&&◌, ◌==◌, nat_le}

-- no control character, quote or backslash
abbrev pub is_plain : ℕ → Bool
is_plain x = nat_le 32 x && not (x == 34) && not (x == 92)
