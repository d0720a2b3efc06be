-- What the limits of a session may be.
use Rattle.std.specs.Prelude.{ℕ, ◌≤◌}

pub record AreWithin (limit rounds need log : ℕ) : Type 0 where
  pub least_limit : 4096 ≤ limit
  pub most_limit : limit ≤ 1048576
  pub most_rounds : rounds ≤ 4096
  pub most_need : need ≤ 200000
  pub most_log : log ≤ 67108864
