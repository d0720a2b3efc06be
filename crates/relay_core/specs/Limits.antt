-- What the limits of a connection may be.
use Rattle.std.specs.Prelude.{ℕ, ◌≤◌}

pub record AreWithin (subs filters text sessions records limit : ℕ) : Type 0 where
  pub most_subs : subs ≤ 32
  pub most_filters : filters ≤ 16
  pub most_text : text ≤ 2200000
  pub most_sessions : sessions ≤ 16
  pub most_records : records ≤ 500000
  pub least_limit : 4096 ≤ limit
  pub most_limit : limit ≤ 1048576

-- how many bytes the values of a connection's open subscriptions may have together, an id or an author 32 and a kind 2, and a value of
-- a tag 4 beside its own
abbrev pub most_values : ℕ
most_values = 4000000
