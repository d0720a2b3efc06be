-- The greatest limits of a connection.
use Rattle.std.specs.Prelude.{◌≡◌, ℕ, false}
use Rattle.relay_core.specs.declared.limits.RelayLimits.{RelayLimits}

-- the greatest, but for the bytes of a Negentropy message, where events of clients are taken
pub record AreMost (limit : ℕ) (limits : RelayLimits) : Type 0 where
  pub subs : limits.subs ≡ 32
  pub filters : limits.filters ≡ 16
  pub text : limits.text ≡ 2200000
  pub sessions : limits.sessions ≡ 16
  pub records : limits.records ≡ 500000
  pub limit_is : limits.limit ≡ limit
  pub takes_events : limits.is_read_only ≡ false
