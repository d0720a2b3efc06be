-- The greatest limits of a session.
use Rattle.std.specs.Prelude.{◌≡◌, ℕ}
use Rattle.neg_session.specs.declared.limits.SessionLimits.{SessionLimits}

-- the greatest, but for the bytes of a message
pub record AreMost (limit : ℕ) (limits : SessionLimits) : Type 0 where
  pub limit_is : limits.limit ≡ limit
  pub rounds : limits.rounds ≡ 4096
  pub need : limits.need ≡ 200000
  pub log : limits.log ≡ 67108864
