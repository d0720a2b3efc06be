-- What loads begin with.
use Rattle.std.proofs.Common.{◌≤◌, [], ◌∷◌, ℕ, zero, suc, List, Option, Some, None, All, length, replicate, arith}
use Rattle.std.proofs.lemmas.List.Elements.{All-head, All-tail, All-same, All-replicate}
use Rattle.toml.specs.Data.{Data, Members}
use Rattle.mirror_settings.specs.declared.job.Job.TheVariants.{Sync}
use Rattle.mirror_settings.specs.declared.settings.Settings.{Settings}
use Rattle.mirror_settings.specs.declared.fault.SettingsKey.TheVariants.{Bases}
use Rattle.mirror_settings.specs.Settings.{at, HoldsOr, IsLoad, IsBases, TellsFor}
use Rattle.sharing.specs.declared.TheConstants.{MOST_BASE}
use Rattle.sharing.specs.Bases.{base_of}
use Rattle.session_run.specs.Rounds.{BeginAt}
use Rattle.sync_run.specs.Printed.{BeginWith, PrintsOfSome}

small_in : (loads : List ℕ) → All IsLoad loads → (r : ℕ) → base_of loads r ≤ MOST_BASE
small_in [] small r = omega arith
small_in (x ∷ xs) small zero = let first : x ≤ 1000000000 = All-head IsLoad x xs small in omega arith
small_in (x ∷ xs) small (suc r) = small_in xs (All-tail IsLoad x xs small) r

small_of : (o : Option Data) (n : ℕ) (loads : List ℕ) → HoldsOr (replicate n 0) (IsBases n) o loads → (r : ℕ) → base_of loads r ≤ MOST_BASE
small_of None n loads holds r = small_in loads (All-same IsLoad loads (replicate n 0) holds (All-replicate IsLoad n 0 (omega arith))) r
small_of (Some d) n loads holds r = small_in loads holds.1 r

-- settings that are read tell loads that a load may begin with
pub begin_with : (t : Members) (s : Settings) (old new : Option (List ℕ)) → TellsFor Sync t s → PrintsOfSome BeginAt s old new → PrintsOfSome BeginWith s old new
begin_with t s old new tells p = (p.0, (p.1.0, (λ r lt. p.1.1 r lt (small_of (at Bases t) (length s.relays) s.bases tells.bases r)), p.1.2))
