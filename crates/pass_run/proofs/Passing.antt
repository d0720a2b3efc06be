-- One more slice of a pass.
use Rattle.std.proofs.Common.{◌≡◌, ◌+◌, ◌++◌, [], ◌∷◌, ◌∙◌, ⊎_elim, ℕ, List, Option, Some, None, All, cond, true, false, nat_lt, refl, sym, ap, subst, arith, map, Result, IfOk}
use Rattle.std.specs.List.{sum_by}
use Rattle.std.proofs.lemmas.List.{map-append}
use Rattle.std.proofs.lemmas.Result.{IfOk-weaker}
use Rattle.std.proofs.lemmas.List.Sums.{sum_by_push}
use Rattle.std.proofs.lemmas.List.Elements.{All-nil, All-push}
use Rattle.mirror_settings.specs.declared.settings.Settings.{Settings}
use Rattle.nostr_filter.specs.declared.filter.Filter.{Filter}
use Rattle.nostr_event.specs.EventView.{EventView}
use Rattle.mirror_core.specs.declared.round.Synced.{Synced}
use Rattle.mirror_core.specs.declared.fault.SyncFault.{SyncFault}
use Rattle.session_run.specs.Rounds.{BeginAt}
use Rattle.session_run.specs.Synced.{IsSynced}
use Rattle.slices.specs.declared.times.Slice.{Slice}
use Rattle.slices.specs.declared.times.Ending.{Ending}
use Rattle.slices.specs.declared.times.Ending.TheVariants.{Taken, GivenUp}
use Rattle.slices.specs.Course.{AreGoneOver, Course, begun, ended, halved, halved_at, cut_of}
use Rattle.pass_run.specs.declared.tally.Tally.{Tally}
use Rattle.pass_run.specs.Sums.{capped}
use Rattle.pass_run.specs.Span.{first_of, last_of, within}
use Rattle.pass_run.specs.declared.pass.Attempt.{Attempt}
use Rattle.pass_run.specs.declared.pass.Attempt.TheVariants as attempt
use Rattle.pass_run.specs.declared.pass.Outcome.{Outcome}
use Rattle.pass_run.specs.declared.pass.Outcome.TheVariants as outcome
use Rattle.pass_run.specs.Passes.{Came, IsEnded, IsTaken, IsPass, IsBoth, IfWent, IfPlanned, GoesOn, IsPlannedFor, no_ids}

abbrev gone_by : Came → Slice × Ending
gone_by c = (c.slice, c.ending)

abbrev Ends : Settings → Came → Type 0
Ends settings c = IsEnded settings c.ending c.slice c.tally

-- the sum of what became of the ids
pub record IsSum (came : List Came) (all : Tally) : Type 0 where
  pub need : all.need ≡ capped (sum_by (λ c. c.tally.need) came)
  pub given : all.given ≡ capped (sum_by (λ c. c.tally.given) came)
  pub missed : all.missed ≡ capped (sum_by (λ c. c.tally.missed) came)
  pub left : all.left ≡ capped (sum_by (λ c. c.tally.left) came)

-- So far these slices came, which are those that are gone over.
pub record IsUnder (settings : Settings) (c : Course) (all : Tally) : Type 0 where
  pub came : List Came
  pub since : c.since ≡ first_of settings.filter
  pub until : c.until ≡ last_of settings.filter
  pub gone : c.gone ≡ map gone_by came
  pub each : All (Ends settings) came
  pub sums : IsSum came all

pub begun_under : (settings : Settings) (c : Course) (all : Tally) → c ≡ begun (first_of settings.filter) (last_of settings.filter) → all ≡ no_ids → IsUnder settings c all
begun_under settings c all is none = rw (is, none) (record {
  came = [];
  since = refl;
  until = refl;
  gone = refl;
  each = All-nil (Ends settings);
  sums = record { need = refl; given = refl; missed = refl; left = refl };
})

-- the next slice is another one, and nothing else
pub halved_under : (settings : Settings) (c : Course) (all : Tally) (at : ℕ) → IsUnder settings c all → IsUnder settings (halved at c) all
halved_under settings c all at u = go c.next
  where
    go : (o : Option Slice) → IsUnder settings (halved_at at c o) all
    go None = u
    go (Some s) = elim (nat_lt s.since s.until) as (λ b. IsUnder settings (cond b (record c { next = Some (record { since = cut_of at s + 1; until = s.until }); bound = s.since }) c) all) [
      | true ↦ record { came = u.came; since = u.since; until = u.until; gone = u.gone; each = u.each; sums = u.sums }
      | false ↦ u
    ]

sum_more : (f : Came → ℕ) (came : List Came) (c : Came) (before both : ℕ) → before ≡ capped (sum_by f came) → both ≡ capped (before + f c) → both ≡ capped (sum_by f (came ++ c ∷ []))
sum_more f came c before both is more = let e : sum_by f (came ++ c ∷ []) ≡ sum_by f came + f c = sum_by_push f came c in omega (arith, e)

-- a slice has ended
pub ended_under : (settings : Settings) (c : Course) (before both : Tally) (s : Slice) (how : Ending) (t : Tally) → c.next ≡ Some s → IsEnded settings how s t
    → IsBoth before t both → IsUnder settings c before → IsUnder settings (ended how c) both
ended_under settings c before both s how t is end sums u =
    let came : Came = record { slice = s; ending = how; tally = t } in
    rw is (record {
      came = u.came ++ came ∷ [];
      since = u.since;
      until = u.until;
      gone = ap (λ l. l ++ (s, how) ∷ []) u.gone ∙ sym (map-append gone_by u.came (came ∷ []));
      each = All-push (Ends settings) u.came came u.each end;
      sums = record {
        need = sum_more (λ c. c.tally.need) u.came came before.need both.need u.sums.need sums.need;
        given = sum_more (λ c. c.tally.given) u.came came before.given both.given u.sums.given sums.given;
        missed = sum_more (λ c. c.tally.missed) u.came came before.missed both.missed u.sums.missed sums.missed;
        left = sum_more (λ c. c.tally.left) u.came came before.left both.left u.sums.left sums.left;
      };
    })

-- nothing more came of a slice that is given up
pub none_more : (came : List Came) (all : Tally) → IsSum came all → IsBoth all no_ids all
none_more came all s = record {
  need = (let e = s.need in omega arith);
  given = (let e = s.given in omega arith);
  missed = (let e = s.missed in omega arith);
  left = (let e = s.left in omega arith);
}

-- all slices came
pub all_came : (settings : Settings) (c : Course) (all : Tally) → (u : IsUnder settings c all) → AreGoneOver c.since c.until c.gone → IsPass settings u.came all
all_came settings c all u over = record {
  over = rw (sym u.gone, sym u.since, sym u.until) over;
  each = u.each;
  need = u.sums.need;
  given = u.sums.given;
  missed = u.sums.missed;
  left = u.sums.left;
}

-- a slice came out so, and what follows it
pub goes_under : (settings : Settings) (old new : Course) (before all : Tally) (s : Slice) (o : Outcome) → old.next ≡ Some s → IfWent o (IsTaken settings s)
    → GoesOn old before o new all → IsUnder settings old before → IsUnder settings new all
goes_under settings old new before all s (outcome.Went t) is went goes u =
    subst (λ (c : Course). IsUnder settings c all) (sym goes.0) (ended_under settings old before all s Taken t is went goes.1 u)
goes_under settings old new before all s (outcome.TooLarge at) is went goes u = rw goes.1 (⊎_elim
    (λ (e : new ≡ halved at old). subst (λ (c : Course). IsUnder settings c before) (sym e) (halved_under settings old before at u))
    (λ (e : new ≡ ended GivenUp old). subst (λ (c : Course). IsUnder settings c before) (sym e) (ended_under settings old before before s GivenUp no_ids is refl (none_more u.came before u.sums) u))
    goes.0)
goes_under settings old new before all s outcome.GivenUp is went goes u =
    rw goes.1 (subst (λ (c : Course). IsUnder settings c before) (sym goes.0) (ended_under settings old before before s GivenUp no_ids is refl (none_more u.came before u.sums) u))

-- a plan that was made of a slice
pub planned_for : (settings : Settings) (slice : Slice) (filter : Filter) (r : Result Synced SyncFault) (seen : List EventView) → filter ≡ within settings.filter slice
    → IfOk r (λ d. (bases : List ℕ) × BeginAt settings.bases bases × IsSynced (record settings { filter = filter }) bases seen d.ends.items d.table d.plan)
    → IfOk r (λ d. IsPlannedFor settings slice d.ends.items d.table d.plan)
planned_for settings slice filter r seen narrow known =
    IfOk-weaker r (λ d. (bases : List ℕ) × BeginAt settings.bases bases × IsSynced (record settings { filter = filter }) bases seen d.ends.items d.table d.plan)
    (λ d. IsPlannedFor settings slice d.ends.items d.table d.plan)
    (λ d at. record {
      seen = seen;
      bases = at.0;
      begin = at.1;
      synced = subst (λ (f : Filter). IsSynced (record settings { filter = f }) at.0 seen d.ends.items d.table d.plan) narrow at.2;
    }) known

-- an attempt that is planned is so by what was planned
pub planned_by : (settings : Settings) (slice : Slice) (done : Synced) (a : Attempt)
    → IfPlanned a (λ ends table plan. (ends ≡ done.ends.items) × (table ≡ done.table) × (plan ≡ done.plan))
    → IsPlannedFor settings slice done.ends.items done.table done.plan → IfPlanned a (IsPlannedFor settings slice)
planned_by settings slice done (attempt.Planned d) is known = rw (is.0, is.1, is.2) known
planned_by settings slice done (attempt.TooLarge heard middle) is known = tt
planned_by settings slice done attempt.Nobody is known = tt
