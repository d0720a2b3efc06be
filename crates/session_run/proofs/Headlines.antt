-- What is known of sessions, said of the logs alone.
use Rattle.std.proofs.Common.{◌≡◌, ◌∙◌, ℕ, List, [], ◌∷◌, suc, refl, sym, ap, map, length, Result, Ok, Err, IfOk}
use Rattle.std.specs.Bool.{⊤}
use Rattle.core.specs.Option.{option_map}
use Rattle.std.specs.List.{range_with_len}
use Rattle.std.proofs.lemmas.List.{length-map}
use Rattle.std.proofs.lemmas.List.FromFn.{length-range_with_len}
use Rattle.std.proofs.lemmas.Option.{slice_get-map}
use Rattle.item_key.specs.declared.Item.{Item}
use Rattle.neg_session.specs.Exchange.{Exchange}
use Rattle.neg_session.specs.declared.limits.SessionLimits.{SessionLimits}
use Rattle.offer_table.specs.Table.{Table}
use Rattle.fetch_plan.specs.Plan.{Planned}
use Rattle.mirror_core.specs.declared.end.End.{End}
use Rattle.mirror_core.specs.Ends.{EachRan}
use Rattle.mirror_core.specs.Headline.{Headline}
use Rattle.session_run.specs.Synced.{Log}

module _ {P : Type 0} (log : P → List Exchange) (faults : P → ℕ) where
  abbrev pub logged : P → Log
  logged p = (log p, faults p)

  pub ran_of_logs : (becomes : P → P → Type 0) (own : List Item) (limits : SessionLimits) (olds news : List P) (ends : List End)
      → EachRan log faults becomes own limits olds news ends
      → EachRan (λ (l : Log). l.0) (λ (l : Log). l.1) (λ (k l : Log). ⊤) own limits (map logged olds) (map logged news) ends
  ran_of_logs becomes own limits [] [] [] ran = tt
  ran_of_logs becomes own limits [] [] (end ∷ ends) ran = absurd ran
  ran_of_logs becomes own limits [] (q ∷ news) ends ran = absurd ran
  ran_of_logs becomes own limits (p ∷ olds) [] ends ran = absurd ran
  ran_of_logs becomes own limits (p ∷ olds) (q ∷ news) [] ran = absurd ran
  ran_of_logs becomes own limits (p ∷ olds) (q ∷ news) (end ∷ ends) ran = ((ran.0.0, tt), ran_of_logs becomes own limits olds news ends ran.1)

  -- there are as many ends as peers
  pub length_of_ran : (becomes : P → P → Type 0) (own : List Item) (limits : SessionLimits) (olds news : List P) (ends : List End)
      → EachRan log faults becomes own limits olds news ends → length ends ≡ length olds
  length_of_ran becomes own limits [] [] [] ran = refl
  length_of_ran becomes own limits [] [] (end ∷ ends) ran = absurd ran
  length_of_ran becomes own limits [] (q ∷ news) ends ran = absurd ran
  length_of_ran becomes own limits (p ∷ olds) [] ends ran = absurd ran
  length_of_ran becomes own limits (p ∷ olds) (q ∷ news) [] ran = absurd ran
  length_of_ran becomes own limits (p ∷ olds) (q ∷ news) (end ∷ ends) ran = ap suc (length_of_ran becomes own limits olds news ends ran.1)

  pub headline_of_logs : (base : ℕ → ℕ) (own : List Item) (olds news : List P) (ends : List End) (table : Table) (plan : Planned)
      → Headline log base own olds news ends table plan → Headline (λ (l : Log). l.0) base own (map logged olds) (map logged news) ends table plan
  headline_of_logs base own olds news ends table plan h =
      λ holds may. h holds (λ r p q o before after finished.
      may r (logged p) (logged q) o
      (slice_get-map logged olds r ∙ ap (option_map logged) before)
      (slice_get-map logged news r ∙ ap (option_map logged) after)
      finished)

-- peers that are numbered from 0 on
pub length_of_numbered : {P : Type 0} (number : P → ℕ) (peers : List P) (n : ℕ) → map number peers ≡ range_with_len 0 n → length peers ≡ n
length_of_numbered number peers n numbered = sym (length-map peers number) ∙ ap length numbered ∙ length-range_with_len 0 n

-- four facts on what a result holds give a fifth
pub of_four : {T E : Type 0} (A B C D G : T → Type 0) (r : Result T E) → IfOk r A → IfOk r B → IfOk r C → IfOk r D → ((x : T) → A x → B x → C x → D x → G x) → IfOk r G
of_four A B C D G (Ok x) a b c d f = f x a b c d
of_four A B C D G (Err e) a b c d f = tt
