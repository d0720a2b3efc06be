-- What the jobs' steps come to.
use Rattle.std.proofs.Common.{◌≡◌, ℕ, ◌≤◌, List, [], ◌∷◌, ◌++◌, length, take, flat_map, Option, None, Some, Result, Ok, Err, inl, inr, refl, sym, ap, ◌∙◌, subst, arith, sum_by}
use Rattle.std.specs.Prelude.{OnOk}
use Rattle.std.specs.Option.{IfSome}
use Rattle.std.specs.Io.KnownBytes.{Appends}
use Rattle.std.proofs.lemmas.List.Sums.{sum_by-cons}
use Rattle.item_key.specs.declared.Id.{Id}
use Rattle.sharing.specs.Bases.{base_of, base_in}
use Rattle.sharing.specs.Sharing.{load, Shows}
use Rattle.sharing.specs.Reached.{IsLeast}
use Rattle.sharing.specs.Offers.{relay_in}
use Rattle.fetch_plan.specs.Plan.{Planned, IsPlanOf}
use Rattle.mirror_run.specs.declared.refusal.Refusal.{Refusal}
use Rattle.plan_check.specs.File.{File, IsFile}
use Rattle.plan_check.specs.PlanText.{plan_text, IsTextOf}
use Rattle.plan_run.specs.Planned.{IsPlannedFrom}
use Rattle.plan_run.specs.Fronts.{IsPlannedText}
use Rattle.plan_run.specs.Jobs.{PlansTo, IsPlanWritten}
use Rattle.plan_check.proofs.Ascii.{text_utf8}
use Rattle.plan_check.proofs.FormLemmas.{given, grouped}
use Rattle.plan_check.proofs.WriteLemmas.{plan_text-behind}
use Rattle.plan_run.proofs.Spelled.{spelled_from}
use Rattle.plan_run.proofs.Written.{Appends-same}

-- bases that are the same for each relay
module _ (a b : ℕ → ℕ) (same : (r : ℕ) → a r ≡ b r) where
  sum_same : (group : List ℕ) → sum_by a group ≡ sum_by b group
  sum_same [] = refl
  sum_same (r ∷ rs) = omega (arith, same r, sum_same rs, sum_by-cons a r rs, sum_by-cons b r rs)

  module _ (f : Id → ℕ) (offers : List (Id × List ℕ)) where
    load_same : (r : ℕ) → load a f offers r ≡ load b f offers r
    load_same r = omega (arith, same r)

    shows_same : (most : ℕ) (group : List ℕ) → Shows a group offers most → Shows b group offers most
    shows_same most group (inl none) = inl none
    shows_same most group (inr much) = inr (much.0, omega (arith, much.1, sum_same group))

    least_same : (most : ℕ) (group : List ℕ) → IsLeast a f offers most group → IsLeast b f offers most group
    least_same most group h = record {
      sharing = h.sharing;
      greatest = (λ r. omega (arith, same r, h.greatest.0 r), (h.greatest.1.0, sym (load_same h.greatest.1.0) ∙ h.greatest.1.1));
      shows = shows_same most group h.shows;
      reached = λ some. record {
        busiest = λ r e. (h.reached some).busiest r (load_same r ∙ e);
        keeps = (h.reached some).keeps;
        least = λ test busy keeps. (h.reached some).least test (λ r e. busy r (sym (load_same r) ∙ e)) keeps;
      };
      none = h.none;
    }

-- the file of a plan of the offers that were read
abbrev pub made_of : File → Planned → File
made_of read plan = record { bases = read.bases; offers = read.offers; gives = plan.gives; group = plan.group }

module _ (read : File) (loads : List ℕ) (plan : Planned) (same : (r : ℕ) → base_of loads r ≡ base_in read.bases r) (p : IsPlanOf loads read.offers plan) where
  planned_from : IsPlannedFrom read (made_of read plan)
  planned_from =
      let least = least_same (base_of plan.bases) (base_in read.bases) (λ r. ap (λ l. base_of l r) p.bases_same ∙ same r) (relay_in plan.gives) read.offers plan.least_max plan.group p.least in
      record {
        bases = refl;
        offers = refl;
        most = plan.least_max;
        least = least;
        passes = record {
          shared = record { ids = p.ids; sharing = least.sharing; greatest = least.greatest };
          shows = least.shows;
        };
      }

  file_of : IsFile read → IsFile (made_of read plan)
  file_of ok = record { bases_ok = ok.bases_ok; offers_ok = ok.offers_ok; ascend = p.plan_ok.ascend; relays = p.plan_ok.relays; group_ok = p.plan_ok.group_ok }

-- what is written behind the text of the offers
abbrev pub behind : Planned → List ℕ
behind plan = flat_map given plan.gives ++ grouped plan.group

-- the text that is written
pub plans_to : (text : List ℕ) (end : ℕ) (plan : Planned) → IsPlannedText text end plan → length text ≤ 67108864 → (made : List ℕ) × (PlansTo text made) × (take end text ++ behind plan ≡ made)
plans_to text end plan h short =
    let read : File = h.front.file in
    let told : IsTextOf text read = h.front.told in
    let p : IsPlanOf h.loads read.offers plan = subst (λ os. IsPlanOf h.loads os plan) (sym h.front.offers_are) h.plan_ok in
    let made : File = made_of read plan in
    let from : IsPlannedFrom read made = planned_from read h.loads plan h.front.bases_are p in
    let spelled : IsTextOf (plan_text made) made = spelled_from read made told.form from (file_of read h.loads plan h.front.bases_are p told.ordered) in
    let same : take end text ++ behind plan ≡ plan_text made = ap (λ t. t ++ behind plan) h.front.front ∙ sym (plan_text-behind made) in (
      plan_text made,
      record { read = read; made = made; told = told; short = short; few = subst (λ os. length os ≤ _) (sym h.front.offers_are) h.few; planned = from; spelled = spelled; utf8 = text_utf8 (plan_text made) made spelled },
      same,
    )

-- a text that was written, if the input is known
pub plan_written : (r : Result (Unit {0}) Refusal) (known old new : Option (List ℕ)) (text front : List ℕ) (end : ℕ) (plan : Planned) → IfSome known (λ input. text ≡ input) → length text ≤ 67108864 → front ≡ take end text → IsPlannedText text end plan
    → OnOk r (Appends old new (front ++ behind plan)) → OnOk r (IfSome known (λ input. IsPlanWritten input old new))
plan_written (Err e) known old new text front end plan same short is planned written = tt
plan_written (Ok u) None old new text front end plan same short is planned written = tt
plan_written (Ok u) (Some input) old new text front end plan same short is planned written =
    let h = plans_to text end plan planned short in
    let all : front ++ behind plan ≡ h.0 = ap (λ t. t ++ behind plan) is ∙ h.2 in
    let whole : IsPlanWritten text old new = record { text = h.0; plans = h.1; written = Appends-same old new (front ++ behind plan) h.0 all written } in
    subst (λ t. IsPlanWritten t old new) same whole
