-- Records that are taken from a text as long as they are in order.
use Rattle.std.proofs.Common.{◌≡◌, ℕ, ◌+◌, ◌<◌, ◌≤◌, ◌&&◌, true, false, cond, List, [], ◌∷◌, ◌++◌, length, map, Option, Some, None, refl, sym, ap, ◌∙◌, arith}
use Rattle.std.specs.Prelude.{is_some}
use Rattle.std.specs.declared.cmp.Ordering.TheVariants.{Less}
use Rattle.std.specs.Ordering.{nat_cmp}
use Rattle.std.specs.List.{All}
use Rattle.std.specs.List.Sorted.{IsStrictlySortedBy}
use Rattle.std.proofs.lemmas.Bool.{false≢true}
use Rattle.std.proofs.lemmas.Cmp.{nat_cmp_total}
use Rattle.std.proofs.lemmas.List.Elements.{All-nil, All-push, All-weaker}
use Rattle.item_key.specs.declared.Id.{Id}
use Rattle.sharing.specs.declared.TheConstants.{RELAYS}
use Rattle.sharing.specs.Offers.{id_cmp, Ascend, AreRelays, IsOffers}
use Rattle.sharing.proofs.Orders.{id_total, sorted_push, less_from}
use Rattle.plan_check.specs.File.{File, IsBase, IsFile}
use Rattle.plan_check.specs.PlanText.{IsGive}
use Rattle.plan_check.specs.Lines.{first_out, is_behind, or_else}
use Rattle.plan_check.proofs.Files.{none_out}
use Rattle.plan_check.proofs.InOrder.{none_out_back}
use Rattle.plan_check.proofs.Runs.{last_from, out_push}

pub no_relays : AreRelays []
unfolding IsStrictlySortedBy
no_relays = record { ascend = tt; small = All-nil (λ r. r < RELAYS) }

pub no_ids : Ascend []
unfolding IsStrictlySortedBy
no_ids = tt

pub no_offers : IsOffers []
no_offers = record { ascend = no_ids; relays = All-nil (λ (p : Id × List ℕ). AreRelays p.1); some = All-nil (λ (p : Id × List ℕ). 0 < length p.1) }

-- one relay more, above all others
pub relays_push : (relays : List ℕ) (r n : ℕ) → AreRelays relays → All (λ x. x < n) relays → n ≤ r → r < RELAYS → AreRelays (relays ++ r ∷ [])
relays_push relays r n is below le small = record {
  ascend = sorted_push nat_cmp relays r is.ascend (All-weaker (λ x. x < n) (λ x. nat_cmp x r ≡ Less) (λ x lt. less_from x r (omega arith)) relays below);
  small = All-push (λ r. r < RELAYS) relays r is.small small;
}

pub below_push : (relays : List ℕ) (r n : ℕ) → All (λ x. x < n) relays → n ≤ r → All (λ x. x < r + 1) (relays ++ r ∷ [])
below_push relays r n below le = All-push (λ x. x < r + 1) relays r (All-weaker (λ x. x < n) (λ x. x < r + 1) (λ x lt. omega arith) relays below) (omega arith)

-- one record more, whose id comes behind the last
pub behind_push : {X : Type 0} (key : X → Id) (xs : List X) (x : X) (before : Option Id) → Ascend (map key xs) → before ≡ last_from key None xs → is_behind id_cmp before (key x) ≡ true → Ascend (map key (xs ++ x ∷ []))
behind_push key xs x before ascend last behind =
    let none : first_out id_cmp key (λ _. true) None 0 xs ≡ None = none_out_back id_cmp key (λ _. true) None 0 xs ascend (λ k d lt. refl) in
    let fine : (is_behind id_cmp (last_from key None xs) (key x) && true) ≡ true = ap (λ b. is_behind id_cmp b (key x) && true) (sym last) ∙ ap (λ t. t && true) behind in
    let more : first_out id_cmp key (λ _. true) None 0 (xs ++ x ∷ []) ≡ None =
    out_push id_cmp key (λ _. true) None 0 xs x ∙ ap (λ o. or_else o (cond (is_behind id_cmp (last_from key None xs) (key x) && true) None (Some (0 + length xs)))) none
    ∙ ap (λ t. cond t None (Some (0 + length xs))) fine in
    (none_out id_total key (λ _. true) None 0 (xs ++ x ∷ []) more).0

-- one offer more
pub offers_push : (offers : List (Id × List ℕ)) (o : Id × List ℕ) → IsOffers offers → Ascend (map (λ o. o.0) (offers ++ o ∷ [])) → AreRelays o.1 → 0 < length o.1 → IsOffers (offers ++ o ∷ [])
offers_push offers o is ascend relays some = record {
  ascend = ascend;
  relays = All-push (λ p. AreRelays p.1) offers o is.relays relays;
  some = All-push (λ p. 0 < length p.1) offers o is.some some;
}

pub nothing : (o : Option ℕ) → is_some o ≡ false → o ≡ None
nothing None h = refl
nothing (Some n) h = absurd (false≢true (sym h))

-- lists that were taken are those of a plan file
pub lists_ok : (file : File) → first_out nat_cmp (λ b. b.0) (λ _. true) None 0 file.bases ≡ None → All IsBase file.bases → IsOffers file.offers → All IsGive file.gives → Ascend (map (λ g. g.0) file.gives) → AreRelays file.group → IsFile file
lists_ok file none bases offers gives ascend group = record {
  bases_ok = record { ascend = (none_out nat_cmp_total (λ (b : ℕ × ℕ). b.0) (λ _. true) None 0 file.bases none).0; each = bases };
  offers_ok = offers;
  ascend = ascend;
  relays = All-weaker IsGive (λ g. g.1 < RELAYS) (λ g is. is.relay) file.gives gives;
  group_ok = group;
}
