-- A plan file has no fault.
use Rattle.std.proofs.Common.{◌≡◌, ℕ, ◌+◌, ◌<◌, ◌&&◌, ◌||◌, not, Bool, true, false, cond, List, [], ◌∷◌, length, map, get_or, Option, Some, None, refl, ap, ◌∙◌, arith}
use Rattle.std.specs.Prelude.{nat_lt}
use Rattle.std.specs.declared.cmp.Ordering.{Ordering}
use Rattle.std.specs.declared.cmp.Ordering.TheVariants.{Less}
use Rattle.std.specs.Ordering.{nat_cmp, is_lt}
use Rattle.std.specs.List.{All}
use Rattle.std.proofs.lemmas.Bool.{lt-ltb}
use Rattle.std.proofs.lemmas.List.Elements.{All-head, All-tail}
use Rattle.item_key.specs.declared.Id.{Id}
use Rattle.sharing.specs.declared.TheConstants.{RELAYS, MOST_BASE}
use Rattle.sharing.specs.Offers.{id_cmp}
use Rattle.sharing.proofs.Orders.{head_sorted, tail_sorted}
use Rattle.plan_check.specs.File.{File, IsBase, IsFile}
use Rattle.plan_check.specs.Lines.{first_at, first_out, place_in, is_base, is_behind, rises_from, rises, are_relays, is_empty, malformed_at, misplaced_at}
use Rattle.plan_check.specs.PlanText.{IsOfForm}
use Rattle.plan_check.proofs.Files.{Behind}

both_true : (a b : Bool) → a ≡ true → b ≡ true → (a && b) ≡ true
both_true a b ha hb = ap (λ t. t && b) ha ∙ hb

module _ {K : Type 0} (c : K → K → Ordering) where
  first_behind : (before : Option K) (x : K) (xs : List K) → Behind c before (x ∷ xs) → is_behind c before x ≡ true
  first_behind None x xs h = refl
  first_behind (Some b) x xs h = ap is_lt (All-head (λ y. c b y ≡ Less) x xs (head_sorted c b (x ∷ xs) h))

  later_behind : (before : Option K) (x : K) (xs : List K) → Behind c before (x ∷ xs) → Behind c (Some x) xs
  later_behind None x xs h = h
  later_behind (Some b) x xs h = tail_sorted c b (x ∷ xs) h

pub rising_back : (before : Option ℕ) (xs : List ℕ) → Behind nat_cmp before xs → rises_from before xs ≡ true
rising_back before [] h = refl
rising_back before (x ∷ xs) h = both_true (is_behind nat_cmp before x) (rises_from (Some x) xs) (first_behind nat_cmp before x xs h) (rising_back (Some x) xs (later_behind nat_cmp before x xs h))

module _ {X : Type 0} where
  no_place : (p : X → Bool) (n : ℕ) (xs : List X) → All (λ x. p x ≡ false) xs → first_at p n xs ≡ None
  no_place p n [] h = refl
  no_place p n (x ∷ xs) h = ap (λ b. cond b (Some n) (first_at p (n + 1) xs)) (All-head (λ x. p x ≡ false) x xs h) ∙ no_place p (n + 1) xs (All-tail (λ x. p x ≡ false) x xs h)

  pub none_out_back : {K : Type 0} (c : K → K → Ordering) (key : X → K) (fine : X → Bool) (before : Option K) (n : ℕ) (xs : List X) → Behind c before (map key xs) → All (λ x. fine x ≡ true) xs → first_out c key fine before n xs ≡ None
  none_out_back c key fine before n [] h f = refl
  none_out_back c key fine before n (x ∷ xs) h f =
      ap (λ b. cond b (first_out c key fine (Some (key x)) (n + 1) xs) (Some n)) (both_true (is_behind c before (key x)) (fine x) (first_behind c before (key x) (map key xs) h) (All-head (λ x. fine x ≡ true) x xs f))
      ∙ none_out_back c key fine (Some (key x)) (n + 1) xs (later_behind c before (key x) (map key xs) h) (All-tail (λ x. fine x ≡ true) x xs f)

relays_small : (rs : List ℕ) → All (λ r. r < RELAYS) rs → are_relays rs ≡ true
relays_small [] h = refl
relays_small (r ∷ rs) h = both_true (nat_lt r RELAYS) (are_relays rs) (lt-ltb r RELAYS (All-head (λ r. r < RELAYS) r rs h)) (relays_small rs (All-tail (λ r. r < RELAYS) r rs h))

not_empty : (rs : List ℕ) → 0 < length rs → is_empty rs ≡ false
not_empty [] h = absurd (omega arith)
not_empty (r ∷ rs) h = refl

offer_ok : (o : Id × List ℕ) → 0 < length o.1 → All (λ r. r < RELAYS) o.1 → (is_empty o.1 || not (are_relays o.1)) ≡ false
offer_ok o some small = ap (λ b. b || not (are_relays o.1)) (not_empty o.1 some) ∙ ap not (relays_small o.1 small)

base_ok : (b : ℕ × ℕ) → IsBase b → not (is_base b) ≡ false
base_ok b is = ap not (both_true (nat_lt b.0 RELAYS) _ (lt-ltb b.0 RELAYS is.relay) (both_true (nat_lt 0 b.1) (nat_lt b.1 (MOST_BASE + 1)) (lt-ltb 0 b.1 is.some) (lt-ltb b.1 (MOST_BASE + 1) (omega (arith, is.small)))))

-- where no place was found in any part, none is in the whole
anywhere : (file : File) (b o g : Option ℕ) (t : Bool) → b ≡ None → o ≡ None → g ≡ None → t ≡ true → place_in file b o g t ≡ None
anywhere file b o g t hb ho hg ht =
    ap (λ x. place_in file x o g t) hb ∙ ap (λ x. place_in file None x g t) ho ∙ ap (λ x. place_in file None None x t) hg ∙ ap (λ x. place_in file None None None x) ht

-- lines of the form
pub form_ok : (file : File) → IsOfForm file → malformed_at file ≡ None
form_ok file form =
    anywhere file _ _ _ _
    (no_place (λ b. not (is_base b)) 0 file.bases (λ k d lt. base_ok _ (form.bases k d lt)))
    (no_place (λ o. is_empty o.1 || not (are_relays o.1)) 0 file.offers (λ k d lt. offer_ok (get_or file.offers k d) (form.offers k d lt).some (form.offers k d lt).relays))
    (no_place (λ g. not (nat_lt g.1 RELAYS)) 0 file.gives (λ k d lt. ap not (lt-ltb _ RELAYS (form.gives k d lt).relay)))
    (relays_small file.group form.group)

-- lines in order
pub in_order : (file : File) → IsFile file → misplaced_at file ≡ None
in_order file ok =
    anywhere file _ _ _ _
    (none_out_back nat_cmp (λ b. b.0) (λ _. true) None 0 file.bases ok.bases_ok.ascend (λ k d lt. refl))
    (none_out_back id_cmp (λ o. o.0) (λ o. rises o.1) None 0 file.offers ok.offers_ok.ascend (λ k d lt. rising_back None _ (ok.offers_ok.relays k d lt).ascend))
    (none_out_back id_cmp (λ g. g.0) (λ _. true) None 0 file.gives ok.ascend (λ k d lt. refl))
    (rising_back None file.group ok.group_ok.ascend)

-- a file in order has its lines of the form
pub file_form_ok : (file : File) → IsFile file → malformed_at file ≡ None
file_form_ok file ok =
    anywhere file _ _ _ _
    (no_place (λ b. not (is_base b)) 0 file.bases (λ k d lt. base_ok _ (ok.bases_ok.each k d lt)))
    (no_place (λ o. is_empty o.1 || not (are_relays o.1)) 0 file.offers (λ k d lt. offer_ok (get_or file.offers k d) (ok.offers_ok.some k d lt) (ok.offers_ok.relays k d lt).small))
    (no_place (λ g. not (nat_lt g.1 RELAYS)) 0 file.gives (λ k d lt. ap not (lt-ltb _ RELAYS (ok.relays k d lt))))
    (relays_small file.group ok.group_ok.small)
