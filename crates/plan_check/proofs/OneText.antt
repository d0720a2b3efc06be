-- A text is that of one file.
use Rattle.std.proofs.Common.{◌≡◌, ℕ, ◌<◌, inr, List, [], ◌∷◌, ◌++◌, map, refl, ap, sym, ◌∙◌, decimal}
use Rattle.std.specs.List.{All}
use Rattle.std.proofs.lemmas.List.Elements.{All-head, All-tail}
use Rattle.std.proofs.lemmas.Fmt.{decimal_injective}
use Rattle.hex.specs.Hex.{encode_lower}
use Rattle.item_key.specs.declared.Id.{Id}
use Rattle.sharing.specs.declared.TheConstants.{RELAYS}
use Rattle.plan_check.specs.File.{File, IsBase}
use Rattle.plan_check.specs.PlanText.{number_text, relays_text, base_line, offer_line, give_line, group_line, plan_lines, plan_text, IsOffer, IsGive, IsOfForm}
use Rattle.plan_check.specs.PlanReading.{OneFile}
use Rattle.plan_check.proofs.IdLemmas.{same_id, after_id}
use Rattle.plan_check.proofs.LineLemmas.{same_words}
use Rattle.plan_check.proofs.NumberLemmas.{relay_small, base_small, same_number, next_relays}
use Rattle.plan_check.proofs.FormLemmas.{based, offered, given, grouped, plan_lines-is, plan_parts, behind_bases, behind_offers, behind_gives}
use Rattle.plan_check.proofs.TextLemmas.{lines_of-plan}

same_relays : (rs qs : List ℕ) → All (λ r. r < RELAYS) rs → All (λ r. r < RELAYS) qs → relays_text rs ≡ relays_text qs → rs ≡ qs
same_relays [] [] hr hq e = refl
same_relays [] (q ∷ qs) hr hq e = absurd (cc)
same_relays (r ∷ rs) [] hr hq e = absurd (cc)
same_relays (r ∷ rs) (q ∷ qs) hr hq e =
    let parts = same_number r q (relays_text rs) (relays_text qs) (relay_small r (All-head (λ r. r < RELAYS) r rs hr)) (relay_small q (All-head (λ r. r < RELAYS) q qs hq)) (next_relays rs) (next_relays qs) e in
    let head : r ≡ q = parts.0 in
    let tail : rs ≡ qs = same_relays rs qs (All-tail (λ r. r < RELAYS) r rs hr) (All-tail (λ r. r < RELAYS) q qs hq) parts.1 in
    cc

same_pair : {X Y : Type 0} (a b : X × Y) → a.0 ≡ b.0 → a.1 ≡ b.1 → a ≡ b
same_pair a b h k = ap (λ (x : _). (x, a.1)) h ∙ ap (λ (y : _). (b.0, y)) k

same_base : (a b : ℕ × ℕ) → IsBase a → IsBase b → based a ≡ based b → a ≡ b
same_base a b ha hb e =
    let words : base_line a ≡ base_line b = same_words (base_line a) (base_line b) e in
    let behind : number_text a.0 ++ number_text a.1 ≡ number_text b.0 ++ number_text b.1 = cc in
    let parts = same_number a.0 b.0 (number_text a.1) (number_text b.1) (relay_small a.0 ha.relay) (relay_small b.0 hb.relay) (λ not. not refl) (λ not. not refl) behind in
    let load : a.1 ≡ b.1 = (same_number a.1 b.1 [] [] (base_small a ha) (base_small b hb) tt tt (ap (λ t. t ++ []) parts.1)).0 in
    same_pair a b parts.0 load

pub same_offer : (a b : Id × List ℕ) → IsOffer a → IsOffer b → offered a ≡ offered b → a ≡ b
same_offer a b ha hb e =
    let words : offer_line a ≡ offer_line b = same_words (offer_line a) (offer_line b) e in
    let behind : encode_lower a.0.0 ++ relays_text a.1 ≡ encode_lower b.0.0 ++ relays_text b.1 = cc in
    let id : a.0 ≡ b.0 = same_id a.0 b.0 (relays_text a.1) (relays_text b.1) ha.id hb.id behind in
    let relays : a.1 ≡ b.1 = same_relays a.1 b.1 ha.relays hb.relays (after_id a.0 b.0 (relays_text a.1) (relays_text b.1) ha.id hb.id behind) in
    same_pair a b id relays

pub same_give : (a b : Id × ℕ) → IsGive a → IsGive b → given a ≡ given b → a ≡ b
same_give a b ha hb e =
    let words : give_line a ≡ give_line b = same_words (give_line a) (give_line b) e in
    let behind : encode_lower a.0.0 ++ number_text a.1 ≡ encode_lower b.0.0 ++ number_text b.1 = cc in
    let id : a.0 ≡ b.0 = same_id a.0 b.0 (number_text a.1) (number_text b.1) ha.id hb.id behind in
    let number = after_id a.0 b.0 (number_text a.1) (number_text b.1) ha.id hb.id behind in
    let digits : decimal a.1 ≡ decimal b.1 = cc in
    let relay : a.1 ≡ b.1 = decimal_injective a.1 b.1 (relay_small a.1 ha.relay) (relay_small b.1 hb.relay) digits in
    same_pair a b id relay

pub same_group : (a b : List ℕ) → All (λ r. r < RELAYS) a → All (λ r. r < RELAYS) b → grouped a ≡ grouped b → a ≡ b
same_group a b ha hb e =
    let words : group_line a ≡ group_line b = same_words (group_line a) (group_line b) e in
    same_relays a b ha hb (cc)

-- records of the same lines
pub same_records : {X : Type 0} (f : X → List ℕ) (P : X → Type 0) → ((a b : X) → P a → P b → f a ≡ f b → a ≡ b) → (xs ys : List X) → All P xs → All P ys → map f xs ≡ map f ys → xs ≡ ys
same_records f P same [] [] hx hy e = refl
same_records f P same [] (y ∷ ys) hx hy e = absurd (cc)
same_records f P same (x ∷ xs) [] hx hy e = absurd (cc)
same_records f P same (x ∷ xs) (y ∷ ys) hx hy e =
    let line : f x ≡ f y = cc in
    let others : map f xs ≡ map f ys = cc in
    let head : x ≡ y = same x y (All-head P x xs hx) (All-head P y ys hy) line in
    let tail : xs ≡ ys = same_records f P same xs ys (All-tail P x xs hx) (All-tail P y ys hy) others in
    cc

pub same_file : (a b : File) → a.bases ≡ b.bases → a.offers ≡ b.offers → a.gives ≡ b.gives → a.group ≡ b.group → a ≡ b
same_file a b s o g r =
    ap (λ bs. record { bases = bs; offers = a.offers; gives = a.gives; group = a.group }) s
    ∙ ap (λ os. record { bases = b.bases; offers = os; gives = a.gives; group = a.group }) o
    ∙ ap (λ gs. record { bases = b.bases; offers = b.offers; gives = gs; group = a.group }) g
    ∙ ap (λ (rs : List ℕ). record { bases = b.bases; offers = b.offers; gives = b.gives; group = rs }) r

pub one_plan : (a b : File) → IsOfForm a → IsOfForm b → plan_lines a ≡ plan_lines b → a ≡ b
one_plan a b ha hb e =
    let parts = plan_parts a.bases a.offers a.gives ha.bases ha.offers ha.gives (grouped a.group ∷ []) b hb (inr (behind_bases a.offers a.gives a.group [] ha.offers ha.gives ha.group)) (behind_offers a.gives a.group [] ha.gives ha.group) (behind_gives a.group ha.group) (sym (plan_lines-is a) ∙ e) in
    let last = parts.3 in
    let line : grouped a.group ≡ grouped b.group = cc in
    let bases : a.bases ≡ b.bases = same_records based IsBase same_base a.bases b.bases ha.bases hb.bases parts.0 in
    let offers : a.offers ≡ b.offers = same_records offered IsOffer same_offer a.offers b.offers ha.offers hb.offers parts.1 in
    let gives : a.gives ≡ b.gives = same_records given IsGive same_give a.gives b.gives ha.gives hb.gives parts.2 in
    let group : a.group ≡ b.group = same_group a.group b.group ha.group hb.group line in
    same_file a b bases offers gives group

pub one_file_each : OneFile
one_file_each a b ha hb e = one_plan a b ha hb (sym (lines_of-plan (plan_text a) a ha refl) ∙ lines_of-plan (plan_text a) b hb e)
