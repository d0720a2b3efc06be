-- Which ids are due.
use Rattle.std.proofs.Common.{◌≡◌, ◌∙◌, List, [], ◌∷◌, ◌++◌, ◌||◌, ◌&&◌, Bool, true, false, cond, not, Some, is_eq, refl, sym, ap}
use Rattle.std.specs.Prelude.{bytes_eq}
use Rattle.std.specs.Bool.{OnFalse}
use Rattle.std.specs.List.{list_any}
use Rattle.std.specs.Ordering.{nat_cmp}
use Rattle.std.specs.declared.cmp.Ordering.{Ordering}
use Rattle.std.specs.Cmp.Lexicographic.{slice_cmp}
use Rattle.std.specs.BTreeSet.{BTreeSet, IsFromIterResult, IsUnchanged, UpdatesBy, contains}
use Rattle.std.proofs.lemmas.Cmp.{eq_by_cmp_equiv, nat_list_cmp_total}
use Rattle.std.proofs.lemmas.List.{map-append}
use Rattle.std.proofs.lemmas.List.Folds.{list_any-append}
use Rattle.std.proofs.lemmas.Map.Text.{is_eq-slice_cmp}
use Rattle.item_key.specs.declared.Id.{Id}
use Rattle.nostr_event.specs.EventView.{EventView}
use Rattle.ws_link.specs.Fetched.{has_id, ids_in, is_due, keep}
use Rattle.ws_link.specs.Taken.{AreDue}

abbrev id_cmp : Id → Id → Ordering
id_cmp a b = slice_cmp nat_cmp a.0 b.0

-- a set looks for an id in this way
members : (ids : List Id) (id : Id) → list_any (λ i. is_eq (id_cmp id i)) ids ≡ has_id ids id
members [] id = refl
members (i ∷ ids) id = rw ((eq_by_cmp_equiv nat_list_cmp_total).symm id.0 i.0 ∙ is_eq-slice_cmp i.0 id.0, members ids id) refl

and_true : (b : Bool) → (b && true) ≡ b
and_true true = refl
and_true false = refl

pub all_are_due : (asked : List Id) (s : BTreeSet Id) → IsFromIterResult id_cmp asked s → AreDue asked [] s.keys
all_are_due asked s from = λ e. sym (members s.keys e.id) ∙ (from.0 e.id ∙ (members asked e.id ∙ sym (and_true (has_id asked e.id))))

pub found_is_due : (asked : List Id) (kept : List EventView) (s : BTreeSet Id) (e : EventView) (found : Bool) → found ≡ contains id_cmp s e.id → AreDue asked kept s.keys → found ≡ is_due asked kept e
found_is_due asked kept s e found is due = is ∙ (members s.keys e.id ∙ due e)

come_one : (kept : List EventView) (e : EventView) (id : Id) → has_id (ids_in (kept ++ e ∷ [])) id ≡ (has_id (ids_in kept) id || (bytes_eq e.id.0 id.0 || false))
come_one kept e id = rw (map-append (λ (x : EventView). x.id) kept (e ∷ [])) (list_any-append (λ (i : Id). bytes_eq i.0 id.0) (ids_in kept) (e.id ∷ []))

less_one : (asked come is : Bool) → cond is false (asked && not come) ≡ (asked && not (come || (is || false)))
less_one true true true = refl
less_one true true false = refl
less_one true false true = refl
less_one true false false = refl
less_one false come true = refl
less_one false come false = refl

-- the event is taken out where it was due, and else nothing is
pub others_are_due : (asked : List Id) (kept : List EventView) (s t : BTreeSet Id) (e : EventView) (found : Bool) → found ≡ contains id_cmp s e.id → UpdatesBy id_cmp (id_cmp e.id) s t false
    → OnFalse found (IsUnchanged s t) → AreDue asked kept s.keys → AreDue asked (keep asked kept (Some e)) t.keys
others_are_due asked kept s t e found is updates same due = go found (found_is_due asked kept s e found is due) same
  where
    go : (b : Bool) → b ≡ is_due asked kept e → OnFalse b (IsUnchanged s t) → AreDue asked (keep asked kept (Some e)) t.keys
    go true is same = rw (sym is) (λ x.
        sym (members t.keys x.id)
        ∙ (updates.0 x.id
        ∙ (ap (λ b. cond b false (contains id_cmp s x.id)) (is_eq-slice_cmp e.id.0 x.id.0)
        ∙ (ap (λ b. cond (bytes_eq e.id.0 x.id.0) false b) (members s.keys x.id ∙ due x)
        ∙ (less_one (has_id asked x.id) (has_id (ids_in kept) x.id) (bytes_eq e.id.0 x.id.0)
        ∙ ap (λ b. has_id asked x.id && not b) (sym (come_one kept e x.id)))))))
    go false is same = rw (sym is) (λ x. ap (λ ids. has_id ids x.id) same ∙ due x)
