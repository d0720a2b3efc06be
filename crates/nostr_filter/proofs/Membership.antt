-- Sets that have the members of a list.
use Rattle.std.proofs.Common.{◌≡◌, ◌∙◌, ◌∷◌, [], List, ℕ, refl}
use Rattle.std.specs.Ordering.{nat_cmp, eq_by_cmp}
use Rattle.std.specs.Cmp.Lexicographic.{slice_cmp}
use Rattle.std.specs.Set.{is_member}
use Rattle.std.specs.BTreeSet.{BTreeSet, IsFromIterResult, contains}
use Rattle.std.proofs.lemmas.Cmp.{eq_by_cmp_equiv, nat_list_cmp_total}
use Rattle.std.proofs.lemmas.Map.Text.{is_eq-slice_cmp}
use Rattle.nostr_filter.specs.Members.{has_text}

members : (texts : List (List ℕ)) (text : List ℕ) → is_member (eq_by_cmp (slice_cmp nat_cmp)) texts text ≡ has_text texts text
members [] text = refl
members (t ∷ texts) text = rw ((eq_by_cmp_equiv nat_list_cmp_total).symm text t ∙ is_eq-slice_cmp t text, members texts text) refl

-- a set made of a list has its members
pub made : (texts : List (List ℕ)) (s : BTreeSet (List ℕ)) (text : List ℕ) → IsFromIterResult (slice_cmp nat_cmp) texts s → contains (slice_cmp nat_cmp) s text ≡ has_text texts text
made texts s text from = from.0 text ∙ members texts text
