-- The steps of the store keep its rule.
use Rattle.std.proofs.Common.{◌≡◌, ◌≢◌, ℕ, Result, Ok, Err, MatchResult, List, [], ◌∷◌, ◌++◌, fold, refl, sym, ap, subst, ◌∙◌, ⊎_elim}
use mathlib.Core.List.{IsPrefix}
use mathlib.Core.Option.{some}
use lib.ListN.{get_elem?}
use Rattle.left_right.specs.Register.{Admits, TurnsAt}
use Rattle.atomic_table.proofs.Lists.{at_set, at_snoc}
use Rattle.logbook.specs.Pages.{Book}
use Rattle.event_store.specs.declared.rule.View.{View}
use Rattle.event_store.specs.Marks.{Marked}
use Rattle.event_store.specs.Rules.{newcomer, Keeps, Seen}
use Rattle.event_list.proofs.Prefixes.{prefix_self, prefix_trans}

-- a new reader has seen nothing
pub admits : (book : Book) → Admits (Keeps book) newcomer
admits book x views h = (h.0, λ seat v at. ⊎_elim (h.1 seat v) (λ (e : newcomer ≡ v). subst (λ (u : View). IsPrefix u.seen x.list) e (x.list, refl)) (at_snoc views newcomer v seat at))

-- a step that only adds events, by a seat that sees what is then published
pub sees : (book : Book) (seat : ℕ) (v : View) (x y : Marked) → y.book ≡ x.book → IsPrefix x.list y.list → TurnsAt (Keeps book) seat v x y (Seen book)
sees book seat v x y same more views h at =
    let w : View = record { seen = y.list } in (
      w,
      (
        same ∙ h.0,
        λ j u e. ⊎_elim (λ (t : (j ≡ seat) × (w ≡ u)). subst (λ (z : View). IsPrefix z.seen y.list) t.1 (prefix_self y.list))
            (λ (t : (j ≢ seat) × (get_elem? views j ≡ some u)). prefix_trans u.seen x.list y.list (h.1 j u t.1) more)
            (at_set views seat j w u e),
      ),
      (same ∙ h.0, prefix_trans v.seen x.list y.list (h.1 seat v at) more, refl),
    )

last_replaces : (x next : Marked) (waiting : List Marked) → fold (λ _ y. y) x (waiting ++ next ∷ []) ≡ next
last_replaces x next [] = refl
last_replaces x next (y ∷ waiting) = last_replaces y next waiting

-- the last of the operations is what is left
pub appended_replaces : (x next : Marked) (before after : List Marked) → after ≡ before ++ next ∷ [] → fold (λ _ y. y) x after ≡ next
appended_replaces x next before after e = ap (fold (λ (_ : Marked) (y : Marked). y) x) e ∙ last_replaces x next before

-- what is published then, at either answer
pub then_published : {U E : Type 0} (r : Result U E) (first was now next replaced : Marked) (A B : Type 0) → was ≡ first → replaced ≡ next
    → MatchResult r (λ _. (now ≡ replaced) × A) (λ _. (now ≡ was) × B) → MatchResult r (λ _. now ≡ next) (λ _. now ≡ first)
then_published (Ok u) first was now next replaced A B e f h = h.0 ∙ f
then_published (Err x) first was now next replaced A B e f h = h.0 ∙ e

-- a list that the first begins, where it is another name for the second
pub begins_as : (first was next now : Marked) → was ≡ first → now ≡ next → IsPrefix first.list next.list → IsPrefix was.list now.list
begins_as first was next now e f h = (h.0, ap (λ (m : Marked). m.list ++ h.0) e ∙ (h.1 ∙ ap (λ (m : Marked). m.list) (sym f)))

pub book_as : (first was next now : Marked) → was ≡ first → now ≡ next → next.book ≡ first.book → now.book ≡ was.book
book_as first was next now e f h = ap (λ (m : Marked). m.book) f ∙ (h ∙ ap (λ (m : Marked). m.book) (sym e))
