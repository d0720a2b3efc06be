use Rattle.std.proofs.Common.{◌≡◌, ◌∙◌, ◌++◌, ◌∷◌, ℕ, map, sym, ap, subst}
use Rattle.std.specs.Prelude.{IsPermutation}
use Rattle.std.specs.Arc.{arc_value}
use Rattle.std.proofs.lemmas.List.Sorted.{IsPermutation-trans, IsPermutation-append_left}
use Rattle.nostr_event.specs.EventView.{EventView}
use Rattle.newest.specs.Newest.{joined}
use Rattle.newest.proofs.Lists.{still_of, one_longer}
use Rattle.newest.proofs.order.Newest.insert.Goals as goal

pub returns-then-as_slice-lt-FAN-clause-inserted : goal.returns-then-as_slice-lt-FAN-clause-inserted
returns-then-as_slice-lt-FAN-clause-inserted c =
    let e : ℕ × EventView = (c.args.place, c.args.event.value) in
    let old = arc_value c.self.inside.last in
    let runs = joined (map arc_value (arc_value c.self.inside.runs).items) in
    let put : IsPermutation (e ∷ old) c.in_ok-last.last = subst (λ x. IsPermutation (x ∷ old) c.in_ok-last.last) c.new.ensures (subst (λ xs. IsPermutation (c.new.result ∷ xs) c.in_ok-last.last) c.deref.ensures c.in_ok-last.ensures) in
    let whole : IsPermutation (e ∷ (old ++ runs)) (c.in_ok-last.last ++ runs) = IsPermutation-append_left runs (e ∷ old) c.in_ok-last.last put in
    subst (λ xs. IsPermutation (e ∷ xs) (arc_value c.in_ok-new.field-0 ++ joined (map arc_value (arc_value c.in_ok-try_clone.field-0).items))) c.self.view_is
    (subst (IsPermutation (e ∷ (old ++ runs))) (λ i. sym c.in_ok-new.ensures.ok i ++ joined (map arc_value (sym c.in_ok-try_clone.ensures i).items)) whole)

pub returns-then-as_slice-lt-FAN-clause-len : goal.returns-then-as_slice-lt-FAN-clause-len
returns-then-as_slice-lt-FAN-clause-len c = one_longer (c.args.place, c.args.event.value) c.args.self.now _ (returns-then-as_slice-lt-FAN-clause-inserted c)

pub returns-then-as_slice-lt-FAN-clause-events : goal.returns-then-as_slice-lt-FAN-clause-events
returns-then-as_slice-lt-FAN-clause-events c events of =
    still_of events c.args.self.now _ c.args.place c.args.event.value c.requires (returns-then-as_slice-lt-FAN-clause-inserted c) of

pub returns-clause-inserted : goal.returns-clause-inserted
returns-clause-inserted c =
    let e : ℕ × EventView = (c.args.place, c.args.event.value) in
    let old = arc_value c.self.inside.last in
    let runs = joined (map arc_value (arc_value c.self.inside.runs).items) in
    let put : IsPermutation (e ∷ old) c.in_ok-last.last = subst (λ x. IsPermutation (x ∷ old) c.in_ok-last.last) c.new.ensures (subst (λ xs. IsPermutation (c.new.result ∷ xs) c.in_ok-last.last) c.deref.ensures c.in_ok-last.ensures) in
    let whole : IsPermutation (e ∷ (old ++ runs)) (c.in_ok-last.last ++ runs) = IsPermutation-append_left runs (e ∷ old) c.in_ok-last.last put in
    let now : map arc_value c.as_slice-2.result.now ≡ map arc_value (arc_value c.self.inside.runs).items = ap (map arc_value) (c.as_slice-2.ensures.value ∙ ap (λ v. v.items) c.deref-3.ensures) in
    let more : IsPermutation (c.in_ok-last.last ++ runs) (joined (map arc_value c.in_ok-runs.runs.items)) =
    subst (λ rs. IsPermutation (c.in_ok-last.last ++ joined rs) (joined (map arc_value c.in_ok-runs.runs.items))) now c.in_ok-runs.ensures in
    subst (λ xs. IsPermutation (e ∷ xs) (arc_value c.in_ok-new-2.field-0 ++ joined (map arc_value (arc_value c.in_ok-new-3.field-0).items))) c.self.view_is
    (subst (IsPermutation (e ∷ (old ++ runs))) (λ i. sym (c.in_ok-new-2.ensures.ok ∙ c.new-2.ensures) i ++ joined (map arc_value (sym c.in_ok-new-3.ensures.ok i).items))
    (IsPermutation-trans (e ∷ (old ++ runs)) (c.in_ok-last.last ++ runs) (joined (map arc_value c.in_ok-runs.runs.items)) whole more))

pub returns-clause-len : goal.returns-clause-len
returns-clause-len c = one_longer (c.args.place, c.args.event.value) c.args.self.now _ (returns-clause-inserted c)

pub returns-clause-events : goal.returns-clause-events
returns-clause-events c events of = still_of events c.args.self.now _ c.args.place c.args.event.value c.requires (returns-clause-inserted c) of
