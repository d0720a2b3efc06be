use Rattle.std.proofs.Common.{◌≡◌, ◌≤◌, true, false, is_eq, length, get_or, List, [], inl, inr, refl, sym, ap, subst, ◌∙◌, arith}
use Rattle.std.specs.Prelude.{Contains}
use Rattle.std.specs.declared.cmp.Ordering.{Ordering}
use Rattle.std.specs.declared.cmp.Ordering.TheVariants.{Less, Equal, Greater}
use Rattle.std.proofs.lemmas.Cmp.{tied_itself}
use Rattle.std.proofs.lemmas.List.{take_all}
use Rattle.item_key.specs.declared.Id.{Id}
use Rattle.neg_initiator.specs.Ids.{id_cmp}
use Rattle.neg_initiator.proofs.Keys.{id_total, id_exact, seen_gives}
use Rattle.neg_initiator.proofs.Noting.{there}
use Rattle.neg_initiator.proofs.ids.is_among.Goals as goal

abbrev no_id : Id
no_id = record { 0 = [] }

equal_of : (o : Ordering) → true ≡ is_eq o → o ≡ Equal
equal_of Less e = cc
equal_of Equal e = refl
equal_of Greater e = cc

pub returns-then-is_eq : goal.returns-then-is_eq
returns-then-is_eq c =
    let e : id_cmp (get_or c.args.ids.now c.loop-other.other-index no_id) c.args.id.now ≡ Equal = sym c.cmp.ensures ∙ equal_of c.cmp.result (sym c.if-is_eq.true ∙ c.is_eq.ensures) in
    let same = id_exact (get_or c.args.ids.now c.loop-other.other-index no_id) c.args.id.now e in
    (λ t. subst (λ (x : Id). Contains c.args.ids.now x) same (there c.args.ids.now c.loop-other.other-index no_id c.loop-other-test.true), λ h. refl)

pub loop-other-preserved : goal.loop-other-preserved
loop-other-preserved c = λ h. elim (seen_gives c.args.ids.now c.loop-other.other-index no_id c.args.id.now c.loop-other-test.true h) [
  | inl old ↦ c.loop-other.invariant old
  | inr same ↦
      let tied : id_cmp (get_or c.args.ids.now c.loop-other.other-index no_id) c.args.id.now ≡ Equal = subst (λ (x : Id). id_cmp x c.args.id.now ≡ Equal) same (tied_itself id_total c.args.id.now) in
      let both : true ≡ false = sym (ap is_eq (c.cmp.ensures ∙ tied)) ∙ sym c.is_eq.ensures ∙ c.if-is_eq.false in cc
]

pub returns : goal.returns
returns c =
    let le : length c.args.ids.now ≤ c.loop-other.other-index = omega (arith, c.loop-other-test.false) in
    (λ no. let both : false ≡ true = no in cc, λ h. absurd (c.loop-other.invariant (subst (λ (xs : List Id). Contains xs c.args.id.now) (sym (take_all c.loop-other.other-index c.args.ids.now le)) h)))
