use Rattle.std.proofs.Common.{◌≡◌, ◌||◌, Bool, true, cond, not, sym, ap, ◌∙◌, inl, inr}
use Rattle.std.specs.List.{list_any}
use Rattle.std.proofs.lemmas.Bool.{cases_Bool, or_right}
use Rattle.item_key.specs.declared.Id.{Id}
use Rattle.sharing.specs.Offers.{is_id}
use Rattle.sharing.proofs.Orders.{same_id, id_itself, id_flips}
use Rattle.round_core.specs.declared.events.Answer.TheVariants.{Placed}
use Rattle.round_core.specs.Left.{State}
use Rattle.round_core.proofs.Histories.{or_false}
use Rattle.round_core.proofs.round.Round.insert.Goals as goal

one_more : (id other : Id) (b : Bool) → cond (is_id id other) true b ≡ (b || is_id other id)
one_more id other b =
    elim (cases_Bool (is_id id other)) [
      | inl t ↦ ap (λ x. cond x true b) t ∙ sym (or_right b (is_id other id) (ap (λ k. is_id k id) (sym (same_id id other t)) ∙ id_itself id))
      | inr f ↦ ap (λ x. cond x true b) f ∙ sym (ap (λ x. b || x) (id_flips id other f) ∙ or_false b)
    ]

pub returns : goal.returns
returns c = (
  ap Placed (c.in_ok-fresh.ensures.added ∙ ap (λ (s : State). not (list_any (is_id c.args.id) s.placed)) c.self.view_is),
  ap (λ (s : State). record s { placed = c.insert.new.self.keys }) c.self.view_is,
  λ other. c.in_ok-fresh.ensures.updates.0 other ∙ one_more c.args.id other (list_any (is_id other) c.self.inside.placed.keys) ∙ ap (λ (s : State). list_any (is_id other) s.placed || is_id other c.args.id) c.self.view_is,
)
