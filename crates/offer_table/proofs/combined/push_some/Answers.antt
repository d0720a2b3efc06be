use Rattle.std.proofs.Common.{refl, inl, inr, sym, ◌∙◌}
use Rattle.std.proofs.lemmas.Bool.{false≢true}
use Rattle.offer_table.proofs.SideBySide.{some_from}
use Rattle.offer_table.proofs.combined.push_some.Goals as goal

pub returns-then-is_empty : goal.returns-then-is_empty
returns-then-is_empty c = inl (c.is_empty.ensures.0 c.if-is_empty.true, refl)

pub returns : goal.returns
returns c = inr (some_from c.args.relays (λ e. false≢true (sym c.if-is_empty.false ∙ c.is_empty.ensures.1 e)), c.in_ok-push.ensures.items)
