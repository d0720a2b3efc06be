use Rattle.std.proofs.Common.{◌≡◌, sym, ap, ◌∙◌}
use Rattle.std.specs.declared.cmp.Ordering.TheVariants.{Less, Equal, Greater}
use Rattle.std.specs.Ordering.{nat_cmp, match_ordering}
use Rattle.offer_table.proofs.Words.{compared, unequal}
use Rattle.offer_table.proofs.relays.RelaySet.compare.Goals as goal

pub returns-in-Equal : goal.returns-in-Equal
returns-in-Equal c =
    let s = c.self.inside in
    let o = c.other.inside in
    let first : nat_cmp s.high o.high ≡ Equal = sym c.cmp.ensures ∙ c.in-Equal.is in
    c.cmp-in-Equal.ensures ∙ sym (ap (λ x. match_ordering x Less (nat_cmp s.low o.low) Greater) first)
    ∙ compared s.high s.low o.high o.low c.args.self c.args.other c.self.invariant c.other.invariant c.self.view_is c.other.view_is

pub returns-in_default : goal.returns-in_default
returns-in_default c =
    let s = c.self.inside in
    let o = c.other.inside in
    unequal c.cmp.result (nat_cmp s.low o.low) c.in_default.not-Equal
    ∙ ap (λ x. match_ordering x Less (nat_cmp s.low o.low) Greater) c.cmp.ensures
    ∙ compared s.high s.low o.high o.low c.args.self c.args.other c.self.invariant c.other.invariant c.self.view_is c.other.view_is
