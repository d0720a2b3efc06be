use Rattle.std.proofs.Common.{◌≡◌, ◌<◌, ◌≤◌, ℕ, List, Bool, false, ap, inl, map, refl, subst, sym, ◌∙◌, arith}
use Rattle.std.specs.Prelude.{◌↔◌, IsTrue}
use Rattle.item_key.specs.declared.Item.{Item}
use Rattle.neg_draft.specs.Coverage.{passed}
use Rattle.neg_codec.specs.Ranges.{Claim, Span, skip, edge_of, span_of, claim_of}
use Rattle.neg_initiator.specs.Findings.{findings_of}
use Rattle.neg_initiator.specs.Pairs.{pair_of}
use Rattle.neg_initiator.specs.Settling.{AccountsFor, Findings, Finds}
use Rattle.neg_initiator.proofs.Finding.{finds_print, accounts_print}
use Rattle.neg_initiator.proofs.settle.settle_range.Goals as goal

-- nothing new is found of a stretch that is passed over
finds_none : (a : List Item) (lower : Item) (r : Span) (f : Findings) → Finds a lower r f f
finds_none a lower r f = record {
  need_kept = λ i h. h;
  have_kept = λ i h. h;
  trusted_kept = λ x h. h;
  need_new = λ i h. inl h;
  have_new = λ i h. inl h;
  trusted_new = λ x h. inl h;
}

-- no key lies in a stretch that doesn't begin below its end
none_lies : (lower key upper : ℕ) (below : Bool) → IsTrue below ↔ (lower < upper) → below ≡ false → lower ≤ key → key < upper → ⊥
none_lies lower key upper below tells is from to = grind (arith, tells)

-- a range that skips owes nothing
skip_owes : (a : List Item) (f : Findings) (lower upper : Item) (claim : Claim) → claim ≡ skip → AccountsFor a f lower upper claim
skip_owes a f lower upper claim is = subst (λ (x : Claim). AccountsFor a f lower upper x) (sym is) tt

pub returns-in_ok-trust-in-Print-clause-finds : goal.returns-in_ok-trust-in-Print-clause-finds
returns-in_ok-trust-in-Print-clause-finds c =
    finds_print c.args.roll.now (edge_of c.args.lower.now) (span_of c.args.range.now) _ (findings_of c.args.found.now) _ (c.is_below.ensures.0 c.if-not-is_below.false) (ap claim_of c.in-Print.is) (c.has_print.ensures.own.0 c.if-has_print.true) refl refl c.in_ok-trust-in-Print.ensures

pub returns-in_ok-trust-in-Print-clause-settles : goal.returns-in_ok-trust-in-Print-clause-settles
returns-in_ok-trust-in-Print-clause-settles c = inl (record {
  accounts = λ k lies. accounts_print c.args.roll.now (edge_of c.args.lower.now) (span_of c.args.range.now) _ _ (map pair_of c.args.found.now.trusted.items) (ap claim_of c.in-Print.is) (c.has_print.ensures.own.0 c.if-has_print.true) c.in_ok-trust-in-Print.ensures;
  now = c.skip-then-has_print.ensures.now ∙ ap (λ d. passed d (edge_of c.args.range.now.upper)) c.has_print.ensures.kept;
})

pub returns-then-not-is_below-clause-finds : goal.returns-then-not-is_below-clause-finds
returns-then-not-is_below-clause-finds c = finds_none _ _ _ _

pub returns-then-not-is_below-clause-settles : goal.returns-then-not-is_below-clause-settles
returns-then-not-is_below-clause-settles c = inl (record {
  accounts = λ k lies. absurd (none_lies _ _ _ c.is_below.result c.is_below.ensures c.if-not-is_below.true lies.0 lies.1);
  now = c.skip.ensures.now;
})

pub returns-in-Skip-clause-finds : goal.returns-in-Skip-clause-finds
returns-in-Skip-clause-finds c = finds_none _ _ _ _

pub returns-in-Skip-clause-settles : goal.returns-in-Skip-clause-settles
returns-in-Skip-clause-settles c = inl (record {
  accounts = λ k lies. skip_owes _ _ _ _ _ (ap claim_of c.in-Skip.is);
  now = c.skip-in-Skip.ensures.now;
})
