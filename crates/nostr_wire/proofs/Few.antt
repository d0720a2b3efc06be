-- Requests of which the first filters are kept.
use Rattle.std.proofs.Common.{◌≡◌, ℕ, ◌+◌, ◌≤◌, ◌++◌, Bool, true, false, cond, List, [], ◌∷◌, length, take, Option, None, Some, refl, sym, ap, ◌∙◌, subst, arith}
use Rattle.std.specs.Prelude.{nat_le}
use Rattle.std.proofs.lemmas.Bool.Decides.{nat_tests}
use Rattle.std.proofs.lemmas.Grind.{common_steps}
use Rattle.std.proofs.lemmas.List.{take_all, take-append-le, length-append}
use Rattle.nostr_filter.specs.declared.filter.Filter.{Filter}
use Rattle.nostr_wire.specs.declared.messages.FromClient.{FromClient}
use Rattle.nostr_wire.specs.declared.messages.FromClient.TheVariants as client
use Rattle.nostr_wire.specs.Forms.{client_form, client_table}
use Rattle.nostr_wire.specs.Reading.{kept_filters, with_filter, IsMessage, Hears, Reads}

one_behind : (n : ℕ) (all : List Filter) (f : Filter) (b : Bool) → nat_le (length (take (n + 1) all)) n ≡ b
    → cond b (take (n + 1) all ++ f ∷ []) (take (n + 1) all) ≡ take (n + 1) (all ++ f ∷ [])
one_behind n all f true is =
    let few : length all ≤ n = grind (arith, common_steps, nat_tests, is) in
    ap (λ xs. xs ++ f ∷ []) (take_all (n + 1) all (omega (arith, few))) ∙ sym (take_all (n + 1) (all ++ f ∷ []) (omega (arith, few, length-append all (f ∷ []))))
one_behind n all f false is =
    let many : n + 1 ≤ length all = grind (arith, common_steps, nat_tests, is) in
    sym (take-append-le (n + 1) all (f ∷ []) many)

-- what is kept of one filter more
pub kept_with : (most : Option ℕ) (all fs : List Filter) (f : Filter) → fs ≡ kept_filters most all → with_filter most fs f ≡ kept_filters most (all ++ f ∷ [])
kept_with None all fs f is = ap (λ xs. xs ++ f ∷ []) is
kept_with (Some n) all fs f is = ap (λ xs. with_filter (Some n) xs f) is ∙ one_behind n all f (nat_le (length (take (n + 1) all)) n) refl

-- of none, none is kept
pub kept_none : (most : Option ℕ) → kept_filters most [] ≡ []
kept_none None = refl
kept_none (Some n) = take_all (n + 1) [] (omega arith)

-- where no number is said all are kept
pub heard_whole : (text : List ℕ) (m : FromClient) → Hears None text m → Reads client_table text (client_form m)
heard_whole text (client.Req s fs) h =
    (h.0, h.1, subst (λ gs. IsMessage client_table h.0 (client_form (client.Req s gs))) (sym h.2.1) h.2.2)
heard_whole text (client.Event e) h = h
heard_whole text (client.Close s) h = h
heard_whole text (client.NegOpen s f m) h = h
heard_whole text (client.NegMsg s m) h = h
heard_whole text (client.NegClose s) h = h
