-- Texts of which the first filters are kept.
use Rattle.std.proofs.Common.{◌≡◌, ℕ, ◌+◌, ◌≤◌, Bool, true, false, List, length, take, Some, inl, refl, sym, ◌∙◌, subst, arith}
use Rattle.std.specs.Prelude.{nat_lt, MatchBool, codes}
use Rattle.std.proofs.lemmas.Bool.Decides.{nat_tests}
use Rattle.std.proofs.lemmas.Grind.{common_steps}
use Rattle.std.proofs.lemmas.List.{take_all}
use Rattle.nostr_event.specs.EventView.{EventView}
use Rattle.nostr_filter.specs.declared.filter.Filter.{Filter}
use Rattle.nostr_filter.specs.Choice.{chosen}
use Rattle.nostr_wire.specs.declared.messages.FromClient.{FromClient}
use Rattle.nostr_wire.specs.declared.messages.FromClient.TheVariants as client
use Rattle.nostr_wire.specs.Reading.{Hears}
use Rattle.relay_core.specs.declared.limits.RelayLimits.{RelayLimits}
use Rattle.relay_core.specs.Asking.{Asks, TextAsks}
use Rattle.relay_core.specs.Kept.{Kept}
use Rattle.relay_core.specs.Messages.{notice}
use Rattle.relay_core.specs.Requests.{requested, Requests}
use Rattle.relay_core.specs.Serving.{Brings, IsServed, Serves}
use Rattle.relay_core.specs.Turns.{Turn, says_one}

-- where no more are there than may be, all are kept
all_kept : (n : ℕ) (all fs : List Filter) → fs ≡ take (n + 1) all → length fs ≤ n → fs ≡ all
all_kept n all fs is few =
    let short : length (take (n + 1) all) ≤ n = subst (λ xs. length xs ≤ n) is few in
    let within : length all ≤ n + 1 = grind (arith, common_steps, short) in
    is ∙ take_all (n + 1) all within

-- more are refused, however many
refused_same : (limits : RelayLimits) (events : List EventView) (s : List ℕ) (all fs : List Filter) (p q : List ℕ) (t : Kept) → nat_lt limits.filters (length all) ≡ true → nat_lt limits.filters (length fs) ≡ true
    → requested limits events s fs p t ≡ requested limits events s all q t
refused_same limits events s all fs p q t many also = rw (many, also) refl

request_at : (b : Bool) (limits : RelayLimits) (events : List EventView) (s : List ℕ) (all fs : List Filter) (t : Kept) (turn : Turn) → nat_lt limits.filters (length all) ≡ b → fs ≡ take (limits.filters + 1) all
    → Requests limits events s fs t turn → Requests limits events s all t turn
request_at true limits events s all fs t turn many is brings =
    let also : nat_lt limits.filters (length fs) ≡ true = grind (arith, common_steps, nat_tests, many, is) in
    λ shared same. brings shared same ∙ refused_same limits events s all fs (chosen fs shared) (chosen all shared) t many also
request_at false limits events s all fs t turn few is brings =
    let whole : fs ≡ all = is ∙ take_all (limits.filters + 1) all (grind (arith, nat_tests, few)) in
    subst (λ xs. Requests limits events s xs t turn) whole brings

served_by : (limits : RelayLimits) (events : List EventView) (t : Kept) (m : FromClient) (turn : Turn) (text : List ℕ) → Hears (Some limits.filters) text m → Brings limits events t m turn → IsServed limits events text t turn
served_by limits events t (client.Req s fs) turn text h brings =
    inl (client.Req s h.2.0, (h.0, h.1, h.2.2), request_at (nat_lt limits.filters (length h.2.0)) limits events s h.2.0 fs t turn refl h.2.1 brings)
served_by limits events t (client.Event e) turn text h brings = inl (client.Event e, h, brings)
served_by limits events t (client.Close s) turn text h brings = inl (client.Close s, h, brings)
served_by limits events t (client.NegOpen s f m) turn text h brings = inl (client.NegOpen s f m, h, brings)
served_by limits events t (client.NegMsg s m) turn text h brings = inl (client.NegMsg s m, h, brings)
served_by limits events t (client.NegClose s) turn text h brings = inl (client.NegClose s, h, brings)

-- what a message brings about of which the first filters are kept is what its text does
pub heard_served : (limits : RelayLimits) (events : List EventView) (t : Kept) (m : FromClient) (turn : Turn) (text : List ℕ) → length text ≤ limits.text → Hears (Some limits.filters) text m → Brings limits events t m turn
    → Serves limits events text t turn
heard_served limits events t m turn text le h brings =
    let fits : nat_lt limits.text (length text) ≡ false = grind (arith, nat_tests, le) in
    subst (λ (b : Bool). MatchBool b (turn ≡ says_one (notice (codes "invalid: message too long")) t) (IsServed limits events text t turn)) (sym fits) (served_by limits events t m turn text h brings)

-- and it asks for what is published just where its text does
pub heard_asks : (limits : RelayLimits) (t : Kept) (m : FromClient) (text : List ℕ) → length text ≤ limits.text → Hears (Some limits.filters) text m → Asks limits t m → TextAsks limits text t
heard_asks limits t (client.Req s fs) text le h asks =
    let whole : fs ≡ h.2.0 = all_kept limits.filters h.2.0 fs h.2.1 asks.0 in
    (le, (client.Req s h.2.0, (h.0, h.1, h.2.2), subst (λ xs. Asks limits t (client.Req s xs)) whole asks))
heard_asks limits t (client.Event e) text le h asks = absurd asks
heard_asks limits t (client.Close s) text le h asks = absurd asks
heard_asks limits t (client.NegOpen s f m) text le h asks = (le, (client.NegOpen s f m, h, asks))
heard_asks limits t (client.NegMsg s m) text le h asks = absurd asks
heard_asks limits t (client.NegClose s) text le h asks = absurd asks
