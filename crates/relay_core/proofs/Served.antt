-- A text that is no message.
use Rattle.std.proofs.Common.{◌≡◌, ◌≢◌, ℕ, ◌≤◌, Bool, false, List, length, inr, sym, subst, arith}
use Rattle.std.specs.Prelude.{nat_lt, MatchBool, codes}
use Rattle.std.proofs.lemmas.Bool.Decides.{nat_tests}
use Rattle.nostr_event.specs.EventView.{EventView}
use Rattle.nostr_wire.specs.declared.fault.WireFault.{WireFault}
use Rattle.nostr_wire.specs.declared.fault.WireFault.TheVariants as wire
use Rattle.nostr_wire.specs.Forms.{client_table}
use Rattle.nostr_wire.specs.Reading.{Refuses}
use Rattle.relay_core.specs.declared.limits.RelayLimits.{RelayLimits}
use Rattle.relay_core.specs.Messages.{notice}
use Rattle.relay_core.specs.Kept.{Kept}
use Rattle.relay_core.specs.Turns.{Turn, says_one}
use Rattle.relay_core.specs.Serving.{refusal, IsServed, Serves}

pub fault_served : (limits : RelayLimits) (events : List EventView) (text : List ℕ) (k : Kept) (turn : Turn) (f : WireFault) → length text ≤ limits.text → f ≢ wire.Memory → Refuses client_table text f → turn ≡ says_one (refusal f) k
    → Serves limits events text k turn
fault_served limits events text k turn f le other refused told =
    let fits : nat_lt limits.text (length text) ≡ false = grind (arith, nat_tests) in
    subst (λ (b : Bool). MatchBool b (turn ≡ says_one (notice (codes "invalid: message too long")) k) (IsServed limits events text k turn)) (sym fits) (inr (f, other, refused, told))
