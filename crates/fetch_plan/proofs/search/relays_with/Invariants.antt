use Rattle.std.proofs.Common.{◌≡◌, ◌<◌, ℕ, true, get_or}
use Rattle.sharing.specs.Sharing.{is_among}
use Rattle.sharing.specs.Offers.{AreRelays}
use Rattle.fetch_plan.proofs.search.relays_with.Given as goal

abbrev pub invariant-loop-relay : goal.invariant-loop-relay
invariant-loop-relay l = record {
  relays : AreRelays l.relays;
  sound : (r : ℕ) → is_among l.relays r ≡ true → get_or l.loads r 0 ≡ l.most;
  whole : (r : ℕ) → r < l.relay → get_or l.loads r 0 ≡ l.most → is_among l.relays r ≡ true;
}
