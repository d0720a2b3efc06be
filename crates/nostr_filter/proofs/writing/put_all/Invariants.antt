use Rattle.std.proofs.Common.{◌≡◌, ◌≤◌, drop, length}
use Rattle.serde_json.specs.View.{members_view}
use Rattle.nostr_filter.specs.FilterJson.{put_conditions}
use Rattle.nostr_filter.proofs.writing.put_all.Given as goal

abbrev pub invariant-loop-left : goal.invariant-loop-left
invariant-loop-left l = record {
  within : l.left ≤ length l.conditions;
  members : members_view l.map.entries ≡ put_conditions (drop l.left l.conditions) (members_view l.initial.map.entries);
}

abbrev pub decreases-loop-left : goal.decreases-loop-left
decreases-loop-left l = l.left
