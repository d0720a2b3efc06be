use Rattle.std.proofs.Common.{refl, ap}
use Rattle.neg_codec.specs.Ranges.{Stretch, edge_of, span_of, claim_of}
use Rattle.neg_draft.specs.Coverage.{begun_at}
use Rattle.neg_initiator.specs.Trusting.{between}
use Rattle.neg_initiator.proofs.Meeting.{meet_bounds, skipped-one}
use Rattle.neg_initiator.proofs.trust.is_met.Goals as goal

pub returns-in-Skip : goal.returns-in-Skip
returns-in-Skip c =
    let s : Stretch = begun_at (edge_of c.args.from.now) (span_of c.args.range.now) in
    let plain : Stretch = between (edge_of c.args.from.now) (edge_of c.args.range.now.upper) in
    let t : Stretch = between (edge_of c.args.lower.now) (edge_of c.args.upper.now) in (
      λ h. (skipped-one s t).1 (ap claim_of c.in-Skip.is, meet_bounds plain s t t refl refl refl refl (c.do_meet.ensures.0 h)),
      λ h. c.do_meet.ensures.1 (meet_bounds s plain t t refl refl refl refl ((skipped-one s t).0 h).1),
    )
