use Rattle.std.proofs.Common.{◌≡◌, ap, inl, inr, map, length, refl, arith}
use Rattle.neg_initiator.specs.Pairs.{pair_of}
use Rattle.neg_initiator.specs.declared.phase.Phase.TheVariants as phase
use Rattle.neg_initiator.proofs.Taking.{first_sound}
use Rattle.neg_initiator.proofs.initiator.Initiator.start.Goals as goal

-- a session that asks isn't over
asks_on : phase.Asking ≡ phase.Ended → ⊥
asks_on e = cc

pub invariant_of-initiator : goal.invariant_of-initiator
invariant_of-initiator c = record {
  sound = first_sound c.args.roll.now c.args.limit _ c.in_ok-asked.ensures refl refl c.requires;
  sets = λ e. absurd (asks_on e);
}

pub returns : goal.returns
returns c =
    let first = c.in_ok-asked.ensures in
    let size = ap length c.in_ok-text.ensures.text in
    record {
      roll = refl;
      limit_is = refl;
      most = c.none-found.ensures.most;
      phase = refl;
      sound = first_sound c.args.roll.now c.args.limit _ first refl refl c.requires;
      spelled = c.in_ok-text.ensures.spelled;
      short = omega (arith, first.short, size);
      skips_nothing = first.skips_nothing;
      split = elim first.split [ inl whole ↦ inl whole | inr cut ↦ inr (omega (arith, cut, size)) ];
      need = c.none-found.ensures.need;
      have = c.none-found.ensures.have;
      trusted = ap (map pair_of) c.none-found.ensures.trusted;
    }
