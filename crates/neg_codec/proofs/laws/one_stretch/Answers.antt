use Rattle.neg_codec.proofs.Stretches.{some_stretch, one_stretch}
use Rattle.neg_codec.proofs.laws.one_stretch.Goals as goal

pub returns : goal.returns
returns c = λ rs k is key.
    let s = some_stretch rs k key in
    (s.0, s.1, s.2, λ t has lies. one_stretch rs is.ascends k t s.0 has s.1 lies s.2)
