use Rattle.stream_laws.proofs.Cells.{cells_over}
use Rattle.stream_laws.proofs.laws.cells_over_streams.Goals as goal

pub returns : goal.returns
returns g c = cells_over _ g.S.Source.log
