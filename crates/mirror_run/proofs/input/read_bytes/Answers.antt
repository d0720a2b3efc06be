use Rattle.std.proofs.Common.{ap}
use Rattle.mirror_run.proofs.InputLemmas.{known_front}
use Rattle.mirror_run.proofs.input.read_bytes.Goals as goal

pub returns-in-Ok-clause-ok : goal.returns-in-Ok-clause-ok
returns-in-Ok-clause-ok g c =
    known_front 67108865 c.take-limited.result.limit c.read_to_end.new.buf.items c.new-bytes.result.items (g.R.Read.remaining c.args.reader.now) (g.R.Read.remaining c.take-limited.result.inner.now)
    c.take-limited.ensures.limit c.new-bytes.ensures.items (ap (λ r. g.R.Read.remaining r.now) c.take-limited.ensures.inner) c.in-Ok.ensures.bytes
