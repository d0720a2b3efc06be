-- How much a connection has brought.
use Rattle.std.specs.Prelude.{◌≤◌}
use Rattle.ws_serve.specs.declared.counts.Counts.{Counts}

-- at most 1,000,000 messages, texts among them
abbrev pub AreFew : Counts → Type 0
AreFew c = (c.texts ≤ c.reads) × (c.reads ≤ 1000000)
