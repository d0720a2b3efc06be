use Rattle.serde_json.specs.View.{view}
use Rattle.nostr_filter.proofs.Bare.{bare_reads}
use Rattle.nostr_filter.proofs.ShapeTests.{tags_pass}
use Rattle.nostr_filter.proofs.reading.read_filter.Goals as goal

pub returns-then-is_bare-clause-ok : goal.returns-then-is_bare-clause-ok
returns-then-is_bare-clause-ok c = rw (c.is_bare.ensures c.if-is_bare.true, c.all.ensures) bare_reads

pub take_conditions-requires-clause-object : goal.take_conditions-requires-clause-object
take_conditions-requires-clause-object c = (tags_pass (view c.args.value.now) c.in_ok-is_tagged.ensures.passes.0).0

pub take_conditions-requires-clause-passes : goal.take_conditions-requires-clause-passes
take_conditions-requires-clause-passes c = (tags_pass (view c.args.value.now) c.in_ok-is_tagged.ensures.passes.0).1
