use Rattle.serde_json.specs.View.{view}
use Rattle.nostr_filter.proofs.ShapeTests.{numbers_pass, not_missing}
use Rattle.nostr_filter.proofs.reading.wholes_of.Goals as goal

pub returns-in_err-limit-clause-err : goal.returns-in_err-limit-clause-err
returns-in_err-limit-clause-err c = absurd (not_missing _ (numbers_pass (view c.args.value.now) c.requires).limit c.in_err-limit.ensures.err.1)

pub returns-in_err-since-clause-err : goal.returns-in_err-since-clause-err
returns-in_err-since-clause-err c = absurd (not_missing _ (numbers_pass (view c.args.value.now) c.requires).since c.in_err-since.ensures.err.1)

pub returns-in_err-until-clause-err : goal.returns-in_err-until-clause-err
returns-in_err-until-clause-err c = absurd (not_missing _ (numbers_pass (view c.args.value.now) c.requires).until c.in_err-until.ensures.err.1)
