use Rattle.std.proofs.Common.{◌≡◌, true, None, Some, is_some, sym, rules}
use Rattle.serde_json.specs.Find.{as_object}
use Rattle.serde_json.specs.View.{view}
use Rattle.nostr_filter.specs.declared.fault.FilterField.TheVariants.{Tag}
use Rattle.nostr_filter.proofs.ShapeTests.{tags_refuse, named_refuse}
use Rattle.nostr_filter.proofs.tested.shapes_tested.Goals as goal

pub returns-in-Err-clause-failed : goal.returns-in-Err-clause-failed
returns-in-Err-clause-failed c =
    let d = view c.args.value.now in
    let object : is_some (as_object d) ≡ true = search rules in
    tags_refuse d (Tag c.in-Err.letter) object c.in-Err.ensures.failed

pub returns-in-Some-clause-failed : goal.returns-in-Some-clause-failed
returns-in-Some-clause-failed c =
    let d = view c.args.value.now in
    let object : is_some (as_object d) ≡ true = search rules in
    named_refuse d (Some c.in-Some.field) object c.in-Ok.ensures.passed (sym (rw c.in-Some.is at c.first_named.ensures))

pub returns-in-None-clause-passed : goal.returns-in-None-clause-passed
returns-in-None-clause-passed c =
    let d = view c.args.value.now in
    let object : is_some (as_object d) ≡ true = search rules in
    named_refuse d None object c.in-Ok.ensures.passed (sym (rw c.in-None.is at c.first_named.ensures))
