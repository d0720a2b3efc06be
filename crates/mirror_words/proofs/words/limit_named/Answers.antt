use Rattle.std.proofs.Common.{codes, subst, arith}
use Rattle.std.specs.Str.Parse.{ParsesUnsigned, ExplainsUnsignedError, HasUnsignedDigitsIfOk}
use Rattle.clap.specs.Words.{Text, found_of}
use Rattle.clap.proofs.WalkLemmas.{one_text-rows}
use Rattle.std.proofs.Common.{Option}
use Rattle.mirror_words.specs.CommandLine.{IsLimitOf}
use Rattle.mirror_words.proofs.Limits.{limit_in, limit_out, limit_none}
use Rattle.mirror_words.proofs.words.limit_named.Goals as goal

pub returns-in-Some-clause-named : goal.returns-in-Some-clause-named
returns-in-Some-clause-named c =
    let e = one_text-rows (found_of c.args.matches.now) (codes "limit") in
    subst (λ (t : Option Text). IsLimitOf t c.in-Some.limit) e (limit_in _ (λ t r. ParsesUnsigned 64 10 t r × ExplainsUnsignedError 10 t r × HasUnsignedDigitsIfOk t r) (λ t r h. h.0) _ c.in-Some.limit c.in-Some.ensures.none c.in-Some.ensures.value)

pub returns-in_default-clause-named : goal.returns-in_default-clause-named
returns-in_default-clause-named c =
    let e = one_text-rows (found_of c.args.matches.now) (codes "limit") in
    subst (λ (t : Option Text). IsLimitOf t 60000) e (limit_out _ (λ t r. ParsesUnsigned 64 10 t r × ExplainsUnsignedError 10 t r × HasUnsignedDigitsIfOk t r) (λ t r h. h.0) _ c.in-Some.limit (λ a b. absurd (omega (arith, b, c.if-limit-le-MOST_LIMIT.false))) c.in-Some.ensures.none c.in-Some.ensures.value)

pub returns-in_default-2-clause-named : goal.returns-in_default-2-clause-named
returns-in_default-2-clause-named c =
    let e = one_text-rows (found_of c.args.matches.now) (codes "limit") in
    subst (λ (t : Option Text). IsLimitOf t 60000) e (limit_out _ (λ t r. ParsesUnsigned 64 10 t r × ExplainsUnsignedError 10 t r × HasUnsignedDigitsIfOk t r) (λ t r h. h.0) _ c.in-Some.limit (λ a b. absurd (omega (arith, a, c.if-limit-ge-LEAST_LIMIT.false))) c.in-Some.ensures.none c.in-Some.ensures.value)

pub returns-in_default-3-clause-named : goal.returns-in_default-3-clause-named
returns-in_default-3-clause-named c =
    let e = one_text-rows (found_of c.args.matches.now) (codes "limit") in
    subst (λ (t : Option Text). IsLimitOf t 60000) e (limit_none _ (λ t r. ParsesUnsigned 64 10 t r × ExplainsUnsignedError 10 t r × HasUnsignedDigitsIfOk t r) (λ t r h. h.0) _ c.in_default.ensures.value)
