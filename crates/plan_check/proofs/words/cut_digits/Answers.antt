use Rattle.std.proofs.Common.{◌<◌, Option, Some, None, IfNone, arith}
use Rattle.plan_check.proofs.RelayDigits.{one_told, two_told, three_told, tells_relay, no_first, no_second, leading_zero, no_third, no_end}
use Rattle.plan_check.proofs.words.cut_digits.Goals as goal

none_weaker : {X P Q : Type 0} (o : Option X) → IfNone o P → (P → Q) → IfNone o Q
none_weaker (Some x) h f = tt
none_weaker None h f = f h

pub returns-then-first-gt9-clause-none : goal.returns-then-first-gt9-clause-none
returns-then-first-gt9-clause-none c = λ r rest small next same. no_first _ (c.digit_at-first.ensures.other (omega (arith, c.if-first-gt9.true))) (tells_relay _ rest next r small same)

pub returns-then-second-gt9-clause-found : goal.returns-then-second-gt9-clause-found
returns-then-second-gt9-clause-found c =
    let small : c.digit_at-first.result < 10 = omega (arith, c.if-first-gt9.false) in
    let a = c.digit_at-first.ensures in
    c.cut_at.ensures.found (rw c.from.ensures (one_told _ _ small (a.within small) (a.digit small)))

pub returns-then-second-gt9-clause-none : goal.returns-then-second-gt9-clause-none
returns-then-second-gt9-clause-none c =
    let a_small : c.digit_at-first.result < 10 = omega (arith, c.if-first-gt9.false) in
    none_weaker c.cut_at.result c.cut_at.ensures.none (λ wrong r rest small next same.
    no_second _ c.from.result (omega (arith, c.from.ensures)) (c.digit_at-second.ensures.other (omega (arith, c.if-second-gt9.true))) wrong (tells_relay _ rest next r small same))

pub returns-then-first-eq0-clause-none : goal.returns-then-first-eq0-clause-none
returns-then-first-eq0-clause-none c = λ r rest small next same.
    let a_small : c.digit_at-first.result < 10 = omega (arith, c.if-first-gt9.false) in
    let b_small : c.digit_at-second.result < 10 = omega (arith, c.if-second-gt9.false) in
    let b = c.digit_at-second.ensures in
    leading_zero _ _ (b.within b_small) (omega (arith, c.digit_at-first.ensures.digit a_small, c.if-first-eq0.true)) (b.digit b_small) (tells_relay _ rest next r small same)

pub returns-then-third-gt9-clause-found : goal.returns-then-third-gt9-clause-found
returns-then-third-gt9-clause-found c =
    let a_small : c.digit_at-first.result < 10 = omega (arith, c.if-first-gt9.false) in
    let b_small : c.digit_at-second.result < 10 = omega (arith, c.if-second-gt9.false) in
    let a = c.digit_at-first.ensures in
    let b = c.digit_at-second.ensures in
    c.cut_at-then-third-gt9.ensures.found (rw (c.from-2.ensures, c.from-3.ensures) (two_told _ _ _ (omega (arith, c.if-first-eq0.false)) a_small b_small (b.within b_small) (a.digit a_small) (b.digit b_small)))

pub returns-then-third-gt9-clause-none : goal.returns-then-third-gt9-clause-none
returns-then-third-gt9-clause-none c =
    let a_small : c.digit_at-first.result < 10 = omega (arith, c.if-first-gt9.false) in
    let b_small : c.digit_at-second.result < 10 = omega (arith, c.if-second-gt9.false) in
    let b = c.digit_at-second.ensures in
    none_weaker c.cut_at-then-third-gt9.result c.cut_at-then-third-gt9.ensures.none (λ wrong r rest small next same.
    no_third _ c.from-2.result c.from-3.result (omega (arith, c.from-2.ensures)) (omega (arith, c.from-3.ensures)) (b.within b_small) (omega (arith, b.digit b_small, c.from-3.ensures))
    (c.digit_at-third.ensures.other (omega (arith, c.if-third-gt9.true))) wrong (tells_relay _ rest next r small same))

pub returns-clause-found : goal.returns-clause-found
returns-clause-found c =
    let a_small : c.digit_at-first.result < 10 = omega (arith, c.if-first-gt9.false) in
    let b_small : c.digit_at-second.result < 10 = omega (arith, c.if-second-gt9.false) in
    let d_small : c.digit_at-third.result < 10 = omega (arith, c.if-third-gt9.false) in
    let a = c.digit_at-first.ensures in
    let b = c.digit_at-second.ensures in
    let d = c.digit_at-third.ensures in
    c.cut_at-2.ensures.found (rw (c.from-2.ensures, c.from-3.ensures, c.from-4.ensures)
    (three_told _ _ _ _ (omega (arith, c.if-first-eq0.false)) a_small b_small d_small (d.within d_small) (a.digit a_small) (b.digit b_small) (d.digit d_small)))

pub returns-clause-none : goal.returns-clause-none
returns-clause-none c =
    let a_small : c.digit_at-first.result < 10 = omega (arith, c.if-first-gt9.false) in
    let b_small : c.digit_at-second.result < 10 = omega (arith, c.if-second-gt9.false) in
    let d_small : c.digit_at-third.result < 10 = omega (arith, c.if-third-gt9.false) in
    let a = c.digit_at-first.ensures in
    let b = c.digit_at-second.ensures in
    let d = c.digit_at-third.ensures in
    none_weaker c.cut_at-2.result c.cut_at-2.ensures.none (λ wrong r rest small next same.
    no_end _ c.from-2.result c.from-3.result c.from-4.result (d.within d_small) (omega (arith, a.digit a_small, c.from-2.ensures)) (omega (arith, b.digit b_small, c.from-3.ensures)) (omega (arith, d.digit d_small, c.from-4.ensures))
    wrong (tells_relay _ rest next r small same))
