use Rattle.std.proofs.Common.{◌≡◌, ◌≤◌, ◌∙◌, ◌∷◌, length, map, true, false, refl, inl, inr, ap, arith}
use Rattle.std.proofs.lemmas.Grind.{common_steps}
use Rattle.std.proofs.lemmas.Result.{err_from_is_err_and}
use Rattle.std.specs.List.{list_all}
use Rattle.serde_json.specs.View.{view}
use Rattle.nostr_wire.specs.Elements.{a_sub, a_filter, has_type, sub, filter}
use Rattle.nostr_wire.proofs.Several.{AreFilters, fits_all, request_fits, request_refused, request_read, no_filter, no_name, no_objects}
use Rattle.nostr_wire.proofs.reading.request.Goals as goal
use Rattle.nostr_wire.proofs.reading.request.Goals.{then-is_empty-via-then-is_empty, then-is_empty-via-else-is_empty+then-not-fits, then-is_empty-via-else-is_empty+else-not-fits+then-not-are_objects}

pub returns-then-is_empty-clause-err : goal.returns-then-is_empty-clause-err
returns-then-is_empty-clause-err c =
    let vs = c.args.rest.now in
    let v = c.in-Some.first.now in
    let fs = c.in-Some.filters.now in
    let whole = c.in-Some.ensures.cases.0 in
    inr (inl (
      refl,
      elim c.then-is_empty.branch [
        | then-is_empty-via-then-is_empty w ↦
            let none : length fs ≡ 0 = grind (arith, common_steps, c.is_empty.ensures, w.if-is_empty.true) in
            no_filter vs fs v whole none
        | then-is_empty-via-else-is_empty+then-not-fits w ↦
            let other : has_type a_sub (view v) ≡ false = grind (arith, common_steps, w.fits.ensures, w.if-not-fits.true) in
            no_name vs fs v whole other
        | then-is_empty-via-else-is_empty+else-not-fits+then-not-are_objects w ↦
            let some : 1 ≤ length fs = grind (arith, common_steps, c.is_empty.ensures, w.if-is_empty.false) in
            let other : list_all (λ u. has_type a_filter (view u)) fs ≡ false = grind (arith, common_steps, w.are_objects.ensures, w.if-not-are_objects.true) in
            no_objects vs fs v whole some other
      ],
    ))

pub returns-in_err-sub-clause-err : goal.returns-in_err-sub-clause-err
returns-in_err-sub-clause-err c =
    let p = err_from_is_err_and c.from_residual.result c.from_residual.ensures.1 in
    let vs = c.args.rest.now in
    let v = c.in-Some.first.now in
    let fs = c.in-Some.filters.now in
    let whole = c.in-Some.ensures.cases.0 in
    let some : 1 ≤ length fs = grind (arith, common_steps, c.is_empty.ensures, c.if-is_empty.false) in
    let named : has_type a_sub (view v) ≡ true = grind (arith, common_steps, c.fits.ensures, c.if-not-fits.false) in
    let objects : list_all (λ u. has_type a_filter (view u)) fs ≡ true = grind (arith, common_steps, c.are_objects.ensures, c.if-not-are_objects.false) in
    rw (p.1, p.2) (elim c.in_err-sub.ensures.err [
      | inl memory ↦ inl memory
      | inr none ↦ inr (request_refused vs fs v _ whole some (inr (request_fits v fs named objects, inl none)))
    ])

pub returns-in_err-filters_of-clause-err : goal.returns-in_err-filters_of-clause-err
returns-in_err-filters_of-clause-err c =
    let p = err_from_is_err_and c.from_residual-in_err-filters_of.result c.from_residual-in_err-filters_of.ensures.1 in
    let vs = c.args.rest.now in
    let v = c.in-Some.first.now in
    let fs = c.in-Some.filters.now in
    let whole = c.in-Some.ensures.cases.0 in
    let some : 1 ≤ length fs = grind (arith, common_steps, c.is_empty.ensures, c.if-is_empty.false) in
    let named : has_type a_sub (view v) ≡ true = grind (arith, common_steps, c.fits.ensures, c.if-not-fits.false) in
    let objects : list_all (λ u. has_type a_filter (view u)) fs ≡ true = grind (arith, common_steps, c.are_objects.ensures, c.if-not-are_objects.false) in
    let fit = fits_all fs ∙ objects in
    rw (p.1, p.2) (elim c.in_err-filters_of.ensures.err [
      | inl memory ↦ inl memory
      | inr bad ↦ inr (request_refused vs fs v _ whole some (elim bad [
        | inl arity ↦ absurd (let misfit = arity.1 in cc)
        | inr first ↦ inr (request_fits v fs named objects, inr ((sub c.in_ok-sub.sub, refl, c.in_ok-sub.ensures.ok), first.1))
      ]))
    ])

pub returns-clause-ok : goal.returns-clause-ok
returns-clause-ok c =
    let vs = c.args.rest.now in
    let v = c.in-Some.first.now in
    let fs = c.in-Some.filters.now in
    let whole = c.in-Some.ensures.cases.0 in
    let some : 1 ≤ length fs = grind (arith, common_steps, c.is_empty.ensures, c.if-is_empty.false) in
    let found = c.in_ok-filters_of.ensures.ok in
    let read : AreFilters found.0 fs = found.2 in (
      found.0,
      c.in-Ok.ensures.made.0 ∙ found.1,
      request_read vs fs v (sub c.in_ok-sub.sub ∷ map filter found.0) whole some (ap (λ ps. a_sub ∷ ps) read.0, (c.in_ok-sub.ensures.ok, read.1)),
    )
