use Rattle.std.proofs.Common.{◌≡◌, ◌∙◌, ◌++◌, [], ◌∷◌, true, false, refl, subst, inl, inr, arith}
use Rattle.std.proofs.lemmas.Grind.{common_steps}
use Rattle.serde_json.specs.View.{view}
use Rattle.nostr_wire.specs.declared.fault.WireFault.{WireFault}
use Rattle.nostr_wire.specs.Elements.{a_filter, has_type}
use Rattle.nostr_wire.specs.Stream.{Stand}
use Rattle.nostr_wire.proofs.Few.{kept_with}
use Rattle.nostr_wire.proofs.Stands.{fits_with, misfit_last, read_with, fault_last, stays}
use Rattle.nostr_wire.proofs.streaming.with_element.Goals as goal

pub returns-then-not-fits : goal.returns-then-not-fits
returns-then-not-fits c ds h =
    let other : has_type a_filter (view c.args.value.now) ≡ false = grind (arith, common_steps, c.fits.ensures, c.if-not-fits.true) in
    misfit_last ds (view c.args.value.now) other

pub returns-in_default : goal.returns-in_default
returns-in_default c ds h =
    let one : has_type a_filter (view c.args.value.now) ≡ true = grind (arith, common_steps, c.fits.ensures, c.if-not-fits.false) in
    stays c.args.most c.args.few ds (view c.args.value.now) c.in_default.not-Kept one h

pub returns-in-Ok : goal.returns-in-Ok
returns-in-Ok c ds h =
    let d = view c.args.value.now in
    let one : has_type a_filter d ≡ true = grind (arith, common_steps, c.fits.ensures, c.if-not-fits.false) in
    let before = subst (λ few. Stand c.args.most few ds) c.in-Kept.is h in
    let f = c.in-Ok.filter in
    (before.0 ++ f ∷ [], c.in_ok-put_filter-in-Ok.ensures ∙ kept_with c.args.most before.0 c.in-Kept.filters.items f before.1, read_with before.0 ds f d before.2 c.in-Ok.ensures.ok, fits_with ds d before.3 one)

pub returns-in-Err-Filter : goal.returns-in-Err-Filter
returns-in-Err-Filter c ds h =
    let d = view c.args.value.now in
    let one : has_type a_filter d ≡ true = grind (arith, common_steps, c.fits.ensures, c.if-not-fits.false) in
    let before = subst (λ few. Stand c.args.most few ds) c.in-Kept.is h in
    elim c.in-Err-Filter.ensures.err [
      | inl memory ↦ absurd (cc)
      | inr none ↦ (fits_with ds d before.3 one, fault_last before.0 ds d WireFault.Filter before.2 none.0 refl)
    ]
