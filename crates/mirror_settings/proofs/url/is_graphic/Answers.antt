use Rattle.std.proofs.Common.{◌≡◌, ℕ, length, get_or, inl, inr, refl, sym, subst, arith, ap}
use Rattle.std.proofs.lemmas.Bool.{cases_lt}
use Rattle.std.proofs.lemmas.List.Elements.{All-from_get_or}
use Rattle.mirror_settings.specs.Relays.{IsGraphic}
use Rattle.mirror_settings.proofs.url.is_graphic.Goals as goal

pub loop-byte-preserved : goal.loop-byte-preserved
loop-byte-preserved c k below = elim (cases_lt k c.loop-byte.byte-index) [
  | inl h ↦ c.loop-byte.invariant k h
  | inr h ↦
      (let last : k ≡ c.loop-byte.byte-index = omega arith in
      subst (λ (j : ℕ). IsGraphic (get_or c.as_bytes-bytes.result.now j 0)) (sym last) (omega (arith, c.if-byte-lt33.false), λ e. omega (arith, e, c.if-byte-eq127.false)))
]

pub returns : goal.returns
returns c = (
  λ y. All-from_get_or IsGraphic c.args.text.now 0 (λ k below.
      subst (λ bytes. IsGraphic (get_or bytes k 0)) c.as_bytes-bytes.ensures.value (c.loop-byte.invariant k (omega (arith, below, c.loop-byte-test.false, ap length c.as_bytes-bytes.ensures.value)))),
  λ all. refl,
)
