use Rattle.std.proofs.Common.{◌≡◌, ℕ, ◌<◌, ◌^◌, decimal, length, ap, sym, ◌∙◌, arith}
use Rattle.std.proofs.lemmas.Bool.{eqb-true}
use Rattle.mirror_settings.proofs.Colons.{no_colon, within, same_parts, port_has_none, same_port, parted}
use Rattle.mirror_settings.proofs.address.parts_of.Goals as goal
use Rattle.mirror_settings.proofs.address.parts_of.Goals.{in_default-parse_number-via-in-Some-parse_number+else-port-lt65536, in_default-parse_number-via-in_default-parse_number}

pub returns-in_default-clause-none : goal.returns-in_default-clause-none
returns-in_default-clause-none c a is e = within a.host c.args.text.now (decimal a.port) e (no_colon c.args.text.now c.in_default.ensures.cases)

pub returns-then-is_empty-clause-none : goal.returns-then-is_empty-clause-none
returns-then-is_empty-clause-none c a is e =
    let h = c.in-Some.ensures.cases in
    let text = parted c.args.text.now c.in-Some.host.now c.in-Some.digits.now h.0 h.1 h.2 h.3 h.4 in
    let parts = same_parts c.in-Some.host.now c.in-Some.digits.now a.host (decimal a.port) (sym text.0 ∙ e) text.1 (port_has_none a.port (omega (arith, is.1))) in
    omega (arith, eqb-true (length c.in-Some.host.now) 0 (sym c.if-is_empty.ensures), ap length parts.0, is.0)

pub returns-in_default-parse_number-clause-none : goal.returns-in_default-parse_number-clause-none
returns-in_default-parse_number-clause-none c a is e =
    let h = c.in-Some.ensures.cases in
    let text = parted c.args.text.now c.in-Some.host.now c.in-Some.digits.now h.0 h.1 h.2 h.3 h.4 in
    let small : a.port < 2 ^ 64 = omega (arith, is.1) in
    let parts = same_parts c.in-Some.host.now c.in-Some.digits.now a.host (decimal a.port) (sym text.0 ∙ e) text.1 (port_has_none a.port small) in
    elim c.in_default-parse_number.branch [
      | in_default-parse_number-via-in-Some-parse_number+else-port-lt65536 w ↦
          (let read : c.in-Some.digits.now ≡ decimal w.in-Some-parse_number.port = sym c.as_bytes.ensures.value ∙ w.in-Some-parse_number.ensures.found in
          let port = same_port w.in-Some-parse_number.port a.port (omega arith) small (sym read ∙ parts.1) in
          omega (arith, port, is.1, w.if-port-lt65536.false))
      | in_default-parse_number-via-in_default-parse_number w ↦
          (let none : (n : ℕ) → n < 2 ^ 64 → ¬ (c.as_bytes.result.now ≡ decimal n) = w.in_default-parse_number.ensures.none in
          none a.port small (c.as_bytes.ensures.value ∙ parts.1))
    ]
