use Rattle.std.proofs.Common.{◌≡◌, ◌++◌, ℕ, List, decimal, codes, IsUtf8, append_assoc, subst, sym}
use Rattle.nostr_event.specs.declared.draft.Spelling.TheVariants.{Escaped}
use Rattle.nostr_event.specs.IdText.{string_text, tags_text}
use Rattle.hex.specs.Hex.{encode_lower}
use Rattle.nostr_event.proofs.Printed.{object_is}
use Rattle.nostr_event.proofs.Utf8.{digits_utf8}
use Rattle.nostr_event.specs.EventView.{EventView}
use Rattle.nostr_event.proofs.printing.put_object.Goals as goal

regroup : (o t1 x1 t2 x2 t3 x3 t4 x4 t5 x5 t6 x6 t7 x7 t8 : List ℕ)
    → ((((((((((((((o ++ t1) ++ x1) ++ t2) ++ x2) ++ t3) ++ x3) ++ t4) ++ x4) ++ t5) ++ x5) ++ t6) ++ x6) ++ t7) ++ x7) ++ t8
    ≡ o ++ (t1 ++ (x1 ++ (t2 ++ (x2 ++ (t3 ++ (x3 ++ (t4 ++ (x4 ++ (t5 ++ (x5 ++ (t6 ++ (x6 ++ (t7 ++ (x7 ++ t8))))))))))))))
regroup o t1 x1 t2 x2 t3 x3 t4 x4 t5 x5 t6 x6 t7 x7 t8 = simp append_assoc

pub returns-clause-text : goal.returns-clause-text
returns-clause-text c =
    let d = c.args.draft.now in
    let e : EventView = record { id = c.args.id.now; draft = d; sig = c.args.sig.now } in
    rw (
      object_is e,
      c.in_ok-put_text-2.ensures.text,
      c.in_ok-put_tags.ensures.text,
      c.in_ok-put_text.ensures.text,
      c.in_ok-put_text_and_digits-3.ensures.text,
      c.in_ok-put_text_and_digits-2.ensures.text,
      c.in_ok-put_text_and_number-2.ensures.text,
      c.in_ok-put_text_and_digits.ensures.text,
      c.in_ok-put_text_and_number.ensures.text,
      c.in_ok-put_text_and_string.ensures.text,
      c.as_str.ensures,
      c.digits32_of.ensures,
      c.digits32_of-2.ensures,
      c.digits64_of.ensures,
      c.from.ensures,
    ) (regroup c.args.out.now.items (codes "{\"content\":") (string_text Escaped d.content) (codes ",\"created_at\":") (decimal d.created_at)
    (codes ",\"id\":") (string_text Escaped (encode_lower c.args.id.now.0)) (codes ",\"kind\":") (decimal d.kind)
    (codes ",\"pubkey\":") (string_text Escaped (encode_lower d.pubkey)) (codes ",\"sig\":") (string_text Escaped (encode_lower c.args.sig.now))
    (codes ",\"tags\":") (tags_text Escaped d.tags) (codes "}"))

pub returns-clause-utf8 : goal.returns-clause-utf8
returns-clause-utf8 c = λ u.
    let id : IsUtf8 c.digits32_of.result = subst IsUtf8 (sym c.digits32_of.ensures) (digits_utf8 _) in
    let key : IsUtf8 c.digits32_of-2.result = subst IsUtf8 (sym c.digits32_of-2.ensures) (digits_utf8 _) in
    let sig : IsUtf8 c.digits64_of.result = subst IsUtf8 (sym c.digits64_of.ensures) (digits_utf8 _) in
    let created_at = c.in_ok-put_text_and_number.ensures.utf8 (c.in_ok-put_text_and_string.ensures.utf8 u) in
    let kind = c.in_ok-put_text_and_number-2.ensures.utf8 (c.in_ok-put_text_and_digits.ensures.utf8 id created_at) in
    let sigs = c.in_ok-put_text_and_digits-3.ensures.utf8 sig (c.in_ok-put_text_and_digits-2.ensures.utf8 key kind) in
    c.in_ok-put_text-2.ensures.utf8 (c.in_ok-put_tags.ensures.utf8 (c.in_ok-put_text.ensures.utf8 sigs))
