-- A plan's text is ASCII.
use Rattle.std.proofs.Common.{◌≡◌, ℕ, ◌^◌, ◌<◌, true, List, [], ◌∷◌, ◌++◌, flat_map, codes, decimal, refl, subst, sym, ◌∙◌, arith, lit<}
use Rattle.std.specs.List.{All, list_all}
use Rattle.std.specs.Prelude.{nat_lt}
use Rattle.std.proofs.lemmas.Bool.{and_parts}
use Rattle.std.proofs.lemmas.Bool.Decides.{nat_tests}
use Rattle.std.specs.Str.{IsAscii, IsUtf8}
use Rattle.std.proofs.lemmas.Str.{IsAscii-append, IsUtf8-from_ascii}
use Rattle.std.proofs.lemmas.Str.Ascii.{IsAscii-nil, IsAscii-cons}
use Rattle.std.proofs.lemmas.Fmt.{IsAscii-decimal}
use Rattle.std.proofs.lemmas.List.Elements.{All-head, All-tail}
use Rattle.hex.specs.Hex.{encode_lower, lower_digits}
use Rattle.hex.proofs.HexLemmas.{IsAscii-encode_with}
use Rattle.item_key.specs.declared.Id.{Id}
use Rattle.sharing.specs.declared.TheConstants.{RELAYS}
use Rattle.plan_check.specs.File.{File, IsBase}
use Rattle.plan_check.specs.TextLines.{ended}
use Rattle.plan_check.specs.PlanText.{header_line, number_text, relays_text, base_line, offer_line, give_line, group_line, IsOffer, IsGive, IsTextOf}
use Rattle.plan_check.proofs.NumberLemmas.{relay_small, base_small}
use Rattle.plan_check.proofs.FormLemmas.{based, offered, given, grouped}
use Rattle.plan_check.proofs.WriteLemmas.{plan_text-parts}

-- a text whose bytes are tested
passes : (xs : List ℕ) → list_all (λ b. nat_lt b 128) xs ≡ true → IsAscii xs
passes [] h = IsAscii-nil
passes (x ∷ xs) h =
    let parts : (nat_lt x 128 ≡ true) × (list_all (λ b. nat_lt b 128) xs ≡ true) = and_parts (nat_lt x 128) (list_all (λ b. nat_lt b 128) xs) h in
    let test = parts.0 in
    IsAscii-cons x xs (grind (arith, nat_tests)) (passes xs parts.1)

-- texts one after another
each : {X : Type 0} (f : X → List ℕ) (P : X → Type 0) → ((x : X) → P x → IsAscii (f x)) → (xs : List X) → All P xs → IsAscii (flat_map f xs)
each f P is [] h = IsAscii-nil
each f P is (x ∷ xs) h = IsAscii-append (f x) (flat_map f xs) (is x (All-head P x xs h)) (each f P is xs (All-tail P x xs h))

number_ascii : (n : ℕ) → n < 2 ^ 64 → IsAscii (number_text n)
number_ascii n small = IsAscii-cons 32 (decimal n) (lit< tt) (IsAscii-decimal n small)

relay_ascii : (r : ℕ) → r < RELAYS → IsAscii (number_text r)
relay_ascii r small = number_ascii r (relay_small r small)

relays_ascii : (relays : List ℕ) → All (λ r. r < RELAYS) relays → IsAscii (relays_text relays)
relays_ascii relays small = each number_text (λ r. r < RELAYS) relay_ascii relays small

feed_ascii : IsAscii (10 ∷ [])
feed_ascii = IsAscii-cons 10 [] (lit< tt) IsAscii-nil

ended_ascii : (line : List ℕ) → IsAscii line → IsAscii (ended line)
ended_ascii line h = IsAscii-append line (10 ∷ []) h feed_ascii

id_ascii : (id : Id) → IsAscii (encode_lower id.0)
id_ascii id = IsAscii-encode_with lower_digits id.0 (passes lower_digits refl)

header_ascii : (bs : List (ℕ × ℕ)) → IsAscii (ended (header_line bs))
header_ascii [] = ended_ascii (codes "nostr-plan 1") (passes (codes "nostr-plan 1") refl)
header_ascii (b ∷ bs) = ended_ascii (codes "nostr-plan 2") (passes (codes "nostr-plan 2") refl)

base_ascii : (b : ℕ × ℕ) → IsBase b → IsAscii (based b)
base_ascii b is = ended_ascii (base_line b) (IsAscii-append (codes "base") (number_text b.0 ++ number_text b.1) (passes (codes "base") refl) (IsAscii-append (number_text b.0) (number_text b.1) (relay_ascii b.0 is.relay) (number_ascii b.1 (base_small b is))))

offer_ascii : (o : Id × List ℕ) → IsOffer o → IsAscii (offered o)
offer_ascii o is = ended_ascii (offer_line o) (IsAscii-append (codes "offer ") _ (passes (codes "offer ") refl) (IsAscii-append (encode_lower o.0.0) (relays_text o.1) (id_ascii o.0) (relays_ascii o.1 is.relays)))

give_ascii : (g : Id × ℕ) → IsGive g → IsAscii (given g)
give_ascii g is = ended_ascii (give_line g) (IsAscii-append (codes "give ") _ (passes (codes "give ") refl) (IsAscii-append (encode_lower g.0.0) (number_text g.1) (id_ascii g.0) (relay_ascii g.1 is.relay)))

group_ascii : (group : List ℕ) → All (λ r. r < RELAYS) group → IsAscii (grouped group)
group_ascii group small = ended_ascii (group_line group) (IsAscii-append (codes "group") (relays_text group) (passes (codes "group") refl) (relays_ascii group small))

pub text_utf8 : (text : List ℕ) (file : File) → IsTextOf text file → IsUtf8 text
text_utf8 text file h =
    IsUtf8-from_ascii text (subst IsAscii (sym (h.is ∙ plan_text-parts file))
    (IsAscii-append (ended (header_line file.bases)) _ (header_ascii file.bases)
    (IsAscii-append (flat_map based file.bases) _ (each based IsBase base_ascii file.bases h.form.bases)
    (IsAscii-append (flat_map offered file.offers) _ (each offered IsOffer offer_ascii file.offers h.form.offers)
    (IsAscii-append (flat_map given file.gives) (grouped file.group) (each given IsGive give_ascii file.gives h.form.gives) (group_ascii file.group h.form.group))))))
