-- A text and its lines.
use Rattle.std.proofs.Common.{◌≡◌, ℕ, ◌/◌, ◌%◌, ◌^◌, ◌<◌, ◌==◌, true, false, not, List, [], ◌∷◌, ◌++◌, map, flat_map, refl, ap, sym, ◌∙◌, subst, arith, append_assoc, inl, inr, slice_index, decimal, codes}
use Rattle.std.specs.List.{All, list_all}
use Rattle.std.proofs.lemmas.Bool.{cases_eq, cases_lt, ne_eqb, and_parts, false≢true}
use Rattle.std.proofs.lemmas.List.{get_or_past, get_or_default}
use Rattle.std.proofs.lemmas.List.Elements.{All-nil, All-cons, All-head, All-tail, All-append, All-map}
use Rattle.std.proofs.lemmas.Str.Parse.{digit_at}
use Rattle.std.proofs.lemmas.Fmt.{digits_decimal}
use Rattle.hex.specs.Hex.{encode_lower, encode_with, lower_digits}
use Rattle.item_key.specs.declared.Id.{Id}
use Rattle.sharing.specs.declared.TheConstants.{RELAYS}
use Rattle.plan_check.specs.File.{File, IsBase}
use Rattle.plan_check.specs.TextLines.{lines_of, onto_line, ended}
use Rattle.plan_check.specs.PlanText.{header_line, number_text, relays_text, base_line, offer_line, give_line, group_line, plan_lines, plan_text, IsOffer, IsGive, IsOfForm}
use Rattle.plan_check.proofs.LineLemmas.{NoFeed, lines_of-first}
use Rattle.plan_check.proofs.NumberLemmas.{own, relay_small, base_small}
use Rattle.plan_check.proofs.FormLemmas.{based, offered, given, grouped, plan_lines-is}

abbrev pub joined : List (List ℕ) → List ℕ
joined lines = flat_map (λ line. line) lines

onto_joined : (b : ℕ) (lines : List (List ℕ)) → joined (onto_line b lines) ≡ b ∷ joined lines
onto_joined b [] = refl
onto_joined b (l ∷ ls) = refl

-- the lines of a text make it up
pub joined_lines : (text : List ℕ) → joined (lines_of text) ≡ text
joined_lines [] = refl
joined_lines (b ∷ bs) = elim (cases_eq b 10) [
  | inl is ↦ rw is (ap (λ t. 10 ∷ t) (joined_lines bs))
  | inr other ↦ let off : (b == 10) ≡ false = ne_eqb b 10 other in rw off (onto_joined b (lines_of bs) ∙ ap (λ t. b ∷ t) (joined_lines bs))
]

-- a line feed stands at the end, and nowhere else
abbrev pub IsWhole : List ℕ → Type 0
IsWhole line = (words : List ℕ) × All NoFeed words × (line ≡ ended words)

pub lines_joined : (lines : List (List ℕ)) → All IsWhole lines → lines_of (joined lines) ≡ lines
lines_joined [] h = refl
lines_joined (l ∷ ls) h =
    let line = All-head IsWhole l ls h in
    let begun : joined (l ∷ ls) ≡ line.0 ++ 10 ∷ joined ls = ap (λ t. t ++ joined ls) line.2 ∙ append_assoc line.0 (10 ∷ []) (joined ls) in
    ap lines_of begun ∙ lines_of-first line.0 (joined ls) line.1 ∙ ap (λ t. t ∷ lines_of (joined ls)) (sym line.2) ∙ ap (λ t. l ∷ t) (lines_joined ls (All-tail IsWhole l ls h))

-- ---- no line feed stands in a plan's words
passes : (xs : List ℕ) → list_all (λ b. not (b == 10)) xs ≡ true → All NoFeed xs
passes [] h = All-nil NoFeed
passes (x ∷ xs) h =
    let parts : (not (x == 10) ≡ true) × (list_all (λ b. not (b == 10)) xs ≡ true) = and_parts (not (x == 10)) (list_all (λ b. not (b == 10)) xs) h in
    All-cons NoFeed x xs (λ is. false≢true (sym (ap (λ b. not (b == 10)) is) ∙ parts.0)) (passes xs parts.1)

digit_no_feed : (d : ℕ) → NoFeed (slice_index lower_digits d)
digit_no_feed d = elim (cases_lt d 16) [
  | inl lt ↦ passes lower_digits refl d 0 lt
  | inr ge ↦ λ is. let none = get_or_past lower_digits d 0 ge in omega (arith, none, is)
]

hex_no_feed : (bytes : List ℕ) → All NoFeed (encode_lower bytes)
unfolding encode_with
hex_no_feed [] = All-nil NoFeed
hex_no_feed (b ∷ bs) =
    All-cons NoFeed (slice_index lower_digits (b / 16)) (slice_index lower_digits (b % 16) ∷ encode_lower bs) (digit_no_feed (b / 16))
    (All-cons NoFeed (slice_index lower_digits (b % 16)) (encode_lower bs) (digit_no_feed (b % 16)) (hex_no_feed bs))

number_no_feed : (r : ℕ) → r < 2 ^ 64 → All NoFeed (number_text r)
number_no_feed r small = All-cons NoFeed 32 (decimal r) (λ is. omega (arith, is)) (λ k d lt is.
    let range = digit_at (decimal r) k (digits_decimal own r small) lt in
    omega (arith, range.0, range.1, get_or_default (decimal r) k d 0 lt, is))

relays_no_feed : (relays : List ℕ) → All (λ r. r < RELAYS) relays → All NoFeed (relays_text relays)
relays_no_feed [] h = All-nil NoFeed
relays_no_feed (r ∷ rs) h = All-append NoFeed (number_text r) (relays_text rs) (number_no_feed r (relay_small r (All-head (λ r. r < RELAYS) r rs h))) (relays_no_feed rs (All-tail (λ r. r < RELAYS) r rs h))

base_whole : (b : ℕ × ℕ) → IsBase b → IsWhole (based b)
base_whole b is =
    (base_line b, All-append NoFeed (codes "base") (number_text b.0 ++ number_text b.1) (passes (codes "base") refl) (All-append NoFeed (number_text b.0) (number_text b.1) (number_no_feed b.0 (relay_small b.0 is.relay)) (number_no_feed b.1 (base_small b is))), refl)

header_whole : (bs : List (ℕ × ℕ)) → IsWhole (ended (header_line bs))
header_whole [] = (codes "nostr-plan 1", passes (codes "nostr-plan 1") refl, refl)
header_whole (b ∷ bs) = (codes "nostr-plan 2", passes (codes "nostr-plan 2") refl, refl)

offer_whole : (o : Id × List ℕ) → IsOffer o → IsWhole (offered o)
offer_whole o is =
    (offer_line o, All-append NoFeed (codes "offer ") _ (passes (codes "offer ") refl) (All-append NoFeed (encode_lower o.0.0) (relays_text o.1) (hex_no_feed o.0.0) (relays_no_feed o.1 is.relays)), refl)

give_whole : (g : Id × ℕ) → IsGive g → IsWhole (given g)
give_whole g is =
    (give_line g, All-append NoFeed (codes "give ") _ (passes (codes "give ") refl) (All-append NoFeed (encode_lower g.0.0) (number_text g.1) (hex_no_feed g.0.0) (number_no_feed g.1 (relay_small g.1 is.relay))), refl)

group_whole : (group : List ℕ) → All (λ r. r < RELAYS) group → IsWhole (grouped group)
group_whole group small = (group_line group, All-append NoFeed (codes "group") (relays_text group) (passes (codes "group") refl) (relays_no_feed group small), refl)

lines_whole : (file : File) → IsOfForm file → All IsWhole (plan_lines file)
lines_whole file form =
    subst (All IsWhole) (sym (plan_lines-is file))
    (All-cons IsWhole (ended (header_line file.bases)) _ (header_whole file.bases)
    (All-append IsWhole (map based file.bases) _ (All-map IsWhole based file.bases (λ k d lt. base_whole _ (form.bases k d lt)))
    (All-append IsWhole (map offered file.offers) _ (All-map IsWhole offered file.offers (λ k d lt. offer_whole _ (form.offers k d lt)))
    (All-append IsWhole (map given file.gives) (grouped file.group ∷ []) (All-map IsWhole given file.gives (λ k d lt. give_whole _ (form.gives k d lt)))
    (All-cons IsWhole (grouped file.group) [] (group_whole file.group form.group) (All-nil IsWhole))))))

pub plan_text-is : (file : File) → plan_text file ≡ joined (plan_lines file)
unfolding plan_text
plan_text-is file = refl

-- the lines of a plan's text
pub lines_of-plan : (text : List ℕ) (file : File) → IsOfForm file → text ≡ plan_text file → lines_of text ≡ plan_lines file
lines_of-plan text file form is = ap lines_of (is ∙ plan_text-is file) ∙ lines_joined (plan_lines file) (lines_whole file form)

-- the text of a plan's lines
pub text_by_lines : (text : List ℕ) (file : File) → lines_of text ≡ plan_lines file → text ≡ plan_text file
text_by_lines text file e = sym (joined_lines text) ∙ ap joined e ∙ sym (plan_text-is file)
