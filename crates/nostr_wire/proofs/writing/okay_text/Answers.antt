use Rattle.std.proofs.Common.{◌≡◌, ◌≤◌, ◌++◌, ◌∷◌, ◌∙◌, ℕ, Bool, List, [], codes, sym, ap, ap₂, refl}
use Rattle.std.specs.String.{string_bytes}
use Rattle.hex.specs.Hex.{encode_lower}
use Rattle.json.specs.Token.{Token}
use Rattle.json.specs.Lex.{tokens}
use Rattle.json.specs.Print.{print}
use Rattle.json.specs.Tree as tree
use Rattle.serde_json.specs.Read.{max_depth}
use Rattle.serde_json.specs.Written.{outline}
use Rattle.serde_json.proofs.Texts.{print-outline}
use Rattle.item_key.specs.declared.Id.{Id}
use Rattle.item_key.specs.Keys.{IsId}
use Rattle.nostr_wire.specs.Forms.{okay_form, relay_table}
use Rattle.nostr_wire.specs.Reading.{Reads}
use Rattle.nostr_wire.specs.Writing.{array_of, text_of}
use Rattle.nostr_wire.proofs.Arrays.{is_message}
use Rattle.nostr_wire.proofs.Plain.{array_of-plain}
use Rattle.nostr_event.proofs.Rereading.{depth_same, text_read}
use Rattle.nostr_wire.proofs.writing.okay_text.Goals as goal
use Rattle.nostr_wire.proofs.writing.okay_text.Goals.{After-drop-digits-2}

abbrev words : Id → Bool → List ℕ → List Token
words i taken why = Token.begin_array ∷ Token.string (codes "OK") ∷ Token.string (encode_lower i.0) ∷ Token.boolean taken ∷ Token.string why ∷ Token.end_array ∷ []

written : (i : Id) (taken : Bool) (why : List ℕ) → print (words i taken why) ≡ text_of (okay_form i taken why)
written i taken why = print-outline (array_of (okay_form i taken why))

read_back : (i : Id) (taken : Bool) (why text : List ℕ) → IsId i → tokens text ≡ words i taken why → Reads relay_table text (okay_form i taken why)
read_back i taken why text is_id same =
    let m = okay_form i taken why in
    let shallow : tree.depth (outline (array_of m)) ≤ max_depth = rw (depth_same (array_of m)) (array_of-plain m).1 in
    (array_of m, text_read text (array_of m) same refl shallow, is_message relay_table m (array_of m) refl ((refl, is_id), (refl, (refl, tt))) refl)

tokens_are : (c : After-drop-digits-2) → c.end_array.new.self.tokens ≡ words c.args.id.now c.args.taken c.args.why.now
tokens_are c =
    rw (
      c.in_ok-end_array.ensures.ok,
      c.in_ok-string-3.ensures.ok,
      c.in_ok-token.ensures.ok,
      c.in_ok-string-2.ensures.ok,
      c.in_ok-string.ensures.ok,
      c.in_ok-begin_array.ensures.ok,
      c.new-out.ensures.tokens,
      c.as_str.ensures.value,
      c.in_ok-digits.ensures,
      c.as_slice.ensures,
      c.as_bytes.ensures.value,
    ) refl

nothing_before : (c : After-drop-digits-2) → c.end_array.new.self.before ≡ []
nothing_before c =
    c.in_ok-end_array.ensures.room.0 ∙ c.in_ok-string-3.ensures.room.0 ∙ c.in_ok-token.ensures.room.0 ∙ c.in_ok-string-2.ensures.room.0 ∙ c.in_ok-string.ensures.room.0
    ∙ c.in_ok-begin_array.ensures.room.0 ∙ c.new-out.ensures.before ∙ c.clear.ensures.items

text_is : (c : After-drop-digits-2) → string_bytes c.in-Ok.text ≡ print (words c.args.id.now c.args.taken c.args.why.now)
text_is c = ap (λ v. v.items) c.in-Ok.ensures.ok ∙ c.into_inner.ensures.items ∙ ap₂ (λ b ts. b ++ print ts) (nothing_before c) (tokens_are c)

pub returns-clause-text : goal.returns-clause-text
returns-clause-text c = text_is c ∙ written c.args.id.now c.args.taken c.args.why.now

pub returns-clause-reads_back : goal.returns-clause-reads_back
returns-clause-reads_back c =
    let same = ap tokens (text_is c) ∙ ap (λ ts. tokens (print ts)) (sym (tokens_are c)) ∙ c.into_inner.ensures.reads_back ∙ tokens_are c in
    read_back c.args.id.now c.args.taken c.args.why.now (string_bytes c.in-Ok.text) c.as_bytes.ensures.whole same
