-- What is written has no float, and doesn't nest deep.
use Rattle.std.proofs.Common.{◌≡◌, ◌≤◌, ℕ, suc, List, [], ◌∷◌, map, Bool, false, ◌||◌, Option, None, Some, option_map, codes, refl, arith}
use Rattle.std.specs.Ordering.{nat_cmp, match_ordering}
use Rattle.std.specs.declared.cmp.Ordering.{Ordering}
use Rattle.std.specs.declared.cmp.Ordering.TheVariants.{Less, Equal, Greater}
use Rattle.std.specs.Cmp.Lexicographic.{slice_cmp}
use Rattle.hex.specs.Hex.{encode_lower}
use Rattle.serde_json.specs.Data.{Data, string, number, unsigned, array, Items, Members, no_members, member, put, depth, items_depth, members_depth}
use Rattle.serde_json.specs.View.{items_of}
use Rattle.serde_json.specs.Written.{has_float, items_have_float, members_have_float}
use Rattle.nostr_event.specs.EventView.{EventView}
use Rattle.nostr_event.specs.EventJson.{tag_items, tags_items, object_of as event_object}
use Rattle.nostr_filter.specs.declared.conditions.TagCondition.{TagCondition}
use Rattle.nostr_filter.specs.declared.filter.Filter.{Filter}
use Rattle.nostr_filter.specs.Tags.{tag_name}
use Rattle.nostr_filter.specs.FilterJson.{texts_data, hex_data, kinds_data, whole_data, put_given, put_conditions, named_members, object_of as filter_object}
use Rattle.nostr_wire.specs.Elements.{Said, sub, text, flag, id, hex, event, filter, data_of}
use Rattle.nostr_wire.specs.Forms.{Form}
use Rattle.nostr_wire.specs.Writing.{array_of}

abbrev IsPlain : ℕ → Data → Type 0
IsPlain n d = (has_float d ≡ false) × (depth d ≤ n)

abbrev ArePlain : ℕ → Items → Type 0
ArePlain n ds = (items_have_float ds ≡ false) × (items_depth ds ≤ n)

abbrev MembersPlain : ℕ → Members → Type 0
MembersPlain n ms = (members_have_float ms ≡ false) × (members_depth ms ≤ n)

neither : (a b : Bool) → a ≡ false → b ≡ false → (a || b) ≡ false
neither a b p q = rw (p, q) refl

member_plain : (n : ℕ) (k : List ℕ) (d : Data) (ms : Members) → IsPlain n d → MembersPlain n ms → MembersPlain n (member k d ms)
member_plain n k d ms p q = (neither _ _ p.0 q.0, omega (arith, p.1, q.1))

each_plain : {X : Type 0} (n : ℕ) (f : X → Data) → ((x : X) → IsPlain n (f x)) → (xs : List X) → ArePlain n (items_of (map f xs))
each_plain n f all [] = (refl, omega arith)
each_plain n f all (x ∷ xs) =
    let p = all x in
    let q = each_plain n f all xs in
    (neither _ _ p.0 q.0, omega (arith, p.1, q.1))

array_plain : (n : ℕ) (ds : Items) → ArePlain n ds → IsPlain (suc n) (array ds)
array_plain n ds p = (p.0, omega (arith, p.1))

-- ---- members that are put in

chosen_plain : (n : ℕ) (o : Ordering) (a b c : Members) → MembersPlain n a → MembersPlain n b → MembersPlain n c → MembersPlain n (match_ordering o a b c)
chosen_plain n Less a b c p q r = p
chosen_plain n Equal a b c p q r = q
chosen_plain n Greater a b c p q r = r

head_plain : (n : ℕ) (k : List ℕ) (d : Data) (ms : Members) → MembersPlain n (member k d ms) → IsPlain n d × MembersPlain n ms
head_plain n k d ms p = grind (arith, p.0, p.1)

put_plain : (n : ℕ) (k : List ℕ) (d : Data) (ms : Members) → IsPlain n d → MembersPlain n ms → MembersPlain n (put k d ms)
put_plain n k d no_members p q = member_plain n k d no_members p q
put_plain n k d (member l e ms) p q =
    let parts = head_plain n l e ms q in
    chosen_plain n (slice_cmp nat_cmp k l) _ _ _
    (member_plain n k d (member l e ms) p q) (member_plain n l d ms p parts.1) (member_plain n l e (put k d ms) parts.0 (put_plain n k d ms p parts.1))

given_plain : {X : Type 0} (n : ℕ) (k : List ℕ) (f : X → Data) (o : Option X) (ms : Members) → ((x : X) → IsPlain n (f x)) → MembersPlain n ms → MembersPlain n (put_given k (option_map f o) ms)
given_plain n k f None ms all q = q
given_plain n k f (Some x) ms all q = put_plain n k (f x) ms (all x) q

-- ---- filters and events

string_plain : (s : List ℕ) → IsPlain 0 (string s)
string_plain s = (refl, omega arith)

texts_plain : (texts : List (List ℕ)) → IsPlain 1 (texts_data texts)
texts_plain texts = array_plain 0 _ (each_plain 0 string string_plain texts)

hex_plain : (values : List (List ℕ)) → IsPlain 1 (hex_data values)
hex_plain values = array_plain 0 _ (each_plain 0 (λ bytes. string (encode_lower bytes)) (λ bytes. string_plain (encode_lower bytes)) values)

kinds_plain : (kinds : List ℕ) → IsPlain 1 (kinds_data kinds)
kinds_plain kinds = array_plain 0 _ (each_plain 0 (λ k. number (unsigned k)) (λ k. (refl, omega arith)) kinds)

whole_plain : (n : ℕ) → IsPlain 1 (whole_data n)
whole_plain n = (refl, omega arith)

conditions_plain : (cs : List TagCondition) (ms : Members) → MembersPlain 1 ms → MembersPlain 1 (put_conditions cs ms)
conditions_plain [] ms q = q
conditions_plain (c ∷ cs) ms q = put_plain 1 (tag_name c.letter) (texts_data c.values) _ (texts_plain c.values) (conditions_plain cs ms q)

named_plain : (f : Filter) → MembersPlain 1 (named_members f)
named_plain f =
    let until = given_plain 1 (codes "until") whole_data f.until no_members whole_plain (refl, omega arith) in
    let since = given_plain 1 (codes "since") whole_data f.since _ whole_plain until in
    let limit = given_plain 1 (codes "limit") whole_data f.limit _ whole_plain since in
    let kinds = given_plain 1 (codes "kinds") kinds_data f.kinds _ kinds_plain limit in
    let ids = given_plain 1 (codes "ids") hex_data f.ids _ hex_plain kinds in
    given_plain 1 (codes "authors") hex_data f.authors _ hex_plain ids

filter_plain : (f : Filter) → IsPlain 3 (filter_object f)
filter_plain f = let p = conditions_plain f.tags (named_members f) (named_plain f) in (p.0, omega (arith, p.1))

tag_plain : (texts : List (List ℕ)) → IsPlain 1 (array (tag_items texts))
tag_plain texts = array_plain 0 _ (each_plain 0 string string_plain texts)

event_plain : (e : EventView) → IsPlain 3 (event_object e)
event_plain e =
    let tags = array_plain 1 _ (each_plain 1 (λ t. array (tag_items t)) tag_plain e.draft.tags) in
    let none = member_plain 2 (codes "tags") (array (tags_items e.draft.tags)) no_members tags (refl, omega arith) in
    (none.0, omega (arith, none.1))

-- ---- messages

said_plain : (x : Said) → IsPlain 3 (data_of x)
said_plain (sub s) = (refl, omega arith)
said_plain (text s) = (refl, omega arith)
said_plain (flag b) = (refl, omega arith)
said_plain (id i) = (refl, omega arith)
said_plain (hex bytes) = (refl, omega arith)
said_plain (event e) = event_plain e
said_plain (filter f) = filter_plain f

pub array_of-plain : (m : Form) → (has_float (array_of m) ≡ false) × (depth (array_of m) ≤ 127)
array_of-plain m = let p = each_plain 3 data_of said_plain m.said in (p.0, omega (arith, p.1))
