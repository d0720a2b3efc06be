-- What is told of a roll: fingerprints of its parts, or ids, of which as many are listed as fit.
use Rattle.std.proofs.Common.{◌≡◌, ℕ, zero, suc, drop, ◌+◌, ◌-◌, ◌*◌, ◌<◌, ◌≤◌, inl, inr, List, [], ◌∷◌, length, get_or, refl, sym, ap, subst, ◌∙◌, arith}
use Rattle.std.specs.Prelude.{All, Contains, slice_get, slice_range, Some}
use Rattle.std.proofs.lemmas.Bool.{cases_lt}
use Rattle.std.proofs.lemmas.List.{length-map, length-take-le, length-drop}
use Rattle.std.proofs.lemmas.List.Elements.{All-cons, All-nil, All-weaker, All-contains, All-contains_itself}
use Rattle.item_key.specs.declared.Item.{Item}
use Rattle.item_key.specs.Keys.{place, least, infinity, IsKey, IsId}
use Rattle.neg_codec.specs.Ranges.{ids, Span, IsEdge}
use Rattle.neg_codec.specs.Encoding.{text_of}
use Rattle.neg_codec.proofs.Lengths.{ids_most, ids_least}
use Rattle.neg_print.specs.Print.{print_of}
use Rattle.item_roll.specs.Parts.{IsRoll, part, ids_of, count_below}
use Rattle.item_roll.specs.Splits.{prints_at, split_of, minimal_bound_of}
use Rattle.item_roll.proofs.Truths.{split_listed, split_printed, next_of, parts_next, IsCut, cut_at, got, order_at, key_at}
use Rattle.item_roll.proofs.Places.{low_item, high_item}
use Rattle.neg_codec.proofs.Stretches.{key_below}
use Rattle.item_roll.proofs.Members.{part_gives, ids_give}
use Rattle.item_roll.specs.Closed.{closed_from}
use Rattle.neg_draft.specs.Coverage.{Written, told_more, all_left, before_payload, HasKeys, IsDraft, IsPrint, Whole, Cut}
use Rattle.neg_draft.proofs.Owning.{lower_of}
use Rattle.neg_draft.proofs.Telling.{told_grows, whole_fits, whole_cut, whole_one, before_most, end_key, closed_cut}

-- ---- fingerprints of parts

-- all of them are fingerprints
pub all_prints : (more : ℕ) (items : List Item) (lo hi : ℕ) (upper : Item) → All IsPrint (prints_at more items lo hi upper)
unfolding prints_at
all_prints zero items lo hi upper = All-cons IsPrint _ [] (print_of (ids_of (slice_range items lo hi)), refl) (All-nil IsPrint)
all_prints (suc more) items lo hi upper =
    All-cons IsPrint _ _ (print_of (ids_of (slice_range items lo (next_of lo hi more))), refl) (all_prints more items (next_of lo hi more) hi upper)

-- and each has an item
pub prints_full : (more : ℕ) (items : List Item) (lo hi : ℕ) (lower upper : Item) → IsRoll items → hi ≤ length items → lo + more + 1 ≤ hi → count_below items upper ≡ hi → count_below items lower ≡ lo
    → All HasKeys (closed_from lower (prints_at more items lo hi upper))
unfolding prints_at
prints_full zero items lo hi lower upper roll len room high low = All-cons HasKeys _ [] (lower_of items lower upper (omega (arith, high, low, room))) (All-nil HasKeys)
prints_full (suc more) items lo hi lower upper roll len room high low =
    let enough : more + 2 ≤ hi - lo = omega arith in
    let parts = parts_next (hi - lo) more enough in
    let cut = cut_at items (next_of lo hi more) roll (omega arith) (omega arith) in
    let b = minimal_bound_of (get_or items (next_of lo hi more - 1) least) (get_or items (next_of lo hi more) least) in
    All-cons HasKeys _ _ (lower_of items lower (minimal_bound_of (get_or items (next_of lo hi more - 1) least) (get_or items (next_of lo hi more) least)) (omega (arith, low, cut.count)))
    (prints_full more items (next_of lo hi more) hi (minimal_bound_of (get_or items (next_of lo hi more - 1) least) (get_or items (next_of lo hi more) least)) upper roll len (omega arith) high cut.count)

pub split_full : (roll : List Item) (lower upper : Item) (lo hi : ℕ) (rs : List Span) → IsRoll roll → hi ≤ length roll → 32 ≤ hi - lo → rs ≡ split_of roll lo hi upper → hi ≡ count_below roll upper → lo ≡ count_below roll lower
    → All HasKeys (closed_from lower rs)
split_full roll lower upper lo hi rs is_roll len many is high low =
    subst (λ (xs : List Span). All HasKeys (closed_from lower xs)) (sym (is ∙ split_printed roll lo hi upper many))
    (prints_full 15 roll lo hi lower upper is_roll len (omega (arith, many)) (sym high) (sym low))

-- ---- ids of a roll

pub ids_whole : (roll : List Item) (lower upper : Item) → All IsKey roll → All IsId (ids_of (part roll lower upper))
ids_whole roll lower upper keys =
    All-weaker (Contains (ids_of (part roll lower upper))) IsId
    (λ i m. let k = ids_give (part roll lower upper) i m in
    let there = part_gives roll lower upper k.0 k.1 in
    subst IsId k.2 (All-contains IsKey roll k.0 keys there.0).id)
    (ids_of (part roll lower upper)) (All-contains_itself (ids_of (part roll lower upper)))

-- how many ids there are
pub ids_count : (roll : List Item) (lower upper : Item) (lo hi : ℕ) → part roll lower upper ≡ slice_range roll lo hi → hi ≤ length roll → lo ≤ hi → length (ids_of (part roll lower upper)) ≡ hi - lo
ids_count roll lower upper lo hi e in_roll le =
    ap (λ (xs : List Item). length (ids_of xs)) e ∙ length-map (slice_range roll lo hi) (λ k. k.id) ∙ length-take-le (hi - lo) (drop lo roll) (omega (arith, length-drop lo roll, in_roll, le))

abbrev pub listed_part : List Item → Item → Item → Span
listed_part roll lower upper = record { upper = upper; claim = ids (ids_of (part roll lower upper)) }

-- ids that fit with the room that is left
pub listed_fits : (roll : List Item) (d : Written) (upper : Item) (n : ℕ) → IsDraft d → IsEdge d.end → IsEdge upper → All IsKey roll → n ≤ 1000000 → length (ids_of (part roll d.end upper)) ≡ n
    → before_payload d + 32 * n + 64 ≤ d.limit → length (text_of (told_more d upper (listed_part roll d.end upper ∷ [])).spans) + 64 ≤ d.limit
listed_fits roll d upper n draft edge edge_u keys few count fits =
    let most = ids_most (ids_of (part roll d.end upper)) (ids_whole roll d.end upper keys) (omega (arith, few, count)) in
    whole_fits d upper (listed_part roll d.end upper) (32 * n) draft edge edge_u (omega (arith, most, count)) fits

-- they are true of the roll
pub listed_whole : (roll : List Item) (d new : Written) (upper : Item) → place d.end < place infinity → place d.end < place upper → IsKey d.end → new ≡ told_more d upper (listed_part roll d.end upper ∷ []) → Whole roll d upper new
listed_whole roll d new upper fin lt key now = whole_one roll d new (listed_part roll d.end upper) fin lt key (λ e. cc) (λ i. (λ h. h, λ h. h)) now

-- a bound between two neighbours of a roll
pub cut_between : (items : List Item) (next : ℕ) (x y b : Item) → IsRoll items → 0 < next → next < length items → slice_get items (next - 1) ≡ Some x → slice_get items next ≡ Some y → b ≡ minimal_bound_of x y → IsCut items next b
cut_between items next x y b roll some lt gx gy e =
    subst (IsCut items next)
    (sym (e ∙ ap (λ (p : Item). minimal_bound_of p y) (got items (next - 1) x gx) ∙ ap (minimal_bound_of (get_or items (next - 1) least)) (got items next y gy)))
    (cut_at items next roll some lt)

pub neighbours : (items : List Item) (next : ℕ) (x y : Item) → IsRoll items → 0 < next → next < length items → slice_get items (next - 1) ≡ Some x → slice_get items next ≡ Some y → (place x < place y) × IsKey x × IsKey y
neighbours items next x y roll some lt gx gy =
    let ex = got items (next - 1) x gx in
    let ey = got items next y gy in (
      omega (arith, order_at items (next - 1) next least roll.ascending (omega arith) lt, ap place ex, ap place ey),
      subst IsKey (sym ex) (key_at items (next - 1) least roll (omega arith)),
      subst IsKey (sym ey) (key_at items next least roll lt),
    )

-- it lies between two bounds, if more items lie below the upper, and fewer below the lower
pub cut_within : (items : List Item) (next : ℕ) (lower upper b : Item) → IsRoll items → 0 < next → next < length items → count_below items lower < next → next < count_below items upper → IsCut items next b → (place lower < place b) × (place b < place upper)
cut_within items next lower upper b roll some lt low high c = (
  elim (cases_lt (place (get_or items (next - 1) least)) (place lower)) [
    | inl less ↦ absurd (omega (arith, low_item items (next - 1) lower least roll.ascending (omega arith) less, low))
    | inr le ↦ omega (arith, le, c.above)
  ],
  elim (cases_lt (place (get_or items next least)) (place upper)) [
    | inl less ↦ omega (arith, less, c.upto)
    | inr le ↦ absurd (omega (arith, high_item items next upper least roll.ascending lt le, high))
  ],
)

-- as many ids as fit, and one fingerprint of all that is left
pub listed_cut : (roll : List Item) (d e new : Written) (b upper : Item) (n : ℕ) → IsDraft d → All IsKey roll → IsEdge d.end → IsKey b → place d.end < place b → place b ≤ place upper → place upper ≤ place infinity → length (ids_of (part roll d.end b)) ≡ n
    → d.limit < before_payload d + 32 * n + 96 → e ≡ told_more d b (listed_part roll d.end b ∷ []) → new ≡ told_more e infinity (all_left (print_of (ids_of (part roll e.end infinity)))) → Cut roll d upper new
listed_cut roll d e new b upper n draft keys edge key lt le low count full is now =
    let end : e.end ≡ b = ap (λ (w : Written). w.end) is in
    let limit : e.limit ≡ d.limit = ap (λ (w : Written). w.limit) is in
    let fin : place d.end < place infinity = omega (arith, lt, le, low) in
    let grows = told_grows d b (listed_part roll d.end b) in
    let more = ids_least (ids_of (part roll d.end b)) (ids_whole roll d.end b keys) in
    let text = ap (λ (w : Written). length (text_of w.spans)) is in
    let full_e : e.limit ≤ length (text_of e.spans) + 256 = omega (arith, limit, full, before_most d, grows, more, count, text) in
    let c = closed_cut roll e new upper (subst IsEdge (sym end) (inr key)) (omega (arith, ap place end, key_below b key)) (omega (arith, ap place end, le)) full_e now in
    whole_cut roll d e new b upper draft (listed_whole roll d e b fin lt (end_key d edge fin) is) c

-- the bound behind so many ids
pub bound_behind : (roll : List Item) (lower upper x y b : Item) (from count : ℕ) → IsRoll roll → from ≡ count_below roll lower → (count ≡ 0 → ⊥) → count_below roll lower + count < count_below roll upper → count_below roll upper ≤ length roll
    → slice_get roll (from + count - 1) ≡ Some x → slice_get roll (from + count) ≡ Some y → b ≡ minimal_bound_of x y → IsCut roll (from + count) b × (place lower < place b) × (place b < place upper)
bound_behind roll lower upper x y b from count is_roll low some fewer most gx gy e =
    let more : 0 < count = elim (cases_lt 0 count) [ inl lt ↦ lt | inr le ↦ absurd (some (omega (arith, le))) ] in
    let c = cut_between roll (from + count) x y b is_roll (omega (arith, more)) (omega (arith, low, fewer, most)) gx gy e in
    let w = cut_within roll (from + count) lower upper b is_roll (omega (arith, more)) (omega (arith, low, fewer, most)) (omega (arith, low, more)) (omega (arith, low, fewer)) c in
    (c, w.0, w.1)

-- few items are listed
pub split_is_listed : (roll : List Item) (lower upper : Item) (hi : ℕ) → count_below roll upper - count_below roll lower < 32 → hi ≡ count_below roll upper → part roll lower upper ≡ slice_range roll (count_below roll lower) hi
    → split_of roll (count_below roll lower) (count_below roll upper) upper ≡ listed_part roll lower upper ∷ []
split_is_listed roll lower upper hi few e piece =
    split_listed roll (count_below roll lower) (count_below roll upper) upper few
    ∙ ap (λ (xs : List Item). record { upper = upper; claim = ids (ids_of xs) } ∷ []) (sym (piece ∙ ap (slice_range roll (count_below roll lower)) e))
