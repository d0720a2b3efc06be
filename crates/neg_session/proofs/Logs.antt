-- What a log says once it has one exchange more: its questions, its last answer, and the ids and stretches that it shows.
use Rattle.std.proofs.Common.{◌≡◌, ℕ, ◌+◌, ◌≤◌, ◌++◌, ◌⊎◌, inl, inr, List, [], ◌∷◌, length, drop, Ok, refl, sym, ap, ◌∙◌, subst, arith, zero-add, append_assoc}
use Rattle.std.specs.Prelude.{All, Contains}
use Rattle.std.proofs.lemmas.List.Elements.{All-head, All-tail, All-weaker, All-contains, All-contains_itself, Contains-append_left, Contains-push}
use Rattle.std.proofs.lemmas.List.Sums.{sum_by-append}
use Rattle.std.proofs.Math.Seq.{drop-append_seam, drop-length}
use Rattle.neg_codec.proofs.Stretches.{contains_head, contains_tail, contains_cases, contains_none}
use Rattle.neg_codec.specs.declared.CodecFault.{CodecFault}
use Rattle.item_key.specs.declared.Id.{Id}
use Rattle.item_key.specs.declared.Item.{Item}
use Rattle.neg_codec.specs.Laws.{OneMessage}
use Rattle.neg_codec.specs.Ranges.{Span}
use Rattle.neg_codec.specs.Reading.{message_at}
use Rattle.neg_codec.specs.Text.{Spells}
use Rattle.item_roll.specs.Truth.{Follows}
use Rattle.neg_initiator.specs.Listed.{IsListed, IsUnlisted, Distinct, PassesMost}
use Rattle.neg_initiator.specs.Session.{IsAskDue}
use Rattle.neg_initiator.specs.Trusting.{IsTrustedBy}
use Rattle.neg_session.specs.Exchange.{Exchange, exchange, gained, answered_bytes}
use Rattle.neg_session.specs.Explaining.{IsExplained, Explains}
use Rattle.neg_session.specs.Asking.{Resumes, Linked, Chained, MayResume, MayAsk}
use Rattle.neg_session.specs.Ran.{LastAnswer, IsRefusedAnswer, IsOffered, IsWithheld, OffersMore, IsShown, IsDue}
use Rattle.neg_session.specs.Going.{IsRead}

-- what a log has gained

pub gained_none : (old : List Exchange) → gained old old ≡ []
gained_none old = drop-length old

pub gained_more : (old now new g : List Exchange) → now ≡ old ++ gained old now → new ≡ now ++ g → gained old new ≡ gained old now ++ g
gained_more old now new g p q =
    let e : new ≡ old ++ (gained old now ++ g) = q ∙ (ap (λ w. w ++ g) p ∙ append_assoc old (gained old now) g) in
    ap (λ w. drop (length old) w) e ∙ drop-append_seam old (gained old now ++ g)

-- questions

linked_more : (limit : ℕ) (own : List Item) (e : Exchange) (es : List Exchange) (q r : List ℕ) → Linked limit own e es → MayResume limit own e es q → Linked limit own e (es ++ exchange q r ∷ [])
linked_more limit own e [] q r l m = (m, tt)
linked_more limit own e (f ∷ fs) q r l m = (l.0, linked_more limit own f fs q r l.1 m)

pub chained_more : (limit : ℕ) (own : List Item) (es : List Exchange) (q r : List ℕ) → Chained limit own es → MayAsk limit own es q → Chained limit own (es ++ exchange q r ∷ [])
chained_more limit own [] q r l m = (m, tt)
chained_more limit own (e ∷ es) q r l m = (l.0, linked_more limit own e es q r l.1 m)

resumes_more : (limit : ℕ) (own : List Item) (e : Exchange) (es : List Exchange) (f : Exchange) (q : List ℕ) → Resumes limit own f q → MayResume limit own e (es ++ f ∷ []) q
resumes_more limit own e [] f q a = a
resumes_more limit own e (x ∷ xs) f q a = resumes_more limit own x xs f q a

pub may_more : (limit : ℕ) (own : List Item) (es : List Exchange) (f : Exchange) (q : List ℕ) → Resumes limit own f q → MayAsk limit own (es ++ f ∷ []) q
may_more limit own [] f q a = a
may_more limit own (e ∷ es) f q a = resumes_more limit own e es f q a

-- lists that explain

pub all_front : {X : Type 0} (P : X → Type 0) → (xs ys : List X) → All P (xs ++ ys) → All P xs
all_front P xs ys h = All-weaker (Contains xs) P (λ x m. All-contains P (xs ++ ys) x h (Contains-append_left xs ys x m)) xs (All-contains_itself xs)

pub explains_front : (b : List Item) (es fs : List Exchange) → Explains b (es ++ fs) → Explains b es
explains_front b es fs h = record { roll = h.roll; each = all_front (IsExplained b) es fs h.each }

pub explains_last : (b : List Item) (es : List Exchange) (e : Exchange) → Explains b (es ++ e ∷ []) → IsExplained b e
explains_last b es e h = All-contains (IsExplained b) (es ++ e ∷ []) e h.each (Contains-push es e)

pub follows_last : OneMessage → (b : List Item) (e : Exchange) (m r : List Span) → Spells e.asked m → Spells e.answered r → IsExplained b e → Follows b m r
follows_last one b e m r sm sr x =
    let half : Follows b x.asked r = subst (λ (w : List Span). Follows b x.asked w) (one e.answered x.answered r x.answers sr) x.follows in
    subst (λ (w : List Span). Follows b w r) (one e.asked x.asked m x.asks sm) half

-- the last answer

pub last_gives : (P : List ℕ → Type 0) → (es : List Exchange) (e : Exchange) → LastAnswer P (es ++ e ∷ []) → P e.answered
last_gives P [] e h = h
last_gives P (x ∷ []) e h = h
last_gives P (x ∷ y ∷ ys) e h = last_gives P (y ∷ ys) e h

pub last_is : (P : List ℕ → Type 0) → (es : List Exchange) (e : Exchange) → P e.answered → LastAnswer P (es ++ e ∷ [])
last_is P [] e h = h
last_is P (x ∷ []) e h = h
last_is P (x ∷ y ∷ ys) e h = last_is P (y ∷ ys) e h

pub read_or_refused : (e : Exchange) (c : CodecFault) → IsRead e → IsRefusedAnswer c e.answered → ⊥
read_or_refused e c m h = let r = m.1 in cc

pub no_refusal : (c : CodecFault) (log : List Exchange) → All IsRead log → LastAnswer (IsRefusedAnswer c) log → ⊥
no_refusal c [] h l = l
no_refusal c (e ∷ []) h l = read_or_refused e c (All-head IsRead e [] h) l
no_refusal c (e ∷ f ∷ es) h l = no_refusal c (f ∷ es) (All-tail IsRead e (f ∷ es) h) l

pub bytes_more : (es : List Exchange) (q r : List ℕ) → answered_bytes (es ++ exchange q r ∷ []) ≡ answered_bytes es + length r
bytes_more es q r = sum_by-append (λ e. length e.answered) es (exchange q r ∷ []) ∙ ap (λ n. answered_bytes es + n) (zero-add (length r))

pub push_front : (xs ys : List Exchange) (x y : Exchange) → xs ++ x ∷ [] ≡ ys ++ y ∷ [] → xs ≡ ys
push_front [] [] x y e = refl
push_front [] (z ∷ []) x y e = absurd cc
push_front [] (z ∷ w ∷ zs) x y e = absurd cc
push_front (z ∷ []) [] x y e = absurd cc
push_front (z ∷ w ∷ zs) [] x y e = absurd cc
push_front (z ∷ zs) (w ∷ ws) x y e =
    let head : z ≡ w = cc in
    let tail : zs ++ x ∷ [] ≡ ws ++ y ∷ [] = cc in
    ap (λ (v : Exchange). v ∷ zs) head ∙ ap (λ (v : List Exchange). w ∷ v) (push_front zs ws x y tail)

pub none_pushed : (front : List Exchange) (e : Exchange) → [] ≡ front ++ e ∷ [] → ⊥
none_pushed [] e h = cc
none_pushed (x ∷ xs) e h = cc

-- the answers before the last have no more bytes than all of them
pub front_less : (log front : List Exchange) (e : Exchange) → log ≡ front ++ e ∷ [] → answered_bytes front ≤ answered_bytes log
front_less log front e h = omega (arith, ap answered_bytes h, bytes_more front e.asked e.answered)

-- a next question is due just where the last answer left something open
pub due_last : (own : List Item) (es : List Exchange) (e : Exchange) → IsDue own (es ++ e ∷ []) → IsAskDue own e.answered
due_last own es e (inl none) = absurd (none_pushed es e (sym none))
due_last own es e (inr due) = last_gives (IsAskDue own) es e due

-- ids that are offered

pub offered_more : (own : List Item) (es fs : List Exchange) (i : Id) → IsOffered own es i → IsOffered own (es ++ fs) i
offered_more own es fs i h = record { pair = h.pair; answered = h.answered; stands = Contains-append_left es fs h.pair h.stands; read = h.read; listed = h.listed }

pub offered_last : (own : List Item) (es : List Exchange) (e : Exchange) (answered : List Span) → message_at e.answered ≡ Ok answered → (i : Id) → IsListed own answered i → IsOffered own (es ++ e ∷ []) i
offered_last own es e answered read i h = record { pair = e; answered = answered; stands = Contains-push es e; read = read; listed = h }

pub withheld_more : (own : List Item) (es fs : List Exchange) (i : Id) → IsWithheld own es i → IsWithheld own (es ++ fs) i
withheld_more own es fs i h = record { pair = h.pair; answered = h.answered; stands = Contains-append_left es fs h.pair h.stands; read = h.read; unlisted = h.unlisted }

pub withheld_last : (own : List Item) (es : List Exchange) (e : Exchange) (answered : List Span) → message_at e.answered ≡ Ok answered → (i : Id) → IsUnlisted own answered i → IsWithheld own (es ++ e ∷ []) i
withheld_last own es e answered read i h = record { pair = e; answered = answered; stands = Contains-push es e; read = read; unlisted = h }

pub offers_more : (own : List Item) (es : List Exchange) (e : Exchange) (answered : List Span) (need : List Id) (most : ℕ) → message_at e.answered ≡ Ok answered
    → ((i : Id) → Contains need i → IsOffered own es i) → PassesMost own answered need most → OffersMore own (es ++ e ∷ []) most
offers_more own es e answered need most read before h = record {
  ids = h.ids;
  distinct = h.distinct;
  more = h.more;
  each = All-weaker (Contains h.ids) (IsOffered own (es ++ e ∷ []))
      (λ i m. elim (h.each i m) [ inl old ↦ offered_more own es (e ∷ []) i (before i old) | inr new ↦ offered_last own es e answered read i new ])
      h.ids (All-contains_itself h.ids);
}

-- stretches that are shown to be the same

pub shown_more : (own : List Item) (es fs : List Exchange) (t : Item × Item) → IsShown own es t → IsShown own (es ++ fs) t
shown_more own es fs t h = record { pair = h.pair; asked = h.asked; answered = h.answered; stands = Contains-append_left es fs h.pair h.stands; asks = h.asks; read = h.read; trusted = h.trusted }

pub shown_last : (own : List Item) (es : List Exchange) (e : Exchange) (asked answered : List Span) → Spells e.asked asked → message_at e.answered ≡ Ok answered → (t : Item × Item) → IsTrustedBy own asked answered t → IsShown own (es ++ e ∷ []) t
shown_last own es e asked answered asks read t h = record { pair = e; asked = asked; answered = answered; stands = Contains-push es e; asks = asks; read = read; trusted = h }

-- distinct values of a list are no more than it has

without : {X : Type 0} (y : X) (ys : List X) → Contains ys y → (zs : List X) × (length ys ≡ length zs + 1) × ((x : X) → Contains ys x → (x ≡ y) ⊎ Contains zs x)
without y [] h = absurd (contains_none y h)
without y (z ∷ zs) h = elim (contains_cases z zs y h) [
  | inl e ↦ (zs, omega arith, λ x k. elim (contains_cases z zs x k) [ inl e' ↦ inl (sym e' ∙ e) | inr r ↦ inr r ])
  | inr rest ↦
      let s = without y zs rest in (
        z ∷ s.0,
        omega (arith, s.1),
        λ x k. elim (contains_cases z zs x k) [
          | inl e ↦ inr (subst (λ w. Contains (z ∷ s.0) w) e (contains_head z s.0))
          | inr r ↦ elim (s.2 x r) [ inl e ↦ inl e | inr t ↦ inr (contains_tail z s.0 x t) ]
        ],
      )
]

pub no_more : {X : Type 0} (xs ys : List X) → Distinct xs → ((x : X) → Contains xs x → Contains ys x) → length xs ≤ length ys
no_more [] ys d h = omega arith
no_more (x ∷ xs) ys d h =
    let s = without x ys (h x (contains_head x xs)) in
    let rest = no_more xs s.0 d.1 (λ y k. elim (s.2 y (h y (contains_tail x xs y k))) [ inl e ↦ absurd (d.0 (subst (λ w. Contains xs w) e k)) | inr t ↦ t ]) in
    omega (arith, rest, s.1)
