-- What a peer in this process answers.
use Rattle.std.proofs.Common.{◌≡◌, ℕ, ◌≤◌, ◌++◌, List, [], ◌∷◌, length, Bool, true, false, nat_lt, Err, if◌then◌else◌, refl, sym, ap, subst, ltb-false}
use Rattle.std.specs.Prelude.{All, Contains}
use Rattle.std.proofs.lemmas.List.Elements.{All-nil, All-cons, All-push, All-weaker, All-contains, All-contains_itself, Contains-append_right}
use Rattle.neg_codec.specs.declared.CodecFault.TheVariants as fault
use Rattle.item_key.specs.declared.Item.{Item}
use Rattle.neg_codec.specs.Ranges.{Span}
use Rattle.neg_codec.specs.Reading.{longest, versioned_at, message_at}
use Rattle.neg_codec.specs.Text.{Spells}
use Rattle.neg_responder.specs.Reply.{Replies}
use Rattle.neg_session.specs.Exchange.{Exchange, exchange, gained}
use Rattle.neg_session.specs.Explaining.{IsExplained, AnswersBy}
use Rattle.neg_session.specs.Asking.{Linked, Chained}
use Rattle.neg_session.specs.Local.{Local, IsAnswered, Keeps, RollExplains}

too_long : (query : List ℕ) → nat_lt longest (length query) ≡ true → message_at query ≡ Err fault.TooLong
unfolding message_at
too_long query e = ap (λ t. if t then Err fault.TooLong else versioned_at query) e

pub answered_by : (limit : ℕ) (b : List Item) (query reply : List ℕ)
    → ((q : List Span) → length query ≤ longest → Spells query q → Replies limit b q reply)
    → (message_at query ≡ Err fault.TooLong → ⊥) → AnswersBy limit b (exchange query reply)
answered_by limit b query reply replies short q spells = go (nat_lt longest (length query)) refl
  where
    go : (t : Bool) → nat_lt longest (length query) ≡ t → Replies limit b q reply
    go true e = absurd (short (too_long query e))
    go false e = replies q (ltb-false longest (length query) e) spells

-- a question and its reply are explained by the list
explained : (limit : ℕ) (b : List Item) (e : Exchange) (q : List Span) → Spells e.asked q → Replies limit b q e.answered → IsExplained b e
explained limit b e q spells r = record { asked = q; answered = r.0; asks = spells; answers = r.1; follows = r.2.follows }

pub keeps_none : (p q : Local) → q.roll ≡ p.roll → q.limit ≡ p.limit → q.log ≡ p.log → Keeps p q
keeps_none p q roll limit log = record {
  roll = roll;
  limit_is = limit;
  answers = λ h. subst (λ (n : ℕ). All (AnswersBy n q.roll) q.log) (sym limit) (subst (λ (b : List Item). All (AnswersBy p.limit b) q.log) (sym roll) (subst (λ (es : List Exchange). All (AnswersBy p.limit p.roll) es) (sym log) h));
  pairs = λ h. subst (λ (n : ℕ). All (IsAnswered n) q.log) (sym limit) (subst (λ (es : List Exchange). All (IsAnswered p.limit) es) (sym log) h);
}

pub keeps_one : (p q : Local) (e : Exchange) → q.roll ≡ p.roll → q.limit ≡ p.limit → q.log ≡ p.log ++ e ∷ [] → AnswersBy p.limit p.roll e → IsAnswered p.limit e → Keeps p q
keeps_one p q e roll limit log new answered = record {
  roll = roll;
  limit_is = limit;
  answers = λ h. subst (λ (n : ℕ). All (AnswersBy n q.roll) q.log) (sym limit) (subst (λ (b : List Item). All (AnswersBy p.limit b) q.log) (sym roll)
      (subst (λ (es : List Exchange). All (AnswersBy p.limit p.roll) es) (sym log) (All-push (AnswersBy p.limit p.roll) p.log e h new)));
  pairs = λ h. subst (λ (n : ℕ). All (IsAnswered n) q.log) (sym limit)
      (subst (λ (es : List Exchange). All (IsAnswered p.limit) es) (sym log) (All-push (IsAnswered p.limit) p.log e h answered));
}

IsAsked : Exchange → Type 0
IsAsked e = (q : List Span) × Spells e.asked q

linked_asked : (limit : ℕ) (own : List Item) (e : Exchange) (es : List Exchange) → Linked limit own e es → All IsAsked es
unfolding IsAsked
linked_asked limit own e [] l = All-nil IsAsked
linked_asked limit own e (f ∷ fs) l = All-cons IsAsked f fs (l.0.asked, l.0.spelled) (linked_asked limit own f fs l.1)

chained_asked : (limit : ℕ) (own : List Item) (es : List Exchange) → Chained limit own es → All IsAsked es
unfolding IsAsked
chained_asked limit own [] l = All-nil IsAsked
chained_asked limit own (e ∷ es) l = All-cons IsAsked e es (l.0.asked, l.0.spelled) (linked_asked limit own e es l.1)

all_back : {X : Type 0} (P : X → Type 0) → (xs ys : List X) → All P (xs ++ ys) → All P ys
all_back P xs ys h = All-weaker (Contains ys) P (λ x m. All-contains P (xs ++ ys) x h (Contains-append_right xs ys x m)) ys (All-contains_itself ys)

pub local_explains : RollExplains
unfolding IsAsked
local_explains most limit own b old new roll answers appended chained = record {
  roll = roll;
  each = All-weaker (Contains (gained old new)) (IsExplained b)
      (λ e m. let q = All-contains IsAsked (gained old new) e (chained_asked limit own (gained old new) chained) m in explained most b e q.0 q.1 (all_answers e m q.0 q.1))
      (gained old new) (All-contains_itself (gained old new));
}
  where
    all_answers : (e : Exchange) → Contains (gained old new) e → AnswersBy most b e
    all_answers e m = All-contains (AnswersBy most b) (gained old new) e
        (all_back (AnswersBy most b) old (gained old new) (subst (λ (es : List Exchange). All (AnswersBy most b) es) appended answers)) m
