-- What became of events, one by one.
use Rattle.std.proofs.Common.{◌≡◌, ℕ, zero, suc, ◌+◌, ◌<◌, false, List, [], ◌∷◌, ◌++◌, length, get_or, take, drop, drop-cons, add-one, map, Option, None, Some, Result, Ok, Err, inl, inr, refl, sym, ap, ◌∙◌, subst, append-nil, append_assoc}
use Rattle.std.proofs.lemmas.List.{map-append, take_more}
use Rattle.std.specs.Prelude.{OnErr, IfSome, option_to_list, codes}
use Rattle.std.specs.Arc.{arc_value}
use Rattle.std.specs.declared.alloc.Global.{Global}
use Rattle.std.specs.declared.sync.Arc.{Arc}
use Rattle.event_store.specs.Events.{Placing, placings}
use Rattle.item_key.specs.declared.Id.{Id}
use Rattle.nostr_event.specs.EventView.{EventView}
use Rattle.nostr_wire.specs.Forms.{Form}
use Rattle.relay_core.specs.Faults.{GoesOnBy}
use Rattle.relay_core.specs.Kept.{Kept}
use Rattle.relay_core.specs.Messages.{okay}
use Rattle.ws_serve.specs.Answering.{TellsOf, SaysOf}
use Rattle.ws_serve.specs.Frames.{spoken, spoken_one}
use Rattle.ws_serve.specs.Gathered.{ids_of, Follow, MaySayOf, SaysOfAll, SaysOfSome}
use Rattle.ws_serve.specs.Traffic.{Traffic, MaySay}
use Rattle.ws_serve.proofs.Beginning.{some_longer}
use Rattle.ws_serve.proofs.Gathering.{of_more, of_begun}
use Rattle.ws_serve.proofs.Going.{some_of_may}
use Rattle.ws_serve.proofs.Putting.{rests_self}

-- ---- one event

-- nothing was said of it
pub untold : (id : Id) (t : Traffic) → MaySayOf id t t
untold id t = (okay id false (codes "error: out of memory"), inr (inr (inl refl)), inl (rests_self t))

pub refused_may : {T E : Type 0} (r : Result T E) (id : Id) (m told : Form) (a b : Traffic) → m ≡ told → TellsOf id told → OnErr r (MaySay a b (spoken_one m)) → OnErr r (MaySayOf id a b)
refused_may (Ok v) id m told a b same t h = tt
refused_may (Err e) id m told a b same t h = (m, subst (TellsOf id) (sym same) t, h)

pub kept_same : (k k2 : Option Kept) → GoesOnBy (λ old new. new ≡ old) k k2 → k2 ≡ k
kept_same (Some old) (Some new) h = ap (λ (z : Kept). Some z) h
kept_same (Some old) None h = absurd h
kept_same None k2 h = absurd h

-- ---- several

pub placed_follow : (n : ℕ) (es old new : List EventView) → Follow (map (λ (p : Placing). p.id) (placings (take n es) old new)) (ids_of es)
placed_follow zero es old new = tt
placed_follow (suc n) [] old new = tt
placed_follow (suc n) (e ∷ es) old new = (refl, placed_follow n es _ new)

-- the next one
follow_cases : (o : Option Placing) (all rest : List Placing) (e : EventView) (es : List EventView) → all ≡ option_to_list o ++ rest → (o ≡ None → rest ≡ []) → Follow (map (λ (p : Placing). p.id) all) (ids_of (e ∷ es))
    → IfSome o (λ p. p.id ≡ e.id) × Follow (map (λ (p : Placing). p.id) rest) (ids_of es)
follow_cases None all rest e es split none h =
    (tt, subst (λ (z : List Placing). Follow (map (λ (p : Placing). p.id) z) (ids_of es)) (sym (none refl)) tt)
follow_cases (Some p) all rest e es split none h =
    let f : Follow (map (λ (q : Placing). q.id) (p ∷ rest)) (ids_of (e ∷ es)) = subst (λ (z : List Placing). Follow (map (λ (q : Placing). q.id) z) (ids_of (e ∷ es))) split h in
    (f.0, f.1)

pub follow_next : (o : Option Placing) (all rest : List Placing) (xs : List (Arc EventView Global)) (x : Arc EventView Global) (i : ℕ) → i < length xs → x ≡ get_or xs i x → all ≡ option_to_list o ++ rest → (o ≡ None → rest ≡ [])
    → Follow (map (λ (p : Placing). p.id) all) (ids_of (map arc_value (drop i xs)))
    → IfSome o (λ p. p.id ≡ (arc_value x).id) × Follow (map (λ (p : Placing). p.id) rest) (ids_of (map arc_value (drop (i + 1) xs)))
follow_next o all rest xs x i lt is split none h =
    let parts : drop i xs ≡ x ∷ drop (i + 1) xs = drop-cons xs i x lt ∙ ap (λ (z : Arc EventView Global). z ∷ drop (suc i) xs) (sym is) ∙ ap (λ (n : ℕ). x ∷ drop n xs) (sym (add-one i)) in
    let cut : Follow (map (λ (p : Placing). p.id) all) (ids_of (map arc_value (x ∷ drop (i + 1) xs))) =
    subst (λ (z : List (Arc EventView Global)). Follow (map (λ (p : Placing). p.id) all) (ids_of (map arc_value z))) parts h in
    follow_cases o all rest (arc_value x) (map arc_value (drop (i + 1) xs)) split none cut

-- one id more
pub ids_next : {A : Type 0} (f : A → Id) (all : List A) (one : A) (xs : List (Arc EventView Global)) (x : Arc EventView Global) (i : ℕ) → i < length xs → x ≡ get_or xs i x → f one ≡ (arc_value x).id
    → map f all ≡ ids_of (map arc_value (take i xs)) → map f (all ++ one ∷ []) ≡ ids_of (map arc_value (take (i + 1) xs))
ids_next f all one xs x i lt is same h =
    let more : take (i + 1) xs ≡ take i xs ++ x ∷ [] = take_more xs i x lt ∙ ap (λ (z : Arc EventView Global). take i xs ++ z ∷ []) (sym is) in
    let ids : ids_of (map arc_value (take (i + 1) xs)) ≡ ids_of (map arc_value (take i xs)) ++ (arc_value x).id ∷ [] =
    ap (λ (z : List (Arc EventView Global)). ids_of (map arc_value z)) more ∙ ap (λ (z : List EventView). ids_of z) (map-append arc_value (take i xs) (x ∷ [])) ∙ map-append (λ (e : EventView). e.id) (map arc_value (take i xs)) (arc_value x ∷ []) in
    map-append f all (one ∷ []) ∙ ap (λ (z : List Id). z ++ f one ∷ []) h ∙ ap (λ (z : Id). ids_of (map arc_value (take i xs)) ++ z ∷ []) same ∙ sym ids

-- ---- their answers

pub of_more_in : {A : Type 0} (f : A → Id) (seen : List A) (one : A) (a b c : Traffic) → SaysOfAll (map f seen) a b → SaysOf (f one) b c → SaysOfAll (map f (seen ++ one ∷ [])) a c
of_more_in f seen one a b c h k =
    subst (λ (z : List Id). SaysOfAll z a c) (sym (map-append f seen (one ∷ []))) (of_more (map f seen) (f one) a b c h k)

pub split_in : {A : Type 0} (f : A → Id) (m : A) (seen all rest : List A) (ids : List Id) → all ≡ m ∷ rest → ids ≡ map f seen ++ map f all → ids ≡ map f (seen ++ m ∷ []) ++ map f rest
split_in f m seen all rest ids split h =
    h ∙ ap (λ z. map f seen ++ map f z) split ∙ sym (append_assoc (map f seen) (f m ∷ []) (map f rest)) ∙ ap (λ (z : List Id). z ++ map f rest) (sym (map-append f seen (m ∷ [])))

pub of_begun_in : {A : Type 0} (f : A → Id) (m : A) (seen rest : List A) (ids : List Id) (a b c : Traffic) → ids ≡ map f (seen ++ m ∷ []) ++ map f rest → SaysOfAll (map f seen) a b → MaySayOf (f m) b c → SaysOfSome ids a c
of_begun_in f m seen rest ids a b c split h k =
    let e : ids ≡ (map f seen ++ f m ∷ []) ++ map f rest = split ∙ ap (λ (z : List Id). z ++ map f rest) (map-append f seen (m ∷ [])) in
    of_begun (map f seen) (f m) (map f rest) ids a b c e h (k.0, k.1, some_longer b c (spoken_one k.0) [] (some_of_may b c (spoken_one k.0) k.2))
