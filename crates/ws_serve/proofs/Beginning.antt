-- A beginning of what is to be put.
use Rattle.std.proofs.Common.{◌≡◌, ℕ, List, [], ◌∷◌, ◌++◌, map, Result, Ok, Err, refl, sym, ap, ◌∙◌, subst, append_assoc}
use Rattle.std.proofs.lemmas.List.{map-append}
use Rattle.std.specs.Prelude.{OnErr}
use mathlib.Core.List.{IsPrefix}
use Rattle.event_list.proofs.Prefixes.{prefix_trans}
use Rattle.nostr_wire.specs.declared.messages.FromRelay.{FromRelay}
use Rattle.nostr_wire.specs.Forms.{relay_form}
use Rattle.ws_serve.specs.Frames.{spoken, spoken_one}
use Rattle.ws_serve.specs.Steps.{SaysSome}
use Rattle.ws_serve.specs.Traffic.{Traffic, Says, MaySay}
use Rattle.ws_serve.proofs.Answering.{spoken_both}
use Rattle.ws_serve.proofs.Framing.{spoken_more}
use Rattle.ws_serve.proofs.Going.{prefix_under, some_of_may}

-- where a call fails
pub fails : {T E P : Type 0} (r : Result T E) → P → OnErr r P
fails (Ok v) p = tt
fails (Err e) p = p

pub says_some : (a b c : Traffic) (x y : List ℕ) → Says a b x → SaysSome b c y → SaysSome a c (x ++ y)
says_some a b c x y h s = (
  x ++ s.0,
  record {
    said = s.1.said ∙ ap (λ z. z ++ s.0) h.said ∙ append_assoc a.said x s.0;
    conn = s.1.conn ∙ h.conn;
    given = s.1.given ∙ h.given;
    left = s.1.left ∙ h.left;
    back = s.1.back ∙ h.back;
  },
  prefix_under x s.0 y s.2,
)

pub some_longer : (a b : Traffic) (x y : List ℕ) → SaysSome a b x → SaysSome a b (x ++ y)
some_longer a b x y s = (s.0, s.1, prefix_trans s.0 x (x ++ y) s.2 (y, refl))

-- one message more, or none of it
pub says_begun : (ms rest whole : List FromRelay) (m : FromRelay) (a b c : Traffic) → whole ≡ (ms ++ m ∷ []) ++ rest → Says a b (spoken (map relay_form ms)) → MaySay b c (spoken_one (relay_form m))
    → SaysSome a c (spoken (map relay_form whole))
says_begun ms rest whole m a b c split h may =
    let more : List ℕ = spoken (map relay_form rest) in
    let e : spoken (map relay_form whole) ≡ (spoken (map relay_form ms) ++ spoken_one (relay_form m)) ++ more =
    ap (λ (z : List FromRelay). spoken (map relay_form z)) split ∙ ap spoken (map-append relay_form (ms ++ m ∷ []) rest)
    ∙ spoken_both (map relay_form (ms ++ m ∷ [])) (map relay_form rest) ∙ ap (λ z. z ++ more) (spoken_more ms m) in
    let one = some_of_may b c (spoken_one (relay_form m)) may in
    let both = says_some a b c (spoken (map relay_form ms)) (spoken_one (relay_form m)) h one in
    subst (SaysSome a c) (sym e) (some_longer a c (spoken (map relay_form ms) ++ spoken_one (relay_form m)) more both)
