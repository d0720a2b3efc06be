-- What is put over a WebSocket on which messages wait that aren't written yet.
use Rattle.std.proofs.Common.{◌≡◌, ℕ, List, [], ◌∷◌, ◌++◌, map, drop, Option, None, Result, Ok, Err, refl, sym, ap, ◌∙◌, append_assoc, append-nil, subst}
use Rattle.std.specs.Prelude.{IfOk}
use Rattle.nostr_wire.specs.declared.messages.FromRelay.{FromRelay}
use Rattle.nostr_wire.specs.Forms.{Form, relay_form}
use Rattle.websocket.specs.declared.protocol.config.Role.{Role}
use Rattle.websocket.specs.declared.protocol.config.WebSocketConfig.{WebSocketConfig}
use Rattle.wire.specs.declared.heard.Heard.{Heard}
use Rattle.wire.specs.Line.{Line, Fills, Hands, fresh, talk_of}
use Rattle.wire.specs.Turns.{HearsApart}
use Rattle.ws_serve.specs.Frames.{spoken, spoken_one}
use Rattle.ws_serve.specs.Outbox.{held, Writes, Passes}
use Rattle.ws_serve.proofs.Framing.{spoken_more}

module _ {S : Type 0} where
  -- no message waits
  pub held_none : (l : Line S) → held l [] ≡ l
  held_none l = ap (λ (z : List ℕ). record l { output = z }) (append-nil l.output)

  pub held_fresh : (l : Line S) (role : Role) (config : WebSocketConfig) → talk_of l ≡ fresh role config [] → talk_of (held l []) ≡ fresh role config []
  held_fresh l role config h = ap talk_of (held_none l) ∙ h

  -- bytes are put where no message waits
  pub held_bytes : (l m : Line S) (later : List Form) (bytes : List ℕ) → later ≡ [] → m ≡ record l { output = l.output ++ bytes }
      → held m later ≡ record (held l later) { output = (held l later).output ++ bytes }
  held_bytes l m later bytes none h =
      rw (none, h) (held_none (record l { output = l.output ++ bytes }) ∙ ap (λ (z : List ℕ). record l { output = z ++ bytes }) (sym (append-nil l.output)))

  -- a message more waits
  pub held_more : (l : Line S) (later : List FromRelay) (m : FromRelay)
      → held l (map relay_form (later ++ m ∷ [])) ≡ record (held l (map relay_form later)) { output = (held l (map relay_form later)).output ++ spoken_one (relay_form m) }
  held_more l later m =
      ap (λ (z : List ℕ). record l { output = z }) (ap (λ z. l.output ++ z) (spoken_more later m) ∙ sym (append_assoc l.output (spoken (map relay_form later)) (spoken_one (relay_form m))))

  -- the first of them is written
  pub held_first : (l m : Line S) (first : Form) (left : List Form) → m ≡ record l { output = l.output ++ spoken_one first } → held m left ≡ held l (first ∷ left)
  held_first l m first left h =
      rw h (ap (λ (z : List ℕ). record l { output = z }) (append_assoc l.output (spoken_one first) (spoken left)))

  -- ---- what goes on beside messages that wait

  pub fills_held : (remaining : S → Option (List ℕ)) (l m : Line S) (later : List Form) → Fills remaining l m → Fills remaining (held l later) (held m later)
  fills_held remaining l m later f = (f.0, (f.1.0, f.1.1, f.1.2, ap (λ z. z ++ spoken later) f.1.3, f.1.4, f.1.5))

  pub hears_held : (l m : Line S) (later : List Form) (before after : List ℕ) (h : Heard) → HearsApart l m before after h → HearsApart (held l later) (held m later) before after h
  hears_held l m later before after Heard.Nothing k = (ap (λ (x : Line S). held x later) k.0, k.1, k.2)
  hears_held l m later before after (Heard.Text s) k = (k.0, (k.1.0, k.1.1, k.1.2, ap (λ (x : Line S). held x later) k.1.3))
  hears_held l m later before after Heard.Binary k = (k.0, (k.1.0, k.1.1, k.1.2, ap (λ (x : Line S). held x later) k.1.3))
  hears_held l m later before after Heard.Other k = (k.0, (k.1.0, k.1.1, k.1.2, ap (λ (x : Line S). held x later) k.1.3))
  hears_held l m later before after Heard.Close k = (k.0, (k.1.0, k.1.1, k.1.2, ap (λ (x : Line S). held x later) k.1.3))
  hears_held l m later before after Heard.Part k = (k.0, (k.1.0, k.1.1, k.1.2, ap (λ (x : Line S). held x later) k.1.3))

  pub hears_held_if : {E : Type 0} (r : Result Heard E) (l m : Line S) (later : List Form) (before after : List ℕ) → IfOk r (HearsApart l m before after) → IfOk r (HearsApart (held l later) (held m later) before after)
  hears_held_if (Ok h) l m later before after k = hears_held l m later before after h k
  hears_held_if (Err e) l m later before after k = tt

  -- ---- the stream takes more

  pub passes_self : (l : Line S) → Passes l l
  passes_self l = (refl, refl, refl, refl)

  pub passes_chain : (k l m : Line S) → Passes k l → Passes l m → Passes k m
  passes_chain k l m p q = (q.0 ∙ p.0, q.1 ∙ p.1, q.2 ∙ p.2, q.3 ∙ p.3)

  pub passes_hands : (contents : S → Option (List ℕ)) (l m : Line S) (later : List Form) → Hands contents l m → Passes (held l later) (held m later)
  passes_hands contents l m later h = (
    rw (h.1.0, h.1.1) (append_assoc l.taken h.0 (m.output ++ spoken later) ∙ ap (λ z. l.taken ++ z) (sym (append_assoc h.0 m.output (spoken later)))),
    h.1.2,
    h.1.3,
    h.1.4,
  )

  pub passes_writes : (k l m : Line S) (later left : List Form) → Passes k (held l later) → Writes l later m left → Passes k (held m left)
  passes_writes k l m later left p w = subst (λ (x : Line S). Passes k x) (sym w) p
