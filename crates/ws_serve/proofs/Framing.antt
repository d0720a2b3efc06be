-- One more frame.
use Rattle.std.proofs.Common.{◌≡◌, ℕ, List, [], ◌∷◌, ◌++◌, map, sym, ap, ◌∙◌, append_assoc, append-nil}
use Rattle.nostr_wire.specs.declared.messages.FromRelay.{FromRelay}
use Rattle.nostr_wire.specs.Forms.{relay_form}
use Rattle.ws_serve.specs.Frames.{spoken, spoken_one}
use Rattle.ws_serve.specs.Traffic.{Traffic, Says}
use Rattle.ws_serve.proofs.Putting.{says_both}

pub spoken_more : (ms : List FromRelay) (m : FromRelay) → spoken (map relay_form (ms ++ m ∷ [])) ≡ spoken (map relay_form ms) ++ spoken_one (relay_form m)
spoken_more [] m = append-nil (spoken_one (relay_form m))
spoken_more (x ∷ ms) m =
    ap (λ bytes. spoken_one (relay_form x) ++ bytes) (spoken_more ms m) ∙ sym (append_assoc (spoken_one (relay_form x)) (spoken (map relay_form ms)) (spoken_one (relay_form m)))

pub says_more : (ms : List FromRelay) (m : FromRelay) (a b c : Traffic) → Says a b (spoken (map relay_form ms)) → Says b c (spoken_one (relay_form m)) → Says a c (spoken (map relay_form (ms ++ m ∷ [])))
says_more ms m a b c h k = rw (spoken_more ms m) (says_both a b c (spoken (map relay_form ms)) (spoken_one (relay_form m)) h k)
