-- Messages that are said one by one.
use Rattle.std.proofs.Common.{◌≡◌, false, List, [], ◌∷◌, ◌++◌, map, Option, Some, sym, ap, ◌∙◌, subst, append_assoc}
use Rattle.std.specs.Prelude.{option_to_list}
use Rattle.nostr_wire.specs.declared.messages.FromRelay.{FromRelay}
use Rattle.nostr_wire.specs.Forms.{relay_form}
use Rattle.relay_core.specs.Acknowledging.{acknowledges, AcknowledgeNone}

-- the next and what is left
pub next_none : (o : Option FromRelay) (m : FromRelay) (all rest : List FromRelay) → all ≡ option_to_list o ++ rest → o ≡ Some m → AcknowledgeNone (map relay_form all)
    → (acknowledges (relay_form m) ≡ false) × AcknowledgeNone (map relay_form rest)
next_none o m all rest split is h =
    subst (λ ms. AcknowledgeNone (map relay_form ms)) (split ∙ ap (λ x. option_to_list x ++ rest) is) h

-- all of them again
pub next_in : {A : Type 0} (m : A) (seen all rest whole : List A) → all ≡ m ∷ rest → whole ≡ seen ++ all → whole ≡ (seen ++ m ∷ []) ++ rest
next_in m seen all rest whole split h = h ∙ ap (λ z. seen ++ z) split ∙ sym (append_assoc seen (m ∷ []) rest)
