-- What `recon` prints: the messages of a session and its results.
use Rattle.std.specs.Prelude.{ℕ, List, [], ◌∷◌, ◌++◌, length, codes, decimal}
use Rattle.std.specs.List.{flat_map}
use Rattle.hex.specs.Hex.{encode_lower}
use Rattle.item_key.specs.declared.Id.{Id}
use Rattle.neg_session.specs.Exchange.{Exchange}

-- a word, a space, the bytes in lower-case hex digits
abbrev pub message_text : List ℕ → List ℕ → List ℕ
message_text word bytes = word ++ 32 ∷ encode_lower bytes ++ 10 ∷ []

abbrev pub exchange_text : Exchange → List ℕ
exchange_text e = message_text (codes "ask") e.asked ++ message_text (codes "reply") e.answered

-- a word, a space, a number
abbrev pub count_text : List ℕ → ℕ → List ℕ
count_text word n = word ++ 32 ∷ decimal n ++ 10 ∷ []

-- how many ids, and a line for each behind its sign
abbrev pub ids_text : List ℕ → List ℕ → List Id → List ℕ
ids_text word sign ids = count_text word (length ids) ++ flat_map (λ id. message_text sign id.0) ids

unfoldable pub recon_text : List Exchange → List Id → List Id → ℕ → List ℕ
recon_text log need have trusted =
    flat_map exchange_text log ++ ids_text (codes "need") (codes "+") need
    ++ ids_text (codes "have") (codes "-") have ++ count_text (codes "trusted") trusted
