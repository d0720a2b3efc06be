-- What more lines tell.
use Rattle.std.proofs.Common.{◌≡◌, ◌≢◌, ℕ, zero, suc, ◌+◌, ◌<◌, ◌≤◌, false, List, [], ◌∷◌, ◌++◌, length, take, drop, Some, slice_get, inl, inr, refl, ap, sym, subst, arith, ◌∙◌}
use Rattle.std.proofs.lemmas.Option.{slice_get_within}
use Rattle.nostr_event.specs.EventView.{EventView}
use Rattle.event_table.specs.Events.{has_id, with_event, with_events, EndsRightly}
use Rattle.event_file.specs.Lines.{IsEventOf, LineTells, LinesTell, WrongBehind, HoldEvents}

-- ---- behind the first lines

no_lines : (k : ℕ) (old new : List EventView) → LinesTell (take k []) old new → new ≡ old
no_lines zero old new told = told
no_lines (suc k) old new told = told

pub told_more : (all n k : ℕ) (lines : List (List ℕ)) (old next new : List EventView) → all ≡ n + k → LinesTell (take n lines) old next → LinesTell (take k (drop n lines)) next new → LinesTell (take all lines) old new
told_more all zero k lines old next new is h told =
    let same : k ≡ all = omega (arith, is) in
    subst (λ j. LinesTell (take j lines) old new) same (subst (λ (from : List EventView). LinesTell (take k lines) from new) h told)
told_more zero (suc n) k lines old next new is h told = absurd (omega arith)
told_more (suc all) (suc n) k [] old next new is h told = no_lines k next new told ∙ h
told_more (suc all) (suc n) k (line ∷ lines) old next new is h told = (h.0, h.1, told_more all n k lines h.0 next new (omega arith) h.2 told)

pub told_behind : (n : ℕ) (lines rest : List (List ℕ)) (old next new : List EventView) → rest ≡ drop n lines → LinesTell (take n lines) old next → LinesTell rest next new → LinesTell lines old new
told_behind zero lines rest old next new e h told =
    subst (λ (from : List EventView). LinesTell lines from new) h (subst (λ (ls : List (List ℕ)). LinesTell ls next new) e told)
told_behind (suc n) [] rest old next new e h told = subst (λ (ls : List (List ℕ)). LinesTell ls next new) e told ∙ h
told_behind (suc n) (line ∷ lines) rest old next new e h told = (h.0, h.1, told_behind n lines rest h.0 next new e h.2 told)

pub wrong_more : (most all n k : ℕ) (lines : List (List ℕ)) (old next new : List EventView) → all ≡ n + k → LinesTell (take n lines) old next → WrongBehind most k (drop n lines) next new → WrongBehind most all lines old new
wrong_more most all zero k lines old next new is h wrong =
    let same : k ≡ all = omega (arith, is) in
    subst (λ j. WrongBehind most j lines old new) same (subst (λ (from : List EventView). WrongBehind most k lines from new) h wrong)
wrong_more most all (suc n) k [] old next new is h wrong = absurd wrong
wrong_more most zero (suc n) k (line ∷ lines) old next new is h wrong = absurd (omega arith)
wrong_more most (suc all) (suc n) k (line ∷ lines) old next new is h wrong = (h.0, h.1, wrong_more most all n k lines h.0 next new (omega arith) h.2 wrong)

-- ---- lines that hold events

pub hold_more : (lines middle rest : List (List ℕ)) (events : List EventView) (e : EventView) → HoldEvents lines events middle → HoldEvents middle (e ∷ []) rest → HoldEvents lines (events ++ e ∷ []) rest
hold_more lines middle rest [] e h more = subst (λ (ls : List (List ℕ)). HoldEvents ls (e ∷ []) rest) h more
hold_more [] middle rest (x ∷ events) e h more = absurd h
hold_more (line ∷ lines) middle rest (x ∷ events) e h more = (h.0, h.1, hold_more lines middle rest events e h.2 more)

pub held_rest : (lines rest : List (List ℕ)) (events : List EventView) → HoldEvents lines events rest → rest ≡ drop (length events) lines
held_rest lines rest [] h = h
held_rest [] rest (e ∷ events) h = absurd h
held_rest (line ∷ lines) rest (e ∷ events) h = held_rest lines rest events h.2

tells : (line : List ℕ) (e : EventView) (old : List EventView) → line ≢ [] → IsEventOf line e → LineTells line old (with_event e old)
tells [] e old some is = absurd (some refl)
tells (b ∷ bs) e old some is = (e, is, refl)

pub held_tell : (n : ℕ) (lines rest : List (List ℕ)) (events old : List EventView) → HoldEvents lines events rest → n ≤ length events → LinesTell (take n lines) old (with_events (take n events) old)
held_tell zero lines rest events old h le = refl
held_tell (suc n) lines rest [] old h le = absurd (omega arith)
held_tell (suc n) [] rest (e ∷ events) old h le = absurd h
held_tell (suc n) (line ∷ lines) rest (e ∷ events) old h le = (with_event e old, tells line e old h.0 h.1, held_tell n lines rest events (with_event e old) h.2 (omega arith))

-- there is no room for one of the events
pub held_wrong : (most n : ℕ) (lines rest : List (List ℕ)) (events old : List EventView) (e : EventView) → HoldEvents lines events rest → slice_get events n ≡ Some e → has_id e.id (with_events (take n events) old) ≡ false
    → length (with_events (take n events) old) ≡ most → WrongBehind most n lines old (with_events (take n events) old)
held_wrong most n lines rest [] old e h at none full = absurd (cc at)
held_wrong most n [] rest (x ∷ events) old e h at none full = absurd h
held_wrong most zero (line ∷ lines) rest (x ∷ events) old e h at none full =
    let same : x ≡ e = cc at in
    ((h.0, inr (x, h.1, subst (λ (y : EventView). has_id y.id old ≡ false) (sym same) none, full)), refl)
held_wrong most (suc n) (line ∷ lines) rest (x ∷ events) old e h at none full = (with_event x old, tells line x old h.0 h.1, held_wrong most n lines rest events (with_event x old) e h.2 at none full)

-- ---- events that were put in at once

pub record WereTaken (most n : ℕ) (events old new : List EventView) : Type 0 where
  pub list : new ≡ with_events (take n events) old
  pub ends : EndsRightly most events n new

pub taken_wrong : (most n : ℕ) (lines rest : List (List ℕ)) (events old new : List EventView) → HoldEvents lines events rest → WereTaken most n events old new → n < length events → WrongBehind most n lines old new
taken_wrong most n lines rest events old new h taken lt = subst (WrongBehind most n lines old) (sym taken.list) (elim taken.ends [
  | inl all ↦ absurd (omega (arith, all, lt))
  | inr full ↦ held_wrong most n lines rest events old full.0 h full.1 (ap (has_id full.0.id) (sym taken.list) ∙ full.2) (ap length (sym taken.list) ∙ full.3)
])

pub taken_all : (most n : ℕ) (events old new : List EventView) → WereTaken most n events old new → length events ≤ n → n ≡ length events
taken_all most n events old new taken le = elim taken.ends [ inl all ↦ all | inr full ↦ absurd (omega (arith, slice_get_within events n full.0 full.1, le)) ]

pub taken_told : (most n : ℕ) (lines rest : List (List ℕ)) (events old new : List EventView) → HoldEvents lines events rest → WereTaken most n events old new → length events ≤ n
    → LinesTell (take n lines) old new × (rest ≡ drop n lines)
taken_told most n lines rest events old new h taken le =
    let all = taken_all most n events old new taken le in (
      subst (LinesTell (take n lines) old) (sym taken.list) (held_tell n lines rest events old h (omega (arith, all))),
      held_rest lines rest events h ∙ ap (λ k. drop k lines) (sym all),
    )
