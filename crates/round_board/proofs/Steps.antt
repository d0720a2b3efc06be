-- A step of a lane on a word agrees with the round's event.
use Rattle.std.proofs.Common.{◌≡◌, ℕ, ◌+◌, ◌<◌, ◌==◌, ◌/◌, ◌%◌, Bool, true, false, cond, List, length, None, refl, sym, ap, ◌∙◌, arith, eq-eqb}
use Rattle.std.specs.Prelude.{slice_index}
use Rattle.std.proofs.lemmas.Bool.{lt-ltb, le-ltb}
use Rattle.fetch_plan.specs.declared.cell.Cell.TheVariants.{Free, Held, Done, Missed}
use Rattle.claim_board.specs.Rules.{word, cell_of, held_by}
use Rattle.claim_board.proofs.Words.{cell_of_held, cell_of_done, cell_of_missed}
use Rattle.round_core.specs.declared.events.RoundEvent.TheVariants.{Claim}
use Rattle.round_core.specs.declared.events.Answer.{Answer}
use Rattle.round_core.specs.declared.events.Answer.TheVariants.{Won, Lost, Finished, MissedIt, Released}
use Rattle.round_core.specs.History.{changes, left_cell}
use Rattle.round_core.specs.Legal.{barred, or_refused, claim_answer, end_answer}
use Rattle.round_board.specs.Steps.{ClaimAgrees, EndsAgree, StepsAgree}

-- a lane of the cell's relay is not barred from it
none_bars : (relays lanes : List ℕ) (first w i : ℕ) → w < length lanes → i < length relays → slice_index lanes w ≡ slice_index relays i
    → barred true lanes first (first + length relays) (slice_index relays i) w (first + i) ≡ None
none_bars relays lanes first w i lane cell same =
    rw (lt-ltb w (length lanes) lane, le-ltb (first + i) first (omega arith), lt-ltb (first + i) (first + length relays) (omega (arith, cell)), eq-eqb (slice_index lanes w) (slice_index relays i) same) refl

-- what a claim is answered, by what the word says
claim_told : (free held done : Bool) (w : ℕ) → claim_answer (cond free Free (cond held (Held w) (cond done Done Missed))) ≡ cond free Won (Lost (cond free Free (cond held (Held w) (cond done Done Missed))))
claim_told true held done w = refl
claim_told false true done w = refl
claim_told false false true w = refl
claim_told false false false w = refl

claim_left : (free : Bool) (i w n : ℕ) → cond (changes i (Claim w i) (cond free Won (Lost (cell_of n)))) (left_cell (Claim w i) (cond free Won (Lost (cell_of n)))) (cell_of n) ≡ cell_of (cond free (held_by w) n)
claim_left true i w n = rw (eq-eqb i i refl) (sym (cell_of_held w))
claim_left false i w n = refl

module _ (relays lanes : List ℕ) (first w i n : ℕ) (none : barred true lanes first (first + length relays) (slice_index relays i) w (first + i) ≡ None) where
  answered : (a b : Answer) → a ≡ b → or_refused (barred true lanes first (first + length relays) (slice_index relays i) w (first + i)) a ≡ b
  answered a b same = ap (λ o. or_refused o a) none ∙ same

  claim_agrees : ClaimAgrees relays lanes first w i n
  claim_agrees = record {
    answer = answered _ _ (claim_told (n == 0) (n % 4 == 1) (n % 4 == 2) (n / 4));
    cell = claim_left (n == 0) (first + i) w n;
  }

  ended : (a : Answer) → n ≡ held_by w → end_answer (cell_of n) w a ≡ a
  ended a is = ap (λ c. end_answer c w a) (ap cell_of is ∙ cell_of_held w) ∙ rw (eq-eqb w w refl) refl

  ends_agree : n ≡ held_by w → EndsAgree relays lanes first w i n
  ends_agree is = record {
    finish = record { answer = answered _ _ (ended Finished is); cell = rw (eq-eqb (first + i) (first + i) refl) (sym (cell_of_done w)) };
    miss = record { answer = answered _ _ (ended MissedIt is); cell = rw (eq-eqb (first + i) (first + i) refl) (sym (cell_of_missed w)) };
    release = record { answer = answered _ _ (ended Released is); cell = rw (eq-eqb (first + i) (first + i) refl) refl };
  }

pub steps_agree : StepsAgree
steps_agree relays lanes s r seat place e at first i low mine =
    let fits = r.fits seat place e at in
    let none = none_bars relays lanes first e.lane i fits.lane low (sym fits.relay ∙ mine) in
    (claim_agrees relays lanes first e.lane i (word s.words i) none, λ held. ends_agree relays lanes first e.lane i (word s.words i) none ((r.tells seat place e at i).held.0 held))
