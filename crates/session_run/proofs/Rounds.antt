-- Later rounds, one put behind the others.
use Rattle.std.proofs.Common.{◌≡◌, ◌+◌, ◌-◌, ◌^◌, ◌<◌, ◌≤◌, ◌++◌, [], ◌∷◌, ◌∙◌, ℕ, List, Option, min, max, length, sym, ap, subst, refl, inl, inr, arith, flat_map}
use Rattle.std.proofs.lemmas.List.{append-nil}
use Rattle.std.proofs.lemmas.List.Sums.{sum_by_push}
use Rattle.std.proofs.lemmas.Grind.{flat_map-append}
use Rattle.std.specs.List.{sum_by, count_by, enumerate_from}
use Rattle.std.specs.Io.KnownBytes.{Appends}
use Rattle.item_key.specs.declared.Id.{Id}
use Rattle.sharing.specs.declared.TheConstants.{MOST_BASE}
use Rattle.sharing.specs.Bases.{base_of}
use Rattle.sharing.specs.Offers.{StandsFor}
use Rattle.fetch_plan.specs.Plan.{Planned, IsPlan}
use Rattle.fetch_plan.specs.declared.cell.Cell.{Cell}
use Rattle.mirror_core.specs.Next.{IsLeft, asked_of}
use Rattle.mirror_core.specs.LeftOver.{IsFailover}
use Rattle.session_run.specs.declared.fetching.Counts.{Counts}
use Rattle.session_run.specs.Lines.{round_text}
use Rattle.session_run.specs.Rounds.{Stage, CameOver, IsNext, GoOn, last_of, AreOver, AreCounted, capped, is_done, is_missed}
use Rattle.session_run.specs.Fetched.{rounds_text, IsFetched}
use Rattle.session_run.proofs.Written.{append_both}

abbrev pub Ended : Type 0
Ended = List Cell × Stage

-- ---- one more round

pub GoOn_push : (first : Stage) (rounds : List Ended) (cells : List Cell) (next : Stage)
    → GoOn first rounds → IsNext (last_of first rounds) cells next → 0 < length next.plan.gives → GoOn first (rounds ++ (cells, next) ∷ [])
GoOn_push first [] cells next goes is some = (is, some, tt)
GoOn_push first (r ∷ rounds) cells next goes is some = (goes.0, goes.1, GoOn_push r.1 rounds cells next goes.2 is some)

pub last_push : (first : Stage) (rounds : List Ended) (cells : List Cell) (next : Stage) → last_of first (rounds ++ (cells, next) ∷ []) ≡ next
last_push first [] cells next = refl
last_push first (r ∷ rounds) cells next = last_push r.1 rounds cells next

pub length_push : (rounds : List Ended) (r : Ended) → length (rounds ++ r ∷ []) ≡ length rounds + 1
length_push [] r = refl
length_push (q ∷ rounds) r = let e = length_push rounds r in omega arith

enumerate_push : (n : ℕ) (rounds : List Ended) (r : Ended) → enumerate_from n (rounds ++ r ∷ []) ≡ enumerate_from n rounds ++ (n + length rounds, r) ∷ []
enumerate_push n [] r = let e : n ≡ n + 0 = omega arith in ap {B = List (ℕ × Ended)} (λ k. (k, r) ∷ []) e
enumerate_push n (q ∷ rounds) r =
    let e : n + 1 + length rounds ≡ n + length (q ∷ rounds) = omega arith in
    ap {B = List (ℕ × Ended)} (λ zs. (n, q) ∷ zs) (enumerate_push (n + 1) rounds r ∙ ap (λ k. enumerate_from (n + 1) rounds ++ (k, r) ∷ []) e)

abbrev line : ℕ × Ended → List ℕ
line p = round_text p.0 p.1.1.plan

pub rounds_push : (rounds : List Ended) (r : Ended) → rounds_text (rounds ++ r ∷ []) ≡ rounds_text rounds ++ round_text (2 + length rounds) r.1.plan
rounds_push rounds r =
    ap (flat_map line) (enumerate_push 2 rounds r)
    ∙ flat_map-append line (enumerate_from 2 rounds) ((2 + length rounds, r) ∷ [])
    ∙ ap (λ l. rounds_text rounds ++ l) (append-nil (line (2 + length rounds, r)))

-- ---- what is known between two rounds

-- Later rounds were printed, the next one begins here and has this number, and so many ids were given and missed so far.
pub record IsAt (first here : Stage) (number : ℕ) (old new : Option (List ℕ)) (all : Counts) : Type 0 where
  pub rounds : List Ended
  pub follow : GoOn first rounds
  pub last_is : last_of first rounds ≡ here
  pub number_is : length rounds + 1 ≡ number
  pub given : all.given ≡ capped (sum_by (λ (r : Ended). count_by is_done r.0) rounds)
  pub missed : all.missed ≡ capped (sum_by (λ (r : Ended). count_by is_missed r.0) rounds)
  pub printed : Appends old new (rounds_text rounds)

-- before the first round ends
pub none_ended : (first : Stage) (old : Option (List ℕ)) (all : Counts) → all.given ≡ 0 → all.missed ≡ 0 → Appends old old [] → IsAt first first 1 old old all
none_ended first old all given missed printed = record {
  rounds = [];
  follow = tt;
  last_is = refl;
  number_is = refl;
  given = given;
  missed = missed;
  printed = printed;
}

-- What was counted before, and a round's own counts.
pub record AreBoth (before one both : Counts) : Type 0 where
  pub given : both.given ≡ min (before.given + one.given) (2 ^ 64 - 1)
  pub missed : both.missed ≡ min (before.missed + one.missed) (2 ^ 64 - 1)
  pub left : both.left ≡ one.left

capped_both : (a b n m t : ℕ) → a ≡ capped n → b ≡ m → t ≡ min (a + b) (2 ^ 64 - 1) → t ≡ capped (n + m)
capped_both a b n m t is same both = omega arith

-- a round that ended here, and the next one, which has ids to fetch and is printed
pub next_round : (first here : Stage) (number : ℕ) (old mid new : Option (List ℕ)) (before one both : Counts) (cells : List Cell) (next : Stage)
    → IsAt first here number old mid before → AreCounted cells one → AreBoth before one both → IsNext here cells next → 0 < length next.plan.gives
    → Appends mid new (round_text (number + 1) next.plan) → IsAt first next (number + 1) old new both
next_round first here number old mid new before one both cells next at counted sums is some line' =
    let follows : IsNext (last_of first at.rounds) cells next = subst (λ s. IsNext s cells next) (sym at.last_is) is in
    let n : number + 1 ≡ 2 + length at.rounds = let k = at.number_is in omega arith in
    record {
      rounds = at.rounds ++ (cells, next) ∷ [];
      follow = GoOn_push first at.rounds cells next at.follow follows some;
      last_is = last_push first at.rounds cells next;
      number_is = (let k = at.number_is in let l = length_push at.rounds (cells, next) in omega arith);
      given = rw (sum_by_push (λ (r : Ended). count_by is_done r.0) at.rounds (cells, next)) (capped_both before.given one.given _ _ both.given at.given counted.given sums.given);
      missed = rw (sum_by_push (λ (r : Ended). count_by is_missed r.0) at.rounds (cells, next)) (capped_both before.missed one.missed _ _ both.missed at.missed counted.missed sums.missed);
      printed = subst (λ (bs : List ℕ). Appends old new bs) (sym (rounds_push at.rounds (cells, next)))
          (append_both old mid new (rounds_text at.rounds) (round_text (2 + length at.rounds) next.plan) at.printed (subst (λ k. Appends mid new (round_text k next.plan)) n line'));
    }

-- the last round ended here
pub all_ended : (most : ℕ) (first here : Stage) (number : ℕ) (old new : Option (List ℕ)) (before one both : Counts) (cells : List Cell)
    → (at : IsAt first here number old new before) → AreCounted cells one → AreBoth before one both → length cells ≡ length here.plan.gives
    → CameOver here.plan.gives cells → AreOver most first at.rounds cells → IsFetched most first old new both
all_ended most first here number old new before one both cells at counted sums whole came over =
    record {
      rounds = at.rounds;
      cells = cells;
      all = record {
        follow = at.follow;
        whole = subst (λ (s : Stage). length cells ≡ length s.plan.gives) (sym at.last_is) whole;
        came = subst (λ (s : Stage). CameOver s.plan.gives cells) (sym at.last_is) came;
        over = over;
      };
      counted = record {
        given = capped_both before.given one.given _ _ both.given at.given counted.given sums.given;
        missed = capped_both before.missed one.missed _ _ both.missed at.missed counted.missed sums.missed;
        left = sums.left ∙ counted.left;
      };
      printed = at.printed;
    }

-- as many rounds as may be were made
pub as_many : (most : ℕ) (first here : Stage) (number : ℕ) (old new : Option (List ℕ)) (before : Counts) (cells : List Cell)
    → (at : IsAt first here number old new before) → most ≤ number → number ≤ max 1 most → AreOver most first at.rounds cells
as_many most first here number old new before cells at enough few = inl (omega (arith, at.number_is))

-- nothing was left for the next round
pub none_left : (most : ℕ) (first here : Stage) (number : ℕ) (old new : Option (List ℕ)) (before : Counts) (cells : List Cell) (next : Stage)
    → (at : IsAt first here number old new before) → number < most → IsNext here cells next → length next.plan.gives ≡ 0 → AreOver most first at.rounds cells
none_left most first here number old new before cells next at few is nothing =
    inr ((let k = at.number_is in omega arith), next, subst (λ s. IsNext s cells next) (sym at.last_is) is, nothing)

-- ---- what a later plan is made of

pub is_next : (offers later : List (Id × List ℕ)) (plan next : Planned) (cells : List Cell) (bases raised stopped : List ℕ)
    → length cells ≡ length plan.gives → CameOver plan.gives cells → IsPlan plan → bases ≡ plan.bases
    → ((r : ℕ) → base_of bases r ≤ MOST_BASE → base_of raised r ≡ min (base_of bases r + asked_of plan.gives cells r (length cells)) MOST_BASE)
    → StandsFor later (IsLeft offers plan.gives cells) → IsFailover raised stopped later next
    → IsNext (record { offers = offers; plan = plan }) cells (record { offers = later; plan = next })
is_next offers later plan next cells bases raised stopped whole came plan_ok same grows left planned =
    let over : next.bases ≡ raised = planned.planned.bases_same in
    record {
      whole = whole;
      came = came;
      grown = λ r.
          ap (λ bs. base_of bs r) over
          ∙ grows r (subst (λ (bs : List ℕ). base_of bs r ≤ MOST_BASE) (sym same) (plan_ok.bases_ok.small r))
          ∙ ap (λ bs. min (base_of bs r + asked_of plan.gives cells r (length cells)) MOST_BASE) same;
      left = left;
      stopped = stopped;
      planned = subst (λ (bs : List ℕ). IsFailover bs stopped later next) (sym over) planned;
    }
