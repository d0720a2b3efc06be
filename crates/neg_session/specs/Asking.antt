-- Which questions a session with the own roll asks.
use Rattle.std.specs.Prelude.{◌≤◌, List, [], ◌∷◌, ℕ, length, All}
use Rattle.item_key.specs.declared.Item.{Item}
use Rattle.neg_codec.specs.Ranges.{Span, stretches, IsSkip}
use Rattle.neg_codec.specs.Text.{Spells}
use Rattle.item_roll.specs.Truth.{IsTrueOf}
use Rattle.neg_draft.specs.Coverage.{NoneEmpty, SkipsJoined}
use Rattle.neg_initiator.specs.Session.{HasOpen, NotAskedAgain}
use Rattle.neg_session.specs.Exchange.{Exchange}

-- The first: a message no longer than the limit, without an empty range and with its Skips joined, whose stretches are fingerprints and lists of ids, true of
-- the own roll.
pub record Begins (limit : ℕ) (own : List Item) (question : List ℕ) : Type 0 where
  pub asked : List Span
  pub spelled : Spells question asked
  pub short : length question ≤ limit
  pub truth : All (IsTrueOf own) (stretches asked)
  pub none_empty : NoneEmpty asked
  pub skips_joined : SkipsJoined asked
  pub skips_nothing : All (λ s. IsSkip s → ⊥) (stretches asked)

-- A later one: a message no longer than the limit, without an empty range and with its Skips joined, that asks something. What it doesn't skip is true of the
-- own roll, and it skips what the answer before it told or showed to be the same, but for where it was cut.
pub record Resumes (limit : ℕ) (own : List Item) (before : Exchange) (question : List ℕ) : Type 0 where
  pub answered : List Span
  pub asked : List Span
  pub answers : Spells before.answered answered
  pub spelled : Spells question asked
  pub short : length question ≤ limit
  pub truth : All (IsTrueOf own) (stretches asked)
  pub none_empty : NoneEmpty asked
  pub skips_joined : SkipsJoined asked
  pub asks : HasOpen asked
  pub not_again : NotAskedAgain limit (length question) own answered asked

-- each question after the first resumes from the pair before it
abbrev pub Linked : ℕ → List Item → Exchange → List Exchange → Type 0
Linked limit own e [] = Unit {0}
Linked limit own e (f ∷ fs) = Resumes limit own e f.asked × Linked limit own f fs

-- the questions of one session
abbrev pub Chained : ℕ → List Item → List Exchange → Type 0
Chained limit own [] = Unit {0}
Chained limit own (e ∷ es) = Begins limit own e.asked × Linked limit own e es

-- a question that may come after the first pair and then others
abbrev pub MayResume : ℕ → List Item → Exchange → List Exchange → List ℕ → Type 0
MayResume limit own e [] question = Resumes limit own e question
MayResume limit own e (f ∷ fs) question = MayResume limit own f fs question

-- a question that may come next
abbrev pub MayAsk : ℕ → List Item → List Exchange → List ℕ → Type 0
MayAsk limit own [] question = Begins limit own question
MayAsk limit own (e ∷ es) question = MayResume limit own e es question
