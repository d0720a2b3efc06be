-- Texts that pass the check, and texts that fail it.
use Rattle.std.proofs.Common.{◌≡◌, ℕ, List, Option, Some, None, ◌⊎◌, Ok, Err, inl, inr, refl, sym, ap, ◌∙◌, subst, arith}
use Rattle.item_key.specs.declared.Id.{Id}
use Rattle.sharing.specs.Bases.{base_in}
use Rattle.sharing.specs.Sharing.{Shows, NoneSmaller}
use Rattle.mirror_run.specs.declared.refusal.Refusal.{Refusal}
use Rattle.mirror_run.specs.declared.refusal.Refusal.TheVariants.{Read, Write, InputTooLong, NotUtf8, Line as AtLine, Session, Plan, TableFull, Memory as Lacking}
use Rattle.plan_check.specs.declared.faults.PlanFault.{PlanFault}
use Rattle.plan_check.specs.declared.faults.PlanFault.TheVariants.{Line, Order, NotOffered, Missing, Stranger, GroupTooSmall, Memory}
use Rattle.plan_check.specs.File.{File}
use Rattle.plan_check.specs.Verdict.{IsSharedOut, Judges, JudgesBy, gives_fault, OneAnswer}
use Rattle.plan_check.specs.PlanText.{IsTextOf}
use Rattle.plan_check.specs.PlanReading.{RoundTrip, OneFault}
use Rattle.plan_run.specs.Planned.{Passes, HasNumber, IsRefusedAs}
use Rattle.plan_run.specs.Jobs.{PlansTo, ChecksAs, IsUnchecked}
use Rattle.plan_run.specs.Laws.{PassesCheck, FailsCheck, LeastTextsPass}
use Rattle.plan_run.proofs.Failing.{no_file}

-- where a group shows a number, no sharing has a smaller busiest load
abbrev pub Pigeonhole : Type 0
Pigeonhole = (base : ℕ → ℕ) (offers : List (Id × List ℕ)) (group : List ℕ) (least : ℕ) → Shows base group offers least → NoneSmaller base offers least

one_load : (file : File) (a b : ℕ) → IsSharedOut file a → IsSharedOut file b → a ≡ b
one_load file a b s t = omega (arith, s.greatest.0 t.greatest.1.0, t.greatest.1.1, t.greatest.0 s.greatest.1.0, s.greatest.1.1)

module _ (round_trip : RoundTrip) (one_fault : OneFault) (one_answer : OneAnswer) (text : List ℕ) (made : File) (spelled : IsTextOf text made) where
  -- the text is of no other file
  same_file : (file : File) → IsTextOf text file → file ≡ made
  same_file file told =
      elim (round_trip text made (Ok file) spelled told) [
        | inl e ↦ cc
        | inr e ↦ absurd (cc)
      ]

  module _ (most : ℕ) (passes : Passes made most) where
    unrefused : (e : Refusal) → IsUnchecked text e → e ≡ Lacking
    unrefused Lacking h = refl
    unrefused (AtLine n fault) h = absurd (no_file one_fault text n fault h made spelled)
    unrefused (Plan number) h =
        let file : File = h.0 in
        let same : file ≡ made = same_file file h.1 in
        let fault : PlanFault = h.2.0 in
        let e : Err fault ≡ Ok most = one_answer made most (Err fault) spelled.ordered passes.shared passes.shows (subst (λ f. Judges f (Err fault)) same h.2.2) in
        absurd (cc)
    unrefused Read h = absurd h
    unrefused Write h = absurd h
    unrefused InputTooLong h = absurd h
    unrefused NotUtf8 h = absurd h
    unrefused (Session k) h = absurd h
    unrefused TableFull h = absurd h

    -- a text whose gives are shown to be least
    pub least_pass : Pigeonhole → PassesCheck text most
    least_pass pigeonhole = record {
      reads = λ read h. elim (round_trip text made read spelled h) [
        | inl e ↦ inr (made, e, passes)
        | inr e ↦ inl e
      ];
      checks = record { file = made; told = spelled; passes = passes; least = pigeonhole (base_in made.bases) made.offers made.group most passes.shows };
      only = λ other h. one_load made other most (subst (λ f. IsSharedOut f other) (same_file h.file h.told) h.passes.shared) passes.shared;
      unrefused = unrefused;
    }

-- what the job `plan` writes
pub planned_pass : LeastTextsPass → (input text : List ℕ) (plans : PlansTo input text) → PassesCheck text plans.planned.most
planned_pass pass input text plans = pass text plans.made plans.planned.most plans.spelled plans.planned.passes

-- the checker finds one fault
one_by : (o : Option PlanFault) (file : File) (f g : PlanFault) → JudgesBy o file (Err f) → JudgesBy o file (Err g) → f ≡ g
one_by (Some h) file f g a b = cc
one_by None file f g a b = a.0 ∙ sym b.0

same_number : (f : PlanFault) (m n : ℕ) → HasNumber f m → HasNumber f n → m ≡ n
same_number NotOffered m n a b = a ∙ sym b
same_number Missing m n a b = a ∙ sym b
same_number Stranger m n a b = a ∙ sym b
same_number GroupTooSmall m n a b = a ∙ sym b
same_number (Line k) m n a b = absurd a
same_number (Order k) m n a b = absurd a
same_number Memory m n a b = absurd a

one_number : (f g : PlanFault) (m n : ℕ) → f ≡ g → HasNumber f m → HasNumber g n → m ≡ n
one_number f g m n e a b = same_number g m n (subst (λ x. HasNumber x m) e a) b

-- texts whose plan has a fault
module _ (round_trip : RoundTrip) (one_fault : OneFault) (one_answer : OneAnswer) (text : List ℕ) (made : File) (number : ℕ) (spelled : IsTextOf text made) (wrong : IsRefusedAs made number) where
  same : (file : File) → IsTextOf text file → file ≡ made
  same file told = same_file round_trip one_fault one_answer text made spelled file told

  no_load : (most : ℕ) → ChecksAs text most → ⊥
  no_load most h =
      let p : Passes made most = subst (λ f. Passes f most) (same h.file h.told) h.passes in
      let e : Err wrong.0 ≡ Ok most = one_answer made most (Err wrong.0) spelled.ordered p.shared p.shows wrong.2 in
      cc

  refused_by : (e : Refusal) → IsUnchecked text e → (e ≡ Plan number) ⊎ (e ≡ Lacking)
  refused_by Lacking h = inr refl
  refused_by (AtLine n fault) h = absurd (no_file one_fault text n fault h made spelled)
  refused_by (Plan k) h =
      let found : Judges made (Err h.2.0) = subst (λ f. Judges f (Err h.2.0)) (same h.0 h.1) h.2.2 in
      inl (ap Plan (one_number h.2.0 wrong.0 k number (one_by (gives_fault made) made h.2.0 wrong.0 found wrong.2) h.2.1 wrong.1))
  refused_by Read h = absurd h
  refused_by Write h = absurd h
  refused_by InputTooLong h = absurd h
  refused_by NotUtf8 h = absurd h
  refused_by (Session k) h = absurd h
  refused_by TableFull h = absurd h

  pub faulty_fail : FailsCheck text number
  faulty_fail = record { silent = no_load; refused = refused_by }
