-- Texts with a faulty line.
use Rattle.std.proofs.Common.{◌≡◌, ℕ, List, Ok, Err, ap}
use Rattle.mirror_run.specs.declared.refusal.LineFault.{LineFault}
use Rattle.mirror_run.specs.declared.refusal.LineFault.TheVariants.{Form, Infinity, Present, Full, Order as Disorder}
use Rattle.mirror_run.specs.declared.refusal.Refusal.{Refusal}
use Rattle.mirror_run.specs.declared.refusal.Refusal.TheVariants.{Read, Write, InputTooLong, NotUtf8, Line as AtLine, Session, Plan, TableFull, Memory as Lacking}
use Rattle.plan_check.specs.declared.faults.PlanFault.{PlanFault}
use Rattle.plan_check.specs.declared.faults.PlanFault.TheVariants.{Line, Order}
use Rattle.plan_check.specs.File.{File}
use Rattle.plan_check.specs.PlanText.{IsTextOf}
use Rattle.plan_check.specs.PlanReading.{IsTextFault, OneFault}
use Rattle.plan_run.specs.Jobs.{IsLineRefusal, IsUnplanned, IsUnchecked}
use Rattle.plan_run.specs.Laws.{FailsAt}

module _ (one_fault : OneFault) (text : List ℕ) where
  -- a text with a fault is of no file
  no_told : (file : File) (fault : PlanFault) → IsTextFault text fault → IsTextOf text file → ⊥
  no_told file fault wrong told = let e : Ok file ≡ Err fault = one_fault text fault (Ok file) wrong told in cc

  pub no_file : (n : ℕ) (f : LineFault) → IsLineRefusal text n f → (file : File) → IsTextOf text file → ⊥
  no_file n Form h file told = no_told file (Line n) h told
  no_file n Disorder h file told = no_told file (Order n) h told
  no_file n Infinity h file told = h
  no_file n Present h file told = h
  no_file n Full h file told = h

  -- one line is at fault
  same_line : (n m : ℕ) (f g : LineFault) → IsLineRefusal text n f → IsLineRefusal text m g → AtLine m g ≡ AtLine n f
  same_line n m Form Form h k = let e = one_fault text (Line n) (Err (Line m)) h k in let s : m ≡ n = cc in ap (λ k. AtLine k Form) s
  same_line n m Disorder Disorder h k = let e = one_fault text (Order n) (Err (Order m)) h k in let s : m ≡ n = cc in ap (λ k. AtLine k Disorder) s
  same_line n m Form Disorder h k = absurd (let e = one_fault text (Line n) (Err (Order m)) h k in cc)
  same_line n m Disorder Form h k = absurd (let e = one_fault text (Order n) (Err (Line m)) h k in cc)
  same_line n m Form Infinity h k = absurd k
  same_line n m Form Present h k = absurd k
  same_line n m Form Full h k = absurd k
  same_line n m Disorder Infinity h k = absurd k
  same_line n m Disorder Present h k = absurd k
  same_line n m Disorder Full h k = absurd k
  same_line n m Infinity g h k = absurd h
  same_line n m Present g h k = absurd h
  same_line n m Full g h k = absurd h

  module _ (n : ℕ) (f : LineFault) (wrong : IsLineRefusal text n f) where
    unplanned : (e : Refusal) → IsUnplanned text e → e ≡ AtLine n f
    unplanned (AtLine m g) h = same_line n m f g wrong h
    unplanned TableFull h = absurd (no_file n f wrong h.0 h.1)
    unplanned Lacking h = absurd (no_file n f wrong h.0 h.1)
    unplanned Read h = absurd h
    unplanned Write h = absurd h
    unplanned InputTooLong h = absurd h
    unplanned NotUtf8 h = absurd h
    unplanned (Session k) h = absurd h
    unplanned (Plan k) h = absurd h

    unchecked : (e : Refusal) → IsUnchecked text e → e ≡ AtLine n f
    unchecked (AtLine m g) h = same_line n m f g wrong h
    unchecked (Plan k) h = absurd (no_file n f wrong h.0 h.1)
    unchecked Lacking h = absurd (no_file n f wrong h.0 h.1)
    unchecked Read h = absurd h
    unchecked Write h = absurd h
    unchecked InputTooLong h = absurd h
    unchecked NotUtf8 h = absurd h
    unchecked (Session k) h = absurd h
    unchecked TableFull h = absurd h

    pub fails_at : FailsAt text n f
    fails_at = record {
      unplanned = λ made h. no_file n f wrong h.read h.told;
      silent = λ most h. no_file n f wrong h.file h.told;
      plan_refused = unplanned;
      check_refused = unchecked;
    }
