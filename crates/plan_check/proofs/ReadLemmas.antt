-- What a text is read as.
use Rattle.std.proofs.Common.{◌≡◌, ◌<◌, ◌≤◌, ◌-◌, ◌++◌, append_assoc, take, ℕ, inl, inr, List, length, drop, Some, None, Ok, Err, refl, ap, sym, ◌∙◌, subst, arith, take-append-drop}
use Rattle.std.proofs.lemmas.Bool.{cases_lt}
use Rattle.plan_check.specs.declared.faults.PlanFault.{PlanFault}
use Rattle.plan_check.specs.declared.faults.PlanFault.TheVariants.{Line, Order, NotOffered, Missing, Stranger, GroupTooSmall, Memory}
use Rattle.plan_check.specs.File.{File, IsFile}
use Rattle.plan_check.specs.Lines.{misplaced_at, misplaced_fault}
use Rattle.plan_check.specs.TextLines.{lines_of}
use Rattle.plan_check.specs.PlanText.{plan_lines, plan_text, IsOfForm, IsTextOf}
use Rattle.std.proofs.lemmas.List.{take-take}
use Rattle.plan_check.specs.PlanReading.{Begins, IsFirstWrong, IsOutOfOrder, IsTextFault, RoundTrip, OneFault}
use Rattle.plan_check.proofs.InOrder.{in_order}
use Rattle.plan_check.proofs.TextLemmas.{lines_of-plan}
use Rattle.plan_check.proofs.OneText.{one_file_each}

-- a plan text has no wrong line
no_wrong_line : (text : List ℕ) (file : File) (n : ℕ) → IsOfForm file → text ≡ plan_text file → IsFirstWrong (lines_of text) n → ⊥
no_wrong_line text file n form is wrong =
    let lines : lines_of text ≡ plan_lines file = lines_of-plan text file form is in
    elim (cases_lt (length (lines_of text)) n) [
      | inl past ↦ wrong.ended (omega (arith, wrong.near)) file form lines
      | inr within ↦ wrong.wrong within (file, drop n (lines_of text), form, take-append-drop n (lines_of text) ∙ lines)
    ]

-- nor is it out of order
no_disorder : (text : List ℕ) (file : File) (fault : PlanFault) → IsTextOf text file → IsOutOfOrder text fault → ⊥
no_disorder text file fault told out =
    let same : out.0 ≡ file = one_file_each out.0 file out.1 told.form (sym out.2 ∙ told.is) in
    let none : misplaced_fault (misplaced_at out.0) ≡ None = ap (λ f. misplaced_fault (misplaced_at f)) same ∙ ap misplaced_fault (in_order file told.ordered) in
    cc (sym none ∙ out.3)

-- a plan text has no fault
pub no_fault : (text : List ℕ) (file : File) (fault : PlanFault) → IsTextOf text file → IsTextFault text fault → ⊥
no_fault text file (Line n) told wrong = no_wrong_line text file n told.form told.is wrong
no_fault text file (Order n) told wrong = no_disorder text file (Order n) told wrong
no_fault text file NotOffered told wrong = wrong
no_fault text file Missing told wrong = wrong
no_fault text file Stranger told wrong = wrong
no_fault text file GroupTooSmall told wrong = wrong
no_fault text file Memory told wrong = wrong

pub read_back : RoundTrip
read_back text file (Ok other) told read = inl (ap Ok (one_file_each other file read.form told.form (sym read.is ∙ told.is)))
read_back text file (Err Memory) told read = inr refl
read_back text file (Err (Line n)) told read = absurd (no_fault text file (Line n) told read)
read_back text file (Err (Order n)) told read = absurd (no_fault text file (Order n) told read)
read_back text file (Err NotOffered) told read = absurd read
read_back text file (Err Missing) told read = absurd read
read_back text file (Err Stranger) told read = absurd read
read_back text file (Err GroupTooSmall) told read = absurd read

-- what is made of lists of the form
pub made_by : (text : List ℕ) (file made : File) → IsOfForm file → text ≡ plan_text file → made ≡ file → IsFile made → IsTextOf text made
made_by text file made form is keeps ordered = record { form = subst IsOfForm (sym keeps) form; ordered = ordered; is = is ∙ ap plan_text (sym keeps) }

-- ---- one fault
-- a front of lines that begin a plan text begins one
begins_front : (n : ℕ) (lines : List (List ℕ)) → Begins lines → Begins (take n lines)
begins_front n lines b =
    (b.0, drop n lines ++ b.1, b.2, sym (append_assoc (take n lines) (drop n lines) b.1) ∙ ap (λ t. t ++ b.1) (take-append-drop n lines) ∙ b.3)

no_earlier : (lines : List (List ℕ)) (m n : ℕ) → IsFirstWrong lines m → IsFirstWrong lines n → m < n → ⊥
no_earlier lines m n a b lt =
    let within : m ≤ length lines = omega (arith, b.near) in
    let shorter : take m (take (n - 1) lines) ≡ take m lines = take-take m (n - 1) lines (omega arith) in
    a.wrong within (subst Begins shorter (begins_front m (take (n - 1) lines) b.before))

same_line : (lines : List (List ℕ)) (m n : ℕ) → IsFirstWrong lines m → IsFirstWrong lines n → m ≡ n
same_line lines m n a b = elim (cases_lt m n) [
  | inl lt ↦ absurd (no_earlier lines m n a b lt)
  | inr ge ↦ elim (cases_lt n m) [ inl lt ↦ absurd (no_earlier lines n m b a lt) | inr le ↦ omega arith ]
]

same_order : (text : List ℕ) (f g : PlanFault) → IsOutOfOrder text f → IsOutOfOrder text g → f ≡ g
same_order text f g a b =
    let file : a.0 ≡ b.0 = one_file_each a.0 b.0 a.1 b.1 (sym a.2 ∙ b.2) in
    let both : Some f ≡ Some g = sym a.3 ∙ ap (λ x. misplaced_fault (misplaced_at x)) file ∙ b.3 in
    cc

-- a text has one fault at most
pub one_fault_each : (text : List ℕ) (f g : PlanFault) → IsTextFault text f → IsTextFault text g → f ≡ g
one_fault_each text (Line m) (Line n) a b = ap Line (same_line (lines_of text) m n a b)
one_fault_each text (Line m) (Order n) a b = absurd (no_wrong_line text b.0 m b.1 b.2 a)
one_fault_each text (Order m) (Line n) a b = absurd (no_wrong_line text a.0 n a.1 a.2 b)
one_fault_each text (Order m) (Order n) a b = same_order text (Order m) (Order n) a b
one_fault_each text NotOffered g a b = absurd a
one_fault_each text Missing g a b = absurd a
one_fault_each text Stranger g a b = absurd a
one_fault_each text GroupTooSmall g a b = absurd a
one_fault_each text Memory g a b = absurd a
one_fault_each text (Line m) NotOffered a b = absurd b
one_fault_each text (Line m) Missing a b = absurd b
one_fault_each text (Line m) Stranger a b = absurd b
one_fault_each text (Line m) GroupTooSmall a b = absurd b
one_fault_each text (Line m) Memory a b = absurd b
one_fault_each text (Order m) NotOffered a b = absurd b
one_fault_each text (Order m) Missing a b = absurd b
one_fault_each text (Order m) Stranger a b = absurd b
one_fault_each text (Order m) GroupTooSmall a b = absurd b
one_fault_each text (Order m) Memory a b = absurd b

-- a text that has a fault is refused for it
pub refused_so : OneFault
refused_so text fault (Ok file) is told = absurd (no_fault text file fault told is)
refused_so text fault (Err Memory) is told = absurd (no_fault text told.0 fault told.1 is)
refused_so text fault (Err (Line n)) is told = ap Err (one_fault_each text (Line n) fault told is)
refused_so text fault (Err (Order n)) is told = ap Err (one_fault_each text (Order n) fault told is)
refused_so text fault (Err NotOffered) is told = absurd told
refused_so text fault (Err Missing) is told = absurd told
refused_so text fault (Err Stranger) is told = absurd told
refused_so text fault (Err GroupTooSmall) is told = absurd told
