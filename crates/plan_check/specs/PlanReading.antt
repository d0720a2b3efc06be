-- What reading a plan text answers.
use Rattle.std.specs.Prelude.{◌≡◌, ◌≢◌, ℕ, ◌+◌, ◌-◌, ◌≤◌, ◌⊎◌, List, ◌++◌, length, take, Some, Result, Ok, Err}
use Rattle.plan_check.specs.declared.faults.PlanFault.{PlanFault}
use Rattle.plan_check.specs.declared.faults.PlanFault.TheVariants.{Line, Order, Memory}
use Rattle.plan_check.specs.File.{File}
use Rattle.plan_check.specs.Lines.{misplaced_at, misplaced_fault}
use Rattle.plan_check.specs.TextLines.{lines_of}
use Rattle.plan_check.specs.PlanText.{plan_lines, plan_text, IsOfForm, IsTextOf}

-- more lines may follow these, so that all of them are of the form and in place
abbrev pub Begins : List (List ℕ) → Type 0
Begins lines = (file : File) × (after : List (List ℕ)) × IsOfForm file × (lines ++ after ≡ plan_lines file)

-- Line n, counted from 1, is the first with which the lines begin no plan text; it is the one after the last where they
-- begin one and are none.
pub record IsFirstWrong (lines : List (List ℕ)) (n : ℕ) : Type 0 where
  pub counted : 1 ≤ n
  pub near : n ≤ length lines + 1
  pub before : Begins (take (n - 1) lines)
  pub wrong : n ≤ length lines → ¬ Begins (take n lines)
  pub ended : n ≡ length lines + 1 → (file : File) → IsOfForm file → lines ≢ plan_lines file

-- all lines are of the form and in place, and this fault is of the first that is out of order
abbrev pub IsOutOfOrder : List ℕ → PlanFault → Type 0
IsOutOfOrder text fault =
    (file : File) × IsOfForm file × (text ≡ plan_text file) × (misplaced_fault (misplaced_at file) ≡ Some fault)

-- why a text is no plan text
abbrev pub IsTextFault : List ℕ → PlanFault → Type 0
IsTextFault text (Line n) = IsFirstWrong (lines_of text) n
IsTextFault text (Order n) = IsOutOfOrder text (Order n)
IsTextFault text _ = ⊥

-- Why a text gives no plan file. Want of memory is told of plan texts alone.
abbrev pub IsReadFault : List ℕ → PlanFault → Type 0
IsReadFault text Memory = (file : File) × IsTextOf text file
IsReadFault text fault = IsTextFault text fault

-- what may be answered
abbrev pub Reads : List ℕ → Result File PlanFault → Type 0
Reads text (Ok file) = IsTextOf text file
Reads text (Err fault) = IsReadFault text fault

-- a text is that of one file at most
abbrev pub OneFile : Type 0
OneFile = (a b : File) → IsOfForm a → IsOfForm b → plan_text a ≡ plan_text b → a ≡ b

-- a file's text is read as the file, memory aside
abbrev pub RoundTrip : Type 0
RoundTrip =
    (text : List ℕ) (file : File) (result : Result File PlanFault)
    → IsTextOf text file → Reads text result → (result ≡ Ok file) ⊎ (result ≡ Err Memory)

-- a text that has a fault is refused by that fault, and by no other
abbrev pub OneFault : Type 0
OneFault = (text : List ℕ) (fault : PlanFault) (result : Result File PlanFault) → IsTextFault text fault → Reads text result → result ≡ Err fault
