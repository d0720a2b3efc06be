-- Why an input is refused.
use Rattle.std.specs.Prelude.{◌≡◌, ℕ, ◌+◌, ◌<◌, ◌≤◌, ◌⊎◌, List, length, IsUtf8}
use Rattle.item_key.specs.declared.Item.{Item}
use Rattle.mirror_run.specs.declared.refusal.LineFault.{LineFault}
use Rattle.mirror_run.specs.declared.refusal.LineFault.TheVariants.{Form}
use Rattle.mirror_run.specs.declared.refusal.Refusal.{Refusal}
use Rattle.mirror_run.specs.declared.refusal.Refusal.TheVariants.{Read, InputTooLong, NotUtf8, Line, Memory}
use Rattle.mirror_run.specs.Lines.{lines_of}
use Rattle.mirror_run.specs.ItemLists.{IsInput, IsFirstWrong}
use Rattle.mirror_run.specs.Placing.{IsTaken, IsFirstRefused}

-- the first line that isn't of the form or is out of place
abbrev pub IsFormRefusal : List (List ℕ) → Refusal → Type 0
IsFormRefusal lines e = (e ≡ Memory) ⊎ ((n : ℕ) × (e ≡ Line n Form) × IsFirstWrong lines n)

-- too many bytes, or bytes that are no text
abbrev pub IsTextRefusal : List ℕ → Refusal → Type 0
IsTextRefusal input Read = Unit {0}
IsTextRefusal input Memory = Unit {0}
IsTextRefusal input InputTooLong = 67108864 < length input
IsTextRefusal input NotUtf8 = (length input ≤ 67108864) × ¬ IsUtf8 input
IsTextRefusal input _ = ⊥

-- the first item that its list doesn't take, of those that begin on the line
abbrev pub IsPlacingRefusal : List Item → ℕ → Refusal → Type 0
IsPlacingRefusal items line e =
    (e ≡ Memory) ⊎ ((i : ℕ) × (fault : LineFault) × (e ≡ Line (line + i) fault) × IsFirstRefused items i fault)

-- the line of the first item that isn't placed, the first list before the second
abbrev pub IsUnplaced : List Item → List Item → ℕ → LineFault → Type 0
IsUnplaced mine theirs n fault =
    ((i : ℕ) × (n ≡ 2 + i) × IsFirstRefused mine i fault)
    ⊎ (IsTaken mine × (i : ℕ) × (n ≡ length mine + 3 + i) × IsFirstRefused theirs i fault)

-- a line's fault: all forms come before the placing
abbrev pub IsLineFault : List ℕ → ℕ → LineFault → Type 0
IsLineFault input n Form = IsFirstWrong (lines_of input) n
IsLineFault input n fault = (mine : List Item) × (theirs : List Item) × IsInput input mine theirs × IsUnplaced mine theirs n fault

-- why a text gives no two rolls
abbrev pub IsLinesRefusal : List ℕ → Refusal → Type 0
IsLinesRefusal text (Line n fault) = IsLineFault text n fault
IsLinesRefusal text Memory = Unit {0}
IsLinesRefusal text _ = ⊥

-- why an input gives no two rolls
abbrev pub IsInputRefusal : List ℕ → Refusal → Type 0
IsInputRefusal input (Line n fault) = (length input ≤ 67108864) × IsUtf8 input × IsLineFault input n fault
IsInputRefusal input e = IsTextRefusal input e
