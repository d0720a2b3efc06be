-- A writer, and bytes that wait to be written.
use Rattle.std.specs.Prelude.{ℕ, List, Option}
use Rattle.std.specs.Io.KnownBytes.{Appends, append_known}

-- what the writer holds, with what waits behind it, grows by bs
abbrev pub Sends : Option (List ℕ) → List ℕ → Option (List ℕ) → List ℕ → List ℕ → Type 0
Sends old waited new waiting bs = Appends (append_known old waited) (append_known new waiting) bs
