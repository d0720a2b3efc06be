-- What a medium holds, and what a call does to it.
use Rattle.std.specs.Prelude.{◌≡◌, ℕ, List, ◌++◌, take, ⊤, Option, None, Some}
use mathlib.Core.List.{IsPrefix}

-- the bytes that were written, and those of them that last whatever befalls the medium, as a loss of power
pub record Held : Type 0 where
  pub written : List ℕ
  pub lasting : List ℕ

-- what is known of a medium stays known, and changes so; what isn't stays unknown
abbrev pub Goes : (Held → Held → Type 0) → Option Held → Option Held → Type 0
Goes By None None = ⊤
Goes By None (Some new) = ⊥
Goes By (Some old) None = ⊥
Goes By (Some old) (Some new) = By old new

-- whatever became of it
abbrev pub Anyhow : Held → Held → Type 0
Anyhow old new = ⊤

abbrev pub Stays : Held → Held → Type 0
Stays old new = new ≡ old

-- it took the bytes, of which nothing lasts yet
pub record Takes (bytes : List ℕ) (old new : Held) : Type 0 where
  pub written : new.written ≡ old.written ++ bytes
  pub lasting : new.lasting ≡ old.lasting

-- it took a beginning of the bytes
abbrev pub TakesPart : List ℕ → Held → Held → Type 0
TakesPart bytes old new = (part : List ℕ) × IsPrefix part bytes × Takes part old new

-- all that was written lasts
pub record Syncs (old new : Held) : Type 0 where
  pub written : new.written ≡ old.written
  pub lasting : new.lasting ≡ old.written

-- it holds the first bytes alone
pub record CutsTo (len : ℕ) (old new : Held) : Type 0 where
  pub written : new.written ≡ take len old.written
  pub lasting : new.lasting ≡ take len old.lasting
