-- The texts of the refusals.
use Rattle.std.specs.Prelude.{ℕ, List, ◌++◌, codes, decimal}
use Rattle.mirror_settings.specs.Keys.{name_of}
use Rattle.store_run.specs.declared.refusal.Refusal.{Refusal}
use Rattle.store_run.specs.declared.refusal.Refusal.TheVariants.{Read, Write, Settings, Key, File, Busy, Listen, Store, TableFull, Memory}

abbrev pub refusal_text : Refusal → List ℕ
refusal_text Read = codes "read"
refusal_text Write = codes "write"
refusal_text Settings = codes "settings"
refusal_text (Key key) = codes "settings " ++ name_of key
refusal_text (File line) = codes "file line " ++ decimal line
refusal_text Busy = codes "events busy"
refusal_text Listen = codes "listen"
refusal_text Store = codes "store"
refusal_text TableFull = codes "table full"
refusal_text Memory = codes "memory"
