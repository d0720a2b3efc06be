-- The texts of the refusals.
use Rattle.std.specs.Prelude.{ℕ, List, ◌++◌, codes, decimal}
use Rattle.mirror_run.specs.declared.refusal.LineFault.{LineFault}
use Rattle.mirror_run.specs.declared.refusal.LineFault.TheVariants.{Form, Infinity, Present, Full, Order}
use Rattle.mirror_run.specs.declared.refusal.Refusal.{Refusal}
use Rattle.mirror_run.specs.declared.refusal.Refusal.TheVariants.{Read, Write, InputTooLong, NotUtf8, Line, Session, Plan, TableFull, Memory}

abbrev pub fault_text : LineFault → List ℕ
fault_text Form = codes "form"
fault_text Infinity = codes "infinity"
fault_text Present = codes "present"
fault_text Full = codes "full"
fault_text Order = codes "order"

abbrev pub refusal_text : Refusal → List ℕ
refusal_text Read = codes "read"
refusal_text Write = codes "write"
refusal_text InputTooLong = codes "input too long"
refusal_text NotUtf8 = codes "not UTF-8"
refusal_text (Line n fault) = codes "line " ++ decimal n ++ codes ": " ++ fault_text fault
refusal_text (Session k) = codes "session " ++ decimal k
refusal_text (Plan k) = codes "plan " ++ decimal k
refusal_text TableFull = codes "table full"
refusal_text Memory = codes "memory"
