use Rattle.std.proofs.Common.{◌≡◌, ◌+◌, ◌≤◌, length, take, drop}
use Rattle.mirror_run.specs.Lines.{lines_of}
use Rattle.event_file.specs.Lines.{LinesTell}
use Rattle.event_file.proofs.reading.insert_lines.Given as goal

-- the first lines are in the store, the others are left
abbrev pub invariant-loop-line : goal.invariant-loop-line
invariant-loop-line g l = record {
  told : LinesTell (take l.number (lines_of l.text)) l.initial.desk l.desk;
  left : lines_of l.rest ≡ drop l.number (lines_of l.text);
  within : l.number + length l.rest ≤ length l.text;
}

abbrev pub decreases-loop-line : goal.decreases-loop-line
decreases-loop-line g l = length l.rest
