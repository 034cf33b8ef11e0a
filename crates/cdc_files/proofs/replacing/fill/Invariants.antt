use Rattle.std.proofs.Common.{◌≡◌, ◌≤◌, ◌-◌, length, take}
use Rattle.std.specs.Io.KnownBytes.{Consumes}
use Rattle.cdc_files.proofs.replacing.fill.Given as goal

abbrev pub invariant-loop-filled : goal.invariant-loop-filled
invariant-loop-filled g l = record {
  size : length l.buffer ≡ length l.initial.buffer;
  bound : l.filled ≤ length l.buffer;
  text : Consumes (g.F.Read.remaining l.initial.reader) (g.F.Read.remaining l.reader) (take l.filled l.buffer);
}

abbrev pub decreases-loop-filled : goal.decreases-loop-filled
decreases-loop-filled g l = length l.initial.buffer - l.filled
