use Rattle.std.proofs.Common.{◌≤◌, length}
use Rattle.std.specs.Io.KnownBytes.{Consumes}
use Rattle.cdc_follow.specs.declared.entries.TheConstants.{LONGEST_LINE}
use Rattle.cdc_follow.specs.LineParts.{HasNoFeed}
use Rattle.cdc_follow.proofs.lines.read_line.Given as goal

-- a part of the line was read, without a line feed
abbrev pub invariant-loop : goal.invariant-loop
invariant-loop g l = record {
  within : length l.line.items ≤ LONGEST_LINE;
  clean : HasNoFeed l.line.items;
  reads : Consumes (g.B.Read.remaining l.fn.reader) (g.B.Read.remaining l.reader) l.line.items;
}
