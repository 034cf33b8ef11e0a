use Rattle.std.proofs.Common.{◌≡◌, ◌+◌, ◌<◌, ◌≤◌, length}
use Rattle.cdc_script.specs.Private.Drafts.{continued, context_of}
use Rattle.cdc_script.specs.Private.Parts.{lines_of}
use Rattle.cdc_script.specs.Scripts.{at_top, script_of_lines, StateSomething}
use Rattle.cdc_script.specs.Words.{lines}
use Rattle.cdc_script.proofs.scripts.read_lines.Given as goal

abbrev pub invariant-loop-line : goal.invariant-loop-line
invariant-loop-line l = record {
  same : continued l.draft (l.number + 1) (lines_of l.rest) ≡ script_of_lines (lines l.text);
  keeps : StateSomething (context_of l.draft) (lines_of l.rest) → StateSomething at_top (lines l.text);
  stated : 0 < length l.draft.bindings.items → StateSomething at_top (lines l.text);
  count : l.number + length l.rest.bytes.now ≤ length l.text;
}

abbrev pub decreases-loop-line : goal.decreases-loop-line
decreases-loop-line l = length l.rest.bytes.now
