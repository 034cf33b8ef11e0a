use Rattle.std.proofs.Common.{◌≡◌, ◌+◌, ◌≤◌, ◌++◌, length}
use Rattle.cdc_script.specs.Private.Acts.{followed_by}
use Rattle.cdc_script.specs.Private.Parts.{lines_of}
use Rattle.cdc_script.specs.StepFiles.{acts_from, NameAnAct, act_lines_from}
use Rattle.cdc_script.specs.Words.{lines}
use Rattle.cdc_script.proofs.step_files.read_acts.Given as goal

abbrev pub invariant-loop-line : goal.invariant-loop-line
invariant-loop-line l = record {
  same : followed_by l.steps.acts.items (l.number + 1) (lines_of l.rest) ≡ acts_from 1 (lines l.text);
  numbers : l.steps.lines.items ++ act_lines_from (l.number + 1) (lines_of l.rest) ≡ act_lines_from 1 (lines l.text);
  keeps : NameAnAct (lines_of l.rest) → NameAnAct (lines l.text);
  count : l.number + length l.rest.bytes.now ≤ length l.text;
}

abbrev pub decreases-loop-line : goal.decreases-loop-line
decreases-loop-line l = length l.rest.bytes.now
