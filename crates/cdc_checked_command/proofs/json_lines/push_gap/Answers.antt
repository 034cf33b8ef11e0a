use Rattle.std.proofs.Common.{◌≡◌, ◌++◌, ap, subst, sym}
use Rattle.std.specs.Prelude.{OnOk}
use Rattle.cdc_output.specs.Lines.{json_line}
use Rattle.cdc_audit.specs.Texts.{refusal_name}
use Rattle.cdc_checked_command.specs.JsonLines.{gap_members, gap_value}
use Rattle.cdc_checked_command.proofs.json_lines.push_gap.Goals as goal

pub returns-in-Balance : goal.returns-in-Balance
returns-in-Balance c =
    subst (λ members. OnOk c.push_mismatch.result (c.push_mismatch.new.lines.text.items ≡ c.args.lines.now.text.items
    ++ json_line (gap_value c.args.line (refusal_name c.args.why) members))) (ap gap_members (sym c.in-Balance.is))
    (rw c.name-rule.ensures at c.push_mismatch.ensures)
