-- What `consume` reports as JSON.
use Rattle.std.specs.Prelude.{ℕ, List, codes}
use Rattle.serde_json.specs.Data.{Data, Members, boolean, string, no_members, member}
use Rattle.cdc_output.specs.Values.{narrow, wide}
use Rattle.cdc_output.specs.Lines.{json_line, line_of}
use Rattle.cdc_follow.specs.declared.counts.Counts.{Counts}
use Rattle.cdc_consume_command.specs.declared.endings.Outcome.{Outcome}

-- the members of the counts, and of the timestamp of the last event seen
abbrev pub count_members : Counts → ℕ → Members
count_members counts seen =
    member (codes "applied") (narrow counts.applied) (
    member (codes "duplicates") (narrow counts.duplicates) (
    member (codes "passed") (narrow counts.passed) (
    member (codes "gaps_skipped") (narrow counts.gaps) (
    member (codes "seen") (wide seen)
    no_members))))

-- the report at the end
abbrev pub end_value : Outcome → Counts → ℕ → Data
end_value it counts seen =
    line_of (codes "consumed") (
    member (codes "status") (narrow it.status) (
    member (codes "reason") (string it.reason.now) (
    member (codes "code") (narrow it.code) (
    member (codes "text") (string it.text.now) (
    member (codes "tag") (narrow it.tag) (
    member (codes "redelivered") (boolean it.redelivered) (
    member (codes "delivery_count") (narrow it.delivery_count) (
    member (codes "parked") (narrow it.parked)
    (count_members counts seen)))))))))

abbrev pub end_lines : Outcome → Counts → ℕ → List ℕ
end_lines it counts seen = json_line (end_value it counts seen)

-- the report before the end
abbrev pub progress_value : Counts → ℕ → Data
progress_value counts seen = line_of (codes "consuming") (count_members counts seen)

abbrev pub progress_lines : Counts → ℕ → List ℕ
progress_lines counts seen = json_line (progress_value counts seen)
