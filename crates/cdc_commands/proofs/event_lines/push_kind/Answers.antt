use Rattle.cdc_commands.proofs.Terms.{codes, pieces, string_bytes}
use Rattle.cdc_message.specs.Kinds.{kind_text}
use Rattle.cdc_commands.proofs.event_lines.push_kind.Goals as goal

pub returns : goal.returns
returns c =
    pieces _ (string_bytes c.push_str.new.self) _ (codes "event_type=") (kind_text c.args.kind)
    c.in_ok-push_str.ensures.bytes
    (rw (← c.kind_text.ensures) c.in_ok-push_str-2.ensures.bytes)
