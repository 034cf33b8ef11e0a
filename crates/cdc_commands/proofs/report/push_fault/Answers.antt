use Rattle.cdc_commands.proofs.Terms.{codes, kind_name, pieces, spaced, string_bytes, ◌++◌, ◌≡◌}
use Rattle.cdc_commands.proofs.report.push_fault.Goals as goal

pub returns : goal.returns
returns c =
    let end : string_bytes c.push_line_end.new.text ≡ string_bytes c.push_str-2.new.self
    ++ (kind_name c.args.fault.kind ++ codes "\n") =
    rw (← c.name.ensures) c.in_ok-push_line_end.ensures in
    pieces _ (string_bytes c.push_str.new.self) _ c.args.words.now
    (spaced c.args.fault.line ++ (codes ": " ++ (kind_name c.args.fault.kind ++ codes "\n")))
    c.in_ok-push_str.ensures.bytes
    (pieces _ (string_bytes c.push_spaced.new.text) _ (spaced c.args.fault.line)
    (codes ": " ++ (kind_name c.args.fault.kind ++ codes "\n")) c.in_ok-push_spaced.ensures
    (pieces _ (string_bytes c.push_str-2.new.self) _ (codes ": ") (kind_name c.args.fault.kind ++ codes "\n")
    c.in_ok-push_str-2.ensures.bytes end))
