use Rattle.cdc_commands.proofs.Terms.{flat_map, spaced, string_bytes, take, transfer_number, ◌++◌, ◌≡◌}
use Rattle.cdc_commands.proofs.report.push_transfer_results.Given as goal

abbrev pub invariant-loop-result : goal.invariant-loop-result
invariant-loop-result l =
    string_bytes l.text ≡ string_bytes l.initial.text
    ++ flat_map (λ r. spaced (transfer_number r)) (take l.result-index l.results)
