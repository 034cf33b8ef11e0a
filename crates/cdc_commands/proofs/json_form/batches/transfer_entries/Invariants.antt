use Rattle.cdc_commands.proofs.Terms.{entry_value, map, take, transfer_result, ◌≡◌}
use Rattle.cdc_commands.proofs.json_form.batches.transfer_entries.Given as goal

abbrev pub invariant-loop-result : goal.invariant-loop-result
invariant-loop-result l = map entry_value l.entries.items ≡ map transfer_result (take l.result-index l.results)
