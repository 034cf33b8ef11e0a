use Rattle.cdc_commands.proofs.Terms.{account_result, entry_value, map, take, ◌≡◌}
use Rattle.cdc_commands.proofs.json_form.batches.account_entries.Given as goal

abbrev pub invariant-loop-result : goal.invariant-loop-result
invariant-loop-result l = map entry_value l.entries.items ≡ map account_result (take l.result-index l.results)
