use Rattle.cdc_audit.proofs.IndexLemmas.{Indexed}
use Rattle.cdc_audit.proofs.apart.index_of.Given as goal

abbrev pub invariant-loop-id : goal.invariant-loop-id
invariant-loop-id l = Indexed l.fields.entries l.id-iterator l.created.entries
