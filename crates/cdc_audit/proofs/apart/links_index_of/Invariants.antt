use Rattle.cdc_audit.proofs.IndexLemmas.{LinkIndexed}
use Rattle.cdc_audit.proofs.apart.links_index_of.Given as goal

abbrev pub invariant-loop-id : goal.invariant-loop-id
invariant-loop-id l = LinkIndexed l.fields.entries l.id-iterator l.links.entries
