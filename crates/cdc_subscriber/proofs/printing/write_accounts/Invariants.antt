use Rattle.cdc_subscriber.proofs.LineLemmas.{Printed}
use Rattle.cdc_subscriber.proofs.printing.write_accounts.Given as goal

abbrev pub invariant-loop-id : goal.invariant-loop-id
invariant-loop-id g l =
    Printed l.book l.id-iterator (g.W.Write.contents l.initial.writer) (g.W.Write.contents l.writer)
