use Rattle.cdc_audit.proofs.AuditLemmas.{Goes}
use Rattle.cdc_audit.proofs.streams.audit.Given as goal

-- the lines before this number were audited
abbrev pub invariant-loop-number : goal.invariant-loop-number
invariant-loop-number g l =
    Goes l.fn.auditor (g.B.Read.remaining l.fn.reader) l.auditor l.number (g.B.Read.remaining l.reader)
