use Rattle.std.proofs.Common.{subst, sym}
use Rattle.cdc_audit_command.proofs.StoredLemmas.{none_kept}
use Rattle.cdc_audit_command.specs.Private.Kept.{Leads}
use Rattle.cdc_audit_command.proofs.auditors.StreamAuditorSaved.begin_changes.Goals as goal

pub returns-clause-since : goal.returns-clause-since
returns-clause-since c =
    let auditor = c.args.self.now.auditor in
    subst (λ lines. Leads auditor lines auditor) (sym c.new.ensures.items) (none_kept auditor)
