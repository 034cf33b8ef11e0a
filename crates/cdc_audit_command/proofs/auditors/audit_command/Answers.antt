use Rattle.std.proofs.Common.{refl}
use Rattle.cdc_audit_command.specs.Duplicates.{AuditsBy}
use Rattle.cdc_audit_command.proofs.KeptLemmas.{begun_stops}
use Rattle.cdc_audit_command.proofs.auditors.audit_command.Goals as goal

pub returns-clause-audits : goal.returns-clause-audits
returns-clause-audits g c =
    let now = c.stream_command.new.consumer in
    begun_stops 0 c.stream_command.result (g.B.Read.remaining c.args.reader.now)
    (λ bytes stop. AuditsBy c.args.setup.now.skips_duplicates c.args.audited.now.auditor bytes stop now.auditor
    now.duplicates) refl c.stream_command.ensures.stops
