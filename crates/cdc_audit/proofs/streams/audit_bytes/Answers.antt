use Rattle.cdc_audit.proofs.AuditLemmas.{leads_when_accepted, leads_when_bad, leads_when_none, leads_when_refused}
use Rattle.cdc_audit.proofs.streams.audit_bytes.Goals as goal

pub returns-in-Ok-None-clause-leads : goal.returns-in-Ok-None-clause-leads
returns-in-Ok-None-clause-leads c =
    leads_when_none c.args.number c.args.line.now c.args.auditor.now c.in-Ok-None.field-0 c.in-Ok-None.ensures
    c.in-Ok-None.field-0-is

pub returns-in-Err-clause-leads : goal.returns-in-Err-clause-leads
returns-in-Err-clause-leads c =
    leads_when_bad c.args.number c.args.line.now c.args.auditor.now c.in-Err.error c.in-Err.ensures
    c.stop_at_line.result c.stop_at_line.ensures

pub returns-in-Some-clause-leads : goal.returns-in-Some-clause-leads
returns-in-Some-clause-leads c =
    leads_when_refused c.args.number c.args.line.now c.args.auditor.now c.in-Ok-Some.field-0 c.in-Ok-Some.entry
    c.in_ok-answer.answer c.in-Some.why c.take.new.self c.in-Ok-Some.ensures c.in-Ok-Some.field-0-is c.in-Some.is
    c.in_ok-answer.ensures.answer c.in_ok-answer.ensures.refused

pub returns-clause-leads : goal.returns-clause-leads
returns-clause-leads c =
    leads_when_accepted c.args.number c.args.line.now c.args.auditor.now c.in-Ok-Some.field-0 c.in-Ok-Some.entry
    c.in_ok-answer.answer c.take.new.self c.in-Ok-Some.ensures c.in-Ok-Some.field-0-is c.in_default.is
    c.in_ok-answer.ensures.answer c.in_ok-answer.ensures.accepted

pub returns-in-Ok-None-clause-taken : goal.returns-in-Ok-None-clause-taken
returns-in-Ok-None-clause-taken c = λ _ number.
    leads_when_none number c.args.line.now c.args.auditor.now c.in-Ok-None.field-0 c.in-Ok-None.ensures
    c.in-Ok-None.field-0-is

pub returns-clause-taken : goal.returns-clause-taken
returns-clause-taken c = λ _ number.
    leads_when_accepted number c.args.line.now c.args.auditor.now c.in-Ok-Some.field-0 c.in-Ok-Some.entry
    c.in_ok-answer.answer c.take.new.self c.in-Ok-Some.ensures c.in-Ok-Some.field-0-is c.in_default.is
    c.in_ok-answer.ensures.answer c.in_ok-answer.ensures.accepted
