use Rattle.std.proofs.Common.{false, true}
use Rattle.cdc_audit_command.proofs.SkipLemmas.{test_of, turns_accepted, turns_bad, turns_duplicate, turns_none, turns_refused}
use Rattle.cdc_audit.proofs.AuditLemmas.{leads_when_accepted, leads_when_none}
use Rattle.cdc_audit_command.proofs.turns.audit_new_bytes.Goals as goal

pub returns-in-Ok-None-clause-leads : goal.returns-in-Ok-None-clause-leads
returns-in-Ok-None-clause-leads c =
    turns_none c.args.number c.args.line.now c.args.auditor.now c.in-Ok-None.field-0 c.in-Ok-None.ensures
    c.in-Ok-None.field-0-is

pub returns-in-Ok-None-clause-keeps : goal.returns-in-Ok-None-clause-keeps
returns-in-Ok-None-clause-keeps c = (
  c.requires,
  λ number. leads_when_none number c.args.line.now c.args.auditor.now c.in-Ok-None.field-0 c.in-Ok-None.ensures
      c.in-Ok-None.field-0-is,
)

pub returns-in-Err-clause-leads : goal.returns-in-Err-clause-leads
returns-in-Err-clause-leads c =
    turns_bad c.args.number c.args.line.now c.args.auditor.now c.in-Err.error c.in-Err.ensures
    c.stop_at_line.result c.stop_at_line.ensures

pub returns-then-is_duplicate-clause-leads : goal.returns-then-is_duplicate-clause-leads
returns-then-is_duplicate-clause-leads c =
    turns_duplicate c.args.number c.args.line.now c.args.auditor.now c.in-Ok-Some.field-0 c.in-Ok-Some.entry
    c.in-Ok-Some.ensures c.in-Ok-Some.field-0-is
    (test_of c.is_duplicate.result true c.last.result c.subscriber.result.now c.args.auditor.now.kept
    c.in-Ok-Some.entry.content c.is_duplicate.ensures c.last.ensures c.subscriber.ensures.kept c.if-is_duplicate.true)

pub returns-in-Some-clause-leads : goal.returns-in-Some-clause-leads
returns-in-Some-clause-leads c =
    turns_refused c.args.number c.args.line.now c.args.auditor.now c.in-Ok-Some.field-0 c.in-Ok-Some.entry
    c.in_ok-answer.answer c.in-Some.why c.take.new.self c.in-Ok-Some.ensures c.in-Ok-Some.field-0-is
    (test_of c.is_duplicate.result false c.last.result c.subscriber.result.now c.args.auditor.now.kept
    c.in-Ok-Some.entry.content c.is_duplicate.ensures c.last.ensures c.subscriber.ensures.kept c.if-is_duplicate.false)
    c.in-Some.is c.in_ok-answer.ensures.answer c.in_ok-answer.ensures.refused

pub returns-clause-leads : goal.returns-clause-leads
returns-clause-leads c =
    turns_accepted c.args.number c.args.line.now c.args.auditor.now c.in-Ok-Some.field-0 c.in-Ok-Some.entry
    c.in_ok-answer.answer c.take.new.self c.in-Ok-Some.ensures c.in-Ok-Some.field-0-is
    (test_of c.is_duplicate.result false c.last.result c.subscriber.result.now c.args.auditor.now.kept
    c.in-Ok-Some.entry.content c.is_duplicate.ensures c.last.ensures c.subscriber.ensures.kept c.if-is_duplicate.false)
    c.in_default.is c.in_ok-answer.ensures.answer c.in_ok-answer.ensures.accepted

pub returns-clause-keeps : goal.returns-clause-keeps
returns-clause-keeps c = (
  c.requires,
  λ number. leads_when_accepted number c.args.line.now c.args.auditor.now c.in-Ok-Some.field-0 c.in-Ok-Some.entry
      c.in_ok-answer.answer c.take.new.self c.in-Ok-Some.ensures c.in-Ok-Some.field-0-is c.in_default.is
      c.in_ok-answer.ensures.answer c.in_ok-answer.ensures.accepted,
)
