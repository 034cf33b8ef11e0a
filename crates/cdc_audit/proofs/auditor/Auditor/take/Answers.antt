use Rattle.cdc_audit.proofs.Words.{AuditorState, ap, audited_event, ◌∙◌}
use Rattle.cdc_audit.proofs.StandLemmas.{taken_accepted, taken_answer}
use Rattle.cdc_audit.proofs.auditor.Auditor.take.Goals as goal

pub returns-in-Event-clause-answer : goal.returns-in-Event-clause-answer
returns-in-Event-clause-answer c =
    taken_answer c.take_event.result c.args.self.now c.args.content.now c.in-Event.event
    c.audited_event-event.result c.in-Event.is
    (c.audited_event-event.ensures
    ∙ ap (λ (a : AuditorState). audited_event a.foreign c.in-Event.event) c.self.view_is)
    c.take_event.ensures.answer

pub returns-in-Event-clause-accepted : goal.returns-in-Event-clause-accepted
returns-in-Event-clause-accepted c =
    taken_accepted c.take_event.result c.args.self.now c.take_event.new.self c.args.content.now c.in-Event.event
    c.audited_event-event.result c.in-Event.is
    (c.audited_event-event.ensures
    ∙ ap (λ (a : AuditorState). audited_event a.foreign c.in-Event.event) c.self.view_is)
    c.take_event.ensures.accepted
