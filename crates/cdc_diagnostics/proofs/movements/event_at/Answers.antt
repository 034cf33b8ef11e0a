use Rattle.cdc_diagnostics.proofs.Words.{None, Some, ap, cond, eq-eqb, ne_eqb, subst, sym, ◌<◌, ◌∙◌}
use Rattle.cdc_diagnostics.proofs.Events.{event_at-after, event_at-place}
use Rattle.cdc_diagnostics.proofs.movements.event_at.Goals as goal

pub returns-then-timestamp-last_timestamp : goal.returns-then-timestamp-last_timestamp
returns-then-timestamp-last_timestamp c =
    sym (event_at-after 0 c.args.timestamp c.args.log.now.events c.last_timestamp.ensures.rising
    (subst (λ n. n < c.args.timestamp) c.last_timestamp.ensures.last c.if-timestamp-last_timestamp.true))

pub returns-then-event-timestamp : goal.returns-then-event-timestamp
returns-then-event-timestamp c =
    sym (ap (λ b. cond b (Some c.in_ok-event.event.now) None) (eq-eqb _ _ c.if-event-timestamp.true))
    ∙ event_at-place c.args.timestamp c.saturating_sub.result c.first_after.result c.args.log.now.events
    (Some c.in_ok-event.event.now) c.last_timestamp.ensures.rising c.saturating_sub.ensures c.first_after.ensures.parts
    c.in_ok-event.ensures

pub returns-else-event-timestamp : goal.returns-else-event-timestamp
returns-else-event-timestamp c =
    sym (ap (λ b. cond b (Some c.in_ok-event.event.now) None) (ne_eqb _ _ c.if-event-timestamp.false))
    ∙ event_at-place c.args.timestamp c.saturating_sub.result c.first_after.result c.args.log.now.events
    (Some c.in_ok-event.event.now) c.last_timestamp.ensures.rising c.saturating_sub.ensures c.first_after.ensures.parts
    c.in_ok-event.ensures

pub returns-in_err-event : goal.returns-in_err-event
returns-in_err-event c =
    rw c.from_residual.ensures (event_at-place c.args.timestamp c.saturating_sub.result c.first_after.result
    c.args.log.now.events None c.last_timestamp.ensures.rising c.saturating_sub.ensures c.first_after.ensures.parts
    c.in_err-event.ensures)
