use Rattle.cdc_connector_actor.proofs.Words.{◌||◌, ◌∙◌, ◌≡◌, Course, HasFailed, IsPublishing, IsReplyReceived, Some, ap, arith, passed_on, sym}
use Rattle.cdc_connector_actor.proofs.ConnectorLemmas.Counted.{few_first, few_next, few_none}
use Rattle.cdc_connector_actor.proofs.ConnectorLemmas.Taking.{failed_after, received_first, received_more, received_sends}
use Rattle.cdc_connector_actor.proofs.connector.cores.ConnectorCore.receive_all.Goals as goal
use Rattle.cdc_connector_actor.proofs.connector.cores.ConnectorCore.receive_all.Goals.{then-moved, else-moved}

pub returns-in_default-clause-few : goal.returns-in_default-clause-few
returns-in_default-clause-few g c =
    let sends = c.requires in
    let at = c.loop-further in
    let own = at.invariant.0 sends.course sends.publishing sends.turn in
    few_none at._further c.args.more c.args.self.now at.self c.receive_ready.new.self (omega arith) at.invariant.1
    (rw c.in_default.is at (c.in_ok-also.ensures.after own.next own.publishing))

pub loop-further-init : goal.loop-further-init
loop-further-init g c =
    let sends = c.requires in (
      λ course is turn.
          received_first c.args.self.now course c.in_ok-moved.moved c.receive_next.new.self is turn
          (c.in_ok-moved.ensures.after course is),
      few_first c.args.self.now sends.course c.in_ok-moved.moved c.receive_next.new.self
          (c.in_ok-moved.ensures.after sends.course sends.publishing),
    )

pub receive_ready-requires : goal.receive_ready-requires
receive_ready-requires g c =
    let sends = c.requires in
    received_sends c.args.self.now sends.course c.loop-further.moved c.loop-further.self sends.working
    (c.loop-further.invariant.0 sends.course sends.publishing sends.turn)

pub returns-in_err-also-clause-failed : goal.returns-in_err-also-clause-failed
returns-in_err-also-clause-failed g c =
    let sends = c.requires in
    let are = c.loop-further.invariant.0 sends.course sends.publishing sends.turn in
    let fault = c.in_err-also.field-0.0 in
    passed_on (λ f. HasFailed c.args.self.now f c.receive_ready.new.self) _ _ c.from_residual-in_err-also.ensures.1
    (failed_after c.args.self.now are.messages c.loop-further.self c.receive_ready.new.self fault sends.working
    are.takes c.in_err-also.ensures.failed)

pub loop-further-preserved : goal.loop-further-preserved
loop-further-preserved g c =
    let sends = c.requires in
    let at = c.loop-further in
    let new = c.receive_ready.new.self in
    let also = c.in-Some.also in
    let received : (course : Course) → IsPublishing at.self (Some course) → IsReplyReceived at.self course also new =
    λ course is.
    rw c.in-Some.is at (c.in_ok-also.ensures.after course is) in
    let joined : (at.moved || also) ≡ c.if-moved.moved =
    elim c.if-moved.branch [
      | then-moved w ↦ ap (λ b. b || also) w.if-moved.true ∙ sym w.if-moved.true ∙ sym w.moved-is
      | else-moved w ↦ ap (λ b. b || also) w.if-moved.false ∙ sym w.moved-is
    ] in
    let own = at.invariant.0 sends.course sends.publishing sends.turn in (
      λ course is turn.
          let are = at.invariant.0 course is turn in
          rw joined at (received_more c.args.self.now course at.moved at.self are also new
          (received are.next are.publishing)),
      few_next at._further c.args.self.now at.self own.next also new at.invariant.1 (received own.next own.publishing),
    )
