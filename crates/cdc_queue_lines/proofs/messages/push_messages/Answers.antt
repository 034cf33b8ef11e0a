use Rattle.std.proofs.Common.{◌≡◌, ◌≤◌, ◌∙◌, ◌++◌, ℕ, List, [], ◌∷◌, ap, arith, length, sym, take}
use Rattle.std.specs.Prelude.{string_bytes}
use Rattle.cdc_queue_lines.specs.Messages.{messages_text}
use Rattle.cdc_queue_lines.specs.Predecessors.{PredecessorState, last_timestamps}
use Rattle.cdc_queue_lines.proofs.LineTexts.{no_event}
use Rattle.cdc_queue_lines.proofs.MessageTexts.{one_message, take_found}
use Rattle.cdc_queue_lines.proofs.messages.push_messages.Goals as goal
use Rattle.cdc_queue_lines.proofs.messages.push_messages.Goals.{in-Some+in_ok-push_message, in_default}

pub loop-place-preserved : goal.loop-place-preserved
loop-place-preserved c =
    let events = c.args.log.now.events in
    let bindings = c.args.bindings.now in
    let place = c.loop-place.place in
    elim c.match-get.branch [
      | in-Some+in_ok-push_message w ↦ (
        one_message bindings events place w.in-Some.event.now w.found.result.now (string_bytes c.loop-place.text)
            (string_bytes c.match-get.text) (string_bytes c.args.text.now ++ messages_text bindings events)
            (sym w.in-Some.ensures)
            (w.found.ensures ∙ w.advance.ensures.found (take place events) c.loop-place.invariant.1)
            (ap string_bytes w.text-is ∙ w.in_ok-push_message.ensures) c.loop-place.invariant.0,
        ap (λ (p : PredecessorState). p.last) w.predecessors-is
            ∙ w.advance.ensures.last (take place events) c.loop-place.invariant.1
            ∙ ap (last_timestamps bindings) (sym (take_found events place w.in-Some.event.now (sym w.in-Some.ensures))),
      )
      | in_default w ↦ absurd (no_event events place (omega arith) (sym w.in_default.ensures))
    ]
