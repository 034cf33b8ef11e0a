use Rattle.std.proofs.Common.{◌≡◌, ◌<◌, ◌≤◌, ◌∙◌, ◌++◌, List, ℕ, ◌∷◌, [], ap, arith}
use Rattle.std.specs.Prelude.{string_bytes}
use Rattle.cdc_queue_lines.proofs.MessageTexts.{queue_added}
use Rattle.cdc_queue_lines.proofs.messages.push_queues.Goals as goal
use Rattle.cdc_queue_lines.proofs.messages.push_queues.Goals.{then-place-gt0+in_ok-push_str, else-place-gt0}

pub loop-place-preserved : goal.loop-place-preserved
loop-place-preserved c =
    let add = queue_added c.args.queues.now c.loop-place.place (record { queue = 0; previous = 0 })
    (string_bytes c.args.text.now)
    (string_bytes c.loop-place.text) (string_bytes c.if-place-gt0.text) (string_bytes c.push_queue.new.text)
    (omega arith) c.loop-place.invariant in
    elim c.if-place-gt0.branch [
      | then-place-gt0+in_ok-push_str w ↦
          add (λ later. ap string_bytes w.text-is ∙ w.in_ok-push_str.ensures.bytes) (λ first. absurd (omega arith))
          c.in_ok-push_queue.ensures
      | else-place-gt0 w ↦
          add (λ later. absurd (omega arith)) (λ first. ap string_bytes w.text-is) c.in_ok-push_queue.ensures
    ]
