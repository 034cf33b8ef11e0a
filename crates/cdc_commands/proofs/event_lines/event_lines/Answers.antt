use Rattle.cdc_commands.proofs.Terms.{Some, ap, arith, found_within, message_lines, slice_get, string_bytes, sym, texts_more, ◌∙◌, ◌≡◌}
use Rattle.cdc_commands.proofs.event_lines.event_lines.Goals as goal
use Rattle.cdc_commands.proofs.event_lines.event_lines.Goals.{in-Some+in_ok-push_message, in_default}

pub loop-place-preserved : goal.loop-place-preserved
loop-place-preserved c =
    elim c.match-get.branch [
      | in-Some+in_ok-push_message w ↦
          let found : slice_get c.args.log.now.events c.loop-place.place ≡ Some w.in-Some.event.now =
          sym w.in-Some.ensures in
          texts_more message_lines c.args.log.now.events c.loop-place.place w.in-Some.event.now _ _
          c.loop-place.invariant found
          (ap string_bytes w.text-is ∙ w.in_ok-push_message.ensures)
      | in_default w ↦
          absurd (found_within c.args.log.now.events c.loop-place.place (omega (arith, c.len-place-end.ensures))
          (sym w.in_default.ensures))
    ]
