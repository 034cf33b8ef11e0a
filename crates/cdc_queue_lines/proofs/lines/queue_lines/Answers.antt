use Rattle.std.proofs.Common.{◌∙◌, ◌≤◌, ℕ, ap, arith, length, sym}
use Rattle.std.specs.Prelude.{string_bytes}
use Rattle.std.specs.declared.alloc.Global.{Global}
use Rattle.std.specs.declared.vec.Vec.{Vec}
use Rattle.cdc_queue_lines.specs.Lines.{queue_text}
use Rattle.cdc_queue_lines.proofs.LineTexts.{no_event, one_event, all_events}
use Rattle.cdc_queue_lines.proofs.lines.queue_lines.Goals as goal
use Rattle.cdc_queue_lines.proofs.lines.queue_lines.Goals.{in-Some+in_ok-previous, in_default}

pub loop-place-preserved : goal.loop-place-preserved
loop-place-preserved c =
    let events = c.args.log.now.events in
    let binding = c.args.binding.now in
    elim c.match-get.branch [
      | in-Some+in_ok-previous w ↦
          one_event binding events c.loop-place.place w.in-Some.event.now (string_bytes c.loop-place.text)
          (string_bytes c.match-get.text) (queue_text binding events) c.loop-place.previous c.match-get.previous
          (sym w.in-Some.ensures)
          (λ later. rw (w.text-is, w.previous-is) (w.in_ok-previous.ensures later)) c.loop-place.invariant
      | in_default w ↦
          absurd (no_event events c.loop-place.place (omega arith)
          (sym w.in_default.ensures))
    ]

pub returns : goal.returns
returns c =
    let events = c.args.log.now.events in
    let binding = c.args.binding.now in
    let past : length events ≤ c.loop-place.place = omega arith in
    ap (λ (v : Vec ℕ Global). v.items) c.into_bytes.ensures.value
    ∙ all_events binding events c.loop-place.place (string_bytes c.loop-place.text) (string_bytes c.push_end.new.text)
    (queue_text binding events) c.loop-place.previous past c.in_ok-push_end.ensures c.loop-place.invariant
