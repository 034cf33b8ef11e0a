use Rattle.std.proofs.Common.{◌≤◌, arith, length, sym}
use Rattle.cdc_queue_lines.proofs.LineTexts.{no_event}
use Rattle.cdc_deliveries.proofs.IndexLemmas.{all_indexed, one_indexed}
use Rattle.cdc_deliveries.proofs.feeds.FeedIndex.new.Goals as goal
use Rattle.cdc_deliveries.proofs.feeds.FeedIndex.new.Goals.{in-Some+in_ok-add, in_default}

pub loop-place-preserved : goal.loop-place-preserved
loop-place-preserved c =
    let events = c.args.log.now.events in
    let binding = c.args.binding.now in
    elim c.match-get.branch [
      | in-Some+in_ok-add w ↦
          rw (w.index-is) (one_indexed c.loop-place.index w.add.new.self binding events c.loop-place.place
          w.in-Some.event.now (sym w.in-Some.ensures) w.in_ok-add.ensures c.loop-place.invariant)
      | in_default w ↦
          absurd (no_event events c.loop-place.place (omega arith) (sym w.in_default.ensures))
    ]

pub returns : goal.returns
returns c =
    let past : length c.args.log.now.events ≤ c.loop-place.place = omega arith in
    all_indexed c.loop-place.index c.args.binding.now c.args.log.now.events c.loop-place.place past
    c.loop-place.invariant
