use Rattle.std.proofs.Common.{◌≡◌, ap, sym, subst, ◌∙◌}
use Rattle.cdc_log.specs.Log.{RiseFrom}
use Rattle.cdc_types.specs.Timestamps.{last_timestamp, last_timestamp_from}
use Rattle.cdc_laws.proofs.WholeReads.{last_read_none, last_read_some, read_is_whole}
use Rattle.cdc_laws.proofs.readings.is_whole.Goals as goal
use Rattle.cdc_laws.proofs.readings.is_whole.Goals.{in-Some, in-None}

pub returns-then-closed : goal.returns-then-closed
returns-then-closed c =
    let read = c.args.events.now in
    let after = c.args.poll.after in
    let last : c.match-last.last ≡ last_timestamp_from after read =
    elim c.match-last.branch [
      | in-Some w ↦ w.last-is ∙ last_read_some after read w.in-Some.event.now (sym w.in-Some.ensures.value)
      | in-None w ↦ w.last-is ∙ last_read_none after read (sym w.in-None.ensures.value)
    ] in
    read_is_whole c.args.ledger.now c.args.poll read c.last_timestamp.result c.match-last.last c.if-closed.ensures
    c.requires
    (subst (RiseFrom 0) c.log.ensures c.last_timestamp.ensures.rising)
    (c.last_timestamp.ensures.last ∙ ap last_timestamp c.log.ensures) last
