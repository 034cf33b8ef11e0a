use Rattle.std.proofs.Common.{rules, nat_le}
use Rattle.std.proofs.lemmas.List.Sorted.{IsPartitionPoint-from_clause, IsPartitionedBy-leb}
use Rattle.cdc_types.specs.declared.events.Event.{Event}
use Rattle.cdc_log.proofs.Rising.{IsNonDecreasingBy-rising, drop-events_after}
use Rattle.cdc_log.proofs.segment.first_after.Goals as goal

pub returns-clause-parts : goal.returns-clause-parts
returns-clause-parts c =
    let events = c.args.events.now in
    let t = c.args.timestamp in
    let rising = IsNonDecreasingBy-rising 0 events c.requires in
    let parted = IsPartitionedBy-leb (λ (e : Event). e.timestamp) events t rising in
    drop-events_after t events c.partition_point.result
    (IsPartitionPoint-from_clause (λ (e : Event). nat_le e.timestamp t) events c.partition_point.result
    c.partition_point.ensures.partitioned parted (λ a r f called. search rules))
