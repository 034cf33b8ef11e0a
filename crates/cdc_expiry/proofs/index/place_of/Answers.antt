use Rattle.std.proofs.Common.{rules}
use Rattle.std.proofs.lemmas.List.Sorted.{IsPartitionPoint-from_clause}
use Rattle.cdc_expiry.specs.Triples.{is_before}
use Rattle.cdc_expiry.proofs.InOrder.{parted, before_down}
use Rattle.cdc_expiry.proofs.index.place_of.Goals as goal

pub returns-clause-parts : goal.returns-clause-parts
returns-clause-parts c =
    let e = c.args.expires_at in
    let t = c.args.timestamp in
    let xs = c.args.triples.now.items in
    IsPartitionPoint-from_clause (is_before e t) xs c.partition_point.result c.partition_point.ensures.partitioned
    (parted (is_before e t) xs (before_down e t) c.requires) (λ a r f called. search rules)
