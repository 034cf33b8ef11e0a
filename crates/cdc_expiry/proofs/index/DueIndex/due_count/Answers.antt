use Rattle.std.proofs.Common.{rules, sym, ap, ◌∙◌, arith}
use Rattle.std.specs.FinSet.{len}
use Rattle.std.proofs.lemmas.List.Sorted.{IsPartitionPoint-from_clause}
use Rattle.cdc_expiry.specs.Triples.{Index, is_due, due_at}
use Rattle.cdc_expiry.proofs.InOrder.{parted, due_down, counted}
use Rattle.cdc_expiry.proofs.Lists.{due_count-set_of}
use Rattle.cdc_expiry.proofs.index.DueIndex.due_count.Goals as goal

pub returns : goal.returns
returns c =
    let now = c.args.now in
    let xs = c.self.inside.triples.items in
    let kept = c.self.invariant in
    let parts = IsPartitionPoint-from_clause (is_due now) xs c.partition_point.result
    c.partition_point.ensures.partitioned (parted (is_due now) xs (due_down now) kept.in_order)
    (λ a r f called. search rules) in
    sym (counted (is_due now) xs c.partition_point.result parts (omega (arith, c.partition_point.ensures.bound)))
    ∙ sym (due_count-set_of xs now kept.apart)
    ∙ ap (λ (i : Index). len (due_at i.triples now)) c.self.view_is
