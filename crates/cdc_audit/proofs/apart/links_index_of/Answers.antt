use Rattle.std.proofs.Common.{rules}
use Rattle.cdc_audit.proofs.IndexLemmas.{linked_all, linked_more, linked_none}
use Rattle.cdc_audit.proofs.apart.links_index_of.Goals as goal

pub loop-id-init : goal.loop-id-init
loop-id-init c =
    linked_none c.args.fields.now.entries c.into_iter-id-iterator.result c.with_hasher-links.result.entries
    (search rules) c.with_hasher-links.ensures.empty

pub loop-id-preserved : goal.loop-id-preserved
loop-id-preserved c =
    linked_more c.args.fields.now.entries c.loop-id.id-iterator c.next.new.self _ c.loop-id.links.entries _
    c.put_link.new.links.entries c.loop-id.invariant c.in-Some.ensures.steps c.in_ok-reserve.ensures.entries
    c.put_link.ensures.index

pub returns : goal.returns
returns c =
    linked_all c.args.fields.now.entries c.loop-id.id-iterator _ c.loop-id.invariant c.in-None.ensures.steps.0
