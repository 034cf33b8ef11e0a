use Rattle.std.proofs.Common.{rules}
use Rattle.cdc_audit.proofs.IndexLemmas.{indexed_all, indexed_more, indexed_none}
use Rattle.cdc_audit.proofs.apart.index_of.Goals as goal

pub loop-id-init : goal.loop-id-init
loop-id-init c =
    indexed_none c.args.fields.now.entries c.into_iter-id-iterator.result c.with_hasher-created.result.entries (search rules)
    c.with_hasher-created.ensures.empty

pub loop-id-preserved : goal.loop-id-preserved
loop-id-preserved c =
    indexed_more c.args.fields.now.entries c.loop-id.id-iterator c.next.new.self _ c.loop-id.created.entries _
    c.put_created.new.created.entries c.loop-id.invariant c.in-Some.ensures.steps c.in_ok-reserve.ensures.entries
    c.put_created.ensures.index

pub returns : goal.returns
returns c =
    indexed_all c.args.fields.now.entries c.loop-id.id-iterator _ c.loop-id.invariant c.in-None.ensures.steps.0
