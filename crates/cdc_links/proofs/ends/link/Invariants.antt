use Rattle.std.proofs.Common.{◌≡◌, ◌≤◌, ◌-◌, [], vec_len, vec_capacity}
use Rattle.crossbeam_channel.specs.Ends.{sends_on}
use Rattle.cdc_links.specs.Links.{fresh_endpoints}
use Rattle.cdc_links.specs.Rule.{IsLinkOf}
use Rattle.cdc_links.proofs.ends.link.Given as goal

abbrev pub invariant-loop-into : goal.invariant-loop-into
invariant-loop-into g l =
    IsLinkOf l.into.link (sends_on l.sender)
    × (l.into.senders ≡ vec_len l.outs)
    × (l.into.received ≡ [])
    × (l.outs.items ≡ fresh_endpoints l.into.link (vec_len l.outs))
    × (vec_len l.outs ≤ l.senders)
    × (vec_capacity l.outs ≡ l.senders)

abbrev pub decreases-loop-into : goal.decreases-loop-into
decreases-loop-into g l = l.senders - vec_len l.outs
