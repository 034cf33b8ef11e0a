use Rattle.std.proofs.Common.{false, true}
use Rattle.cdc_checked_follow.proofs.TurnLemmas.{applied_by}
use Rattle.cdc_checked_follow.proofs.turns.applied_as.Goals as goal

pub returns-then-matches : goal.returns-then-matches
returns-then-matches c =
    applied_by c.args.binding.now c.args.content.now c.in-Event.event c.headers_of.result c.matches.result true
    c.in-Event.is c.matches.ensures c.headers_of.ensures c.if-matches.true

pub returns-else-matches : goal.returns-else-matches
returns-else-matches c =
    applied_by c.args.binding.now c.args.content.now c.in-Event.event c.headers_of.result c.matches.result false
    c.in-Event.is c.matches.ensures c.headers_of.ensures c.if-matches.false
