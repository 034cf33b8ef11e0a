use Rattle.cdc_follow.proofs.TurnLemmas.{turns_when_bad, turns_when_none, turns_when_on, turns_when_stop}
use Rattle.cdc_follow.proofs.StopLemmas.{leads_when_bad, leads_when_none, leads_when_on, leads_when_stop}
use Rattle.cdc_follow.proofs.streams.follow_bytes.Goals as goal

pub returns-in-Ok-None-clause-leads : goal.returns-in-Ok-None-clause-leads
returns-in-Ok-None-clause-leads g c =
    leads_when_none c.args.binding.now c.args.rules c.args.number c.args.line.now (g.T.TakesEntries.state
    c.args.follower.now)
    c.in-Ok-None.field-0 c.in-Ok-None.ensures c.in-Ok-None.field-0-is

pub returns-in-Err-clause-leads : goal.returns-in-Err-clause-leads
returns-in-Err-clause-leads g c =
    leads_when_bad c.args.binding.now c.args.rules c.args.number c.args.line.now (g.T.TakesEntries.state
    c.args.follower.now) c.in-Err.error
    c.in-Err.ensures c.stop_at_line.result c.stop_at_line.ensures

pub returns-then-stops_at-clause-leads : goal.returns-then-stops_at-clause-leads
returns-then-stops_at-clause-leads g c =
    leads_when_stop c.args.binding.now c.args.rules c.args.number c.args.line.now (g.T.TakesEntries.state
    c.args.follower.now)
    c.in-Ok-Some.field-0 c.in-Ok-Some.entry c.in_ok-following.following (g.T.TakesEntries.state
    c.take_entry.new.self) c.stop_by.result
    c.in-Ok-Some.ensures c.in-Ok-Some.field-0-is c.in_ok-following.ensures.answer c.in_ok-following.ensures.state
    c.if-stops_at.ensures c.stop_by.ensures

pub returns-clause-leads : goal.returns-clause-leads
returns-clause-leads g c =
    leads_when_on c.args.binding.now c.args.rules c.args.number c.args.line.now (g.T.TakesEntries.state
    c.args.follower.now)
    c.in-Ok-Some.field-0 c.in-Ok-Some.entry c.in_ok-following.following (g.T.TakesEntries.state
    c.take_entry.new.self) c.in-Ok-Some.ensures
    c.in-Ok-Some.field-0-is c.in_ok-following.ensures.answer c.in_ok-following.ensures.state c.if-stops_at.ensures

pub returns-in-Ok-None-clause-turns : goal.returns-in-Ok-None-clause-turns
returns-in-Ok-None-clause-turns g c =
    turns_when_none c.args.binding.now c.args.rules c.args.number c.args.line.now (g.T.TakesEntries.state
    c.args.follower.now)
    c.in-Ok-None.field-0 c.in-Ok-None.ensures c.in-Ok-None.field-0-is

pub returns-in-Err-clause-turns : goal.returns-in-Err-clause-turns
returns-in-Err-clause-turns g c =
    turns_when_bad c.args.binding.now c.args.rules c.args.number c.args.line.now (g.T.TakesEntries.state
    c.args.follower.now) c.in-Err.error
    c.in-Err.ensures c.stop_at_line.result c.stop_at_line.ensures

pub returns-then-stops_at-clause-turns : goal.returns-then-stops_at-clause-turns
returns-then-stops_at-clause-turns g c =
    turns_when_stop c.args.binding.now c.args.rules c.args.number c.args.line.now (g.T.TakesEntries.state
    c.args.follower.now)
    c.in-Ok-Some.field-0 c.in-Ok-Some.entry c.in_ok-following.following (g.T.TakesEntries.state
    c.take_entry.new.self) c.stop_by.result
    c.in-Ok-Some.ensures c.in-Ok-Some.field-0-is c.in_ok-following.ensures.answer c.in_ok-following.ensures.state
    c.if-stops_at.ensures c.stop_by.ensures

pub returns-clause-turns : goal.returns-clause-turns
returns-clause-turns g c =
    turns_when_on c.args.binding.now c.args.rules c.args.number c.args.line.now (g.T.TakesEntries.state
    c.args.follower.now)
    c.in-Ok-Some.field-0 c.in-Ok-Some.entry c.in_ok-following.following (g.T.TakesEntries.state
    c.take_entry.new.self) c.in-Ok-Some.ensures
    c.in-Ok-Some.field-0-is c.in_ok-following.ensures.answer c.in_ok-following.ensures.state c.if-stops_at.ensures
