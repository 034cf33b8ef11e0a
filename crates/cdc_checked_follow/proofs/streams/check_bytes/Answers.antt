use Rattle.std.proofs.Common.{true, ◌∙◌, refl, sym}
use Rattle.cdc_checked_follow.specs.Checking.{stop_for}
use Rattle.cdc_checked_follow.proofs.StandLemmas.{skips_too, stops_unchanged}
use Rattle.cdc_checked_follow.proofs.StreamLemmas.{leads_when_bad, leads_when_none, leads_when_on, leads_when_stop}
use Rattle.cdc_checked_follow.proofs.TurnLemmas.{turns_when_bad, turns_when_none, turns_when_on, turns_when_stop}
use Rattle.cdc_checked_follow.proofs.streams.check_bytes.Goals as goal

pub returns-in-Ok-None-clause-leads : goal.returns-in-Ok-None-clause-leads
returns-in-Ok-None-clause-leads c =
    leads_when_none c.args.binding.now c.args.skips_gaps c.args.number c.args.line.now c.args.follower.now
    c.in-Ok-None.field-0 c.in-Ok-None.ensures c.in-Ok-None.field-0-is

pub returns-in-Err-clause-leads : goal.returns-in-Err-clause-leads
returns-in-Err-clause-leads c =
    leads_when_bad c.args.binding.now c.args.skips_gaps c.args.number c.args.line.now c.args.follower.now
    c.in-Err.error c.in-Err.ensures c.stop_at_line.result c.stop_at_line.ensures

pub returns-in-Some-clause-leads : goal.returns-in-Some-clause-leads
returns-in-Some-clause-leads c =
    leads_when_stop c.args.binding.now c.args.skips_gaps c.args.number c.args.line.now c.args.follower.now
    c.in-Ok-Some.field-0 c.in-Ok-Some.entry c.in_ok-checking.checking c.stop_for.result c.in-Some.stop c.take.new.self
    c.in-Ok-Some.ensures c.in-Ok-Some.field-0-is c.stop_for.ensures c.in-Some.is c.in_ok-checking.ensures.answer
    c.in_ok-checking.ensures.next

pub returns-clause-leads : goal.returns-clause-leads
returns-clause-leads c =
    leads_when_on c.args.binding.now c.args.skips_gaps c.args.number c.args.line.now c.args.follower.now
    c.in-Ok-Some.field-0 c.in-Ok-Some.entry c.in_ok-checking.checking c.stop_for.result c.take.new.self
    c.in-Ok-Some.ensures c.in-Ok-Some.field-0-is c.stop_for.ensures c.in_default.is
    c.in_ok-checking.ensures.answer c.in_ok-checking.ensures.next

pub returns-in-Ok-None-clause-turns : goal.returns-in-Ok-None-clause-turns
returns-in-Ok-None-clause-turns c =
    turns_when_none c.args.binding.now c.args.skips_gaps c.args.number c.args.line.now c.args.follower.now
    c.in-Ok-None.field-0 c.in-Ok-None.ensures c.in-Ok-None.field-0-is

pub returns-in-Err-clause-turns : goal.returns-in-Err-clause-turns
returns-in-Err-clause-turns c =
    turns_when_bad c.args.binding.now c.args.skips_gaps c.args.number c.args.line.now c.args.follower.now
    c.in-Err.error c.in-Err.ensures c.stop_at_line.result c.stop_at_line.ensures

pub returns-in-Some-clause-turns : goal.returns-in-Some-clause-turns
returns-in-Some-clause-turns c =
    turns_when_stop c.args.binding.now c.args.skips_gaps c.args.number c.args.line.now c.args.follower.now
    c.in-Ok-Some.field-0 c.in-Ok-Some.entry c.in_ok-checking.checking c.stop_for.result c.in-Some.stop
    c.in-Ok-Some.ensures c.in-Ok-Some.field-0-is c.stop_for.ensures c.in-Some.is c.in_ok-checking.ensures.answer

pub returns-clause-turns : goal.returns-clause-turns
returns-clause-turns c =
    turns_when_on c.args.binding.now c.args.skips_gaps c.args.number c.args.line.now c.args.follower.now
    c.in-Ok-Some.field-0 c.in-Ok-Some.entry c.in_ok-checking.checking c.stop_for.result c.following_of-following.result
    c.refusal_of.result c.in-Ok-Some.ensures c.in-Ok-Some.field-0-is c.stop_for.ensures c.in_default.is
    c.following_of-following.ensures c.refusal_of.ensures c.in_ok-checking.ensures.answer

pub returns-in-Ok-None-clause-taken : goal.returns-in-Ok-None-clause-taken
returns-in-Ok-None-clause-taken c = λ _ number.
    leads_when_none c.args.binding.now true number c.args.line.now c.args.follower.now c.in-Ok-None.field-0
    c.in-Ok-None.ensures c.in-Ok-None.field-0-is

pub returns-clause-taken : goal.returns-clause-taken
returns-clause-taken c = λ _ number.
    leads_when_on c.args.binding.now true number c.args.line.now c.args.follower.now c.in-Ok-Some.field-0
    c.in-Ok-Some.entry c.in_ok-checking.checking (stop_for true c.in_ok-checking.checking number) c.take.new.self
    c.in-Ok-Some.ensures c.in-Ok-Some.field-0-is refl
    (skips_too c.args.skips_gaps c.in_ok-checking.checking c.args.number number
    (sym c.stop_for.ensures ∙ c.in_default.is)) c.in_ok-checking.ensures.answer
    c.in_ok-checking.ensures.next

pub returns-in-Some-clause-stays : goal.returns-in-Some-clause-stays
returns-in-Some-clause-stays c = λ _.
    c.in_ok-checking.ensures.same
    (stops_unchanged c.args.skips_gaps c.in_ok-checking.checking c.args.number c.in-Some.stop
    (sym c.stop_for.ensures ∙ c.in-Some.is))
