use Rattle.std.proofs.Common.{◌∙◌, ap}
use Rattle.cdc_follow.specs.Entries.{value_entry}
use Rattle.cdc_message.specs.Reading.{value_of}
use Rattle.cdc_follow.proofs.EntryLemmas.{line-event}
use Rattle.cdc_follow.proofs.entries.body_entry.Goals as goal

pub returns-in-Some : goal.returns-in-Some
returns-in-Some c =
    ap (λ chained. value_entry chained (value_of c.args.line.now)) c.if-not-chained.true
    ∙ line-event c.args.line.now c.in-Some.event c.in-Some.ensures.event
