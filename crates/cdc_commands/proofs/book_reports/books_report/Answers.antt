use Rattle.cdc_commands.proofs.Terms.{Arguments, Event, List, ap, ap₂, emitted, events, history_of, kept_by, length, map, subst, sym, true, ◌<◌, ◌^◌, ◌∙◌, ◌≡◌}
use Rattle.cdc_commands.proofs.HeldLaws.{few_of_script}
use Rattle.cdc_commands.proofs.book_reports.books_report.Goals as goal

pub subscribers_of_log-requires : goal.subscribers_of_log-requires
subscribers_of_log-requires c =
    let events_are : c.log.result.now.events ≡ events (history_of c.args.script) =
    c.log.ensures ∙ ap events c.in_ok-ledger.ensures.ledger in
    subst (λ (es : List Event). length es < 2 ^ 63) (sym events_are) (few_of_script c.args.script)

pub returns-clause-subscribers : goal.returns-clause-subscribers
returns-clause-subscribers c =
    let events_are : c.log.result.now.events ≡ events (history_of c.args.script) =
    c.log.ensures ∙ ap events c.in_ok-ledger.ensures.ledger in
    c.in_ok-subscribers.ensures
    ∙ ap₂ (λ (es : List Event) (bs : List Arguments). map (kept_by (emitted es true)) bs) events_are c.into_vec.ensures
