use Rattle.cdc_commands.proofs.Terms.{ClientBatch, Event, List, [], ap, arith, empty_history, events, history_after, length, on_err_weaker, subst, true, ◌<◌, ◌∙◌, ◌∷◌}
use Rattle.cdc_commands.proofs.messages.print_messages.Goals as goal

-- if there is an event, there was a batch
batches_before : (batches : List ClientBatch)
    → 0 < length (events (record (history_after empty_history batches) { closed = true })) → 0 < length batches
batches_before [] some = some
batches_before (b ∷ rest) some = omega arith

pub returns-clause-memory : goal.returns-clause-memory
returns-clause-memory g c =
    on_err_weaker c.messages.result
    (λ some. batches_before c.args.script.now.batches
    (subst (λ (es : List Event). 0 < length es) (c.log.ensures ∙ ap events c.in_ok-taken.ensures.ledger) some))
    c.messages.ensures.memory
