use Rattle.std.proofs.Common.{sym, inl, ◌∙◌, rules}
use Rattle.cdc_message.proofs.Bytes.{read_some, read_none, some_bytes}
use Rattle.cdc_message.proofs.decoding.decode_value.Goals as goal

pub returns-in-Ok-clause-event : goal.returns-in-Ok-clause-event
returns-in-Ok-clause-event c =
    let parsed = c.in-Ok.ensures.ok in
    inl (c.event_of.ensures ∙ sym (read_some c.args.bytes.now _ parsed.0 parsed.1))

pub returns-in-Err-2-clause-event : goal.returns-in-Err-2-clause-event
returns-in-Err-2-clause-event c =
    let refused = c.in-Err.ensures.err in
    let tested = c.is_memory.ensures in
    inl (sym (read_none c.args.bytes.now (refused (λ memory. search (rules, tested.1 memory)))))

pub returns-in-Ok-clause-memory : goal.returns-in-Ok-clause-memory
returns-in-Ok-clause-memory c =
    let parsed = c.in-Ok.ensures.ok in
    λ exhausted. some_bytes c.args.bytes.now _ parsed.1
