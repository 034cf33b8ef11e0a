use Rattle.std.proofs.Common.{inl, rules}
use Rattle.std.proofs.lemmas.Result.{err_from_is_err_and}
use Rattle.cdc_follow.proofs.EntryLemmas.{no_entry, some_entry, wrong_entry}
use Rattle.cdc_follow.proofs.entries.value_entry.Goals as goal

pub returns-in_ok-entry_of-in-Ok : goal.returns-in_ok-entry_of-in-Ok
returns-in_ok-entry_of-in-Ok c =
    let parsed = c.in-Ok.ensures.ok in
    inl (some_entry c.args.chained c.args.line.now _ _ parsed.0 parsed.1 c.in_ok-entry_of-in-Ok.ensures)

pub returns-in_err-entry_of-in-Ok : goal.returns-in_err-entry_of-in-Ok
returns-in_err-entry_of-in-Ok c =
    let parsed = c.in-Ok.ensures.ok in
    let exit = err_from_is_err_and c.from_residual.result c.from_residual.ensures.1 in
    rw (exit.1, exit.2)
    (inl (wrong_entry c.args.chained c.args.line.now _ _ parsed.0 parsed.1 c.in_err-entry_of-in-Ok.ensures))

pub returns-in-Err-2 : goal.returns-in-Err-2
returns-in-Err-2 c =
    let refused = c.in-Err.ensures.err in
    let tested = c.is_memory.ensures in
    inl (no_entry c.args.chained c.args.line.now (refused (λ memory. search (rules, tested.1 memory))))
