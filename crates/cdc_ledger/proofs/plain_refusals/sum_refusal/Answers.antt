use Rattle.cdc_ledger.proofs.Words.{◌++◌, ◌∙◌, limit_lines, opened_as, overflow_lines, sym, timeout_lines}
use Rattle.cdc_ledger.proofs.LineLaws.{first_line-append_none, first_line-append_some}
use Rattle.cdc_ledger.proofs.plain_refusals.sum_refusal.Goals as goal

pub overflow_refusal-requires : goal.overflow_refusal-requires
overflow_refusal-requires c = record { debit = c.requires.debited.0; credit = c.requires.credited.1 }

pub returns-in-Some : goal.returns-in-Some
returns-in-Some c =
    let d = c.args.debited.now in
    let e = c.args.credited.now in
    let r = c.args.request.now in
    let overflow = overflow_lines d.balances e.balances r in
    let timeout = timeout_lines r c.args.timestamp in
    let limit = limit_lines d.balances e.balances (opened_as d).request (opened_as e).request r.amount in
    sym (first_line-append_some (overflow ++ timeout) limit c.in-Some.refusal
    (first_line-append_some overflow timeout c.in-Some.refusal (sym c.overflow_refusal.ensures ∙ c.in-Some.is)))

pub returns-in-Some-timeout_refusal : goal.returns-in-Some-timeout_refusal
returns-in-Some-timeout_refusal c =
    let d = c.args.debited.now in
    let e = c.args.credited.now in
    let r = c.args.request.now in
    let overflow = overflow_lines d.balances e.balances r in
    let timeout = timeout_lines r c.args.timestamp in
    let limit = limit_lines d.balances e.balances (opened_as d).request (opened_as e).request r.amount in
    sym (first_line-append_some (overflow ++ timeout) limit c.in-Some-timeout_refusal.refusal
    (first_line-append_none overflow timeout (sym c.overflow_refusal.ensures ∙ c.in_default.is)
    ∙ (sym c.timeout_refusal.ensures ∙ c.in-Some-timeout_refusal.is)))

pub returns : goal.returns
returns c =
    let d = c.args.debited.now in
    let e = c.args.credited.now in
    let r = c.args.request.now in
    let overflow = overflow_lines d.balances e.balances r in
    let timeout = timeout_lines r c.args.timestamp in
    let limit = limit_lines d.balances e.balances (opened_as d).request (opened_as e).request r.amount in
    c.limit_refusal.ensures
    ∙ sym (first_line-append_none (overflow ++ timeout) limit
    (first_line-append_none overflow timeout (sym c.overflow_refusal.ensures ∙ c.in_default.is)
    ∙ (sym c.timeout_refusal.ensures ∙ c.in_default-timeout_refusal.is)))
