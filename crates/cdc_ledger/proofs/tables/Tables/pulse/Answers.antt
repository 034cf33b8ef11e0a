use Rattle.cdc_ledger.proofs.Words.{◌<◌, ◌∙◌, ◌≡◌, History, IfErr, IsErrAnd, OnErr, OutOfMemory, ap, base, due, expiries_from, length, subst, sym}
use Rattle.cdc_ledger.proofs.Pulsed.{pulse-refused, pulse-taken, pulse-unmade}
use Rattle.cdc_ledger.proofs.tables.Tables.pulse.Goals as goal

pub returns-in-Some-clause-answers : goal.returns-in-Some-clause-answers
returns-in-Some-clause-answers c =
    pulse-refused c.args.self.now.history c.args.now c.due_count-count.result
    c.due_count-count.ensures
    c.in-Some.refusal (sym c.batch_refusal.ensures ∙ c.in-Some.is)

pub returns-in_err-reserve_entries-clause-answers : goal.returns-in_err-reserve_entries-clause-answers
returns-in_err-reserve_entries-clause-answers c =
    let out : c.in_err-reserve_entries.field-0.0 ≡ OutOfMemory =
    subst (λ r. IfErr r (λ e. e ≡ OutOfMemory)) c.in_err-reserve_entries.was c.reserve_entries.ensures.memory in
    let same = c.from_residual.ensures.1 in
    pulse-unmade c.args.self.now.history c.args.now c.due_count-count.result
    c.due_count-count.ensures
    c.reserve_entries.new.self.history c.from_residual.result (sym c.batch_refusal.ensures ∙ c.in_default.is)
    c.reserve_entries.ensures.history
    (subst (λ r. OnErr r (0 < c.due_count-count.result)) c.in_err-reserve_entries.was c.reserve_entries.ensures.needed)
    (subst (λ x. IsErrAnd c.from_residual.result (λ e. e ≡ x)) out same)

pub expire_all-requires-clause-count : goal.expire_all-requires-clause-count
expire_all-requires-clause-count c =
    c.due_count-count.ensures
    ∙ ap (λ (h : History). length (due h c.args.now)) (sym c.reserve_entries.ensures.history)

pub returns-clause-answers : goal.returns-clause-answers
returns-clause-answers c =
    let same : c.reserve_entries.new.self.history ≡ c.args.self.now.history = c.reserve_entries.ensures.history in
    pulse-taken c.args.self.now.history c.args.now c.due_count-count.result
    c.due_count-count.ensures
    c.expire_all.new.self.history (sym c.batch_refusal.ensures ∙ c.in_default.is)
    (c.expire_all.ensures.history
    ∙ (ap (λ n. expiries_from c.reserve_entries.new.self.history n
    (due c.reserve_entries.new.self.history c.args.now)) c.base-base.ensures
    ∙ ap (λ (h : History). expiries_from h (base h c.args.now) (due h c.args.now)) same))
