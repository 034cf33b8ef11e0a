use Rattle.cdc_diagnostics.proofs.Words.{Event, List, StartAt, Step, ap, begin_text, codes, decimal, drop, events, events_after, left_out, length, refl, start_text, subst, sym, ℕ, ◌++◌, ◌∙◌, ◌≡◌, ◌≤◌}
use Rattle.cdc_diagnostics.proofs.Events.{left_out-place}
use Rattle.cdc_diagnostics.proofs.traces.Done.started_sentence.Goals as goal

-- a start whose timestamp isn't given
unasked : (step : Step) (session after : ℕ) (all : List Event) → ((t : ℕ) → step ≡ StartAt t → ⊥)
    → start_text step session after all ≡ begin_text session after
unasked (StartAt t) session after all other = absurd (other t refl)
unasked _ session after all other = refl

pub returns-in-StartAt : goal.returns-in-StartAt
returns-in-StartAt c =
    let all = events c.args.self.ledger.now in
    let count : c.first_after-left_out.result ≡ left_out c.args.after all =
    left_out-place c.args.after c.first_after-left_out.result all
    (subst (λ (es : List Event). c.first_after-left_out.result ≤ length es) c.log.ensures
    c.first_after-left_out.ensures.bound)
    (subst (λ (es : List Event). drop c.first_after-left_out.result es ≡ events_after c.args.after es) c.log.ensures
    c.first_after-left_out.ensures.parts) in
    rw c.in-StartAt.is (c.late_start_sentence.ensures
    ∙ ap (λ n. begin_text c.args.session c.args.after ++ codes ", events left out so far: " ++ decimal n) count)

pub returns-in_default : goal.returns-in_default
returns-in_default c =
    c.start_sentence.ensures
    ∙ sym (unasked c.args.self.step.now c.args.session c.args.after
    (events c.args.self.ledger.now) c.in_default.not-StartAt)
