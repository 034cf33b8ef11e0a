use Rattle.std.proofs.Common.{◌≡◌, ◌∷◌, ◌++◌, map}
use Rattle.cdc_run.specs.declared.tasks.Task.TheVariants as task
use Rattle.cdc_run.proofs.runs.tasks_of.Given as goal

-- those so far
abbrev pub invariant-loop-client : goal.invariant-loop-client
invariant-loop-client g l =
    l.tasks.items ≡ task.Ledger l.fn.ends.ledger
    ∷ map (λ p. task.Client (record { end = p.0; script = p.1.items })) l.yielded

abbrev pub invariant-loop-subscriber : goal.invariant-loop-subscriber
invariant-loop-subscriber g l =
    l.tasks.items ≡ l.initial.tasks.items ++ map task.Subscriber l.yielded
