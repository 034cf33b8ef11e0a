use Rattle.cdc_commands.proofs.Terms.{Stands, WorldState, drop, subscriptions_text, ◌++◌, ◌+◌, ◌≡◌}
use Rattle.cdc_commands.proofs.simulation_report.push_subscriptions.Given as goal

abbrev pub invariant-loop-place : goal.invariant-loop-place
invariant-loop-place l =
    (w : WorldState) → Stands l.world w
    → l.text.items ++ subscriptions_text (l.place + 1) (drop l.place w.subscriptions)
    ≡ l.fn.text.items ++ subscriptions_text 1 w.subscriptions
