use Rattle.cdc_commands.proofs.Terms.{drop, kept_text, ◌++◌, ◌+◌, ◌≡◌}
use Rattle.cdc_commands.proofs.report.push_subscribers.Given as goal

abbrev pub invariant-loop-place : goal.invariant-loop-place
invariant-loop-place l =
    l.text.items ++ kept_text (l.place + 1) (drop l.place l.subscribers)
    ≡ l.fn.text.items ++ kept_text 1 l.subscribers
