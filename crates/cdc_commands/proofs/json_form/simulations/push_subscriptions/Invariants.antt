use Rattle.cdc_commands.proofs.Terms.{Stands, WorldState, drop, json_lines, kept_of, kept_values, map, ◌++◌, ◌+◌, ◌≡◌}
use Rattle.cdc_commands.proofs.json_form.simulations.push_subscriptions.Given as goal

abbrev pub invariant-loop-place : goal.invariant-loop-place
invariant-loop-place l =
    (w : WorldState) → Stands l.world w
    → l.lines.text.items
    ++ json_lines (kept_values (l.place + 1) (drop l.place (map (λ s. kept_of s.reception) w.subscriptions)))
    ≡ l.fn.lines.text.items ++ json_lines (kept_values 1 (map (λ s. kept_of s.reception) w.subscriptions))
