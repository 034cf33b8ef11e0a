use Rattle.cdc_deliveries.proofs.Words.{deliveries_from, delivery_text, drop, feed, string_bytes, ◌++◌, ◌+◌, ◌≡◌}
use Rattle.cdc_deliveries.proofs.lines.delivery_lines.Given as goal

-- the text so far, and the lines of the arrivals that are left, make the whole text
abbrev pub invariant-loop-place : goal.invariant-loop-place
invariant-loop-place l =
    string_bytes l.text
    ++ deliveries_from (l.place + 1) (feed l.log.events l.binding) (drop l.place l.arrivals)
    ≡ delivery_text l.binding l.log.events l.arrivals
