use Rattle.cdc_deliveries.proofs.Words.{feed, string_bytes}
use Rattle.cdc_deliveries.proofs.ExpectedTexts.{IsExpecting}
use Rattle.cdc_deliveries.proofs.expected.expected_lines.Given as goal

abbrev pub invariant-loop-place : goal.invariant-loop-place
invariant-loop-place l =
    IsExpecting (feed l.log.events l.binding) l.arrivals l.place (string_bytes l.text) l.subscriber
