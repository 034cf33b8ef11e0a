-- Which messages a binding takes (AMQP 0-9-1, the headers exchange, `x-match`).
use Rattle.std.specs.Prelude.{◌==◌, List, Bool, true, false}
use Rattle.std.specs.List.{list_all, list_any}
use Rattle.cdc_types.specs.declared.events.EventKind.{EventKind}
use Rattle.cdc_types.specs.declared.events.EventKind.TheVariants.{SinglePhase, TwoPhasePending, TwoPhasePosted, TwoPhaseVoided, TwoPhaseExpired}
use Rattle.cdc_types.specs.declared.events.Headers.{Headers}
use Rattle.cdc_match.specs.declared.pairs.Mode.{Mode}
use Rattle.cdc_match.specs.declared.pairs.Mode.TheVariants.{All, Any}
use Rattle.cdc_match.specs.declared.pairs.Pair.{Pair}
use Rattle.cdc_match.specs.declared.pairs.Pair.TheVariants.{EventType, Ledger, TransferCode, DebitAccountCode, CreditAccountCode}
use Rattle.cdc_match.specs.Arguments.{Arguments}

-- whether two kinds of event are one
abbrev pub same_kind : EventKind → EventKind → Bool
same_kind SinglePhase SinglePhase = true
same_kind TwoPhasePending TwoPhasePending = true
same_kind TwoPhasePosted TwoPhasePosted = true
same_kind TwoPhaseVoided TwoPhaseVoided = true
same_kind TwoPhaseExpired TwoPhaseExpired = true
same_kind _ _ = false

-- whether the header that a pair names has the pair's value
abbrev pub equals_header : Headers → Pair → Bool
equals_header headers (EventType kind) = same_kind headers.kind kind
equals_header headers (Ledger ledger) = headers.ledger == ledger
equals_header headers (TransferCode code) = headers.transfer_code == code
equals_header headers (DebitAccountCode code) = headers.debit_account_code == code
equals_header headers (CreditAccountCode code) = headers.credit_account_code == code

-- whether the pairs pass a test: each one under `all`, at least one under `any`; of no pairs `all` is true and `any`
-- false
abbrev pub pass : Mode → (Pair → Bool) → List Pair → Bool
pass All test pairs = list_all test pairs
pass Any test pairs = list_any test pairs

-- whether a binding takes the messages with these headers
abbrev pub matches : Arguments → Headers → Bool
matches binding headers = pass binding.mode (equals_header headers) binding.pairs
