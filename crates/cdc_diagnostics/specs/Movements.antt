-- What an event did with money, as a text.
use Rattle.std.specs.Prelude.{ℕ, ◌==◌, List, [], ◌++◌, codes, decimal, find, Option, None, Some}
use Rattle.cdc_types.specs.declared.events.Event.{Event}
use Rattle.cdc_types.specs.declared.events.EventKind.{EventKind}
use Rattle.cdc_types.specs.declared.events.EventKind.TheVariants.{SinglePhase, TwoPhasePending, TwoPhasePosted, TwoPhaseVoided, TwoPhaseExpired}
use Rattle.cdc_diagnostics.specs.declared.movements.Movement.{Movement}

-- the movement of an event: money goes from the account that is debited to the one that is credited
abbrev pub movement_of : Event → Movement
movement_of event = record {
  kind = event.kind;
  transfer = event.transfer.id;
  pending = event.transfer.pending_id;
  amount = event.transfer.amount;
  debit = event.debit_account.id;
  credit = event.credit_account.id;
}

-- what happened to a transfer; a post and a void name the pending one
abbrev pub kind_text : EventKind → ℕ → List ℕ
kind_text SinglePhase pending = []
kind_text TwoPhasePending pending = codes " pending"
kind_text TwoPhasePosted pending = codes " posts " ++ decimal pending
kind_text TwoPhaseVoided pending = codes " voids " ++ decimal pending
kind_text TwoPhaseExpired pending = codes " expired"

-- such as `transfer 7 pending, 100 from 1 to 2`
abbrev pub movement_text : Movement → List ℕ
movement_text m =
    codes "transfer " ++ decimal m.transfer ++ kind_text m.kind m.pending ++ codes ", " ++ decimal m.amount
    ++ codes " from " ++ decimal m.debit ++ codes " to " ++ decimal m.credit

-- the event of this timestamp, if there is one
abbrev pub event_at : ℕ → List Event → Option Event
event_at timestamp events = find (λ event. event.timestamp == timestamp) events

-- a movement after a comma; nothing if there is none
abbrev pub after_comma : Option Movement → List ℕ
after_comma None = []
after_comma (Some movement) = codes ", " ++ movement_text movement
