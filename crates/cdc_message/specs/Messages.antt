-- What the parts of a message have to do with its event. Only the view and the invariant of `Message` cite it.
use Rattle.std.specs.Prelude.{◌≡◌, ℕ, List, Ok}
use Rattle.std.specs.Result.{result_unwrap_or}
use Rattle.cdc_types.specs.declared.events.EventKind.TheVariants.{SinglePhase}
use Rattle.cdc_types.specs.declared.events.EventTransfer.{EventTransfer}
use Rattle.cdc_types.specs.declared.events.EventAccount.{EventAccount}
use Rattle.cdc_types.specs.declared.events.Event.{Event}
use Rattle.cdc_types.specs.declared.events.Headers.{Headers}
use Rattle.cdc_message.specs.Bodies.{body}
use Rattle.cdc_message.specs.Headers.{headers_of_event}
use Rattle.cdc_message.specs.Reading.{read}
use Rattle.cdc_message.specs.Widths.{EventFits}

-- a transfer of zeros
abbrev no_transfer : EventTransfer
no_transfer = record {
  id = 0;
  amount = 0;
  pending_id = 0;
  user_data_128 = 0;
  user_data_64 = 0;
  user_data_32 = 0;
  timeout = 0;
  code = 0;
  flags = 0;
  timestamp = 0;
}

-- an account of zeros
abbrev no_account : EventAccount
no_account = record {
  id = 0;
  debits_pending = 0;
  debits_posted = 0;
  credits_pending = 0;
  credits_posted = 0;
  user_data_128 = 0;
  user_data_64 = 0;
  user_data_32 = 0;
  code = 0;
  flags = 0;
  timestamp = 0;
}

-- the value that is used if there is no event
abbrev no_event : Event
no_event = record {
  timestamp = 0;
  kind = SinglePhase;
  ledger = 0;
  transfer = no_transfer;
  debit_account = no_account;
  credit_account = no_account;
}

-- the event that a body holds
unfoldable pub event_in : List ℕ → Event
event_in text = result_unwrap_or (read text) no_event

-- headers, a timestamp and a text belong to one event
pub record BelongTo (headers : Headers) (timestamp : ℕ) (text : List ℕ) (event : Event) : Type 0 where
  pub headers_are : headers ≡ headers_of_event event
  pub timestamp_is : timestamp ≡ event.timestamp
  pub text_is : text ≡ body event
  pub reads_back : read text ≡ Ok event
  pub fits : EventFits event
