-- The event that a body holds.
use Rattle.std.proofs.Common.{◌≡◌, ℕ, List, Ok, sym, subst}
use Rattle.cdc_types.specs.declared.events.Event.{Event}
use Rattle.cdc_types.specs.declared.events.Headers.{Headers}
use Rattle.cdc_message.specs.Bodies.{body}
use Rattle.cdc_message.specs.Headers.{headers_of_event}
use Rattle.cdc_message.specs.Messages.{event_in, BelongTo}
use Rattle.cdc_message.specs.Reading.{read}
use Rattle.cdc_message.specs.Widths.{EventFits}

-- a message is seen as the event that its body reads as
pub event_in_is : (text : List ℕ) (event : Event) → read text ≡ Ok event → event_in text ≡ event
unfolding event_in
event_in_is text event e = rw e

-- so that a message built of an event is known to have headers, timestamp and body of that one event
pub belong : (headers : Headers) (timestamp : ℕ) (text : List ℕ) (event : Event)
    → headers ≡ headers_of_event event → timestamp ≡ event.timestamp → text ≡ body event → read text ≡ Ok event
    → EventFits event → BelongTo headers timestamp text (event_in text)
belong headers timestamp text event is_headers is_timestamp is_text reads fits =
    subst (λ e. BelongTo headers timestamp text e) (sym (event_in_is text event reads)) (record {
      headers_are = is_headers;
      timestamp_is = is_timestamp;
      text_is = is_text;
      reads_back = reads;
      fits = fits;
    })
