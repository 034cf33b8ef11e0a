-- What a message is routed by, and its basic properties (TigerBeetle, Change Data Capture; AMQP 0-9-1, basic class).
use Rattle.std.specs.Prelude.{◌≡◌, ◌/◌, codes}
use Rattle.cdc_types.specs.declared.events.Event.{Event}
use Rattle.cdc_types.specs.declared.events.Headers.{Headers}
use Rattle.cdc_types.specs.declared.events.Properties.{Properties}

-- the headers of an event's message
abbrev pub headers_of_event : Event → Headers
headers_of_event event = record {
  kind = event.kind;
  ledger = event.ledger;
  transfer_code = event.transfer.code;
  debit_account_code = event.debit_account.code;
  credit_account_code = event.credit_account.code;
}

-- these are the properties of an event's message
pub record AreProperties (properties : Properties) (event : Event) : Type 0 where
  pub app_id : properties.app_id.now ≡ codes "tigerbeetle"
  pub content_type : properties.content_type.now ≡ codes "application/json"
  pub delivery_mode : properties.delivery_mode ≡ 2
  pub timestamp : properties.timestamp ≡ event.timestamp / 1000000000
