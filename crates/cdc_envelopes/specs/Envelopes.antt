-- An event in an envelope.
use Rattle.std.specs.Prelude.{◌≡◌, ◌<◌, ◌^◌, ℕ, List, codes, Some, None, Ok}
use Rattle.serde_json.specs.Data.{Data}
use Rattle.serde_json.specs.Find.{get}
use Rattle.cdc_types.specs.declared.events.Event.{Event}
use Rattle.cdc_message.specs.Reading.{event_of, value_of, whole_number}

-- the bytes are a JSON value without a member `type`, so it is no event itself. Its member `previous` is this number of
-- 64 bits, and its member `body` is this event.
pub record IsEnvelope (line : List ℕ) (event : Event) (previous : ℕ) : Type 0 where
  pub value : Data
  pub read : value_of line ≡ Some value
  pub untyped : get (codes "type") value ≡ None
  pub predecessor : Data
  pub has_predecessor : get (codes "previous") value ≡ Some predecessor
  pub predecessor_is : whole_number predecessor ≡ Some previous
  pub predecessor_fits : previous < 2 ^ 64
  pub body : Data
  pub has_body : get (codes "body") value ≡ Some body
  pub body_is : event_of body ≡ Ok event
