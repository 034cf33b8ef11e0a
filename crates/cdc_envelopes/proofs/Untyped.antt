-- A value without a member `type` is no event.
use Rattle.std.proofs.Common.{◌≡◌, ℕ, Bool, true, false, Option, Some, None, Result, Ok, Err, codes, refl}
use Rattle.serde_json.specs.Data.{Data}
use Rattle.serde_json.specs.Find.{get}
use Rattle.cdc_message.specs.declared.errors.DecodeError.{DecodeError}
use Rattle.cdc_message.specs.declared.errors.DecodeError.TheVariants.{Missing, NotAnObject}
use Rattle.cdc_message.specs.declared.fields.FieldName.TheVariants.{Kind, Timestamp}
use Rattle.cdc_message.specs.declared.fields.Part.TheVariants.{Top}
use Rattle.cdc_message.specs.Fields.{field}
use Rattle.cdc_message.specs.Reading.{event_of, is_object, number_at}

-- why it is none
pub no_event : (value : Data) → get (codes "type") value ≡ None → (why : DecodeError) × (event_of value ≡ Err why)
no_event value none = by_object (is_object value) refl
  where
    by_number : (r : Result ℕ DecodeError) → number_at 64 (field Top Timestamp) value ≡ r → is_object value ≡ true
        → (why : DecodeError) × (event_of value ≡ Err why)
    by_number (Ok timestamp) is whole = (Missing (field Top Kind), rw (whole, is, none) refl)
    by_number (Err why) is whole = (why, rw (whole, is) refl)

    by_object : (b : Bool) → is_object value ≡ b → (why : DecodeError) × (event_of value ≡ Err why)
    by_object true is = by_number (number_at 64 (field Top Timestamp) value) refl is
    by_object false is = (NotAnObject, rw is refl)
