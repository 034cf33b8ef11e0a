-- The first transfer of a ledger, 100 from account 1 to account 2, as a body and back.
use Rattle.std.proofs.Common.{◌≡◌, List, ◌++◌, ℕ, codes, Ok, Err, refl}
use Rattle.std.specs.Fmt.{digits}
use Rattle.std.specs.Str.{is_utf8, chars}
use Rattle.serde_json.proofs.OnLiterals.{serde_json_on_literals}
use Rattle.cdc_types.specs.declared.events.EventTransfer.{EventTransfer}
use Rattle.cdc_types.specs.declared.events.EventAccount.{EventAccount}
use Rattle.cdc_types.specs.declared.events.Event.{Event}
use Rattle.cdc_types.specs.declared.events.EventKind.TheVariants.{SinglePhase}
use Rattle.cdc_message.specs.declared.errors.DecodeError.TheVariants.{NotAnObject, WrongType}
use Rattle.cdc_message.specs.declared.fields.Part.TheVariants.{Top}
use Rattle.cdc_message.specs.declared.fields.FieldName.TheVariants.{Timestamp}
use Rattle.cdc_message.specs.Fields.{field}
use Rattle.cdc_message.specs.Bodies.{body}
use Rattle.cdc_message.specs.Reading.{read}

-- the transfer of 100 from account 1 to account 2
abbrev first_transfer : EventTransfer
first_transfer = record {
  id = 1;
  amount = 100;
  pending_id = 0;
  user_data_128 = 0;
  user_data_64 = 0;
  user_data_32 = 0;
  timeout = 0;
  code = 1;
  flags = 0;
  timestamp = 2000;
}

-- account 1 after it, with 100 debited
abbrev debited : EventAccount
debited = record {
  id = 1;
  debits_pending = 0;
  debits_posted = 100;
  credits_pending = 0;
  credits_posted = 0;
  user_data_128 = 0;
  user_data_64 = 0;
  user_data_32 = 0;
  code = 10;
  flags = 0;
  timestamp = 1000;
}

-- account 2 after it, with 100 credited
abbrev credited : EventAccount
credited = record {
  id = 2;
  debits_pending = 0;
  debits_posted = 0;
  credits_pending = 0;
  credits_posted = 100;
  user_data_128 = 0;
  user_data_64 = 0;
  user_data_32 = 0;
  code = 10;
  flags = 0;
  timestamp = 1001;
}

-- the event of the transfer, with both accounts as they are right after it
abbrev pub first_event : Event
first_event = record {
  timestamp = 2000;
  kind = SinglePhase;
  ledger = 700;
  transfer = first_transfer;
  debit_account = debited;
  credit_account = credited;
}

-- its body
abbrev first_body : List ℕ
first_body =
    codes "{\"credit_account\":{\"code\":10,\"credits_pending\":\"0\",\"credits_posted\":\"100\","
    ++ codes "\"debits_pending\":\"0\",\"debits_posted\":\"0\",\"flags\":0,\"id\":\"2\","
    ++ codes "\"timestamp\":\"1001\",\"user_data_128\":\"0\",\"user_data_32\":0,\"user_data_64\":\"0\"},"
    ++ codes "\"debit_account\":{\"code\":10,\"credits_pending\":\"0\",\"credits_posted\":\"0\","
    ++ codes "\"debits_pending\":\"0\",\"debits_posted\":\"100\",\"flags\":0,\"id\":\"1\","
    ++ codes "\"timestamp\":\"1000\",\"user_data_128\":\"0\",\"user_data_32\":0,\"user_data_64\":\"0\"},"
    ++ codes "\"ledger\":700,\"timestamp\":\"2000\",\"transfer\":{\"amount\":\"100\",\"code\":1,"
    ++ codes "\"flags\":0,\"id\":\"1\",\"pending_id\":\"0\",\"timeout\":0,\"timestamp\":\"2000\","
    ++ codes "\"user_data_128\":\"0\",\"user_data_32\":0,\"user_data_64\":\"0\"},"
    ++ codes "\"type\":\"single_phase\"}"

-- the same with the members in the order in which they are checked
abbrev first_in_order : List ℕ
first_in_order =
    codes "{\"timestamp\":\"2000\",\"type\":\"single_phase\",\"ledger\":700,\"transfer\":{\"id\":\"1\","
    ++ codes "\"amount\":\"100\",\"pending_id\":\"0\",\"user_data_128\":\"0\",\"user_data_64\":\"0\","
    ++ codes "\"user_data_32\":0,\"timeout\":0,\"code\":1,\"flags\":0,\"timestamp\":\"2000\"},"
    ++ codes "\"debit_account\":{\"id\":\"1\",\"debits_pending\":\"0\",\"debits_posted\":\"100\","
    ++ codes "\"credits_pending\":\"0\",\"credits_posted\":\"0\",\"user_data_128\":\"0\","
    ++ codes "\"user_data_64\":\"0\",\"user_data_32\":0,\"code\":10,\"flags\":0,\"timestamp\":\"1000\"},"
    ++ codes "\"credit_account\":{\"id\":\"2\",\"debits_pending\":\"0\",\"debits_posted\":\"0\","
    ++ codes "\"credits_pending\":\"0\",\"credits_posted\":\"100\",\"user_data_128\":\"0\","
    ++ codes "\"user_data_64\":\"0\",\"user_data_32\":0,\"code\":10,\"flags\":0,\"timestamp\":\"1001\"}}"

-- the event is written as that body, to the byte
first_is_written : body first_event ≡ first_body
unfolding body digits
first_is_written = refl

-- and the body is read as the event
first_is_read : read first_body ≡ Ok first_event
unfolding read serde_json_on_literals is_utf8 chars
first_is_read = refl

-- a body with its members in another order is read as the same event
order_is_free : read first_in_order ≡ Ok first_event
unfolding read serde_json_on_literals is_utf8 chars
order_is_free = refl

-- a body that is JSON but no object is refused before any member is missed
a_list_is_no_object : read (codes "[]") ≡ Err NotAnObject
unfolding read serde_json_on_literals is_utf8 chars
a_list_is_no_object = refl

-- a number's string has digits alone: with a plus sign it is of the wrong type
a_sign_is_no_digit : read (codes "{\"timestamp\":\"+700\"}") ≡ Err (WrongType (field Top Timestamp))
unfolding read serde_json_on_literals is_utf8 chars
a_sign_is_no_digit = refl
