-- Why a server closes a connection or a channel.
use Rattle.std.specs.Prelude.{ℕ, List, Option, Some}
use Rattle.std.specs.Int.{w16}
use Rattle.cdc_amqp_frames.specs.Fields.{◌>>=◌, number_at, short_at}
use Rattle.cdc_amqp_methods.specs.declared.closes.CloseReason.{CloseReason}

pub record Reason : Type 0 where
  pub code : ℕ
  pub text : List ℕ

abbrev pub view : CloseReason → Reason
view r = record { code = r.code; text = r.text.now }

-- the first arguments of `close`, after the numbers of class and method: a code and a text
unfoldable pub reason_at : List ℕ → Option Reason
reason_at payload = do
  class ← number_at w16 payload
  method ← number_at w16 class.1
  code ← number_at w16 method.1
  text ← short_at code.1
  Some (record { code = code.0; text = text.0 })
