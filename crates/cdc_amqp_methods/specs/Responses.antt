-- The methods that a server sends to a consumer: the numbers of class and method, and arguments.
use Rattle.std.specs.Prelude.{ℕ, List, ◌==◌, not, if◌then◌else◌, Option, Some, None}
use Rattle.std.specs.Int.{w16, w32, w64}
use Rattle.cdc_amqp_frames.specs.Fields.{◌>>=◌, u8_at, number_at, short_at}
use Rattle.cdc_amqp_methods.specs.declared.responses.Response.{Response}
use Rattle.cdc_amqp_methods.specs.declared.responses.Response.TheVariants.{Start, Tune, OpenOk, Close, CloseOk, Blocked}
use Rattle.cdc_amqp_methods.specs.declared.responses.Response.TheVariants.{Unblocked, ChannelOpenOk, ChannelClose}
use Rattle.cdc_amqp_methods.specs.declared.responses.Response.TheVariants.{ChannelCloseOk, DeclareOk, QosOk, ConsumeOk}
use Rattle.cdc_amqp_methods.specs.declared.responses.Response.TheVariants.{Cancel, CancelOk, Deliver}

-- the greatest channel, the greatest size of a frame, and the time between heartbeats
unfoldable pub tune_at : List ℕ → Option Response
tune_at bytes = do
  channels ← number_at w16 bytes
  frame_max ← number_at w32 channels.1
  heartbeat ← number_at w16 frame_max.1
  Some (Tune channels.0 frame_max.0 heartbeat.0)

-- the consumer tag, the delivery tag, and the flag `redelivered`; exchange and routing key are ignored
unfoldable pub deliver_at : List ℕ → Option Response
deliver_at bytes = do
  consumer ← short_at bytes
  tag ← number_at w64 consumer.1
  redelivered ← u8_at tag.1
  Some (Deliver tag.0 (not (redelivered.0 == 0)))

unfoldable pub connection_at : ℕ → List ℕ → Option Response
connection_at method bytes =
    if method == 10 then Some Start else (if method == 30 then tune_at bytes else (if method == 41 then Some OpenOk
    else (if method == 50 then number_at w16 bytes >>= (λ code. Some (Close code.0))
    else (if method == 51 then Some CloseOk else (if method == 60 then Some Blocked
    else (if method == 61 then Some Unblocked else None))))))

unfoldable pub channel_at : ℕ → List ℕ → Option Response
channel_at method bytes =
    if method == 11 then Some ChannelOpenOk
    else (if method == 40 then number_at w16 bytes >>= (λ code. Some (ChannelClose code.0))
    else (if method == 41 then Some ChannelCloseOk else None))

unfoldable pub basic_at : ℕ → List ℕ → Option Response
basic_at method bytes =
    if method == 11 then Some QosOk else (if method == 21 then Some ConsumeOk else (if method == 30 then Some Cancel
    else (if method == 31 then Some CancelOk else (if method == 60 then deliver_at bytes else None))))

abbrev pub queue_at : ℕ → Option Response
queue_at method = if method == 11 then Some DeclareOk else None

-- the arguments of a method
unfoldable pub arguments_at : ℕ → ℕ → List ℕ → Option Response
arguments_at class method bytes =
    if class == 10 then connection_at method bytes else (if class == 20 then channel_at method bytes
    else (if class == 50 then queue_at method else (if class == 60 then basic_at method bytes else None)))

unfoldable pub response_at : List ℕ → Option Response
response_at payload = do
  class ← number_at w16 payload
  method ← number_at w16 class.1
  arguments_at class.0 method.0 method.1
