-- A consumer as a state machine: what it makes of each frame.
use Rattle.std.specs.Prelude.{◌≡◌, ℕ, ◌+◌, ◌-◌, ◌<◌, ◌^◌, List, [], ◌++◌, length, take, Bool, true, false, nat_lt, ◌==◌}
use Rattle.std.specs.Prelude.{if◌then◌else◌, Option, Some, None, Result, Ok, Err}
use Rattle.cdc_amqp_frames.specs.declared.frames.FrameKind.{FrameKind}
use Rattle.cdc_amqp_frames.specs.declared.frames.FrameKind.TheVariants as kind
use Rattle.cdc_amqp_methods.specs.declared.requests.Request.{Request}
use Rattle.cdc_amqp_methods.specs.declared.requests.Request.TheVariants as sent
use Rattle.cdc_amqp_methods.specs.declared.responses.Response.{Response}
use Rattle.cdc_amqp_methods.specs.declared.responses.Response.TheVariants as came
use Rattle.cdc_amqp_methods.specs.Contents.{Header, header_at}
use Rattle.cdc_amqp_methods.specs.Responses.{response_at}
use Rattle.cdc_amqp_consumer.specs.declared.consumer.Done.{Done}
use Rattle.cdc_amqp_consumer.specs.declared.consumer.End.TheVariants.{Closed, ChannelClosed, Canceled, Finished}
use Rattle.cdc_amqp_consumer.specs.declared.consumer.Outcome.{Outcome}
use Rattle.cdc_amqp_consumer.specs.declared.consumer.Outcome.TheVariants.{GoesOn, Delivered, Ended}
use Rattle.cdc_amqp_consumer.specs.declared.consumer.TheConstants.{MOST_KEPT}
use Rattle.cdc_amqp_consumer.specs.declared.errors.ConsumeError.{ConsumeError}
use Rattle.cdc_amqp_consumer.specs.declared.errors.ConsumeError.TheVariants as error
use Rattle.cdc_amqp_consumer.specs.declared.errors.ConsumeFault.{ConsumeFault}
use Rattle.cdc_amqp_consumer.specs.declared.errors.ConsumeFault.TheVariants.{UnknownMethod, Unexpected, WrongChannel}
use Rattle.cdc_amqp_consumer.specs.declared.errors.ConsumeFault.TheVariants.{WrongTag, BadHeader, TooMuch}
use Rattle.cdc_amqp_consumer.specs.declared.replies.Phase.{Phase}
use Rattle.cdc_amqp_consumer.specs.declared.replies.Phase.TheVariants as phase
use Rattle.cdc_amqp_consumer.specs.declared.replies.Reply.{Reply}
use Rattle.cdc_amqp_consumer.specs.declared.replies.Settings.{Settings}
use Rattle.cdc_amqp_consumer.specs.declared.replies.TheConstants.{FRAME_MAX}
use Rattle.cdc_amqp_consumer.specs.Replies.{reply_to}

-- the texts fit the fields of the methods
pub record SettingsFit (s : Settings) : Type 0 where
  pub user : length s.user.now < 2 ^ 16
  pub password : length s.password.now < 2 ^ 16
  pub host : length s.host.now < 256
  pub queue : length s.queue.now < 256

-- What is awaited; the greatest size of a frame; the number of complete deliveries. Of the current delivery, or the
-- last one: its tag, whether it was delivered before, how many bytes of its content are to come, the properties
-- `headers` and `type`, and the content, of which at most `MOST_KEPT` bytes are kept.
pub record State : Type 0 where
  pub phase : Phase
  pub frame_max : ℕ
  pub delivered : ℕ
  pub tag : ℕ
  pub redelivered : Bool
  pub left : ℕ
  pub headers : List ℕ
  pub message_type : List ℕ
  pub content : List ℕ

abbrev pub begins : State
begins = record {
  phase = phase.Start;
  frame_max = FRAME_MAX;
  delivered = 0;
  tag = 0;
  redelivered = false;
  left = 0;
  headers = [];
  message_type = [];
  content = [];
}

-- the greatest size of a payload: a frame has eight other bytes
abbrev pub payload_limit : State → ℕ
payload_limit s = s.frame_max - 8

-- the state after a frame, what came of it, and what is sent
pub record Turn : Type 0 where
  pub state : State
  pub done : Done

abbrev pub turn : State → Outcome → Option Request → Option Request → Result Turn ConsumeFault
turn state outcome first second =
    Ok (record { state = state; done = record { outcome = outcome; first = first; second = second } })

-- nothing is sent
abbrev pub silent : State → Outcome → Result Turn ConsumeFault
silent state outcome = turn state outcome None None

-- the greatest size of a frame, once it is negotiated
abbrev pub frame_max_after : State → Option Request → ℕ
frame_max_after s (Some (sent.TuneOk frame_max heartbeat)) = frame_max
frame_max_after s _ = s.frame_max

-- a step of setting up the connection
unfoldable pub setup_turn : State → Option Reply → Result Turn ConsumeFault
setup_turn s None = Err Unexpected
setup_turn s (Some reply) =
    turn (record s { phase = reply.phase; frame_max = frame_max_after s reply.first }) GoesOn reply.first reply.second

-- a delivery begins: its tag is the number of deliveries plus one. While the consumer closes, it is ignored.
unfoldable pub delivery_turn : State → Phase → ℕ → Bool → Result Turn ConsumeFault
delivery_turn s phase.Delivery tag redelivered =
    if tag == s.delivered + 1
    then silent (record s { phase = phase.Header; tag = tag; redelivered = redelivered }) GoesOn
    else Err WrongTag
delivery_turn s phase.CancelOk tag redelivered = silent s GoesOn
delivery_turn s phase.CloseOk tag redelivered = silent s GoesOn
delivery_turn s _ tag redelivered = Err Unexpected

-- a delivery is complete if no bytes are to come
unfoldable pub filled : State → Result Turn ConsumeFault
filled s =
    if s.left == 0 then silent (record s { phase = phase.Delivery; delivered = s.tag }) Delivered
    else silent (record s { phase = phase.Body }) GoesOn

-- the header of a content
unfoldable pub header_turn : State → Phase → Option Header → Result Turn ConsumeFault
header_turn s phase.Header None = Err BadHeader
header_turn s phase.Header (Some header) = filled (record s {
  left = header.size;
  headers = header.headers;
  message_type = header.message_type;
  content = [];
})
header_turn s phase.CancelOk header = silent s GoesOn
header_turn s phase.CloseOk header = silent s GoesOn
header_turn s _ header = Err Unexpected

-- the bytes of a payload that are kept
abbrev pub kept : List ℕ → List ℕ → List ℕ
kept content payload = take (MOST_KEPT - length content) payload

-- a part of a content
unfoldable pub body_turn : State → Phase → List ℕ → Result Turn ConsumeFault
body_turn s phase.Body payload =
    if nat_lt s.left (length payload) then Err TooMuch
    else filled (record s { left = s.left - length payload; content = s.content ++ kept s.content payload })
body_turn s phase.CancelOk payload = silent s GoesOn
body_turn s phase.CloseOk payload = silent s GoesOn
body_turn s _ payload = Err Unexpected

-- the consumer's own `basic.cancel` is answered, so it closes the connection
unfoldable pub canceled_turn : State → Phase → Result Turn ConsumeFault
canceled_turn s phase.CancelOk = turn (record s { phase = phase.CloseOk }) GoesOn (Some sent.Close) None
canceled_turn s _ = Err Unexpected

-- the consumer's own `connection.close` is answered
unfoldable pub closed_turn : State → Phase → Result Turn ConsumeFault
closed_turn s phase.CloseOk = silent s (Ended Finished)
closed_turn s _ = Err Unexpected

-- a method, on its own channel
unfoldable pub method_turn : Settings → State → Response → Result Turn ConsumeFault
method_turn settings s came.Blocked = silent s GoesOn
method_turn settings s came.Unblocked = silent s GoesOn
method_turn settings s (came.Close code) = turn s (Ended (Closed code)) (Some sent.CloseOk) None
method_turn settings s (came.ChannelClose code) =
    turn s (Ended (ChannelClosed code)) (Some sent.ChannelCloseOk) (Some sent.Close)
method_turn settings s came.Cancel = turn s (Ended Canceled) (Some sent.Close) None
method_turn settings s came.CancelOk = canceled_turn s s.phase
method_turn settings s came.CloseOk = closed_turn s s.phase
method_turn settings s (came.Deliver tag redelivered) = delivery_turn s s.phase tag redelivered
method_turn settings s response = setup_turn s (reply_to settings s.phase response)

-- methods of a connection come on channel 0, others on channel 1
abbrev pub channel_of : Response → ℕ
channel_of came.Start = 0
channel_of (came.Tune channels frame_max heartbeat) = 0
channel_of came.OpenOk = 0
channel_of (came.Close code) = 0
channel_of came.CloseOk = 0
channel_of came.Blocked = 0
channel_of came.Unblocked = 0
channel_of _ = 1

-- a method, if it is known and comes on its own channel
unfoldable pub response_turn : Settings → State → ℕ → Option Response → Result Turn ConsumeFault
response_turn settings s channel None = Err UnknownMethod
response_turn settings s channel (Some response) =
    if channel == channel_of response then method_turn settings s response else Err WrongChannel

-- what a consumer makes of a frame: a heartbeat is answered by another one, and contents come on channel 1
unfoldable pub received : Settings → State → FrameKind → ℕ → List ℕ → Result Turn ConsumeFault
received settings s kind.Method channel payload = response_turn settings s channel (response_at payload)
received settings s kind.Header channel payload =
    if channel == 1 then header_turn s s.phase (header_at payload) else Err WrongChannel
received settings s kind.Body channel payload =
    if channel == 1 then body_turn s s.phase payload else Err WrongChannel
received settings s kind.Heartbeat channel payload =
    if channel == 0 then turn s GoesOn (Some sent.Heartbeat) None else Err WrongChannel

-- a consumer that closes cancels its consumer first
abbrev pub closing : State → State
closing s = record s { phase = phase.CancelOk }

-- the consumer is set up, and no delivery is under way
abbrev pub awaits_delivery : Phase → Bool
awaits_delivery phase.Delivery = true
awaits_delivery _ = false

-- what a function keeps and returns is this turn, unless memory runs out
abbrev pub Moves : Result Turn ConsumeFault → State → Result Done ConsumeError → Type 0
Moves turn new (Ok done) = turn ≡ Ok (record { state = new; done = done })
Moves turn new (Err (error.Fault fault)) = turn ≡ Err fault
Moves turn new (Err error.OutOfMemory) = Unit {0}
