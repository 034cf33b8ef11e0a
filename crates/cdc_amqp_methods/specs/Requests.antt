-- The methods that a consumer sends, and heartbeats: their bytes.
use Rattle.std.specs.Prelude.{ℕ, ◌+◌, ◌<◌, ◌^◌, List, [], ◌∷◌, ◌++◌, codes, length}
use Rattle.std.specs.Int.{w16, w32, w64, to_be_bytes}
use Rattle.cdc_amqp_frames.specs.Fields.{short, long}
use Rattle.cdc_amqp_frames.specs.Frames.{frame}
use Rattle.cdc_amqp_frames.specs.declared.frames.FrameKind.{FrameKind}
use Rattle.cdc_amqp_frames.specs.declared.frames.FrameKind.TheVariants as kind
use Rattle.cdc_amqp_methods.specs.declared.requests.TheConstants.{CONSUMER_TAG, PROPERTIES}
use Rattle.cdc_amqp_methods.specs.declared.requests.Request.{Request}
use Rattle.cdc_amqp_methods.specs.declared.requests.Request.TheVariants.{StartOk, TuneOk, Open, ChannelOpen, Qos}
use Rattle.cdc_amqp_methods.specs.declared.requests.Request.TheVariants.{Declare, Consume, Ack, Reject, Cancel, Close, CloseOk}
use Rattle.cdc_amqp_methods.specs.declared.requests.Request.TheVariants.{ChannelCloseOk, Heartbeat}

-- the numbers of class and method
abbrev pub ids : ℕ → ℕ → List ℕ
ids class method = 0 ∷ class ∷ 0 ∷ method ∷ []

-- the credentials, as a long string
abbrev pub login : List ℕ → List ℕ → List ℕ
login user password = to_be_bytes w32 (length user + length password + 2) ++ (0 ∷ (user ++ 0 ∷ password))

-- properties of the client, mechanism, credentials, locale
abbrev pub start_ok : List ℕ → List ℕ → List ℕ
start_ok user password =
    ids 10 11 ++ (long PROPERTIES.now ++ (short (codes "PLAIN") ++ (login user password ++ short (codes "en_US"))))

-- the greatest channel is 1
abbrev pub tune_ok : ℕ → ℕ → List ℕ
tune_ok frame_max heartbeat = ids 10 31 ++ (0 ∷ 1 ∷ (to_be_bytes w32 frame_max ++ to_be_bytes w16 heartbeat))

abbrev pub open_host : List ℕ → List ℕ
open_host host = ids 10 40 ++ (short host ++ 0 ∷ 0 ∷ [])

abbrev pub channel_open : List ℕ
channel_open = ids 20 10 ++ 0 ∷ []

abbrev pub qos : ℕ → List ℕ
qos prefetch = ids 60 10 ++ (0 ∷ 0 ∷ 0 ∷ 0 ∷ (to_be_bytes w16 prefetch ++ 0 ∷ []))

-- the flag `passive`, and no arguments
abbrev pub declare : List ℕ → List ℕ
declare queue = ids 50 10 ++ (0 ∷ 0 ∷ (short queue ++ 1 ∷ 0 ∷ 0 ∷ 0 ∷ 0 ∷ []))

-- the queue and the consumer tag; no flags, and no arguments
abbrev pub consume : List ℕ → List ℕ
consume queue = ids 60 20 ++ (0 ∷ 0 ∷ (short queue ++ (short CONSUMER_TAG.now ++ 0 ∷ 0 ∷ 0 ∷ 0 ∷ 0 ∷ [])))

-- the delivery tag, and the flag `multiple`: all deliveries up to this one
abbrev pub ack : ℕ → List ℕ
ack tag = ids 60 80 ++ (to_be_bytes w64 tag ++ 1 ∷ [])

-- the delivery tag, and no flag: the message isn't queued again
abbrev pub reject : ℕ → List ℕ
reject tag = ids 60 90 ++ (to_be_bytes w64 tag ++ 0 ∷ [])

-- the consumer tag, and an answer is wanted
abbrev pub cancel : List ℕ
cancel = ids 60 30 ++ (short CONSUMER_TAG.now ++ 0 ∷ [])

-- reply code 200, no text, and no method that caused it
abbrev pub close : List ℕ
close = ids 10 50 ++ (0 ∷ 200 ∷ 0 ∷ 0 ∷ 0 ∷ 0 ∷ 0 ∷ [])

abbrev pub payload_of : Request → List ℕ
payload_of (StartOk user password) = start_ok user.now password.now
payload_of (TuneOk frame_max heartbeat) = tune_ok frame_max heartbeat
payload_of (Open host) = open_host host.now
payload_of ChannelOpen = channel_open
payload_of (Qos prefetch) = qos prefetch
payload_of (Declare queue) = declare queue.now
payload_of (Consume queue) = consume queue.now
payload_of (Ack tag) = ack tag
payload_of (Reject tag) = reject tag
payload_of Cancel = cancel
payload_of Close = close
payload_of CloseOk = ids 10 51
payload_of ChannelCloseOk = ids 20 41
payload_of Heartbeat = []

-- channel 0 is the connection itself, 1 the channel of the consumer
abbrev pub channel_of : Request → ℕ
channel_of (StartOk user password) = 0
channel_of (TuneOk frame_max heartbeat) = 0
channel_of (Open host) = 0
channel_of Close = 0
channel_of CloseOk = 0
channel_of Heartbeat = 0
channel_of _ = 1

abbrev pub kind_of : Request → FrameKind
kind_of Heartbeat = kind.Heartbeat
kind_of _ = kind.Method

-- the texts of a request fit their fields
abbrev pub Fits : Request → Type 0
Fits (StartOk user password) = (length user.now < 2 ^ 16) × (length password.now < 2 ^ 16)
Fits (Open host) = length host.now < 256
Fits (Declare queue) = length queue.now < 256
Fits (Consume queue) = length queue.now < 256
Fits _ = Unit {0}

-- the bytes of a request
abbrev pub frame_of : Request → List ℕ
frame_of r = frame (record { kind = kind_of r; channel = channel_of r; payload = payload_of r })
