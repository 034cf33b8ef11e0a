-- What a consumer sends while its connection is set up.
use Rattle.std.specs.Prelude.{ℕ, ◌==◌, min, if◌then◌else◌, Option, Some, None}
use Rattle.cdc_amqp_methods.specs.declared.requests.Request.{Request}
use Rattle.cdc_amqp_methods.specs.declared.requests.Request.TheVariants as sent
use Rattle.cdc_amqp_methods.specs.declared.responses.Response.{Response}
use Rattle.cdc_amqp_methods.specs.declared.responses.Response.TheVariants as came
use Rattle.cdc_amqp_consumer.specs.declared.replies.Phase.{Phase}
use Rattle.cdc_amqp_consumer.specs.declared.replies.Phase.TheVariants as phase
use Rattle.cdc_amqp_consumer.specs.declared.replies.Reply.{Reply}
use Rattle.cdc_amqp_consumer.specs.declared.replies.Settings.{Settings}
use Rattle.cdc_amqp_consumer.specs.declared.replies.TheConstants.{FRAME_MAX}

-- the smaller size of a frame; a proposal of 0 is no limit
abbrev pub agreed_frame_max : ℕ → ℕ
agreed_frame_max proposed = if proposed == 0 then FRAME_MAX else min proposed FRAME_MAX

-- the shorter time between heartbeats: none if none is wanted, and the wanted one if none is proposed
abbrev pub agreed_heartbeat : ℕ → ℕ → ℕ
agreed_heartbeat wanted proposed = if proposed == 0 then wanted else min wanted proposed

-- what is awaited next, after these are sent
abbrev pub asks : Phase → Option Request → Option Request → Option Reply
asks next first second = Some (record { phase = next; first = first; second = second })

-- the reply to each method that is awaited; no other one may come
unfoldable pub reply_to : Settings → Phase → Response → Option Reply
reply_to s phase.Start came.Start = asks phase.Tune (Some (sent.StartOk s.user s.password)) None
reply_to s phase.Tune (came.Tune channels frame_max heartbeat) =
    asks phase.OpenOk (Some (sent.TuneOk (agreed_frame_max frame_max) (agreed_heartbeat s.heartbeat heartbeat)))
    (Some (sent.Open s.host))
reply_to s phase.OpenOk came.OpenOk = asks phase.ChannelOpenOk (Some sent.ChannelOpen) None
reply_to s phase.ChannelOpenOk came.ChannelOpenOk = asks phase.QosOk (Some (sent.Qos s.prefetch)) None
reply_to s phase.QosOk came.QosOk = asks phase.DeclareOk (Some (sent.Declare s.queue)) None
reply_to s phase.DeclareOk came.DeclareOk = asks phase.ConsumeOk (Some (sent.Consume s.queue)) None
reply_to s phase.ConsumeOk came.ConsumeOk = asks phase.Delivery None None
reply_to _ _ _ = None
