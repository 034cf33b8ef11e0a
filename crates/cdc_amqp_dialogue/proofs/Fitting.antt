-- What a consumer sends fits its fields.
use Rattle.std.proofs.Common.{◌≡◌, ℕ, ◌+◌, Bool, true, false, cond, eqb, ltb, length, List, Option, Some, None}
use Rattle.std.proofs.Common.{Result, Ok, Err, subst}
use Rattle.std.specs.Prelude.{◌-◌, ◌++◌, []}
use Rattle.cdc_amqp_frames.specs.declared.frames.FrameKind.{FrameKind}
use Rattle.cdc_amqp_frames.specs.declared.frames.FrameKind.TheVariants as kind
use Rattle.cdc_amqp_methods.specs.Contents.{Header, header_at}
use Rattle.cdc_amqp_methods.specs.Responses.{response_at}
use Rattle.cdc_amqp_methods.specs.declared.responses.Response.{Response}
use Rattle.cdc_amqp_methods.specs.declared.responses.Response.TheVariants as response
use Rattle.cdc_amqp_consumer.specs.declared.errors.ConsumeFault.{ConsumeFault}
use Rattle.cdc_amqp_consumer.specs.declared.replies.Phase.{Phase}
use Rattle.cdc_amqp_consumer.specs.declared.replies.Phase.TheVariants as phase
use Rattle.cdc_amqp_consumer.specs.declared.replies.Reply.{Reply}
use Rattle.cdc_amqp_consumer.specs.declared.replies.Settings.{Settings}
use Rattle.cdc_amqp_consumer.specs.Replies.{reply_to}
use Rattle.cdc_amqp_consumer.specs.Machine.{State, Turn, SettingsFit, setup_turn, delivery_turn, filled, header_turn}
use Rattle.cdc_amqp_consumer.specs.Machine.{body_turn, canceled_turn, closed_turn, method_turn, response_turn, received}
use Rattle.cdc_amqp_consumer.specs.Machine.{channel_of, kept}
use Rattle.cdc_amqp_dialogue.specs.Steps.{FitsOption}

-- what a turn sends fits
abbrev pub TurnFits : Result Turn ConsumeFault → Type 0
TurnFits (Ok t) = FitsOption t.done.first × FitsOption t.done.second
TurnFits (Err fault) = Unit {0}

-- a turn that depends on a test
fits_if : (b : Bool) (x y : Result Turn ConsumeFault) → TurnFits x → TurnFits y → TurnFits (cond b x y)
fits_if true x y f h = f
fits_if false x y f h = h

abbrev ReplyFits : Option Reply → Type 0
ReplyFits None = Unit {0}
ReplyFits (Some r) = FitsOption r.first × FitsOption r.second

reply_fits : (s : Settings) (p : Phase) (r : Response) → SettingsFit s → ReplyFits (reply_to s p r)
unfolding reply_to
reply_fits s phase.Start response.Start fit = ((fit.user, fit.password), tt)
reply_fits s phase.Tune (response.Tune c f h) fit = (tt, fit.host)
reply_fits s phase.OpenOk response.OpenOk fit = (tt, tt)
reply_fits s phase.ChannelOpenOk response.ChannelOpenOk fit = (tt, tt)
reply_fits s phase.QosOk response.QosOk fit = (fit.queue, tt)
reply_fits s phase.DeclareOk response.DeclareOk fit = (fit.queue, tt)
reply_fits s phase.ConsumeOk response.ConsumeOk fit = (tt, tt)
reply_fits _ _ _ _ = tt

setup_fits : (s : State) (r : Option Reply) → ReplyFits r → TurnFits (setup_turn s r)
unfolding setup_turn
setup_fits s None fits = tt
setup_fits s (Some r) fits = fits

delivery_fits : (s : State) (p : Phase) (tag : ℕ) (redelivered : Bool) → TurnFits (delivery_turn s p tag redelivered)
unfolding delivery_turn
delivery_fits s phase.Delivery tag redelivered = fits_if (eqb tag (s.delivered + 1)) _ _ (tt, tt) tt
delivery_fits s phase.CancelOk tag redelivered = (tt, tt)
delivery_fits s phase.CloseOk tag redelivered = (tt, tt)
delivery_fits s _ tag redelivered = tt

filled_fits : (s : State) → TurnFits (filled s)
unfolding filled
filled_fits s = fits_if (eqb s.left 0) _ _ (tt, tt) (tt, tt)

header_fits : (s : State) (p : Phase) (h : Option Header) → TurnFits (header_turn s p h)
unfolding header_turn
header_fits s phase.Header None = tt
header_fits s phase.Header (Some h) =
    filled_fits (record s { left = h.size; headers = h.headers; message_type = h.message_type; content = [] })
header_fits s phase.CancelOk h = (tt, tt)
header_fits s phase.CloseOk h = (tt, tt)
header_fits s _ h = tt

body_fits : (s : State) (p : Phase) (payload : List ℕ) → TurnFits (body_turn s p payload)
unfolding body_turn
body_fits s phase.Body payload =
    fits_if (ltb s.left (length payload)) _ _ tt
    (filled_fits (record s { left = s.left - length payload; content = s.content ++ kept s.content payload }))
body_fits s phase.CancelOk payload = (tt, tt)
body_fits s phase.CloseOk payload = (tt, tt)
body_fits s _ payload = tt

canceled_fits : (s : State) (p : Phase) → TurnFits (canceled_turn s p)
unfolding canceled_turn
canceled_fits s phase.CancelOk = (tt, tt)
canceled_fits s _ = tt

closed_fits : (s : State) (p : Phase) → TurnFits (closed_turn s p)
unfolding closed_turn
closed_fits s phase.CloseOk = (tt, tt)
closed_fits s _ = tt

method_fits : (settings : Settings) (s : State) (r : Response) → SettingsFit settings
    → TurnFits (method_turn settings s r)
unfolding method_turn
method_fits settings s response.Blocked fit = (tt, tt)
method_fits settings s response.Unblocked fit = (tt, tt)
method_fits settings s (response.Close code) fit = (tt, tt)
method_fits settings s (response.ChannelClose code) fit = (tt, tt)
method_fits settings s response.Cancel fit = (tt, tt)
method_fits settings s response.CancelOk fit = canceled_fits s s.phase
method_fits settings s response.CloseOk fit = closed_fits s s.phase
method_fits settings s (response.Deliver tag again) fit = delivery_fits s s.phase tag again
method_fits settings s r fit = setup_fits s (reply_to settings s.phase r) (reply_fits settings s.phase r fit)

response_fits : (settings : Settings) (s : State) (channel : ℕ) (r : Option Response) → SettingsFit settings
    → TurnFits (response_turn settings s channel r)
unfolding response_turn
response_fits settings s channel None fit = tt
response_fits settings s channel (Some r) fit =
    fits_if (eqb channel (channel_of r)) _ _ (method_fits settings s r fit) tt

turn_fits : (settings : Settings) (s : State) (k : FrameKind) (channel : ℕ) (payload : List ℕ) → SettingsFit settings
    → TurnFits (received settings s k channel payload)
unfolding received
turn_fits settings s kind.Method channel payload fit = response_fits settings s channel (response_at payload) fit
turn_fits settings s kind.Header channel payload fit =
    fits_if (eqb channel 1) _ _ (header_fits s s.phase (header_at payload)) tt
turn_fits settings s kind.Body channel payload fit = fits_if (eqb channel 1) _ _ (body_fits s s.phase payload) tt
turn_fits settings s kind.Heartbeat channel payload fit = fits_if (eqb channel 0) _ _ (tt, tt) tt

-- what is sent after a turn fits
pub fits_after : (settings : Settings) (s : State) (k : FrameKind) (channel : ℕ) (payload : List ℕ) (t : Turn)
    → SettingsFit settings → received settings s k channel payload ≡ Ok t
    → FitsOption t.done.first × FitsOption t.done.second
fits_after settings s k channel payload t fit is = subst TurnFits is (turn_fits settings s k channel payload fit)
