-- What each turn of a consumer keeps.
use Rattle.std.proofs.Common.{◌≡◌, ℕ, ◌+◌, Bool, true, false, cond, eqb, ltb, length, List, Option, Some, None}
use Rattle.std.proofs.Common.{Result, Ok, Err, refl, sym, ◌∙◌, arith}
use Rattle.std.specs.Prelude.{◌-◌, ◌++◌, [], ◌∷◌}
use Rattle.std.proofs.Common.{length-append}
use Rattle.std.proofs.lemmas.Bool.{eqb-true}
use Rattle.cdc_amqp_frames.specs.declared.frames.FrameKind.{FrameKind}
use Rattle.cdc_amqp_frames.specs.declared.frames.FrameKind.TheVariants as kind
use Rattle.cdc_amqp_methods.specs.Contents.{Header, header_at}
use Rattle.cdc_amqp_methods.specs.Responses.{response_at}
use Rattle.cdc_amqp_methods.specs.declared.requests.Request.{Request}
use Rattle.cdc_amqp_methods.specs.declared.requests.Request.TheVariants as sent
use Rattle.cdc_amqp_methods.specs.declared.responses.Response.{Response}
use Rattle.cdc_amqp_methods.specs.declared.responses.Response.TheVariants as response
use Rattle.cdc_amqp_consumer.specs.declared.consumer.End.{End}
use Rattle.cdc_amqp_consumer.specs.declared.consumer.End.TheVariants.{Closed, ChannelClosed, Canceled, Finished}
use Rattle.cdc_amqp_consumer.specs.declared.consumer.Outcome.{Outcome}
use Rattle.cdc_amqp_consumer.specs.declared.consumer.Outcome.TheVariants.{GoesOn, Delivered, Ended}
use Rattle.cdc_amqp_consumer.specs.declared.errors.ConsumeFault.{ConsumeFault}
use Rattle.cdc_amqp_consumer.specs.declared.replies.Phase.{Phase}
use Rattle.cdc_amqp_consumer.specs.declared.replies.Phase.TheVariants as phase
use Rattle.cdc_amqp_consumer.specs.declared.replies.Reply.{Reply}
use Rattle.cdc_amqp_consumer.specs.declared.replies.Settings.{Settings}
use Rattle.cdc_amqp_consumer.specs.Replies.{reply_to}
use Rattle.cdc_amqp_consumer.specs.Machine.{State, Turn, setup_turn, delivery_turn, filled, header_turn}
use Rattle.cdc_amqp_consumer.specs.Machine.{body_turn, canceled_turn, closed_turn, method_turn, response_turn, received}
use Rattle.cdc_amqp_consumer.specs.Machine.{channel_of, kept}
use Rattle.cdc_amqp_dialogue.specs.Laws.{IsReady, is_under_way}
use Rattle.cdc_amqp_dialogue.specs.Deliveries.{Delivery}
use Rattle.cdc_amqp_dialogue.specs.Taking.{delivery_of}
use Rattle.cdc_amqp_dialogue.specs.Worlds.{deliveries_after}

-- a request neither acknowledges nor rejects a delivery
abbrev pub IsNeutral : Option Request → Type 0
IsNeutral None = Unit {0}
IsNeutral (Some (sent.Ack tag)) = ⊥
IsNeutral (Some (sent.Reject tag)) = ⊥
IsNeutral (Some _) = Unit {0}

-- how many deliveries are completed by this
abbrev pub completes : Outcome → ℕ
completes Delivered = 1
completes GoesOn = 0
completes (Ended end) = 0

-- the tag of a complete delivery is the number of deliveries
abbrev pub IsTagged : Outcome → State → Type 0
IsTagged Delivered s = s.tag ≡ s.delivered
IsTagged GoesOn s = Unit {0}
IsTagged (Ended end) s = Unit {0}

-- what holds after a turn of a consumer with so many deliveries
pub record IsKept (count : ℕ) (t : Turn) : Type 0 where
  pub first : IsNeutral t.done.first
  pub second : IsNeutral t.done.second
  pub counted : t.state.delivered ≡ count + completes t.done.outcome
  pub ready : IsReady t.state
  pub tagged : IsTagged t.done.outcome t.state

abbrev pub Keeps : ℕ → Result Turn ConsumeFault → Type 0
Keeps count (Ok t) = IsKept count t
Keeps count (Err fault) = Unit {0}

-- a turn that depends on a test
keeps_if : (count : ℕ) (b : Bool) (x y : Result Turn ConsumeFault) → (b ≡ true → Keeps count x)
    → (b ≡ false → Keeps count y) → Keeps count (cond b x y)
keeps_if count true x y f h = f refl
keeps_if count false x y f h = h refl

-- ---- setting up

-- a reply acknowledges nothing, and no delivery is under way after it
pub record IsPlain (r : Reply) : Type 0 where
  pub first : IsNeutral r.first
  pub second : IsNeutral r.second
  pub phase : is_under_way r.phase ≡ false

abbrev ArePlain : Option Reply → Type 0
ArePlain None = Unit {0}
ArePlain (Some r) = IsPlain r

reply_is_plain : (s : Settings) (p : Phase) (r : Response) → ArePlain (reply_to s p r)
unfolding reply_to
reply_is_plain s phase.Start response.Start = record { first = tt; second = tt; phase = refl }
reply_is_plain s phase.Tune (response.Tune c f h) = record { first = tt; second = tt; phase = refl }
reply_is_plain s phase.OpenOk response.OpenOk = record { first = tt; second = tt; phase = refl }
reply_is_plain s phase.ChannelOpenOk response.ChannelOpenOk = record { first = tt; second = tt; phase = refl }
reply_is_plain s phase.QosOk response.QosOk = record { first = tt; second = tt; phase = refl }
reply_is_plain s phase.DeclareOk response.DeclareOk = record { first = tt; second = tt; phase = refl }
reply_is_plain s phase.ConsumeOk response.ConsumeOk = record { first = tt; second = tt; phase = refl }
reply_is_plain _ _ _ = tt

setup_keeps : (s : State) (r : Option Reply) → ArePlain r → Keeps s.delivered (setup_turn s r)
unfolding setup_turn
setup_keeps s None plain = tt
setup_keeps s (Some r) plain = record {
  first = plain.first;
  second = plain.second;
  counted = omega arith;
  ready = λ under. absurd (let clash : false ≡ true = sym plain.phase ∙ under in cc);
  tagged = tt;
}

-- ---- deliveries

-- a turn that changes nothing and sends nothing
same_keeps : (s : State) → IsReady s
    → IsKept s.delivered (record { state = s; done = record { outcome = GoesOn; first = None; second = None } })
same_keeps s ready = record { first = tt; second = tt; counted = omega arith; ready = ready; tagged = tt }

delivery_keeps : (s : State) (p : Phase) (tag : ℕ) (redelivered : Bool) → IsReady s
    → Keeps s.delivered (delivery_turn s p tag redelivered)
unfolding delivery_turn
delivery_keeps s phase.Delivery tag redelivered ready =
    keeps_if s.delivered (eqb tag (s.delivered + 1)) _ _
    (λ is. record { first = tt; second = tt; counted = omega arith; ready = λ _. eqb-true _ _ is; tagged = tt })
    (λ _. tt)
delivery_keeps s phase.CancelOk tag redelivered ready = same_keeps s ready
delivery_keeps s phase.CloseOk tag redelivered ready = same_keeps s ready
delivery_keeps s _ tag redelivered ready = tt

filled_keeps : (s : State) → s.tag ≡ s.delivered + 1 → Keeps s.delivered (filled s)
unfolding filled
filled_keeps s next =
    keeps_if s.delivered (eqb s.left 0) _ _
    (λ _. record { first = tt; second = tt; counted = next; ready = λ under. absurd cc; tagged = refl })
    (λ _. record { first = tt; second = tt; counted = omega arith; ready = λ _. next; tagged = tt })

header_keeps : (s : State) (p : Phase) (h : Option Header) → IsReady s
    → (is_under_way p ≡ true → s.tag ≡ s.delivered + 1) → Keeps s.delivered (header_turn s p h)
unfolding header_turn
header_keeps s phase.Header None ready under = tt
header_keeps s phase.Header (Some h) ready under =
    filled_keeps (record s { left = h.size; headers = h.headers; message_type = h.message_type; content = [] })
    (under refl)
header_keeps s phase.CancelOk h ready under = same_keeps s ready
header_keeps s phase.CloseOk h ready under = same_keeps s ready
header_keeps s _ h ready under = tt

body_keeps : (s : State) (p : Phase) (payload : List ℕ) → IsReady s
    → (is_under_way p ≡ true → s.tag ≡ s.delivered + 1) → Keeps s.delivered (body_turn s p payload)
unfolding body_turn
body_keeps s phase.Body payload ready under =
    keeps_if s.delivered (ltb s.left (length payload)) _ _ (λ _. tt)
    (λ _. filled_keeps (record s { left = s.left - length payload; content = s.content ++ kept s.content payload })
    (under refl))
body_keeps s phase.CancelOk payload ready under = same_keeps s ready
body_keeps s phase.CloseOk payload ready under = same_keeps s ready
body_keeps s _ payload ready under = tt

-- ---- methods

canceled_keeps : (s : State) (p : Phase) → Keeps s.delivered (canceled_turn s p)
unfolding canceled_turn
canceled_keeps s phase.CancelOk =
    record { first = tt; second = tt; counted = omega arith; ready = λ under. absurd cc; tagged = tt }
canceled_keeps s _ = tt

-- the end of a connection
ended_keeps : (s : State) (end : End) (first second : Option Request) → IsNeutral first → IsNeutral second → IsReady s
    → IsKept s.delivered (record { state = s; done = record { outcome = Ended end; first = first; second = second } })
ended_keeps s end first second one other ready =
    record { first = one; second = other; counted = omega arith; ready = ready; tagged = tt }

closed_keeps : (s : State) (p : Phase) → IsReady s → Keeps s.delivered (closed_turn s p)
unfolding closed_turn
closed_keeps s phase.CloseOk ready = ended_keeps s Finished None None tt tt ready
closed_keeps s _ ready = tt

method_keeps : (settings : Settings) (s : State) (r : Response) → IsReady s
    → Keeps s.delivered (method_turn settings s r)
unfolding method_turn
method_keeps settings s response.Blocked ready = same_keeps s ready
method_keeps settings s response.Unblocked ready = same_keeps s ready
method_keeps settings s (response.Close code) ready = ended_keeps s (Closed code) (Some sent.CloseOk) None tt tt ready
method_keeps settings s (response.ChannelClose code) ready =
    ended_keeps s (ChannelClosed code) (Some sent.ChannelCloseOk) (Some sent.Close) tt tt ready
method_keeps settings s response.Cancel ready = ended_keeps s Canceled (Some sent.Close) None tt tt ready
method_keeps settings s response.CancelOk ready = canceled_keeps s s.phase
method_keeps settings s response.CloseOk ready = closed_keeps s s.phase ready
method_keeps settings s (response.Deliver tag again) ready = delivery_keeps s s.phase tag again ready
method_keeps settings s r ready = setup_keeps s (reply_to settings s.phase r) (reply_is_plain settings s.phase r)

response_keeps : (settings : Settings) (s : State) (channel : ℕ) (r : Option Response) → IsReady s
    → Keeps s.delivered (response_turn settings s channel r)
unfolding response_turn
response_keeps settings s channel None ready = tt
response_keeps settings s channel (Some r) ready =
    keeps_if s.delivered (eqb channel (channel_of r)) _ _ (λ _. method_keeps settings s r ready) (λ _. tt)

-- each turn keeps it
pub turn_keeps : (settings : Settings) (s : State) (k : FrameKind) (channel : ℕ) (payload : List ℕ) → IsReady s
    → Keeps s.delivered (received settings s k channel payload)
unfolding received
turn_keeps settings s kind.Method channel payload ready = response_keeps settings s channel (response_at payload) ready
turn_keeps settings s kind.Header channel payload ready =
    keeps_if s.delivered (eqb channel 1) _ _ (λ _. header_keeps s s.phase (header_at payload) ready ready) (λ _. tt)
turn_keeps settings s kind.Body channel payload ready =
    keeps_if s.delivered (eqb channel 1) _ _ (λ _. body_keeps s s.phase payload ready ready) (λ _. tt)
turn_keeps settings s kind.Heartbeat channel payload ready =
    keeps_if s.delivered (eqb channel 0) _ _
    (λ _. record { first = tt; second = tt; counted = omega arith; ready = ready; tagged = tt }) (λ _. tt)

-- each completed delivery is one more
pub length_after : (ds : List Delivery) (o : Outcome) (s : State)
    → length (deliveries_after ds o s) ≡ length ds + completes o
length_after ds Delivered s = omega (arith, length-append ds (delivery_of s ∷ []))
length_after ds GoesOn s = omega arith
length_after ds (Ended end) s = omega arith
