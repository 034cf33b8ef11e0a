-- How consuming a queue ends: the exit status, and what is reported of it.
use Rattle.std.specs.Prelude.{◌≡◌, ℕ, List, codes, Bool, false, ◌||◌, ◌==◌, if◌then◌else◌, Option, Some, None, Result, Ok, Err}
use Rattle.std.specs.Option.{unwrap_or}
use Rattle.cdc_amqp_consumer.specs.declared.consumer.End.{End}
use Rattle.cdc_amqp_consumer.specs.declared.consumer.End.TheVariants.{Closed, ChannelClosed, Canceled, Finished}
use Rattle.cdc_amqp_dialogue.specs.declared.errors.ConsumeFailure.{ConsumeFailure}
use Rattle.cdc_amqp_dialogue.specs.declared.errors.ConsumeFailure.TheVariants.{Read, Frame, Fault, Store, Write}
use Rattle.cdc_amqp_dialogue.specs.declared.errors.ConsumeFailure.TheVariants.{OutOfMemory}
use Rattle.cdc_amqp_dialogue.specs.declared.taking.Reason.{Reason}
use Rattle.cdc_amqp_dialogue.specs.declared.taking.Reason.TheVariants.{BadMessage, Stopped}
use Rattle.cdc_amqp_dialogue.specs.declared.taking.Refusal.{Refusal}
use Rattle.cdc_amqp_frames.specs.declared.errors.FrameFault.TheVariants.{Incomplete}
use Rattle.cdc_follow.specs.LineErrors.{line_error_name}
use Rattle.cdc_follow.specs.declared.streams.Stop.{Stop}
use Rattle.cdc_follow.specs.declared.streams.Stop.TheVariants.{AtEnd, Gap, AfterEnd, BadLine}
use Rattle.cdc_consume_command.specs.declared.endings.ConsumeEnding.{ConsumeEnding}
use Rattle.cdc_consume_command.specs.declared.endings.Outcome.{Outcome}

-- the server refuses the user or a permission (403), the queue (404) or the virtual host (530)
abbrev pub is_refusal : ℕ → Bool
is_refusal code = code == 403 || code == 404 || code == 530

abbrev pub closed_status : ℕ → ℕ
closed_status code = if is_refusal code then 2 else 1

-- the exit status, if following did not stop
abbrev pub end_status : Result End ConsumeFailure → ℕ
end_status (Ok Finished) = 0
end_status (Ok (Closed code)) = closed_status code
end_status (Ok (ChannelClosed code)) = closed_status code
end_status (Ok Canceled) = 1
end_status (Err why) = 1

-- 0 at the end-of-stream marker or the limit; 1 after a failure that may pass; 2 if the server refuses what is asked
-- for, or a message is no event; 3 at a gap or at what contradicts the end
abbrev pub reason_status : Reason Stop → Result End ConsumeFailure → ℕ
reason_status (BadMessage error) how = 2
reason_status (Stopped (Gap tag entry)) how = 3
reason_status (Stopped (AfterEnd tag entry)) how = 3
reason_status (Stopped (BadLine tag error)) how = 2
reason_status (Stopped AtEnd) how = end_status how

abbrev pub status_by : Option (Refusal Stop) → Result End ConsumeFailure → ℕ
status_by (Some refusal) how = reason_status refusal.reason how
status_by None how = end_status how

-- the name of a failure
abbrev pub failure_reason : ConsumeFailure → List ℕ
failure_reason (Read why) = codes "read_fault"
failure_reason (Frame Incomplete) = codes "connection_lost"
failure_reason (Frame fault) = codes "protocol_fault"
failure_reason (Fault fault) = codes "protocol_fault"
failure_reason (Store error) = codes "store"
failure_reason (Write why) = codes "write_fault"
failure_reason OutOfMemory = codes "out_of_memory"

-- the name of the reason, if following did not stop
abbrev pub end_reason : Result End ConsumeFailure → Bool → List ℕ
end_reason (Ok Finished) ended = if ended then codes "end" else codes "limit"
end_reason (Ok (Closed code)) ended = codes "closed"
end_reason (Ok (ChannelClosed code)) ended = codes "channel_closed"
end_reason (Ok Canceled) ended = codes "canceled"
end_reason (Err why) ended = failure_reason why

-- the name of the reason
abbrev pub stop_reason : Reason Stop → Result End ConsumeFailure → Bool → List ℕ
stop_reason (BadMessage error) how ended = line_error_name error
stop_reason (Stopped (Gap tag entry)) how ended = codes "gap"
stop_reason (Stopped (AfterEnd tag entry)) how ended = codes "after_end"
stop_reason (Stopped (BadLine tag error)) how ended = line_error_name error
stop_reason (Stopped AtEnd) how ended = end_reason how ended

abbrev pub reason_by : Option (Refusal Stop) → Result End ConsumeFailure → Bool → List ℕ
reason_by (Some refusal) how ended = stop_reason refusal.reason how ended
reason_by None how ended = end_reason how ended

-- the reply code with which the server closed the connection or the channel
abbrev pub code_by : Result End ConsumeFailure → ℕ
code_by (Ok (Closed code)) = code
code_by (Ok (ChannelClosed code)) = code
code_by (Ok Canceled) = 0
code_by (Ok Finished) = 0
code_by (Err why) = 0

-- the tag of the delivery at which following stopped
abbrev pub tag_by : Option (Refusal Stop) → ℕ
tag_by (Some refusal) = refusal.tag
tag_by None = 0

-- whether that message was delivered before, and how often; 0 if its queue doesn't count that
abbrev pub is_redelivered : Option (Refusal Stop) → Bool
is_redelivered (Some refusal) = refusal.redelivered
is_redelivered None = false

abbrev pub count_by : Option (Refusal Stop) → ℕ
count_by (Some refusal) = unwrap_or refusal.delivery_count 0
count_by None = 0

-- what is reported of how the command ended
pub record IsOutcome (outcome : Outcome) (ending : ConsumeEnding) (parked : ℕ) (text : List ℕ) : Type 0 where
  pub status : outcome.status ≡ status_by ending.stop ending.how
  pub reason : outcome.reason.now ≡ reason_by ending.stop ending.how ending.ended
  pub code : outcome.code ≡ code_by ending.how
  pub tag : outcome.tag ≡ tag_by ending.stop
  pub redelivered : outcome.redelivered ≡ is_redelivered ending.stop
  pub delivery_count : outcome.delivery_count ≡ count_by ending.stop
  pub parked_is : outcome.parked ≡ parked
  pub text_is : outcome.text.now ≡ text
