-- What the ledger replies to a request and to a poll, determined by its history.
use Rattle.std.specs.Prelude.{Result, Ok, Err, take}
use Rattle.cdc_ledger.specs.declared.errors.BatchError.{BatchError}
use Rattle.cdc_ledger.specs.Events.{events}
use Rattle.cdc_ledger.specs.History.{History}
use Rattle.cdc_ledger.specs.Submit.{submit}
use Rattle.cdc_laws.specs.Readings.{none_follow}
use Rattle.cdc_laws.specs.Log.{events_after}
use Rattle.cdc_traffic.specs.declared.polls.Poll.{Poll}
use Rattle.cdc_traffic.specs.declared.polls.PollReply.{PollReply}
use Rattle.cdc_traffic.specs.declared.requests.Reply.{Reply}
use Rattle.cdc_traffic.specs.declared.requests.Request.{Request}
use Rattle.cdc_types.specs.declared.batches.Batch.{Batch}
use Rattle.cdc_types.specs.declared.batches.BatchResults.{BatchResults}

-- what a client is shown of the ledger's answer to a batch: the results, or why it was refused as a whole
abbrev pub shown : Result (BatchResults × History) BatchError → Result BatchResults BatchError
shown (Ok answer) = Ok answer.0
shown (Err why) = Err why

-- the ledger's answer to a batch, as it is shown
abbrev pub answer_shown : History → Batch → Result BatchResults BatchError
answer_shown h batch = shown (submit h batch)

-- the reply to a request
abbrev pub reply_to : History → Request → Reply
reply_to h request = record {
  number = request.number;
  batch = request.batch;
  answer = answer_shown h request.batch;
}

-- the reply to a poll
abbrev pub read_by : History → Poll → PollReply
read_by h poll = record {
  poll = poll;
  events = take poll.limit (events_after poll.after (events h));
  complete = none_follow h (record { after = poll.after; limit = poll.limit });
}
