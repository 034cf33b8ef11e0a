-- The trace of a simulation: a line for each step, with what it did.
use Rattle.std.specs.Prelude.{ℕ, ◌+◌, ◌-◌, Bool, false, ◌==◌, nat_le, List, [], ◌∷◌, ◌++◌, codes, count_by, decimal, if◌then◌else◌, length, option_map, Option, None, Some, unwrap_or}
use Rattle.std.specs.Option.{option_and_then}
use Rattle.cdc_types.specs.declared.batches.Batch.{Batch}
use Rattle.cdc_types.specs.declared.batches.Batch.TheVariants as batch
use Rattle.cdc_types.specs.declared.batches.BatchResults.{BatchResults}
use Rattle.cdc_types.specs.declared.batches.BatchResults.TheVariants as results
use Rattle.cdc_types.specs.declared.events.Event.{Event}
use Rattle.cdc_types.specs.Results.{account_number, transfer_number}
use Rattle.cdc_types.specs.declared.steps.Step.{Step}
use Rattle.cdc_types.specs.declared.steps.Step.TheVariants as step
use Rattle.cdc_ledger.specs.Events.{events}
use Rattle.cdc_subscriber.specs.declared.subscriber.Taking.{Taking}
use Rattle.cdc_subscriber.specs.declared.subscriber.Taking.TheVariants.{Applied, Repeat, Ended, AfterClose}
use Rattle.cdc_world.specs.declared.moved.ItemName.{ItemName}
use Rattle.cdc_world.specs.declared.moved.ItemName.TheVariants as item
use Rattle.cdc_world.specs.declared.moved.Moved.{Moved}
use Rattle.cdc_world.specs.declared.moved.Moved.TheVariants.{SessionStarted, SessionLost, EventsOffered, PacketSent, PacketTaken, PacketIgnored, ConfirmReceived, ProgressSaved, DeliverySent, QueueRewound, FlightLost, DeliveryTaken, Acknowledged}
use Rattle.cdc_world.specs.declared.moved.PacketName.{PacketName}
use Rattle.cdc_world.specs.declared.moved.PacketName.TheVariants as packet
use Rattle.cdc_world.specs.declared.steps.Did.{Did}
use Rattle.cdc_world.specs.declared.steps.Did.TheVariants as did
use Rattle.cdc_commands.specs.Seen.{Seen}
use Rattle.cdc_diagnostics.specs.declared.traces.Done.{Done}
use Rattle.cdc_diagnostics.specs.Movements.{after_comma, event_at, movement_of}
use Rattle.cdc_diagnostics.specs.StepTexts.{step_line}

-- ---- batches

-- how many items a batch has; a pulse has none
abbrev pub item_count : Batch → ℕ
item_count (batch.Accounts now items) = length items
item_count (batch.Transfers now items) = length items
item_count (batch.Pulse now) = 0

-- how many of them were accepted
abbrev pub accepted_count : BatchResults → ℕ
accepted_count (results.Accounts answers) = count_by (λ answer. account_number answer == 0) answers
accepted_count (results.Transfers answers) = count_by (λ answer. transfer_number answer == 0) answers
accepted_count (results.Pulsed expired) = 0

-- the results of the batch of this number
abbrev pub results_text : ℕ → Batch → BatchResults → List ℕ
results_text n taken (results.Pulsed expired) =
    codes "batch " ++ decimal n ++ codes ", a pulse, expired " ++ decimal expired
results_text n taken answers =
    codes "batch " ++ decimal n ++ codes ", items " ++ decimal (item_count taken)
    ++ codes ", accepted " ++ decimal (accepted_count answers)
    ++ codes ", refused " ++ decimal (item_count taken - accepted_count answers)

abbrev pub batch_text : ℕ → Batch → Did → List ℕ
batch_text n taken (did.Submitted answers) = results_text n taken answers
batch_text n taken _ = codes "done"

-- ---- sessions

-- how many events aren't later than this timestamp
abbrev pub left_out : ℕ → List Event → ℕ
left_out timestamp all = count_by (λ event. nat_le event.timestamp timestamp) all

-- a session that starts after a timestamp
abbrev pub begin_text : ℕ → ℕ → List ℕ
begin_text session after = codes "session " ++ decimal session ++ codes " begins after " ++ decimal after

-- if the timestamp was given, also how many events are left out so far
abbrev pub start_text : Step → ℕ → ℕ → List Event → List ℕ
start_text (step.StartAt asked) session after all =
    begin_text session after ++ codes ", events left out so far: " ++ decimal (left_out after all)
start_text _ session after all = begin_text session after

-- the events that a session is offered, from the first timestamp to the last one; complete if none follows
abbrev pub offer_text : ℕ → ℕ → ℕ → Bool → List ℕ
offer_text count first last complete =
    if count == 0 then (if complete then codes "no event follows" else codes "no event yet")
    else if count == 1 then codes "event " ++ decimal first ++ (if complete then codes ", the last one" else [])
    else decimal count ++ codes " events, " ++ decimal first ++ codes " to " ++ decimal last
    ++ (if complete then codes ", the last ones" else [])

-- whether a confirm counted
abbrev pub has_counted : Did → Bool
has_counted (did.Counted counted) = counted
has_counted _ = false

-- a confirm that counted, or why it didn't
abbrev pub confirm_text : Did → ℕ → ℕ → ℕ → List ℕ
confirm_text answer session tag running =
    if has_counted answer then codes "counted"
    else if session == running then codes "ignored, its tag " ++ decimal tag ++ codes " was confirmed already"
    else codes "ignored, it is of session " ++ decimal session ++ codes ", and session " ++ decimal running
    ++ codes " runs"

-- what a session has saved
abbrev pub saved_text : ℕ → ℕ → List ℕ
saved_text session timestamp = codes "session " ++ decimal session ++ codes " is confirmed up to " ++ decimal timestamp

-- ---- packets

-- a packet that publishes the event of this timestamp
abbrev pub publish_text : ℕ → ℕ → ℕ → ℕ → List ℕ
publish_text number session tag timestamp =
    codes "packet " ++ decimal number ++ codes ", event " ++ decimal timestamp ++ codes " under tag " ++ decimal tag
    ++ codes " of session " ++ decimal session

-- a packet under its number
abbrev pub packet_text : ℕ → PacketName → List ℕ
packet_text number (packet.Connect session) =
    codes "packet " ++ decimal number ++ codes ", connect of session " ++ decimal session
packet_text number (packet.Publish session tag (item.Event timestamp)) =
    publish_text number session tag timestamp
packet_text number (packet.Publish session tag item.EndMark) =
    codes "packet " ++ decimal number ++ codes ", end mark under tag " ++ decimal tag

-- a packet that the broker took
abbrev pub taken_text : PacketName → List ℕ
taken_text (packet.Connect session) = codes "taken, session " ++ decimal session ++ codes " is connected"
taken_text (packet.Publish session tag (item.Event timestamp)) = codes "taken, event " ++ decimal timestamp
taken_text (packet.Publish session tag item.EndMark) = codes "taken, end mark"

-- a publish of the connected session that the broker ignored: of a tag after the next one, or of one before it
abbrev pub tag_text : ℕ → Option ℕ → List ℕ
tag_text tag None = codes "ignored, its tag " ++ decimal tag ++ codes " was taken already"
tag_text tag (Some next) =
    if nat_le next tag then codes "ignored, tag " ++ decimal next ++ codes " comes first"
    else codes "ignored, its tag " ++ decimal tag ++ codes " was taken already"

-- why the broker, with this session connected, ignored a packet
abbrev pub ignored_text : PacketName → ℕ → Option ℕ → List ℕ
ignored_text (packet.Connect session) connected next =
    if connected == 0 then codes "ignored, no session is connected"
    else codes "ignored, session " ++ decimal connected ++ codes " is connected"
ignored_text (packet.Publish session tag item) connected next =
    if connected == 0 then codes "ignored, no session is connected"
    else if session == connected then tag_text tag next
    else codes "ignored, session " ++ decimal connected ++ codes " is connected"

-- ---- deliveries

-- a delivery that a queue sent
abbrev pub position_text : ℕ → ItemName → List ℕ
position_text position (item.Event timestamp) =
    codes "position " ++ decimal position ++ codes ", event " ++ decimal timestamp
position_text position item.EndMark = codes "position " ++ decimal position ++ codes ", end mark"

-- a queue that lost its deliveries in flight, with the position that it begins again at
abbrev pub lost_text : ℕ → ℕ → List ℕ
lost_text count acked =
    codes "lost on the way " ++ decimal count ++ codes ", begins again at position " ++ decimal (acked + 1)

-- an acknowledgement that a queue has counted
abbrev pub acknowledged_text : ℕ → List ℕ
acknowledged_text acked = codes "counted, all up to position " ++ decimal acked ++ codes " are acknowledged"

-- what a subscriber did with an event of this timestamp
abbrev pub event_text : Taking → ℕ → List ℕ
event_text Applied timestamp = codes "applied " ++ decimal timestamp
event_text Repeat timestamp = codes "repeat of " ++ decimal timestamp
event_text Ended timestamp = codes "ended by " ++ decimal timestamp
event_text AfterClose timestamp = codes "ignored, the subscriber is closed: event " ++ decimal timestamp

-- what it did with an end mark
abbrev pub end_text : Taking → List ℕ
end_text Applied = codes "applied the end mark"
end_text Repeat = codes "repeat of the end mark"
end_text Ended = codes "heard the end mark"
end_text AfterClose = codes "ignored, the subscriber is closed: end mark"

abbrev pub item_text : Taking → ItemName → List ℕ
item_text taking (item.Event timestamp) = event_text taking timestamp
item_text taking item.EndMark = end_text taking

abbrev pub taking_text : Did → ItemName → List ℕ
taking_text (did.Took taking) received = item_text taking received
taking_text _ received = codes "done"

-- ---- steps

-- what a step moved
abbrev pub moved_text : Step → Did → List Event → Moved → List ℕ
moved_text step did all (SessionStarted session after) = start_text step session after all
moved_text step did all (SessionLost session) = codes "session " ++ decimal session ++ codes " is gone"
moved_text step did all (EventsOffered count first last complete) = offer_text count (unwrap_or first 0) last complete
moved_text step did all (PacketSent number sent) = packet_text number sent
moved_text step did all (PacketTaken taken) = taken_text taken
moved_text step did all (PacketIgnored ignored connected next) = ignored_text ignored connected next
moved_text step did all (ConfirmReceived session tag running) = confirm_text did session tag running
moved_text step did all (ProgressSaved session timestamp) = saved_text session timestamp
moved_text step did all (DeliverySent position sent) = position_text position sent
moved_text step did all (QueueRewound acked) = codes "begins again at position " ++ decimal (acked + 1)
moved_text step did all (FlightLost count acked) = lost_text count acked
moved_text step did all (DeliveryTaken position taken) = taking_text did taken
moved_text step did all (Acknowledged acked) = acknowledged_text acked

abbrev pub any_text : Step → Did → List Event → Option Moved → List ℕ
any_text step did all None = codes "done"
any_text step did all (Some moved) = moved_text step did all moved

-- what a step did; the ledger has taken n batches, with this one
abbrev pub done_text : ℕ → Step → Did → List Event → Option Moved → List ℕ
done_text n (step.Submit taken) did all moved = batch_text n taken did
done_text n step.CloseLedger did all moved = codes "the ledger takes no more batches"
done_text n (step.Close i) did all moved = codes "the subscriber applies no more"
done_text n step did all moved = any_text step did all moved

abbrev pub did_text : ℕ → Seen → List ℕ
did_text n seen = done_text n seen.step seen.did (events seen.history) seen.moved

-- ---- money

abbrev pub item_event : ItemName → Option ℕ
item_event (item.Event timestamp) = Some timestamp
item_event item.EndMark = None

abbrev pub packet_event : PacketName → Option ℕ
packet_event (packet.Connect session) = None
packet_event (packet.Publish session tag published) = item_event published

-- the timestamp of the event that was moved, if it is exactly one
abbrev pub event_moved : Moved → Option ℕ
event_moved (EventsOffered count first last complete) = if count == 1 then first else None
event_moved (PacketSent number sent) = packet_event sent
event_moved (PacketTaken taken) = packet_event taken
event_moved (DeliverySent position sent) = item_event sent
event_moved (DeliveryTaken position taken) = item_event taken
event_moved _ = None

-- what the event of this timestamp did with money, after a comma
abbrev pub money_at : List Event → Option ℕ → List ℕ
money_at all None = []
money_at all (Some timestamp) = after_comma (option_map movement_of (event_at timestamp all))

-- what the event that a step moved did with money
abbrev pub money_text : Seen → List ℕ
money_text seen = money_at (events seen.history) (option_and_then event_moved seen.moved)

-- ---- traces

-- a step that was done, as an observer sees it
abbrev pub seen_of : Done → Seen
seen_of done = record {
  step = done.step.now;
  did = done.did.now;
  moved = done.moved;
  history = done.ledger.now;
}

-- how many batches the ledger has taken with this step, if it took n before
abbrev pub taken_with : ℕ → Step → ℕ
taken_with n (step.Submit taken) = n + 1
taken_with n _ = n

-- the line of a step; the ledger has taken n batches, with this one
abbrev pub trace_line : ℕ → Seen → List ℕ
trace_line n seen = step_line seen.step ++ codes ": " ++ did_text n seen ++ money_text seen ++ codes "\n"

-- the lines of steps; the ledger took n batches before them
abbrev pub trace_after : ℕ → List Seen → List ℕ
trace_after n [] = []
trace_after n (seen ∷ rest) = trace_line (taken_with n seen.step) seen ++ trace_after (taken_with n seen.step) rest

-- the trace of steps from the first one on
abbrev pub trace_text : List Seen → List ℕ
trace_text seen = trace_after 0 seen
