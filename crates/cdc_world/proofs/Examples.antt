-- Examples: what runs of a few steps make of small worlds.
use Rattle.cdc_world.proofs.Words.{Ack, Answer, Arrive, Break, Close, CloseLedger, Crash, Done, Err, List, Next, NextPast, None, NotEnabled, Ok, Option, Refused, Rewind, Risks, Run, Save, Saved, Send, SessionsExhausted, Some, Start, StartAt, StartNotAllowed, Step, StepError, Store, Submit, SubscriberState, Take, WorldState, [], arith, false, inl, inr, kept_of, map, new_course, new_world, refl, run_of, saved, saved_from, true, ℕ, ◌++◌, ◌∷◌, ◌≡◌}
use Rattle.cdc_types.specs.declared.accounts.NewAccount.{NewAccount}
use Rattle.cdc_types.specs.declared.batches.Batch.TheVariants as batch
use Rattle.cdc_types.specs.declared.transfers.NewTransfer.{NewTransfer}
use Rattle.cdc_ledger.specs.declared.errors.BatchError.TheVariants.{LedgerClosed}
use Rattle.cdc_match.specs.declared.pairs.Mode.TheVariants.{All}
use Rattle.cdc_progress.specs.StoreError.TheVariants.{WriteFault}
use Rattle.cdc_subscriber.specs.declared.book.BookEntry.{BookEntry}
use Rattle.cdc_types.specs.declared.steps.Step.TheVariants.{Poll, Publish}

-- one subscriber, of every event, and a session that waits for one event at a time
abbrev start : WorldState
start = new_world (record { mode = All; pairs = [] } ∷ []) 1 None

-- a request for an account of ledger 700 and code 10
abbrev account : ℕ → NewAccount
account id =
    record { id = id; user_data_128 = 0; user_data_64 = 0; user_data_32 = 0; ledger = 700; code = 10; flags = 0 }

-- a request for a transfer from account 1 to account 2, of ledger 700 and code 1
abbrev transfer : ℕ → ℕ → NewTransfer
transfer id amount = record {
  id = id;
  debit_account_id = 1;
  credit_account_id = 2;
  amount = amount;
  pending_id = 0;
  user_data_128 = 0;
  user_data_64 = 0;
  user_data_32 = 0;
  timeout = 0;
  ledger = 700;
  code = 1;
  flags = 0;
}

-- two accounts are opened and these transfers made, and a first session's connect comes to the broker
abbrev connected : List NewTransfer → List Step
connected transfers =
    Submit (batch.Accounts 1000 (account 1 ∷ account 2 ∷ [])) ∷ Submit (batch.Transfers 2000 transfers)
    ∷ Start ∷ Publish ∷ Arrive 1 ∷ []

-- the next packet of an event, or of the end mark, is sent; or sent and taken; or sent, taken and confirmed
abbrev sent : List Step
sent = Poll ∷ Publish ∷ []

-- and that packet, under its number, comes to the broker
abbrev taken : ℕ → List Step
taken packet = sent ++ Arrive packet ∷ []

-- and the broker's confirm of it, under its number, comes to the session
abbrev emitted : ℕ → ℕ → List Step
emitted packet confirm = taken packet ++ Answer confirm ∷ []

-- what a run shows: how many steps were done, the refusal, what the store holds, and what each subscriber keeps
abbrev shown : Run → (ℕ × Option StepError) × Option Saved × List SubscriberState
shown run = (run.0, run.1.held, map (λ s. kept_of s.reception) run.1.subscriptions)

-- it shows this for one subscriber, if something is held
abbrev leaves : ℕ → Option StepError → Saved → SubscriberState → (ℕ × Option StepError) × Option Saved
    × List SubscriberState
leaves count refusal held kept = ((count, refusal), Some held, kept ∷ [])

-- an account of a book
abbrev entry : ℕ → ℕ → ℕ → BookEntry
entry id debits credits = record {
  id = id;
  balances = record { debits_pending = 0; debits_posted = debits; credits_pending = 0; credits_posted = credits };
}

-- both accounts of a book, between which this much was moved
abbrev moved : ℕ → List BookEntry
moved amount = entry 1 amount 0 ∷ entry 2 0 amount ∷ []

-- an empty ledger is closed: the subscriber receives the end mark and nothing else
abbrev empty_and_closed : List Step
empty_and_closed =
    CloseLedger ∷ Start ∷ Publish ∷ Arrive 1 ∷ emitted 2 1 ++ Send 1 ∷ Take 1 ∷ []

-- the subscriber has ended with an empty book, and the first session is held with timestamp 0
shows_the_end : shown (run_of start empty_and_closed)
    ≡ leaves 10 None (saved 1 0) (record { book = []; last = 0; applied = 0; ended = true; closed = false })
shows_the_end = refl

-- an empty ledger that is open has nothing to publish, not even its end mark
shows_no_end : shown (run_of start (Start ∷ Publish ∷ Arrive 1 ∷ sent))
    ≡ leaves 4 (Some NotEnabled) (saved 1 0)
    (record { book = []; last = 0; applied = 0; ended = false; closed = false })
shows_no_end = refl

-- two transfers without a fault: both are published, confirmed and saved, and then the end mark
abbrev two_transfers : List NewTransfer
two_transfers = transfer 1 5 ∷ transfer 2 7 ∷ []

-- its steps: the ledger closes only once both events are confirmed, and all three items are delivered last
abbrev whole_way : List Step
whole_way =
    connected two_transfers ++ emitted 2 1 ++ emitted 3 2 ++ Save ∷ CloseLedger ∷ emitted 4 3
    ++ Send 1 ∷ Send 1 ∷ Send 1 ∷ Take 1 ∷ Take 1 ∷ Take 1 ∷ []

-- the book shows both amounts, the subscriber has ended, and the second event's timestamp is held
shows_all : shown (run_of start whole_way)
    ≡ leaves 25 None (saved 1 2001) (record { book = moved 12; last = 2001; applied = 2; ended = true; closed = false })
shows_all = refl

-- why a step isn't done: a closed ledger refuses a batch; a session runs already, or there is no further number for
-- one; there is no packet, confirm, subscriber or acknowledgement of that number; nothing is on its way; or a step of
-- the connector comes while it is down
abbrev refused : WorldState → List Step → ℕ × Option StepError
refused w steps = (run_of w steps).0

-- each with the number of steps that were done before it
refuses : (refused start (CloseLedger ∷ Submit (batch.Pulse 5) ∷ []) ≡ (1, Some (Refused LedgerClosed)))
    × (refused start (Start ∷ Start ∷ []) ≡ (1, Some NotEnabled))
    × (refused (record start { held = Some (saved 18446744073709551615 7) }) (Start ∷ [])
    ≡ (0, Some SessionsExhausted))
    × (refused start (connected two_transfers ++ sent ++ Arrive 3 ∷ []) ≡ (7, Some NotEnabled))
    × (refused start (Start ∷ Publish ∷ Arrive 0 ∷ []) ≡ (2, Some NotEnabled))
    × (refused start (connected two_transfers ++ taken 2 ++ Answer 2 ∷ []) ≡ (8, Some NotEnabled))
    × (refused start (Send 0 ∷ []) ≡ (0, Some NotEnabled))
    × (refused start (Take 2 ∷ []) ≡ (0, Some NotEnabled))
    × (refused start (Take 1 ∷ []) ≡ (0, Some NotEnabled))
    × (refused start (Start ∷ Crash ∷ Crash ∷ []) ≡ (2, Some NotEnabled))
    × (refused start (Rewind 2 ∷ []) ≡ (0, Some NotEnabled))
    × (refused start (Ack 1 1 ∷ []) ≡ (0, Some NotEnabled))
refuses = (refl, refl, refl, refl, refl, refl, refl, refl, refl, refl, refl, refl)

-- the packets of a session that crashed come after the next session's connect, and are ignored
abbrev late_packets : List Step
late_packets =
    connected (transfer 1 100 ∷ []) ++ sent ++ Crash ∷ Start ∷ Publish ∷ Arrive 3 ∷ Arrive 1 ∷ Arrive 2 ∷ taken 4
    ++ Send 1 ∷ Take 1 ∷ Send 1 ∷ []

-- the event is in the queue once, as the second session sent it: there is nothing to deliver after it
ignores_late : shown (run_of start late_packets)
    ≡ leaves 18 (Some NotEnabled) (saved 2 0)
    (record { book = moved 100; last = 2000; applied = 1; ended = false; closed = false })
ignores_late = refl

-- a session saves before what it has sent is confirmed, and crashes: the next one publishes it again
abbrev saved_early : List Step
saved_early =
    connected two_transfers ++ sent ++ Save ∷ Crash ∷ Start ∷ Publish ∷ Arrive 3 ∷ emitted 4 1 ++ emitted 5 2
    ++ Save ∷ Send 1 ∷ Take 1 ∷ Send 1 ∷ Take 1 ∷ []

-- the first save holds timestamp 0, so both events come from the second session; its own save has the last one
saves_confirmed_alone : shown (run_of start saved_early)
    ≡ leaves 25 None (saved 2 2001)
    (record { book = moved 12; last = 2001; applied = 2; ended = false; closed = false })
saves_confirmed_alone = refl

-- a queue that rewinds delivers again what isn't acknowledged, and the subscriber applies nothing twice
abbrev four_transfers : List NewTransfer
four_transfers = transfer 1 1 ∷ transfer 2 2 ∷ transfer 3 3 ∷ transfer 4 4 ∷ []

-- its steps: three items are delivered, the queue rewinds, all four are delivered, and seven deliveries are taken
abbrev delivered_again : List Step
delivered_again =
    connected four_transfers ++ emitted 2 1 ++ emitted 3 2 ++ emitted 4 3 ++ emitted 5 4
    ++ Send 1 ∷ Send 1 ∷ Send 1 ∷ Rewind 1 ∷ Send 1 ∷ Send 1 ∷ Send 1 ∷ Send 1
    ∷ Take 1 ∷ Take 1 ∷ Take 1 ∷ Take 1 ∷ Take 1 ∷ Take 1 ∷ Take 1 ∷ []

-- of the seven deliveries four are applied, and each amount is in the book once
applies_once : shown (run_of start delivered_again)
    ≡ leaves 36 None (saved 1 0) (record { book = moved 10; last = 2003; applied = 4; ended = false; closed = false })
applies_once = refl

-- a session goes on after what was saved; a confirm of the session before comes late, and doesn't count though its tag
-- has been sent again
abbrev eight_transfers : List NewTransfer
eight_transfers =
    four_transfers ++ transfer 5 5 ∷ transfer 6 6 ∷ transfer 7 7 ∷ transfer 8 8 ∷ []

-- its steps: the first session saves after two events and crashes when the fifth was taken;
-- the second begins with the third, and has sent the seventh when the late confirm has the same tag
abbrev crashed_between : List Step
crashed_between =
    connected eight_transfers ++ emitted 2 1 ++ emitted 3 2 ++ Save ∷ emitted 4 3 ++ emitted 5 4 ++ taken 6
    ++ Crash ∷ Start ∷ Publish ∷ Arrive 7 ∷ emitted 8 6 ++ emitted 9 7 ++ emitted 10 8 ++ emitted 11 9
    ++ sent ++ Answer 5 ∷ Save ∷ []

-- the sixth event's timestamp is held, not the seventh's
goes_on_from_saved : shown (run_of start crashed_between)
    ≡ leaves 49 None (saved 2 2005) (record { book = []; last = 0; applied = 0; ended = false; closed = false })
goes_on_from_saved = refl

-- a subscriber that closed applies nothing more, and still acknowledges what it takes
abbrev closed_between : List Step
closed_between =
    connected two_transfers ++ emitted 2 1 ++ taken 3 ++ Send 1 ∷ Send 1 ∷ Take 1 ∷ Close 1 ∷ Take 1 ∷ Ack 1 2 ∷ []

-- the second event is taken, but book, count and last timestamp are those of the first
stays_closed : shown (run_of start closed_between)
    ≡ leaves 18 None (saved 1 0) (record { book = moved 5; last = 2000; applied = 1; ended = false; closed = true })
stays_closed = refl

-- what is on its way is lost and delivered again; an acknowledgement moves a cursor that rewound forward, and so
-- nothing is left to deliver
abbrev broken_off : List Step
broken_off =
    connected two_transfers ++ emitted 2 1 ++ taken 3 ++ Send 1 ∷ Send 1 ∷ Take 1 ∷ Break 1 ∷ Send 1 ∷ Ack 1 1 ∷ Send 1
    ∷ Take 1 ∷ Take 1 ∷ Rewind 1 ∷ Ack 1 3 ∷ Send 1 ∷ []

-- the last delivery isn't enabled, and of the three deliveries that were taken two are applied
lifts_cursor : shown (run_of start broken_off)
    ≡ leaves 23 (Some NotEnabled) (saved 1 0)
    (record { book = moved 12; last = 2001; applied = 2; ended = false; closed = false })
lifts_cursor = refl

-- ---- a late start

-- a publisher that joins late, after the first of two events
abbrev joins_late : List Step
joins_late =
    Submit (batch.Accounts 1000 (account 1 ∷ account 2 ∷ [])) ∷ Submit (batch.Transfers 2000 two_transfers)
    ∷ StartAt 2000 ∷ []

-- only the second event is published, and yet the book has both amounts, since the event carries the ledger's
-- balances; the timestamp that was asked for is held as the one up to which all is confirmed, and as the start
shows_what_follows : shown (run_of start (joins_late ++ Publish ∷ Arrive 1 ∷ taken 2 ++ Send 1 ∷ Take 1 ∷ []))
    ≡ leaves 10 None (saved_from 2000 1 2000)
    (record { book = moved 12; last = 2001; applied = 1; ended = false; closed = false })
shows_what_follows = refl

-- once it is held, no other start may be asked for: nothing is saved then
no_second_start : shown (run_of start (joins_late ++ Crash ∷ StartAt 5 ∷ []))
    ≡ leaves 4 (Some StartNotAllowed) (saved_from 2000 1 2000)
    (record { book = []; last = 0; applied = 0; ended = false; closed = false })
no_second_start = refl

-- a session that starts without asking continues from where the first one was, and every save keeps the start
keeps_its_start : shown (run_of start (joins_late ++ Publish ∷ Arrive 1 ∷ emitted 2 1 ++ Save ∷ Crash ∷ Start ∷ []))
    ≡ leaves 12 None (saved_from 2000 2 2001)
    (record { book = []; last = 0; applied = 0; ended = false; closed = false })
keeps_its_start = refl

-- if a session runs, the step isn't enabled, whatever it asks for
starts_once : refused start (joins_late ++ StartAt 2000 ∷ []) ≡ (3, Some NotEnabled)
starts_once = refl

-- and that no start may be asked for is found before that there is no further number
asks_first : refused (record start { held = Some (saved 18446744073709551615 7) }) (StartAt 9 ∷ [])
    ≡ (0, Some StartNotAllowed)
asks_first = refl

-- ---- steps that are tried again

-- the world in which this is held
abbrev holding : ℕ → WorldState
holding session = record start { held = Some (saved session 0) }

-- and in which the session of this number has just started
abbrev running : ℕ → WorldState
running session =
    record (holding session) { session = Some (new_course (saved session 0) 1) }

-- the store may fail, and does not run out of memory
abbrev failing : Risks
failing = record { memory = false; faults = true }

-- the save of a first start fails, and the store holds the new record, or the old one
fails_with_new : Next start Start (Err (Store WriteFault)) (holding 1)
fails_with_new = (refl, (tt, (saved 1 0, refl, inr refl)))

fails_with_old : Next start Start (Err (Store WriteFault)) start
fails_with_old = (refl, (tt, (saved 1 0, refl, inl refl)))

-- it is refused if it isn't tried again
start_refused : NextPast failing 0 start Start (Err (Store WriteFault)) (holding 1)
start_refused = record {
  failed = 0;
  within = omega arith;
  before = start;
  fails = refl;
  last = (fails_with_new, refl);
  spent = λ passing. refl;
}

-- tried once more it starts the session after the one that is held: the second if the new record was kept, ..
start_after_new : NextPast failing 1 start Start (Ok Done) (running 2)
start_after_new = record {
  failed = 1;
  within = omega arith;
  before = holding 1;
  fails = (Err (Store WriteFault), start, (refl, (refl, (fails_with_new, refl))));
  last = (refl, tt);
  spent = λ passing. cc;
}

-- .. and the first if the old one was
start_after_old : NextPast failing 1 start Start (Ok Done) (running 1)
start_after_old = record {
  failed = 1;
  within = omega arith;
  before = start;
  fails = (Err (Store WriteFault), start, (refl, (refl, (fails_with_old, refl))));
  last = (refl, tt);
  spent = λ passing. cc;
}

-- a step that there is nothing for is refused at its first try
crash_refused : NextPast failing 9 start Crash (Err NotEnabled) start
crash_refused = record {
  failed = 0;
  within = omega arith;
  before = start;
  fails = refl;
  last = ((refl, refl), tt);
  spent = λ passing. cc;
}
