-- Examples: lines of traces and diagrams as the documents show them. The ledger has moved 100 from account 90 to
-- account 1 by transfer 1, at timestamp 2000.
use Rattle.cdc_diagnostics.proofs.Words.{Answer, Arrive, Moved, None, Option, Publish, Seen, Send, Some, StartAt, Step, Submit, Take, [], codes, diagram_head, diagram_line, refl, trace_line, trace_text, true, ℕ, ◌++◌, ◌∷◌, ◌≡◌}
use Rattle.std.specs.Fmt.{digits}
use Rattle.cdc_types.specs.declared.accounts.NewAccount.{NewAccount}
use Rattle.cdc_types.specs.declared.batches.Batch.{Batch}
use Rattle.cdc_types.specs.declared.batches.Batch.TheVariants as batch
use Rattle.cdc_types.specs.declared.batches.BatchResults.TheVariants as results
use Rattle.cdc_types.specs.declared.results.TransferResult.TheVariants.{Accepted}
use Rattle.cdc_ledger.specs.History.{History, empty_history}
use Rattle.cdc_ledger.specs.Submit.{after_batches}
use Rattle.cdc_subscriber.specs.declared.subscriber.Taking.TheVariants.{Applied, Repeat}
use Rattle.cdc_world.specs.declared.moved.ItemName.TheVariants.{Event}
use Rattle.cdc_world.specs.declared.moved.Moved.TheVariants.{SessionStarted, PacketSent, PacketTaken, ConfirmReceived, DeliverySent, DeliveryTaken}
use Rattle.cdc_world.specs.declared.moved.PacketName.{PacketName}
use Rattle.cdc_world.specs.declared.moved.PacketName.TheVariants.{Publish as PublishOf}
use Rattle.cdc_world.specs.declared.steps.Did.{Did}
use Rattle.cdc_world.specs.declared.steps.Did.TheVariants.{Submitted, Arrived, Counted, Took, Done}

-- a request for an account
abbrev account : ℕ → NewAccount
account id =
    record { id = id; user_data_128 = 0; user_data_64 = 0; user_data_32 = 0; ledger = 700; code = 10; flags = 0 }

-- the batch that opens the two accounts
abbrev two_accounts : Batch
two_accounts = batch.Accounts 1000 (account 90 ∷ account 1 ∷ [])

-- the batch of the transfer
abbrev one_transfer : Batch
one_transfer = batch.Transfers 2000 (record {
  id = 1;
  debit_account_id = 90;
  credit_account_id = 1;
  amount = 100;
  pending_id = 0;
  user_data_128 = 0;
  user_data_64 = 0;
  user_data_32 = 0;
  timeout = 0;
  ledger = 700;
  code = 1;
  flags = 0;
} ∷ [])

-- the ledger after both batches
abbrev ledger : History
ledger = after_batches empty_history (two_accounts ∷ one_transfer ∷ [])

-- a step over this ledger
abbrev seen : Step → Did → Option Moved → Seen
seen step did moved = record { step = step; did = did; moved = moved; history = ledger }

-- the publish of the event, under this tag of a session
abbrev publish : ℕ → ℕ → PacketName
publish session tag = PublishOf session tag (Event 2000)

-- the batch, and how subscriber 1 takes its event and a redelivery of it (README)
traces : trace_text (
    seen (Submit one_transfer) (Submitted (results.Transfers (Accepted ∷ []))) None
    ∷ seen (Send 1) Done (Some (DeliverySent 1 (Event 2000)))
    ∷ seen (Take 1) (Took Applied) (Some (DeliveryTaken 1 (Event 2000)))
    ∷ seen (Take 1) (Took Repeat) (Some (DeliveryTaken 2 (Event 2000)))
    ∷ [])
    ≡ codes "batch: batch 1, items 1, accepted 1, refused 0\n"
    ++ codes "send 1: position 1, event 2000, transfer 1, 100 from 90 to 1\n"
    ++ codes "take 1: applied 2000, transfer 1, 100 from 90 to 1\n"
    ++ codes "take 1: repeat of 2000, transfer 1, 100 from 90 to 1\n"
unfolding digits
traces = refl

-- a start after a timestamp leaves out the event; a packet shows its session and its tag
names_sessions : (trace_line 1 (seen (StartAt 3000) Done (Some (SessionStarted 2 3000)))
    ≡ codes "start at 3000: session 2 begins after 3000, events left out so far: 1\n")
    × (trace_line 1 (seen Publish Done (Some (PacketSent 4 (publish 2 1))))
    ≡ codes "publish: packet 4, event 2000 under tag 1 of session 2, transfer 1, 100 from 90 to 1\n")
unfolding digits
names_sessions = (refl, refl)

-- the head of a diagram with one subscriber (REFERENCE.md, A diagram)
heads : diagram_head 1
    ≡ codes "sequenceDiagram\n    participant L as ledger\n    participant C as connector\n"
    ++ codes "    participant B as broker\n    participant S1 as subscriber 1\n"
unfolding digits
heads = refl

-- a packet that the broker takes, and a confirm that counts (the same section)
draws : (diagram_line 1 (seen (Arrive 4) (Arrived true) (Some (PacketTaken (publish 2 1))))
    ≡ codes "    C->>B: packet 4, event 2000 under tag 1 of session 2, transfer 1, 100 from 90 to 1\n")
    × (diagram_line 1 (seen (Answer 2) (Counted true) (Some (ConfirmReceived 2 1 2)))
    ≡ codes "    B-->>C: confirm 2, counted\n")
unfolding digits
draws = (refl, refl)
