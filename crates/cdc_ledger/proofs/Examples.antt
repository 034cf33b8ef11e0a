-- The definitions at work: what they compute for small histories, next to the rules in prose. In each history,
-- accounts 1 and 2 of ledger 700 and code 10 are opened at 1000 and 1001.
use Rattle.std.specs.Prelude.{ℕ, ◌≡◌, Result, Ok, Err, List, [], ◌∷◌, map}
use Rattle.std.proofs.Common.{refl}
use Rattle.cdc_types.specs.declared.accounts.Balances.{Balances}
use Rattle.cdc_types.specs.declared.accounts.NewAccount.{NewAccount}
use Rattle.cdc_types.specs.declared.batches.Batch.{Batch}
use Rattle.cdc_types.specs.declared.batches.Batch.TheVariants as batch
use Rattle.cdc_types.specs.declared.batches.BatchResults.{BatchResults}
use Rattle.cdc_types.specs.declared.batches.BatchResults.TheVariants as results
use Rattle.cdc_types.specs.declared.events.Event.{Event}
use Rattle.cdc_types.specs.declared.events.EventKind.{EventKind}
use Rattle.cdc_types.specs.declared.events.EventKind.TheVariants.{SinglePhase, TwoPhasePending, TwoPhasePosted, TwoPhaseVoided, TwoPhaseExpired}
use Rattle.cdc_types.specs.declared.results.AccountResult.{AccountResult}
use Rattle.cdc_types.specs.declared.results.AccountResult.TheVariants as account_result
use Rattle.cdc_types.specs.declared.results.TransferResult.{TransferResult}
use Rattle.cdc_types.specs.declared.results.TransferResult.TheVariants as result
use Rattle.cdc_types.specs.declared.transfers.NewTransfer.{NewTransfer}
use Rattle.cdc_ledger.specs.declared.errors.BatchError.{BatchError}
use Rattle.cdc_ledger.specs.declared.errors.BatchError.TheVariants.{TimestampsExhausted}
use Rattle.cdc_ledger.specs.History.{History, empty_history}
use Rattle.cdc_ledger.specs.Balances.{balances}
use Rattle.cdc_ledger.specs.Submit.{submit, history_or, after_batches}
use Rattle.cdc_ledger.specs.Events.{events}

-- a request for an account of ledger 700 and code 10
abbrev account : ℕ → ℕ → NewAccount
account id flags =
    record { id = id; user_data_128 = 0; user_data_64 = 0; user_data_32 = 0; ledger = 700; code = 10; flags = flags }

-- a request for a transfer between these accounts, of ledger 700 and code 1
abbrev transfer : ℕ → ℕ → ℕ → ℕ → NewTransfer
transfer id debit credit amount = record {
  id = id;
  debit_account_id = debit;
  credit_account_id = credit;
  amount = amount;
  pending_id = 0;
  user_data_128 = 0;
  user_data_64 = 0;
  user_data_32 = 0;
  timeout = 0;
  ledger = 700;
  code = 1;
  flags = 0;
}

-- the same, held back for so many seconds
abbrev pending : ℕ → ℕ → ℕ → NewTransfer
pending id amount timeout = record (transfer id 1 2 amount) { timeout = timeout; flags = 2 }

-- a post or a void of a pending transfer that leaves all else to it
abbrev settling : ℕ → ℕ → ℕ → ℕ → NewTransfer
settling id pending_id amount flags =
    record (transfer id 0 0 amount) { pending_id = pending_id; ledger = 0; code = 0; flags = flags }

-- the batch that opens the two accounts, with which most examples begin
abbrev two_accounts : Batch
two_accounts = batch.Accounts 1000 (account 1 0 ∷ account 2 0 ∷ [])

-- what a batch is answered
abbrev Answer : Type 0
Answer = Result BatchResults BatchError

-- an answer, without the history after the batch
abbrev answer_of : Result (BatchResults × History) BatchError → Answer
answer_of (Ok answer) = Ok answer.0
answer_of (Err why) = Err why

-- what each batch is answered in turn
abbrev answers : History → List Batch → List Answer
answers h [] = []
answers h (b ∷ bs) = answer_of (submit h b) ∷ answers (history_or h (submit h b)) bs

-- the results of requests for transfers, the number of expiries of a pulse, and the refusal of a whole batch
abbrev given : List TransferResult → Answer
given items = Ok (results.Transfers items)

-- this number of pending transfers expired at a pulse
abbrev pulsed : ℕ → Answer
pulsed count = Ok (results.Pulsed count)

-- the batch was refused as a whole
abbrev refused : BatchError → Answer
refused why = Err why

-- one account is opened, or two
abbrev one_opened : Answer
one_opened = Ok (results.Accounts (account_result.Accepted ∷ []))

-- two accounts are opened
abbrev two_opened : Answer
two_opened = Ok (results.Accounts (account_result.Accepted ∷ account_result.Accepted ∷ []))

-- the four sums of an account
abbrev sums : ℕ → ℕ → ℕ → ℕ → Balances
sums dp d cp c = record { debits_pending = dp; debits_posted = d; credits_pending = cp; credits_posted = c }

-- the main fields of an event: its timestamp, kind and amount, and the balances of both accounts
abbrev emitted : Event → ℕ × EventKind × ℕ × Balances × Balances
emitted e =
    let d = e.debit_account in
    let c = e.credit_account in (
      e.timestamp,
      e.kind,
      e.transfer.amount,
      sums d.debits_pending d.debits_posted d.credits_pending d.credits_posted,
      sums c.debits_pending c.debits_posted c.credits_pending c.credits_posted,
    )

-- the history that these batches make of nothing
abbrev history : List Batch → History
history = after_batches empty_history

-- the greatest amount; in a post it means the whole pending amount
abbrev whole : ℕ
whole = 340282366920938463463374607431768211455

-- one transfer of 100: its event shows the balances after it
abbrev one_transfer : List Batch
one_transfer =
    two_accounts ∷
    batch.Transfers 2000 (transfer 1 1 2 100 ∷ []) ∷
    []

-- both accounts are opened, and the transfer is accepted
one_transfer-answers : answers empty_history one_transfer ≡
    two_opened ∷
    given (result.Accepted ∷ []) ∷
    []
one_transfer-answers = refl

-- its event shows 100 debited on the one side and credited on the other
one_transfer-events : map emitted (events (history one_transfer)) ≡
    (2000, SinglePhase, 100, sums 0 100 0 0, sums 0 0 0 100) ∷
    []
one_transfer-events = refl

-- two transfers in one batch: each event shows the balances right after itself, not those at the end of the batch
abbrev two_transfers : List Batch
two_transfers =
    two_accounts ∷
    batch.Transfers 2000 (transfer 1 1 2 5 ∷ transfer 2 1 2 7 ∷ []) ∷
    []

-- the first event doesn't show the 7 that the second transfer moves
two_transfers-events : map emitted (events (history two_transfers)) ≡
    (2000, SinglePhase, 5, sums 0 5 0 0, sums 0 0 0 5) ∷
    (2001, SinglePhase, 7, sums 0 12 0 0, sums 0 0 0 12) ∷
    []
two_transfers-events = refl

-- a part of a pending transfer is posted, and the rest is released
abbrev posted_in_part : List Batch
posted_in_part =
    two_accounts ∷
    batch.Transfers 2000 (pending 10 100 0 ∷ []) ∷
    batch.Transfers 3000 (settling 11 10 40 4 ∷ []) ∷
    []

-- the post moves 40, and nothing of the 100 is held back after it
posted_in_part-events : map emitted (events (history posted_in_part)) ≡
    (2000, TwoPhasePending, 100, sums 100 0 0 0, sums 0 0 100 0) ∷
    (3000, TwoPhasePosted, 40, sums 0 40 0 0, sums 0 0 0 40) ∷
    []
posted_in_part-events = refl

-- a pending transfer is voided, and then not a second time
abbrev voided : List Batch
voided =
    two_accounts ∷
    batch.Transfers 2000 (pending 10 100 0 ∷ []) ∷
    batch.Transfers 3000 (settling 11 10 0 8 ∷ []) ∷
    batch.Transfers 4000 (settling 12 10 0 8 ∷ []) ∷
    []

-- the first void is accepted; the result of the second one is that the transfer was already voided
voided-answers : answers empty_history voided ≡
    two_opened ∷
    given (result.Accepted ∷ []) ∷
    given (result.Accepted ∷ []) ∷
    given (result.PendingTransferAlreadyVoided ∷ []) ∷
    []
voided-answers = refl

-- the void releases all 100 and moves nothing; the refused one has no event
voided-events : map emitted (events (history voided)) ≡
    (2000, TwoPhasePending, 100, sums 100 0 0 0, sums 0 0 100 0) ∷
    (3000, TwoPhaseVoided, 100, sums 0 0 0 0, sums 0 0 0 0) ∷
    []
voided-events = refl

-- a transfer with a timeout of one second expires at 1000002000: a post one nanosecond before that is accepted, and a
-- post at that timestamp isn't, even though no pulse has expired the transfer yet
abbrev posted_in_time : List Batch
posted_in_time =
    two_accounts ∷
    batch.Transfers 2000 (pending 10 100 1 ∷ []) ∷
    batch.Transfers 1000001999 (settling 11 10 whole 4 ∷ []) ∷
    []

-- a post in the last nanosecond is accepted
posted_in_time-answers : answers empty_history posted_in_time ≡
    two_opened ∷
    given (result.Accepted ∷ []) ∷
    given (result.Accepted ∷ []) ∷
    []
posted_in_time-answers = refl

-- the same post one nanosecond later, and then a pulse
abbrev posted_too_late : List Batch
posted_too_late =
    two_accounts ∷
    batch.Transfers 2000 (pending 10 100 1 ∷ []) ∷
    batch.Transfers 1000002000 (settling 11 10 whole 4 ∷ []) ∷
    batch.Pulse 1000003000 ∷
    []

-- the post is refused as expired, and the next pulse expires the transfer
posted_too_late-answers : answers empty_history posted_too_late ≡
    two_opened ∷
    given (result.Accepted ∷ []) ∷
    given (result.PendingTransferExpired ∷ []) ∷
    pulsed 1 ∷
    []
posted_too_late-answers = refl

-- the expiry's event has the timestamp of the pulse, not the transfer's expiry time
posted_too_late-events : map emitted (events (history posted_too_late)) ≡
    (2000, TwoPhasePending, 100, sums 100 0 0 0, sums 0 0 100 0) ∷
    (1000003000, TwoPhaseExpired, 100, sums 0 0 0 0, sums 0 0 0 0) ∷
    []
posted_too_late-events = refl

-- account 1 may not be debited past its credits; a refused item takes its timestamp, and a batch in the past goes on
-- from the last one
abbrev limited : List Batch
limited =
    batch.Accounts 1000 (account 1 2 ∷ account 2 0 ∷ []) ∷
    batch.Transfers 2000
    (transfer 1 2 1 100 ∷ transfer 2 1 2 101 ∷ transfer 3 1 2 100 ∷ transfer 4 1 2 1 ∷ []) ∷
    batch.Transfers 5 (transfer 5 2 1 1 ∷ []) ∷
    []

-- after credits of 100 a debit of 101 is refused and one of 100 accepted, and then not even 1 more
limited-answers : answers empty_history limited ≡
    two_opened ∷
    given (result.Accepted ∷ result.ExceedsCredits ∷ result.Accepted ∷ result.ExceedsCredits ∷ []) ∷
    given (result.Accepted ∷ []) ∷
    []
limited-answers = refl

-- the balances are those of the three accepted transfers alone
limited-balances : (balances (history limited) 1 2004 ≡ sums 0 100 0 101)
    × (balances (history limited) 2 2004 ≡ sums 0 101 0 100)
limited-balances = (refl, refl)

-- five requests took five timestamps, the last of them in a batch whose own timestamp is 5
limited-last : (history limited).last ≡ 2004
limited-last = refl

-- of two pending transfers the one with the earlier expiry time expires first, whatever their ids
abbrev swept : List Batch
swept =
    two_accounts ∷
    batch.Transfers 2000 (pending 10 1 2 ∷ pending 11 2 1 ∷ []) ∷
    batch.Pulse 3000000000 ∷
    []

-- transfer 11 of 2 was made after transfer 10 of 1, and expires before it
swept-events : map emitted (events (history swept)) ≡
    (2000, TwoPhasePending, 1, sums 1 0 0 0, sums 0 0 1 0) ∷
    (2001, TwoPhasePending, 2, sums 3 0 0 0, sums 0 0 3 0) ∷
    (3000000000, TwoPhaseExpired, 2, sums 1 0 0 0, sums 0 0 1 0) ∷
    (3000000001, TwoPhaseExpired, 1, sums 0 0 0 0, sums 0 0 0 0) ∷
    []
swept-events = refl

-- a duplicate of a transfer is refused as such, and one with other fields has another refusal; a post is compared as
-- filled in
abbrev repeated : List Batch
repeated =
    two_accounts ∷
    batch.Transfers 2000 (transfer 1 1 2 100 ∷ transfer 1 1 2 100 ∷ transfer 1 1 2 101 ∷ []) ∷
    batch.Transfers 3000
    (pending 10 100 0 ∷ settling 11 10 whole 4 ∷ settling 11 10 whole 4 ∷ settling 11 10 100 4
    ∷ settling 11 10 99 4 ∷ []) ∷
    []

-- posts of the greatest amount and of 100 are the same transfer, and one of 99 is another
repeated-answers : answers empty_history repeated ≡
    two_opened ∷
    given (result.Accepted ∷ result.Exists ∷ result.ExistsWithDifferentFields ∷ []) ∷
    given
    (result.Accepted ∷ result.Accepted ∷ result.Exists ∷ result.Exists
    ∷ result.ExistsWithDifferentFields ∷ []) ∷
    []
repeated-answers = refl

-- no sum exceeds 128 bits, neither the posted one nor pending and posted together, and no expiry time exceeds 63 bits
abbrev too_much : List Batch
too_much =
    two_accounts ∷
    batch.Transfers 2000 (transfer 1 1 2 whole ∷ transfer 2 1 2 1 ∷ []) ∷
    []

-- once the greatest amount is posted, not even 1 more may be debited
too_much-answers : answers empty_history too_much ≡
    two_opened ∷
    given (result.Accepted ∷ result.OverflowsDebitsPosted ∷ []) ∷
    []
too_much-answers = refl

-- the greatest amount is held back, and 1 more is to be moved
abbrev too_much_together : List Batch
too_much_together =
    two_accounts ∷
    batch.Transfers 2000 (pending 1 whole 0 ∷ transfer 2 1 2 1 ∷ []) ∷
    []

-- pending and posted would pass 128 bits together, though each of them would fit
too_much_together-answers : answers empty_history too_much_together ≡
    two_opened ∷
    given (result.Accepted ∷ result.OverflowsDebits ∷ []) ∷
    []
too_much_together-answers = refl

-- a pending transfer with the longest timeout, made too near to the last timestamp
abbrev too_long : List Batch
too_long =
    two_accounts ∷
    batch.Transfers 9000000000000000000 (pending 1 1 4294967295 ∷ []) ∷
    []

-- it is refused for its timeout
too_long-answers : answers empty_history too_long ≡
    two_opened ∷
    given (result.OverflowsTimeout ∷ []) ∷
    []
too_long-answers = refl

-- the greatest timestamp is the last one that is given out; a pulse with nothing due takes none
abbrev at_the_end : List Batch
at_the_end =
    batch.Accounts 9223372036854775807 (account 1 0 ∷ account 2 0 ∷ []) ∷
    batch.Accounts 9223372036854775807 (account 1 0 ∷ []) ∷
    batch.Pulse 5 ∷
    batch.Accounts 5 (account 2 0 ∷ []) ∷
    []

-- for two accounts there is one timestamp too few, for one there is just enough, and then none is left
at_the_end-answers : answers empty_history at_the_end ≡
    refused TimestampsExhausted ∷
    one_opened ∷
    pulsed 0 ∷
    refused TimestampsExhausted ∷
    []
at_the_end-answers = refl

-- requests at fault, each with the first line of the table that applies to it
abbrev faulty : List (NewTransfer × TransferResult)
faulty =
    let plain = transfer 1 1 2 1 in
    (record plain { id = 0 }, result.IdMustNotBeZero) ∷
    (record plain { id = whole }, result.IdMustNotBeIntMax) ∷
    (record plain { flags = 6 }, result.FlagsAreMutuallyExclusive) ∷
    (record plain { pending_id = 9 }, result.PendingIdMustBeZero) ∷
    (record plain { flags = 4 }, result.PendingIdMustNotBeZero) ∷
    (record plain { flags = 4; pending_id = 1 }, result.PendingIdMustBeDifferent) ∷
    (record plain { timeout = 1 }, result.TimeoutReservedForPendingTransfer) ∷
    (record plain { ledger = 0 }, result.LedgerMustNotBeZero) ∷
    (record plain { code = 0 }, result.CodeMustNotBeZero) ∷
    (record plain { credit_account_id = 1 }, result.AccountsMustBeDifferent) ∷
    (record plain { debit_account_id = 3 }, result.DebitAccountNotFound) ∷
    (record plain { credit_account_id = 3 }, result.CreditAccountNotFound) ∷
    (record plain { ledger = 701 }, result.TransferMustHaveTheSameLedgerAsAccounts) ∷
    (record plain { flags = 16 }, result.ReservedFlag) ∷
    (record plain { flags = 4; pending_id = 9 }, result.PendingTransferNotFound) ∷
    []

-- all of these requests in one batch, after the two accounts
abbrev all_faulty : List Batch
all_faulty =
    two_accounts ∷
    batch.Transfers 2000 (map (λ row. row.0) faulty) ∷
    []

-- each is refused with the result in its row
faulty-answers : answers empty_history all_faulty ≡
    two_opened ∷
    given (map (λ row. row.1) faulty) ∷
    []
faulty-answers = refl

-- ---- chains

-- the answer to requests for accounts
abbrev given_accounts : List AccountResult → Answer
given_accounts items = Ok (results.Accounts items)

-- an item that is chained to the next one
abbrev linked : NewTransfer → NewTransfer
linked r = record r { flags = 1 }

-- a chain of three that fails at its last item, for want of an account, and a transfer by itself after it
abbrev failed_chain : List Batch
failed_chain =
    two_accounts ∷
    batch.Transfers 2000
    (linked (transfer 1 1 2 5) ∷ linked (transfer 2 1 2 7) ∷ transfer 3 1 9 1 ∷ transfer 4 1 2 9 ∷ []) ∷
    []

-- nothing of the chain is left, but each of its items took a timestamp
failed_chain-answers : answers empty_history failed_chain ≡
    two_opened ∷
    given (result.LinkedEventFailed ∷ result.LinkedEventFailed ∷ result.CreditAccountNotFound ∷ result.Accepted ∷ []) ∷
    []
failed_chain-answers = refl

-- the transfer after the chain has the fourth timestamp of the batch
failed_chain-events : map emitted (events (history failed_chain)) ≡
    (2003, SinglePhase, 9, sums 0 9 0 0, sums 0 0 0 9) ∷
    []
failed_chain-events = refl

-- a chain that is accepted; one that is open at the end of the batch; one that fails at its first item, whose id
-- exists; and an open one that fails at its first item
abbrev four_chains : List Batch
four_chains =
    two_accounts ∷
    batch.Transfers 2000 (linked (transfer 1 1 2 5) ∷ transfer 2 1 2 7 ∷ []) ∷
    batch.Transfers 3000 (linked (transfer 3 1 2 1) ∷ linked (transfer 4 1 2 1) ∷ []) ∷
    batch.Transfers 4000 (linked (transfer 1 1 2 5) ∷ transfer 5 1 2 1 ∷ []) ∷
    batch.Transfers 5000 (linked (transfer 0 1 2 1) ∷ linked (transfer 6 1 2 1) ∷ []) ∷
    []

-- the last item of an open chain is found to be so, whatever failed before it
four_chains-answers : answers empty_history four_chains ≡
    two_opened ∷
    given (result.Accepted ∷ result.Accepted ∷ []) ∷
    given (result.LinkedEventFailed ∷ result.LinkedEventChainOpen ∷ []) ∷
    given (result.Exists ∷ result.LinkedEventFailed ∷ []) ∷
    given (result.IdMustNotBeZero ∷ result.LinkedEventChainOpen ∷ []) ∷
    []
four_chains-answers = refl

-- only the first chain has events
four_chains-events : map emitted (events (history four_chains)) ≡
    (2000, SinglePhase, 5, sums 0 5 0 0, sums 0 0 0 5) ∷
    (2001, SinglePhase, 7, sums 0 12 0 0, sums 0 0 0 12) ∷
    []
four_chains-events = refl

-- a post that its chain takes back leaves the pending transfer as it was, and so its time comes
abbrev post_taken_back : List Batch
post_taken_back =
    two_accounts ∷
    batch.Transfers 2000 (pending 10 100 1 ∷ []) ∷
    batch.Transfers 3000 (settling 11 10 whole 5 ∷ settling 12 10 whole 4 ∷ []) ∷
    batch.Pulse 1000002000 ∷
    []

-- the second post of the chain finds that the first one posted
post_taken_back-answers : answers empty_history post_taken_back ≡
    two_opened ∷
    given (result.Accepted ∷ []) ∷
    given (result.LinkedEventFailed ∷ result.PendingTransferAlreadyPosted ∷ []) ∷
    pulsed 1 ∷
    []
post_taken_back-answers = refl

-- the amount is held back, and the transfer expires
post_taken_back-events : map emitted (events (history post_taken_back)) ≡
    (2000, TwoPhasePending, 100, sums 100 0 0 0, sums 0 0 100 0) ∷
    (1000002000, TwoPhaseExpired, 100, sums 0 0 0 0, sums 0 0 0 0) ∷
    []
post_taken_back-events = refl

-- accounts are chained likewise
abbrev linked_accounts : List Batch
linked_accounts =
    batch.Accounts 1000 (account 1 1 ∷ record (account 2 0) { ledger = 0 } ∷ []) ∷
    batch.Accounts 2000 (account 1 1 ∷ []) ∷
    []

-- the first chain fails at its second item, the second one is open
linked_accounts-answers : answers empty_history linked_accounts ≡
    given_accounts (account_result.LinkedEventFailed ∷ account_result.LedgerMustNotBeZero ∷ []) ∷
    given_accounts (account_result.LinkedEventChainOpen ∷ []) ∷
    []
linked_accounts-answers = refl
