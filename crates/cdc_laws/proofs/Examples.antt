-- Examples: what a small ledger has to publish, and what subscribers that received some of it have applied.
use Rattle.std.specs.Prelude.{ℕ, ◌≡◌, ◌<◌, true, false, Some, List, [], ◌∷◌, length, map, get_or, slice_get, Contains}
use Rattle.std.proofs.Common.{zero, suc, inl, inr, refl, ap, arith}
use Rattle.std.proofs.lemmas.Bool.{cases_lt}
use Rattle.cdc_types.specs.declared.accounts.NewAccount.{NewAccount}
use Rattle.cdc_types.specs.declared.batches.Batch.TheVariants as batch
use Rattle.cdc_types.specs.declared.events.Event.{Event}
use Rattle.cdc_types.specs.declared.transfers.NewTransfer.{NewTransfer}
use Rattle.cdc_ledger.specs.Balances.{as_of}
use Rattle.cdc_ledger.specs.Events.{events}
use Rattle.cdc_ledger.specs.History.{History, empty_history}
use Rattle.cdc_ledger.specs.Submit.{after_batches, closed_if}
use Rattle.cdc_broker.specs.Packets.{items_of}
use Rattle.cdc_laws.specs.Arrivals.{taken_of}
use Rattle.cdc_laws.specs.ConnectorRuns.{AreConfirmed, IsConnectorRun, Shown, packets_of, sent_by}
use Rattle.cdc_laws.specs.Deliveries.{deliveries, positions_in}
use Rattle.cdc_laws.specs.Faithful.{HoldsAccounts, IsFaithful, accounts_emitted, applied, balances_held, no_balances}
use Rattle.cdc_laws.specs.Line.{feed_after, feed_of, line, line_after}
use Rattle.cdc_laws.proofs.ListElements.{Contains-cons_cases, none_there}
use Rattle.cdc_match.specs.Arguments.{Arguments}
use Rattle.cdc_match.specs.Queue.{queue}
use Rattle.cdc_match.specs.declared.pairs.Mode.TheVariants.{All}
use Rattle.cdc_match.specs.declared.pairs.Pair.TheVariants.{TransferCode}
use Rattle.cdc_message.specs.declared.items.Item.{Item}
use Rattle.cdc_message.specs.declared.items.Item.TheVariants.{EndMark}
use Rattle.cdc_message.specs.declared.packets.Answer.TheVariants.{Confirmed}
use Rattle.cdc_message.specs.declared.packets.Confirm.{Confirm}
use Rattle.cdc_message.specs.declared.packets.Packet.{Packet}
use Rattle.cdc_message.specs.declared.packets.Packet.TheVariants.{Connect, Publish}
use Rattle.cdc_message.specs.Items.{events_of, same_item}
use Rattle.cdc_message.specs.Replays.{IsPrefix, firsts}
use Rattle.cdc_subscriber.specs.Book.{book_of}
use Rattle.cdc_subscriber.specs.Reception.{Reception, has_ended}

-- a request for an account of ledger 700 and code 10
abbrev account : ℕ → NewAccount
account id =
    record { id = id; user_data_128 = 0; user_data_64 = 0; user_data_32 = 0; ledger = 700; code = 10; flags = 0 }

-- a request for a transfer of 5 from account 1 to account 2, of ledger 700 and this code
abbrev transfer : ℕ → ℕ → NewTransfer
transfer id code = record {
  id = id;
  debit_account_id = 1;
  credit_account_id = 2;
  amount = 5;
  pending_id = 0;
  user_data_128 = 0;
  user_data_64 = 0;
  user_data_32 = 0;
  timeout = 0;
  ledger = 700;
  code = code;
  flags = 0;
}

-- two accounts are opened; three transfers are made, the second of them of code 2; and the ledger closes
abbrev history : History
history =
    closed_if true (after_batches empty_history
    (batch.Accounts 1000 (account 1 ∷ account 2 ∷ [])
    ∷ batch.Transfers 2000 (transfer 71 1 ∷ transfer 72 2 ∷ transfer 73 1 ∷ []) ∷ []))

-- the binding that takes every event, and the one that takes those of transfers of code 1
abbrev every_event : Arguments
every_event = record { mode = All; pairs = [] }

abbrev of_code_1 : Arguments
of_code_1 = record { mode = All; pairs = TransferCode 1 ∷ [] }

-- events by their timestamps
abbrev times : List Event → List ℕ
times es = map (λ (e : Event). e.timestamp) es

-- the item of the line at a place
abbrev emitted_at : ℕ → Item
emitted_at k = get_or (line history) k EndMark

-- a subscriber that received these items
abbrev receiving : List Item → Reception
receiving items = record { items = items; closed = false }

-- ---- what there is to publish

-- an event for each transfer, and the end mark
events_at : times (events history) ≡ 2000 ∷ 2001 ∷ 2002 ∷ []
events_at = refl

-- the end mark comes last
line_ends : line history ≡ emitted_at 0 ∷ emitted_at 1 ∷ emitted_at 2 ∷ EndMark ∷ []
line_ends = refl

-- after the timestamp of the first event the others are left, and after the last one only the end mark
left_after_first : line_after history 2000 ≡ emitted_at 1 ∷ emitted_at 2 ∷ EndMark ∷ []
left_after_first = refl

left_after_last : line_after history 2002 ≡ EndMark ∷ []
left_after_last = refl

-- after 2000 a binding of code 1 takes the third alone
late_feed_of_one : times (feed_after history 2000 of_code_1) ≡ 2002 ∷ []
late_feed_of_one = refl

-- a binding of code 1 takes the first and the third
feed_of_one : times (feed_of history of_code_1) ≡ 2000 ∷ 2002 ∷ []
feed_of_one = refl

-- ---- what was applied

-- duplicates change nothing, and neither does the time at which they come
with_repeats : times (applied (receiving (emitted_at 0 ∷ emitted_at 0 ∷ emitted_at 1 ∷ emitted_at 0
    ∷ emitted_at 1 ∷ [])))
    ≡ 2000 ∷ 2001 ∷ []
with_repeats = refl

-- its book has the ledger's balances as of the second event, and four zeros for an account that no event shows
book_as_of : balances_held (book_of (applied (receiving (emitted_at 0 ∷ emitted_at 1 ∷ [])))) 2 ≡ as_of history 2001 2
book_as_of = refl

book_of_nobody : balances_held (book_of (applied (receiving (emitted_at 0 ∷ emitted_at 1 ∷ [])))) 9 ≡ no_balances
book_of_nobody = refl

-- one that joined after the first event: its book has both accounts of the second, with the ledger's balances as of
-- that, although it has received nothing of the first
late_book : HoldsAccounts history 2000 (applied (receiving (emitted_at 1 ∷ [])))
late_book = refl

-- and one that has received nothing yet has no account
late_book_of_nothing : accounts_emitted history 2000 0 ≡ []
late_book_of_nothing = refl

-- one that received its whole queue has ended
ended_at_end : has_ended (receiving (queue (line history) of_code_1)) ≡ true
ended_at_end = refl

-- the timestamp at a place
timestamp_at : ℕ → List Event → ℕ
timestamp_at k es = get_or (times es) k 0

-- one that missed the second event isn't faithful, though the timestamps of what it has applied rise
misses_one : IsFaithful history 0 every_event (receiving (emitted_at 0 ∷ emitted_at 2 ∷ [])) → ⊥
unfolding timestamp_at
misses_one faithful =
    let same : ◌≡◌ {A = ℕ} 2002 2001 = ap (timestamp_at 1) faithful.prefix.whole in omega (arith, same)

-- one that received the end mark without the event before it isn't, although what it has applied is a prefix
ends_early : IsFaithful history 0 every_event (receiving (emitted_at 0 ∷ emitted_at 1 ∷ EndMark ∷ [])) → ⊥
ends_early faithful =
    let same : ◌≡◌ {A = ℕ} 2 3 = ap (λ (es : List Event). length es) (faithful.whole refl).1 in omega (arith, same)

-- ---- deliveries

-- a queue counts its items from 1 on
positions : positions_in (deliveries (queue (line history) of_code_1)) ≡ 1 ∷ 2 ∷ 3 ∷ []
positions = refl

-- ---- a connector run

-- a first session publishes two events, of which the first is confirmed; so a second one may begin after that
abbrev first_session : Shown
first_session = record { number = 1; base = 0; items = emitted_at 0 ∷ emitted_at 1 ∷ [] }

abbrev second_session : Shown
second_session = record { number = 2; base = 2000; items = emitted_at 1 ∷ emitted_at 2 ∷ EndMark ∷ [] }

-- the confirms that came for both
abbrev confirms : List Confirm
confirms =
    record { session = 1; answer = Confirmed 1 } ∷ record { session = 2; answer = Confirmed 1 }
    ∷ record { session = 2; answer = Confirmed 2 } ∷ []

-- the packets of both
abbrev sent : List Packet
sent = sent_by (second_session ∷ first_session ∷ [])

-- one after another, with tags from 1 on in each session
sent_in_turn : sent
    ≡ Connect 1 ∷ Publish 1 1 (emitted_at 0) ∷ Publish 1 2 (emitted_at 1) ∷ Connect 2 ∷ Publish 2 1 (emitted_at 1)
    ∷ Publish 2 2 (emitted_at 2) ∷ Publish 2 3 EndMark ∷ []
sent_in_turn = refl

-- both events of the second session were confirmed
both_confirmed : AreConfirmed confirms 2 2
both_confirmed tag above low =
    elim (cases_lt tag 2) [
      | inl one ↦ let this : tag ≡ 1 = omega (arith, above, one) in rw this (1, omega arith, refl)
      | inr two ↦ let this : tag ≡ 2 = omega (arith, low, two) in rw this (2, omega arith, refl)
    ]

-- the second session has the end mark after two events whose tags were confirmed
ends_after_confirms : (place : ℕ) → slice_get second_session.items place ≡ Some EndMark
    → AreConfirmed confirms 2 place
ends_after_confirms (suc (suc zero)) there = both_confirmed
ends_after_confirms place there = cc

-- the first session has no end mark
never_ends : (place : ℕ) → slice_get first_session.items place ≡ Some EndMark → AreConfirmed confirms 1 place
never_ends (suc zero) there = cc
never_ends place there = cc

-- only the first session is before the second
only_first : (other : Shown) → Contains (first_session ∷ []) other → other.number < 2
only_first other there =
    elim (Contains-cons_cases first_session [] other there) [
      | inl is ↦ let number : 1 ≡ other.number = ap (λ (s : Shown). s.number) is in omega (arith, number)
      | inr none ↦ absurd (none_there other none)
    ]

-- so they make a connector run
two_sessions : IsConnectorRun history 0 sent confirms
two_sessions = record {
  sessions = second_session ∷ first_session ∷ [];
  makes = refl;
  each = (
    record {
      above = only_first;
      base = inr (
        first_session,
        (0, omega arith, refl),
        inr
            (record {
              place = 0;
              event = _;
              published = refl;
              at = refl;
              confirmed = λ tag above low.
                  let this : tag ≡ 1 = omega (arith, above, low) in rw this (0, omega arith, refl);
            }),
      );
      items = record { rest = []; whole = refl };
      end = ends_after_confirms;
    },
    (
      record {
        above = λ other there. absurd (none_there other there);
        base = inl refl;
        items = record { rest = emitted_at 2 ∷ EndMark ∷ []; whole = refl };
        end = never_ends;
      },
      tt,
    ),
  );
}

-- ---- what a broker takes

-- what comes before its session, again or too late is ignored
taken_in_turn : items_of
    (taken_of
    (Publish 1 1 (emitted_at 0) ∷ Connect 1 ∷ Publish 1 1 (emitted_at 0) ∷ Publish 1 1 (emitted_at 0) ∷ Connect 2
    ∷ Publish 1 2 (emitted_at 1) ∷ Publish 2 1 (emitted_at 1) ∷ Publish 2 2 (emitted_at 2) ∷ []))
    ≡ emitted_at 0 ∷ emitted_at 1 ∷ emitted_at 2 ∷ []
taken_in_turn = refl

-- what both sessions published is taken twice, and the first of each item are the line
taken_twice : items_of (taken_of sent)
    ≡ emitted_at 0 ∷ emitted_at 1 ∷ emitted_at 1 ∷ emitted_at 2 ∷ EndMark ∷ []
taken_twice = refl

first_of_each : firsts same_item (items_of (taken_of sent)) ≡ line history
first_of_each = refl

-- if confirms come for a session of which nothing arrived, there is a hole: so a law can't leave out that each
-- confirm is for a publish that was taken
hole : IsPrefix (firsts same_item (items_of (taken_of (packets_of second_session)))) (line history) → ⊥
unfolding timestamp_at
hole front =
    let same : ◌≡◌ {A = ℕ} 2001 2000 = ap (λ (items : List Item). timestamp_at 0 (events_of items)) front.whole in
    omega (arith, same)
