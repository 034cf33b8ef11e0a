-- Examples: what the definitions compute for small scripts.
use Rattle.cdc_commands.proofs.Terms.{BadScript, Done, Err, Event, List, Ok, Outcome, Result, Script, ScriptFault, [], batch_line, codes, emitted, printed_books, printed_messages, refl, script_fault_line, script_of, subscribers_text, true, ℕ, ◌++◌, ◌∷◌, ◌≡◌}
use Rattle.cdc_message.specs.Bodies.{body}
use Rattle.std.specs.Fmt.{digits}
use Rattle.cdc_types.specs.declared.batches.BatchResults.TheVariants as results
use Rattle.cdc_types.specs.declared.events.EventAccount.{EventAccount}
use Rattle.cdc_types.specs.declared.events.EventKind.TheVariants.{SinglePhase}
use Rattle.cdc_types.specs.declared.results.TransferResult.TheVariants.{Accepted, OverflowsDebitsPosted}
use Rattle.cdc_ledger.specs.declared.errors.BatchError.TheVariants.{BatchTooLarge}
use Rattle.cdc_match.specs.declared.pairs.Mode.TheVariants as mode
use Rattle.cdc_match.specs.declared.pairs.Pair.TheVariants as pair
use Rattle.cdc_script.specs.declared.faults.Detail.TheVariants.{Plain}
use Rattle.cdc_script.specs.declared.faults.FaultKind.TheVariants as kind

-- the lines of batches
prints_batches : (batch_line 2 (Ok (results.Transfers (Accepted ∷ OverflowsDebitsPosted ∷ [])))
    ≡ codes "batch 2: 0 31\n")
    × (batch_line 3 (Ok (results.Accounts [])) ≡ codes "batch 3:\n")
    × (batch_line 4 (Ok (results.Pulsed 0)) ≡ codes "batch 4: pulse 0\n")
    × (batch_line 1 (Err BatchTooLarge) ≡ codes "batch 1 refused: 2 batch_too_large\n")
unfolding digits
prints_batches = (refl, refl, refl, refl)

-- an account as an event shows it
abbrev side : ℕ → ℕ → ℕ → EventAccount
side id debits credits = record {
  id = id;
  debits_pending = 0;
  debits_posted = debits;
  credits_pending = 0;
  credits_posted = credits;
  user_data_128 = 0;
  user_data_64 = 0;
  user_data_32 = 0;
  code = 10;
  flags = 0;
  timestamp = 1000;
}

-- an event between two accounts
abbrev event : ℕ → EventAccount → EventAccount → Event
event timestamp debit credit = record {
  timestamp = timestamp;
  kind = SinglePhase;
  ledger = 700;
  transfer = record {
    id = timestamp;
    amount = 1;
    pending_id = 0;
    user_data_128 = 0;
    user_data_64 = 0;
    user_data_32 = 0;
    timeout = 0;
    code = 1;
    flags = 0;
    timestamp = timestamp;
  };
  debit_account = debit;
  credit_account = credit;
}

-- 5 go from account 2 to account 1, and then 7 from account 1 to account 3
abbrev two_events : List Event
two_events = event 2000 (side 2 5 0) (side 1 0 5) ∷ event 2001 (side 1 7 5) (side 3 0 7) ∷ []

-- what two subscribers print of these events: one of every event, and one of those of another ledger
prints_subscribers : subscribers_text 1 (emitted two_events true)
    (record { mode = mode.All; pairs = [] } ∷ record { mode = mode.All; pairs = pair.Ledger 800 ∷ [] } ∷ [])
    ≡ codes "subscriber 1 applied 2 last 2001 ended yes closed no\n"
    ++ codes "account 2 0 5 0 0\naccount 1 0 7 0 5\naccount 3 0 0 0 7\n"
    ++ codes "subscriber 2 applied 0 last 0 ended yes closed no\n"
unfolding digits
prints_subscribers = refl

-- what is printed of a script that is read, or of its fault, by a command that prints this of scripts
abbrev outcome : (Script → List ℕ) → Result Script ScriptFault → Outcome
outcome printed (Ok script) = record { text = printed script; ending = Done }
outcome printed (Err at) = record { text = script_fault_line at; ending = BadScript at }

-- two accounts, and one transfer of 100 between them
abbrev one_transfer : List ℕ
one_transfer =
    codes "subscriber all\naccounts 1000\naccount id=1 ledger=700 code=10\naccount id=2 ledger=700 code=10\n"
    ++ codes "transfers 2000\n"
    ++ codes "transfer id=1 debit_account_id=1 credit_account_id=2 amount=100 ledger=700 code=1\n"

-- from bytes to bytes: the book of one transfer
prints_transfer : outcome printed_books (script_of one_transfer) ≡ record {
  text = codes "batch 1: 0 0\nbatch 2: 0\nsubscriber 1 applied 1 last 2000 ended yes closed no\n"
      ++ codes "account 1 0 100 0 0\naccount 2 0 0 0 100\n";
  ending = Done;
}
unfolding digits
prints_transfer = refl

-- the headers of its message
abbrev its_headers : List ℕ
its_headers =
    codes "event_type=single_phase ledger=700 transfer_code=1 debit_account_code=10 credit_account_code=10"
    ++ codes " timestamp=0"

-- the body of its message
abbrev its_body : List ℕ
its_body =
    codes "{\"credit_account\":{\"code\":10,\"credits_pending\":\"0\",\"credits_posted\":\"100\","
    ++ codes "\"debits_pending\":\"0\",\"debits_posted\":\"0\",\"flags\":0,\"id\":\"2\","
    ++ codes "\"timestamp\":\"1001\",\"user_data_128\":\"0\",\"user_data_32\":0,\"user_data_64\":\"0\"},"
    ++ codes "\"debit_account\":{\"code\":10,\"credits_pending\":\"0\",\"credits_posted\":\"0\","
    ++ codes "\"debits_pending\":\"0\",\"debits_posted\":\"100\",\"flags\":0,\"id\":\"1\","
    ++ codes "\"timestamp\":\"1000\",\"user_data_128\":\"0\",\"user_data_32\":0,\"user_data_64\":\"0\"},"
    ++ codes "\"ledger\":700,\"timestamp\":\"2000\",\"transfer\":{\"amount\":\"100\",\"code\":1,\"flags\":0,"
    ++ codes "\"id\":\"1\",\"pending_id\":\"0\",\"timeout\":0,\"timestamp\":\"2000\",\"user_data_128\":\"0\","
    ++ codes "\"user_data_32\":0,\"user_data_64\":\"0\"},\"type\":\"single_phase\"}"

-- from bytes to bytes: the message of one transfer
prints_message : outcome printed_messages (script_of one_transfer)
    ≡ record { text = its_headers ++ codes "\n" ++ (its_body ++ codes "\n"); ending = Done }
unfolding digits body
prints_message = refl

-- from bytes to bytes: a bad script
prints_fault : outcome printed_messages (script_of (codes "subscriber all\naccounts x")) ≡ record {
  text = codes "fault: script line 2: bad_number\n";
  ending = BadScript (record {
    line = 2;
    column = 10;
    word = record { start = 24; length = 1 };
    first = record { start = 15; length = 8 };
    kind = kind.BadNumber;
    detail = Plain;
  });
}
unfolding digits
prints_fault = refl
