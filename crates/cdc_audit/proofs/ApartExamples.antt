-- Streams in which an account was created at a timestamp that another account or an event has.
use Rattle.cdc_audit.proofs.Words.{CreatedAtEvent, CreatedTogether, Event, EventAccount, SinglePhase, Some, [], codes, is_accepted, refl, true, ℕ, ◌∷◌, ◌≡◌}
use Rattle.cdc_audit.specs.Audits.{follows_on}
use Rattle.cdc_audit.specs.Rules.{refusal}
use Rattle.cdc_audit.specs.Texts.{refusal_text}
use Rattle.std.specs.Fmt.{digits}

-- an account that was created at this time
abbrev shown : ℕ → ℕ → EventAccount
shown id timestamp = record {
  id = id;
  debits_pending = 0;
  debits_posted = 0;
  credits_pending = 0;
  credits_posted = 0;
  user_data_128 = 0;
  user_data_64 = 0;
  user_data_32 = 0;
  code = 1;
  flags = 0;
  timestamp = timestamp;
}

-- an event of these accounts that moves nothing
abbrev event : ℕ → EventAccount → EventAccount → Event
event timestamp debited credited = record {
  timestamp = timestamp;
  kind = SinglePhase;
  ledger = 1;
  transfer = record {
    id = timestamp;
    amount = 0;
    pending_id = 0;
    user_data_128 = 0;
    user_data_64 = 0;
    user_data_32 = 0;
    timeout = 0;
    code = 1;
    flags = 0;
    timestamp = timestamp;
  };
  debit_account = debited;
  credit_account = credited;
}

abbrev first : Event
first = event 5 (shown 1 1) (shown 2 2)

-- accounts that are shown again, and accounts that are new
apart : is_accepted (first ∷ event 8 (shown 2 2) (shown 1 1) ∷ event 9 (shown 3 3) (shown 4 6) ∷ []) ≡ true
unfolding refusal follows_on
apart = refl

-- two accounts of one event
together : refusal [] (event 5 (shown 1 1) (shown 2 1)) ≡ Some (CreatedTogether 2 1 1)
unfolding refusal
together = refl

-- an account and one that an earlier event shows
debited_together : refusal (first ∷ []) (event 9 (shown 3 2) (shown 1 1)) ≡ Some (CreatedTogether 3 2 2)
unfolding refusal
debited_together = refl

credited_together : refusal (first ∷ []) (event 9 (shown 2 2) (shown 3 1)) ≡ Some (CreatedTogether 3 1 1)
unfolding refusal
credited_together = refl

-- an account and an earlier event
debited_at_event : refusal (first ∷ []) (event 9 (shown 3 5) (shown 1 1)) ≡ Some (CreatedAtEvent 3 5)
unfolding refusal
debited_at_event = refl

credited_at_event : refusal (first ∷ []) (event 9 (shown 1 1) (shown 3 5)) ≡ Some (CreatedAtEvent 3 5)
unfolding refusal
credited_at_event = refl

-- the texts
text-at_event : refusal_text (CreatedAtEvent 7 30) ≡ codes "created: account 7 at 30, as an event"
unfolding refusal_text digits
text-at_event = refl

text-together : refusal_text (CreatedTogether 7 30 8) ≡ codes "created: account 7 at 30, as account 8"
unfolding refusal_text digits
text-together = refl
