-- The converse law at work with linked accounts: a stream that is a ledger's, and some with an event in a chain.
use Rattle.std.proofs.Common.{ℕ, ◌≡◌, true, false, [], ◌∷◌, refl}
use Rattle.cdc_audit_laws.proofs.OfTypes.{Event, EventAccount, SinglePhase}
use Rattle.cdc_audit_laws.proofs.OfLedger.{events as events_of, History, IsLegal}
use Rattle.cdc_audit_laws.proofs.OfAudit.{follows_on, is_accepted, refusal}
use Rattle.cdc_audit_laws.specs.Soundness.{AreWhole}
use Rattle.cdc_audit_laws.proofs.Soundness.{accepted_events_are_a_ledgers}
use Rattle.cdc_audit_laws.proofs.ExampleEvents.{account, all_fit, event}

-- an account that is linked to the next one
abbrev linked_account : ℕ → ℕ → ℕ → ℕ → EventAccount
linked_account id created debits_posted credits_posted =
    record (account id created 0 debits_posted 0 credits_posted) { flags = 1 }

-- accounts 1 and 2 were created at 1 and 2, and both are linked: so a third one was created at 3, which no event shows.
-- Account 1 pays 10 to account 2 at 5
abbrev paid : Event
paid = event SinglePhase 5 7 0 10 0 0 5 (linked_account 1 1 10 0) (linked_account 2 2 0 10)

paid_accepted : is_accepted (paid ∷ []) ≡ true
unfolding follows_on refusal
paid_accepted = refl

paid_whole : AreWhole (paid ∷ [])
paid_whole = record { chain = refl; pulse = λ x y last first. cc }

-- so a ledger has this event
paid_is_a_ledgers : (h : History) × IsLegal h × (events_of h ≡ paid ∷ [])
paid_is_a_ledgers = accepted_events_are_a_ledgers (paid ∷ []) (all_fit (paid ∷ []) refl) paid_whole paid_accepted

-- at 3 the event would have the timestamp of the third account. It is refused
abbrev too_soon : Event
too_soon = event SinglePhase 3 7 0 10 0 0 3 (linked_account 1 1 10 0) (linked_account 2 2 0 10)

too_soon_refused : is_accepted (too_soon ∷ []) ≡ false
unfolding follows_on refusal
too_soon_refused = refl

-- so is an event that shows a linked account of 4, after an event at 5
abbrev shown_later : Event
shown_later = event SinglePhase 6 8 0 1 0 0 6 (record (account 5 4 0 1 0 0) { flags = 1 }) (account 6 1 0 0 0 1)

abbrev right_after : Event
right_after = event SinglePhase 5 7 0 10 0 0 5 (account 3 2 0 10 0 0) (account 4 3 0 0 0 10)

shown_later_refused : is_accepted (right_after ∷ shown_later ∷ []) ≡ false
unfolding follows_on refusal
shown_later_refused = refl

-- a linked transfer at the greatest timestamp has no next one
abbrev at_the_end : Event
at_the_end =
    event SinglePhase 9223372036854775807 7 0 10 0 1 9223372036854775807 (account 1 1 0 10 0 0) (account 2 2 0 0 0 10)

at_the_end_refused : is_accepted (at_the_end ∷ []) ≡ false
unfolding follows_on refusal
at_the_end_refused = refl
