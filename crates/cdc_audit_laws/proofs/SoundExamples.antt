-- The converse law at work in short streams: one that is a ledger's, and some that aren't.
use Rattle.std.proofs.Common.{◌≡◌, true, false, List, [], ◌∷◌, refl}
use Rattle.cdc_audit_laws.proofs.OfTypes.{Event, SinglePhase, TwoPhasePending, TwoPhasePosted, TwoPhaseVoided, TwoPhaseExpired}
use Rattle.cdc_audit_laws.proofs.OfLedger.{events as events_of, History, IsLegal}
use Rattle.cdc_audit_laws.proofs.OfAudit.{follows_on, is_accepted, refusal}
use Rattle.cdc_audit_laws.specs.Soundness.{AreWhole}
use Rattle.cdc_audit_laws.proofs.Soundness.{accepted_events_are_a_ledgers}
use Rattle.cdc_audit_laws.proofs.ExampleEvents.{account, all_fit, event}

-- account 1, created at 1, pays 10 to account 2, created at 2, at 3. It holds 5 at 4 and 7 at 5. Of the 5 it posts 3 at
-- 7, after account 3 was created at 6, and it voids the 7 at 8. Account 3 pays 1 to account 1 at 9
abbrev paid : Event
paid = event SinglePhase 3 7 0 10 0 0 3 (account 1 1 0 10 0 0) (account 2 2 0 0 0 10)

abbrev held : Event
held = event TwoPhasePending 4 8 0 5 60 2 4 (account 1 1 5 10 0 0) (account 2 2 0 0 5 10)

abbrev held_more : Event
held_more = event TwoPhasePending 5 9 0 7 0 2 5 (account 1 1 12 10 0 0) (account 2 2 0 0 12 10)

abbrev posted : Event
posted = event TwoPhasePosted 7 10 8 3 0 4 7 (account 1 1 7 13 0 0) (account 2 2 0 0 7 13)

abbrev voided : Event
voided = event TwoPhaseVoided 8 11 9 7 0 8 8 (account 1 1 0 13 0 0) (account 2 2 0 0 0 13)

abbrev paid_back : Event
paid_back = event SinglePhase 9 12 0 1 0 0 9 (account 3 6 0 1 0 0) (account 1 1 0 13 0 1)

abbrev stream : List Event
stream = paid ∷ held ∷ held_more ∷ posted ∷ voided ∷ paid_back ∷ []

accepted : is_accepted stream ≡ true
unfolding follows_on refusal
accepted = refl

-- so this stream is a ledger's
is_whole : AreWhole stream
is_whole = record { chain = refl; pulse = λ x y last first. cc }

is_a_ledgers : (h : History) × IsLegal h × (events_of h ≡ stream)
is_a_ledgers = accepted_events_are_a_ledgers stream (all_fit stream refl) is_whole accepted

-- ---- no ledger's, and refused

-- two accounts that were created at one timestamp
abbrev at_once : Event
at_once = event SinglePhase 3 7 0 10 0 0 3 (account 1 1 0 10 0 0) (account 2 1 0 0 0 10)

at_once_refused : is_accepted (at_once ∷ []) ≡ false
unfolding follows_on refusal
at_once_refused = refl

-- an account that was created at the timestamp of an event
abbrev by_new_one : Event
by_new_one = event SinglePhase 5 8 0 1 0 0 5 (account 3 3 0 1 0 0) (account 1 1 0 10 0 1)

with_event_refused : is_accepted (paid ∷ by_new_one ∷ []) ≡ false
unfolding follows_on refusal
with_event_refused = refl

-- an expiry while another transfer, which expired a second earlier, is still open
abbrev soon : Event
soon = event TwoPhasePending 4 8 0 5 1 2 4 (account 1 1 5 0 0 0) (account 2 2 0 0 5 0)

abbrev later : Event
later = event TwoPhasePending 5 9 0 7 2 2 5 (account 1 1 12 0 0 0) (account 2 2 0 0 12 0)

abbrev expired : Event
expired = event TwoPhaseExpired 2000000005 9 0 7 2 2 5 (account 1 1 5 0 0 0) (account 2 2 0 0 5 0)

out_of_turn_refused : is_accepted (soon ∷ later ∷ expired ∷ []) ≡ false
unfolding follows_on refusal
out_of_turn_refused = refl

-- a payment after an expiry, while another transfer with the same expiry time is still open
abbrev held_long : Event
held_long = event TwoPhasePending 4 8 0 5 2 2 4 (account 1 1 5 0 0 0) (account 2 2 0 0 5 0)

abbrev held_briefly : Event
held_briefly = event TwoPhasePending 1000000004 9 0 7 1 2 1000000004 (account 1 1 12 0 0 0) (account 2 2 0 0 12 0)

abbrev first_gone : Event
first_gone = event TwoPhaseExpired 2000000010 8 0 5 2 2 4 (account 1 1 7 0 0 0) (account 2 2 0 0 7 0)

abbrev paid_between : Event
paid_between = event SinglePhase 2000000011 10 0 1 0 0 2000000011 (account 1 1 7 1 0 0) (account 2 2 0 0 7 1)

left_behind_refused : is_accepted (held_long ∷ held_briefly ∷ first_gone ∷ paid_between ∷ []) ≡ false
unfolding follows_on refusal
left_behind_refused = refl
