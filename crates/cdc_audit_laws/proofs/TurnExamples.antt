-- The converse law at work in a stream with a chain and a pulse, and in one whose chain is cut off.
use Rattle.std.proofs.Common.{◌≡◌, true, List, [], ◌∷◌, ◌++◌, refl, subst}
use Rattle.cdc_audit_laws.proofs.OfStd.{true≢false, AllByRecursion}
use Rattle.cdc_audit_laws.proofs.OfTypes.{Event, EventFits, SinglePhase, TwoPhasePending, TwoPhaseExpired}
use Rattle.cdc_audit_laws.proofs.OfLedger.{events as events_of, History, IsLegal}
use Rattle.cdc_audit_laws.proofs.OfAudit.{follows_on, is_accepted, refusal}
use Rattle.cdc_audit_laws.specs.Soundness.{AreCutOff, AreWhole}
use Rattle.cdc_audit_laws.proofs.Soundness.{accepted_events_are_a_ledgers, accepted_events_begin_a_ledgers, accepted_events_start_as_a_ledgers}
use Rattle.cdc_audit_laws.proofs.ExampleEvents.{account, all_fit, event}
use Rattle.cdc_audit_laws.proofs.Whole.{ledgers_events_are_whole}

-- account 1 holds 5 for account 2 at 4, for 2 seconds. It pays 1 and 2 in a chain, at 6 and 7. It holds 7 at
-- 1000000004, for 1 second. Both expire by a pulse, at 2000000010 and 2000000011. Then it pays 1
abbrev held_long : Event
held_long = event TwoPhasePending 4 8 0 5 2 2 4 (account 1 1 5 0 0 0) (account 2 2 0 0 5 0)

abbrev linked_one : Event
linked_one = event SinglePhase 6 10 0 1 0 1 6 (account 1 1 5 1 0 0) (account 2 2 0 0 5 1)

abbrev last_one : Event
last_one = event SinglePhase 7 11 0 2 0 0 7 (account 1 1 5 3 0 0) (account 2 2 0 0 5 3)

abbrev held_briefly : Event
held_briefly = event TwoPhasePending 1000000004 9 0 7 1 2 1000000004 (account 1 1 12 3 0 0) (account 2 2 0 0 12 3)

abbrev first_gone : Event
first_gone = event TwoPhaseExpired 2000000010 8 0 5 2 2 4 (account 1 1 7 3 0 0) (account 2 2 0 0 7 3)

abbrev second_gone : Event
second_gone = event TwoPhaseExpired 2000000011 9 0 7 1 2 1000000004 (account 1 1 0 3 0 0) (account 2 2 0 0 0 3)

abbrev paid_after : Event
paid_after = event SinglePhase 2000000012 12 0 1 0 0 2000000012 (account 1 1 0 4 0 0) (account 2 2 0 0 0 4)

abbrev long_stream : List Event
long_stream =
    held_long ∷ linked_one ∷ last_one ∷ held_briefly ∷ first_gone ∷ second_gone ∷ paid_after ∷ []

long_accepted : is_accepted long_stream ≡ true
unfolding follows_on refusal
long_accepted = refl

-- no chain and no pulse of it is cut off
long_whole : AreWhole long_stream
long_whole = record { chain = refl; pulse = λ x y last first. cc }

long_fit : AllByRecursion EventFits long_stream
long_fit = all_fit long_stream refl

-- so the stream is a ledger's
long_is_a_ledgers : (h : History) × IsLegal h × (events_of h ≡ long_stream)
long_is_a_ledgers = accepted_events_are_a_ledgers long_stream long_fit long_whole long_accepted

-- ---- accepted, and no ledger's: its chain is cut off

abbrev cut_stream : List Event
cut_stream = held_long ∷ linked_one ∷ []

cut_accepted : is_accepted cut_stream ≡ true
unfolding follows_on refusal
cut_accepted = refl

cut_no_ledgers : (h : History) → IsLegal h → events_of h ≡ cut_stream → ⊥
cut_no_ledgers h legal same =
    let whole : AreWhole cut_stream = subst AreWhole same (ledgers_events_are_whole h legal) in
    true≢false whole.chain

-- so a ledger has all of it but a last part
cut_fit : AllByRecursion EventFits cut_stream
cut_fit = all_fit cut_stream refl

cut_starts_as_a_ledgers :
    (h : History) × (part : List Event) × IsLegal h × (events_of h ++ part ≡ cut_stream) × AreCutOff part
cut_starts_as_a_ledgers = accepted_events_start_as_a_ledgers cut_stream cut_fit cut_accepted

-- and a ledger has all of it, and then others
cut_begins_a_ledgers :
    (h : History) × (rest : List Event) × IsLegal h × (events_of h ≡ cut_stream ++ rest)
cut_begins_a_ledgers = accepted_events_begin_a_ledgers cut_stream cut_fit (λ x y last first. cc) cut_accepted
