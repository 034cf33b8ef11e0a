-- The laws at work in short streams: what an audit finds, and what it can't find by nature.
use Rattle.std.proofs.Common.{ℕ, ◌+◌, ◌≡◌, ◌≢◌, true, false, List, [], ◌∷◌, ◌++◌, Some, refl, sym, ap, inl, arith}
use Rattle.cdc_audit_laws.proofs.OfStd.{false≢true}
use Rattle.cdc_audit_laws.proofs.OfTypes.{Balances, Event, EventAccount, EventKind, SinglePhase, TwoPhasePending, TwoPhasePosted, TwoPhaseVoided, TwoPhaseExpired}
use Rattle.cdc_audit_laws.proofs.OfAudit.{Balance, NotPending, follows_on, is_accepted, balances_after, refusal}
use Rattle.cdc_audit.specs.declared.refusals.BalanceField.TheVariants.{DebitsPosted}
use Rattle.cdc_audit_laws.specs.Laws.{Shows, credits_posted_by, debits_posted_by}
use Rattle.cdc_audit_laws.proofs.ExampleEvents.{account as account_at, event as event_with}

-- an account that was created a while before
abbrev account : ℕ → ℕ → ℕ → ℕ → ℕ → EventAccount
account id = account_at id (1000 + id)

-- the flags of a transfer of this kind of event
abbrev flags_of : EventKind → ℕ
flags_of SinglePhase = 0
flags_of TwoPhasePending = 2
flags_of TwoPhasePosted = 4
flags_of TwoPhaseVoided = 8
flags_of TwoPhaseExpired = 2

-- an event of this kind: its timestamp, the transfer's id and pending id, its amount, and the two accounts
abbrev event : EventKind → ℕ → ℕ → ℕ → ℕ → EventAccount → EventAccount → Event
event kind timestamp id pending_id amount = event_with kind timestamp id pending_id amount 0 (flags_of kind) timestamp

-- account 1 pays 10 to account 2
abbrev paid : Event
paid = event SinglePhase 2001 7 0 10 (account 1 0 10 0 0) (account 2 0 0 0 10)

-- it holds 5 for account 2
abbrev held : Event
held = event TwoPhasePending 2002 8 0 5 (account 1 5 10 0 0) (account 2 0 0 5 10)

-- 3 of these are posted
abbrev posted : Event
posted = event TwoPhasePosted 2003 9 8 3 (account 1 0 13 0 0) (account 2 0 0 0 13)

-- or they are voided
abbrev voided : Event
voided = event TwoPhaseVoided 2003 9 8 5 (account 1 0 10 0 0) (account 2 0 0 0 10)

-- it pays 0
abbrev paid_nothing : Event
paid_nothing = event SinglePhase 2004 10 0 0 (account 1 0 13 0 0) (account 2 0 0 0 13)

-- it pays 1, after the post, and after the void
abbrev paid_after_post : Event
paid_after_post = event SinglePhase 2005 11 0 1 (account 1 0 14 0 0) (account 2 0 0 0 14)

abbrev paid_after_void : Event
paid_after_void = event SinglePhase 2005 11 0 1 (account 1 0 11 0 0) (account 2 0 0 0 11)

-- account 3 pays 6 to account 4
abbrev paid_by_another : Event
paid_by_another = event SinglePhase 2004 10 0 6 (account 3 0 6 0 0) (account 4 0 0 0 6)

-- the first event with another timestamp and another id
abbrev paid_otherwise : Event
paid_otherwise = event SinglePhase 2000 6 0 10 (account 1 0 10 0 0) (account 2 0 0 0 10)

-- a stream, and what it moved
abbrev whole : List Event
whole = paid ∷ held ∷ posted ∷ paid_nothing ∷ paid_after_post ∷ []

accepted : (is_accepted whole ≡ true) × (debits_posted_by whole 1 ≡ 14) × (credits_posted_by whole 2 ≡ 14)
    × (debits_posted_by whole 2 ≡ 0)
unfolding follows_on refusal
accepted = (refl, refl, refl, refl)

-- an event that changed balances is found when it is left out, and so is a pending one that is settled later
found : (refusal [] held
    ≡ Some (Balance (record {
      account = 1;
      field = DebitsPosted;
      shown = 10;
      before = 0;
      added = 0;
      released = 0;
    }))) × (refusal (paid ∷ []) posted ≡ Some (NotPending 8))
    × (is_accepted (paid ∷ posted ∷ paid_nothing ∷ paid_after_post ∷ []) ≡ false)
unfolding follows_on refusal
found = (refl, refl, refl)

-- an event of the amount 0 isn't found: it changed no balances
amount_of_zero : is_accepted (paid ∷ held ∷ posted ∷ paid_after_post ∷ []) ≡ true
unfolding follows_on refusal
amount_of_zero = refl

-- nor is a pending one that is left out together with its void: together they changed no balances
held_and_voided : (is_accepted (paid ∷ held ∷ voided ∷ paid_after_void ∷ []) ≡ true)
    × (is_accepted (paid ∷ paid_after_void ∷ []) ≡ true)
unfolding follows_on refusal
held_and_voided = (refl, refl)

-- nor is the last event of an account
last_of_account : (is_accepted (paid ∷ held ∷ posted ∷ paid_by_another ∷ paid_after_post ∷ []) ≡ true)
    × (is_accepted (paid ∷ held ∷ posted ∷ paid_after_post ∷ []) ≡ true)
unfolding follows_on refusal
last_of_account = (refl, refl)

-- nor is another id, or another timestamp between those of its neighbours
other_id : is_accepted (paid_otherwise ∷ held ∷ posted ∷ []) ≡ true
unfolding follows_on refusal
other_id = refl

-- ---- laws that promise too much

-- that each loss shows, whether the lost event changed balances or not
abbrev EachLossShows : Type 0
EachLossShows = (front between : List Event) (lost later : Event) (id : ℕ)
    → is_accepted (front ++ lost ∷ (between ++ later ∷ [])) ≡ true → Shows id later
    → is_accepted (front ++ between ++ later ∷ []) ≡ false

not_each_loss_shows : EachLossShows → ⊥
unfolding follows_on refusal
not_each_loss_shows law =
    false≢true (sym (law (paid ∷ held ∷ posted ∷ []) [] paid_nothing paid_after_post 1 refl (inl refl)))

-- that a change shows without a later event of its account
abbrev EachChangeShows : Type 0
EachChangeShows = (front between : List Event) (lost : Event) (id : ℕ)
    → is_accepted (front ++ lost ∷ between) ≡ true
    → balances_after (front ++ lost ∷ []) id ≢ balances_after front id
    → is_accepted (front ++ between) ≡ false

not_each_change_shows : EachChangeShows → ⊥
unfolding follows_on refusal
not_each_change_shows law =
    false≢true (sym (law (paid ∷ held ∷ posted ∷ []) (paid_after_post ∷ []) paid_by_another 3 refl
    (λ same. let six : 6 ≡ 0 = ap (λ (b : Balances). b.debits_posted) same in omega arith)))

-- that an event more than a ledger has is accepted
abbrev AnotherIsAccepted : Type 0
AnotherIsAccepted = (events : List Event) (another : Event) → is_accepted events ≡ true
    → is_accepted (events ++ another ∷ []) ≡ true

not_another : AnotherIsAccepted → ⊥
unfolding follows_on refusal
not_another law = false≢true (law (paid ∷ []) paid refl)
