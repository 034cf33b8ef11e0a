-- A balance that another one replaces, and a change that is left out.
use Rattle.std.proofs.Common.{◌≡◌, ◌≢◌, ℕ, Bool, true, false, List, [], ◌∷◌, ◌++◌, Option, Some, None, is_none, refl, sym, ap, ap₂, ◌∙◌, subst, inl, inr, ◌⊎◌, arith, append_assoc, append-nil, ◌==◌, ◌&&◌, find, if◌then◌else◌, option_map}
use Rattle.cdc_audit_laws.proofs.OfStd.{unwrap_or, AllByRecursion, option_or, and_from, and_parts, eqb-true, false_from_ne_true, false≢true, or_left, or_right, eqb_tells, find-append, list_any-append}
use Rattle.cdc_audit_laws.proofs.OfTypes.{Event}
use Rattle.cdc_audit_laws.proofs.OfLedger.{holds, settles, stores, stores-holds, AllByRecursion_push}
use Rattle.cdc_audit_laws.proofs.OfAudit.{follows_on, is_accepted, balances_after, is_stored, pending_amount, settled_id, released}
use Rattle.cdc_audit_laws.specs.Laws.{AChangeShows, AreAlike, NoOtherBalances, Shows}
use Rattle.cdc_audit_laws.proofs.Following.{CanFollow}
use Rattle.cdc_audit_laws.proofs.Shown.{balances_after-credited, balances_after-debited, balances_after-other, balances_of}
use Rattle.cdc_audit_laws.proofs.Streams.{first_follows, last_follows, parts_follow}

-- ---- two events that differ in balances alone

module _ (front : List Event) (e f : Event) (alike : AreAlike e f) where
  -- so if both follow, both show the same of the account that is debited
  same_debited : CanFollow front e → CanFollow front f → balances_of e.debit_account ≡ balances_of f.debit_account
  same_debited can_e can_f = grind arith

  -- and of the one that is credited
  same_credited : CanFollow front e → CanFollow front f → balances_of e.credit_account ≡ balances_of f.credit_account
  same_credited can_e can_f = grind arith

-- so no balance of the last event can be another one
pub no_other_balances : NoOtherBalances
no_other_balances front e f id all_e all_f alike =
    let can_e = (last_follows front e all_e).1 in
    let can_f = (last_follows front f all_f).1 in
    elim (eqb_tells e.credit_account.id id) [
      | inl credit ↦
          balances_after-credited front e id credit.1 ∙ same_credited front e f alike can_e can_f
          ∙ sym (balances_after-credited front f id (sym alike.credit ∙ credit.1))
      | inr credit ↦
          let not_credited : f.credit_account.id ≢ id = λ same. credit.1 (alike.credit ∙ same) in
          elim (eqb_tells e.debit_account.id id) [
            | inl debit ↦
                balances_after-debited front e id debit.1 credit.1 ∙ same_debited front e f alike can_e can_f
                ∙ sym (balances_after-debited front f id (sym alike.debit ∙ debit.1) not_credited)
            | inr debit ↦
                balances_after-other front e id debit.1 credit.1
                ∙ sym (balances_after-other front f id (λ same. debit.1 (alike.debit ∙ same)) not_credited)
          ]
    ]

-- ---- an event that is left out

-- events that don't have an account leave its balances
kept_between : (past between : List Event) (id : ℕ) → AllByRecursion (λ e. Shows id e → ⊥) between
    → balances_after (past ++ between) id ≡ balances_after past id
kept_between past [] id none = rw append-nil refl
kept_between past (e ∷ between) id none =
    rw append_assoc at (kept_between (past ++ e ∷ []) between id none.1)
    ∙ balances_after-other past e id (λ is. none.0 (inl is)) (λ is. none.0 (inr is))

-- the event stores a pending transfer of this id
abbrev is_pending : ℕ → Event → Bool
is_pending id e = holds e.kind && (e.transfer.id == id)

-- a stored id stays stored
stored_still : (past : List Event) (e : Event) (id : ℕ) → is_stored past id ≡ true
    → is_stored (past ++ e ∷ []) id ≡ true
stored_still past e id there =
    list_any-append (λ x. stores x.kind && (x.transfer.id == id)) past (e ∷ [])
    ∙ or_left (is_stored past id) _ there

-- the id of an event that stores a transfer is stored after it
stored_then : (past : List Event) (e : Event) (id : ℕ) → is_pending id e ≡ true → is_stored (past ++ e ∷ []) id ≡ true
stored_then past e id is =
    let parts = and_parts (holds e.kind) (e.transfer.id == id) is in
    list_any-append (λ x. stores x.kind && (x.transfer.id == id)) past (e ∷ [])
    ∙ or_right _ _ (or_left _ _ (and_from _ _ (stores-holds e.kind parts.0) parts.1))

-- so no event that follows stores a pending transfer of that id
none_again : (past rest : List Event) (id : ℕ) → is_stored past id ≡ true → follows_on past rest ≡ true
    → find (is_pending id) rest ≡ None
none_again past [] id there all = refl
none_again past (e ∷ rest) id there all =
    let first = first_follows past e rest all in
    let not : is_pending id e ≡ false =
    false_from_ne_true (is_pending id e) (λ is.
    let parts = and_parts (holds e.kind) (e.transfer.id == id) is in
    let same : e.transfer.id ≡ id = eqb-true e.transfer.id id parts.1 in
    false≢true (sym first.0.new ∙ and_from _ _ (stores-holds e.kind parts.0) (ap (is_stored past) same ∙ there))) in
    rw not (none_again (past ++ e ∷ []) rest id (stored_still past e id there) first.1)

-- the amount of a pending transfer is the same without the lost event, if the transfer is still there
same_pending : (front between : List Event) (lost : Event) (id : ℕ)
    → follows_on (front ++ lost ∷ []) between ≡ true
    → is_none (pending_amount (front ++ between) id) ≡ false
    → pending_amount (front ++ lost ∷ between) id ≡ pending_amount (front ++ between) id
same_pending front between lost id all there =
    ap (option_map (λ (e : Event). e.transfer.amount))
    (by (is_pending id lost) (find (is_pending id) front) refl refl)
  where
    whole : find (is_pending id) (front ++ lost ∷ between)
        ≡ option_or (find (is_pending id) front)
        (if is_pending id lost then Some lost else find (is_pending id) between)
    whole = find-append (is_pending id) front (lost ∷ between)

    rest : find (is_pending id) (front ++ between)
        ≡ option_or (find (is_pending id) front) (find (is_pending id) between)
    rest = find-append (is_pending id) front between

    by : (b : Bool) (o : Option Event) → is_pending id lost ≡ b → find (is_pending id) front ≡ o
        → find (is_pending id) (front ++ lost ∷ between) ≡ find (is_pending id) (front ++ between)
    by b (Some x) is found =
        whole ∙ ap (λ p. option_or p (if is_pending id lost then Some lost else find (is_pending id) between)) found
        ∙ sym (rest ∙ ap (λ p. option_or p (find (is_pending id) between)) found)
    by false None is found =
        whole ∙ ap₂ (λ p b. option_or p (if b then Some lost else find (is_pending id) between)) found is
        ∙ sym (rest ∙ ap (λ p. option_or p (find (is_pending id) between)) found)
    by true None is found =
        let none : find (is_pending id) (front ++ between) ≡ None =
        rest ∙ ap₂ option_or found (none_again (front ++ lost ∷ []) between id (stored_then front lost id is) all) in
        absurd (false≢true (sym there
        ∙ ap (λ (o : Option Event). is_none (option_map (λ e. e.transfer.amount) o)) none))

-- so an event that follows with and without the lost one releases the same
same_released_without : (front between : List Event) (lost next : Event)
    → follows_on (front ++ lost ∷ []) between ≡ true → CanFollow (front ++ between) next
    → released (front ++ lost ∷ between) next ≡ released (front ++ between) next
same_released_without front between lost next all can = by (settles next.kind) refl
  where
    by : (b : Bool) → settles next.kind ≡ b
        → released (front ++ lost ∷ between) next ≡ released (front ++ between) next
    by false is = rw is refl
    by true is =
        let there : is_none (pending_amount (front ++ between) (settled_id next)) ≡ false =
        sym (ap (λ b. b && is_none (pending_amount (front ++ between) (settled_id next))) is) ∙ can.pending in
        ap (λ o. if settles next.kind then unwrap_or o 0 else 0)
        (same_pending front between lost (settled_id next) all there)

-- of two lists of events that one event follows, which releases the same after both, both show the same of its accounts
same_before : (one other : List Event) (next : Event) (id : ℕ) → CanFollow one next → CanFollow other next
    → released one next ≡ released other next → Shows id next → balances_after one id ≡ balances_after other id
same_before one other next id can_one can_other release is = grind arith

-- so if an event that changed an account is left out, the account's next event is refused, or one before it
next_is_refused : (front between : List Event) (lost next : Event) (id : ℕ)
    → is_accepted (front ++ lost ∷ (between ++ next ∷ [])) ≡ true
    → AllByRecursion (λ e. Shows id e → ⊥) between → Shows id next
    → balances_after (front ++ lost ∷ []) id ≢ balances_after front id
    → is_accepted (front ++ between ++ next ∷ []) ≡ false
next_is_refused front between lost next id all none shows changed =
    false_from_ne_true (is_accepted (front ++ between ++ next ∷ [])) (λ is.
    let whole : is_accepted ((front ++ lost ∷ between) ++ next ∷ []) ≡ true = rw append_assoc all in
    let with_lost = last_follows (front ++ lost ∷ between) next whole in
    let without = last_follows (front ++ between) next is in
    let parts : follows_on (front ++ lost ∷ []) between ≡ true =
    (parts_follow [] (front ++ lost ∷ []) between (rw append_assoc with_lost.0)).1 in
    changed
    (sym (kept_between (front ++ lost ∷ []) between id none)
    ∙ ap (λ (es : List Event). balances_after es id) (append_assoc front (lost ∷ []) between)
    ∙ same_before (front ++ lost ∷ between) (front ++ between) next id with_lost.1 without.1
    (same_released_without front between lost next parts without.1) shows
    ∙ kept_between front between id none))

-- an event has an account, or not
shows_or_not : (id : ℕ) (e : Event) → Shows id e ⊎ (Shows id e → ⊥)
shows_or_not id e = grind arith

-- a stream with a prefix that is refused is refused
refused_on : (front back : List Event) → is_accepted front ≡ false → is_accepted (front ++ back) ≡ false
refused_on front back refused =
    false_from_ne_true (is_accepted (front ++ back))
    (λ all. false≢true (sym refused ∙ (parts_follow [] front back all).0))

-- so it is refused by the time of any later event of the account: among these events is its next one
later_is_refused : (front none between : List Event) (lost later : Event) (id : ℕ)
    → is_accepted (front ++ lost ∷ (none ++ (between ++ later ∷ []))) ≡ true
    → AllByRecursion (λ e. Shows id e → ⊥) none → Shows id later
    → balances_after (front ++ lost ∷ []) id ≢ balances_after front id
    → is_accepted (front ++ none ++ (between ++ later ∷ [])) ≡ false
later_is_refused front none [] lost later id all others shows changed =
    next_is_refused front none lost later id all others shows changed
later_is_refused front none (e ∷ between) lost later id all others shows changed =
    let split : (none ++ e ∷ []) ++ (between ++ later ∷ []) ≡ none ++ e ∷ (between ++ later ∷ []) =
    append_assoc none (e ∷ []) (between ++ later ∷ []) in
    let whole : is_accepted (front ++ lost ∷ ((none ++ e ∷ []) ++ (between ++ later ∷ []))) ≡ true = rw split all in
    elim (shows_or_not id e) [
      | inl here ↦
          let start : is_accepted (front ++ lost ∷ (none ++ e ∷ [])) ≡ true =
          (parts_follow [] (front ++ lost ∷ (none ++ e ∷ [])) (between ++ later ∷ []) (rw append_assoc whole)).0 in
          let refused : is_accepted ((front ++ none ++ e ∷ []) ++ (between ++ later ∷ [])) ≡ false =
          refused_on (front ++ none ++ e ∷ []) (between ++ later ∷ [])
          (next_is_refused front none lost e id start others here changed) in
          subst (λ (es : List Event). is_accepted es ≡ false)
          (append_assoc (front ++ none) (e ∷ []) (between ++ later ∷ [])) refused
      | inr away ↦
          let refused : is_accepted (front ++ (none ++ e ∷ []) ++ (between ++ later ∷ [])) ≡ false =
          later_is_refused front (none ++ e ∷ []) between lost later id whole
          (AllByRecursion_push _ none e others away) shows changed in
          subst (λ (es : List Event). is_accepted es ≡ false)
          (append_assoc front (none ++ e ∷ []) (between ++ later ∷ []) ∙ ap (λ (es : List Event). front ++ es) split
          ∙ sym (append_assoc front none (e ∷ (between ++ later ∷ [])))) refused
    ]

-- so a change can't be left out
pub a_change_shows : AChangeShows
a_change_shows front between lost later id all shows changed =
    subst (λ (es : List Event). is_accepted es ≡ false)
    (ap (λ (es : List Event). es ++ (between ++ later ∷ [])) (append-nil front)
    ∙ sym (append_assoc front between (later ∷ [])))
    (later_is_refused front [] between lost later id all tt shows changed)
