-- What events show of an account after one more event.
use Rattle.std.proofs.Common.{◌≡◌, ◌≢◌, ℕ, List, [], ◌∷◌, ◌++◌, refl, inl, inr, ◌==◌, find, reverse, Option}
use Rattle.cdc_audit_laws.proofs.OfStd.{flat_map, option_or, eqb_tells, flat_map-append, reverse-append, find-append}
use Rattle.cdc_audit_laws.proofs.OfTypes.{Balances, Event, EventAccount}
use Rattle.cdc_audit_laws.proofs.OfAudit.{balances_after}
use Rattle.cdc_subscriber.specs.declared.book.BookEntry.{BookEntry}
use Rattle.cdc_subscriber.specs.Book.{entry_of, sides}

-- the balances that an event shows of one of its accounts
abbrev pub balances_of : EventAccount → Balances
balances_of account = (entry_of account).balances

-- what events show last of the account of this id
abbrev seen : ℕ → List Event → Option BookEntry
seen id es = find (λ entry. entry.id == id) (reverse (flat_map sides es))

-- what one event shows of it: the credited side comes after the debited one
abbrev shown : ℕ → Event → Option BookEntry
shown id e = find (λ entry. entry.id == id) (entry_of e.credit_account ∷ entry_of e.debit_account ∷ [])

-- one more event
seen-push : (id : ℕ) (es : List Event) (e : Event) → seen id (es ++ e ∷ []) ≡ option_or (shown id e) (seen id es)
seen-push id es e =
    rw (flat_map-append sides es (e ∷ []), reverse-append (flat_map sides es) (sides e))
    (find-append (λ entry. entry.id == id) (entry_of e.credit_account ∷ entry_of e.debit_account ∷ [])
    (reverse (flat_map sides es)))

-- the account that it credits has the balances that it shows
pub balances_after-credited : (past : List Event) (e : Event) (id : ℕ) → e.credit_account.id ≡ id
    → balances_after (past ++ e ∷ []) id ≡ balances_of e.credit_account
balances_after-credited past e id is =
    rw (seen-push id past e) (elim (eqb_tells e.credit_account.id id) [
      | inl same ↦ rw same.0 refl
      | inr other ↦ absurd (other.1 is)
    ])

-- so has the account that it debits
pub balances_after-debited : (past : List Event) (e : Event) (id : ℕ) → e.debit_account.id ≡ id
    → e.credit_account.id ≢ id → balances_after (past ++ e ∷ []) id ≡ balances_of e.debit_account
balances_after-debited past e id is not =
    rw (seen-push id past e) (elim (eqb_tells e.credit_account.id id) [
      | inl same ↦ absurd (not same.1)
      | inr other ↦ elim (eqb_tells e.debit_account.id id) [
        | inl same ↦ rw (other.0, same.0) refl
        | inr neither ↦ absurd (neither.1 is)
      ]
    ])

-- every other account has those that it had
pub balances_after-other : (past : List Event) (e : Event) (id : ℕ) → e.debit_account.id ≢ id
    → e.credit_account.id ≢ id → balances_after (past ++ e ∷ []) id ≡ balances_after past id
balances_after-other past e id not_debited not_credited =
    rw (seen-push id past e) (elim (eqb_tells e.credit_account.id id) [
      | inl same ↦ absurd (not_credited same.1)
      | inr other ↦ elim (eqb_tells e.debit_account.id id) [
        | inl same ↦ absurd (not_debited same.1)
        | inr neither ↦ rw (other.0, neither.0) refl
      ]
    ])
