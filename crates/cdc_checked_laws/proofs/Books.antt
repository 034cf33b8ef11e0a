-- The balances that applied events show last of an account are the ledger's, as of the account's last applied event.
use Rattle.std.proofs.Common.{◌≡◌, ℕ, Bool, true, false, List, [], ◌∷◌, ◌++◌, Option, Some, None, map, append_assoc, append-nil, refl, sym, ap, ap₂, ◌∙◌, inl, inr}
use Rattle.std.specs.Prelude.{◌==◌, ◌||◌, Contains, IsSome, if◌then◌else◌, unwrap_or}
use Rattle.std.specs.List.{AllByRecursion, list_any}
use Rattle.std.proofs.lemmas.Bool.{false≢true}
use Rattle.std.proofs.lemmas.Bool.Decides.{eqb_tells}
use Rattle.std.proofs.lemmas.List.Folds.{list_any-append}
use Rattle.cdc_types.specs.declared.events.Entry.{Entry}
use Rattle.cdc_types.specs.declared.events.Event.{Event}
use Rattle.cdc_ledger.specs.Balances.{balances}
use Rattle.cdc_ledger.specs.Events.{event_of, events, nobody}
use Rattle.cdc_ledger.specs.History.{History, Opened, opened}
use Rattle.cdc_ledger.specs.Sound.{HasAccounts}
use Rattle.cdc_ledger.specs.Submit.{IsLegal}
use Rattle.cdc_ledger.proofs.KeptLaws.{IsSound-from_legal}
use Rattle.cdc_ledger.proofs.OpenedLaws.{opened_id}
use Rattle.cdc_subscriber.specs.Book.{entry_of}
use Rattle.cdc_audit.specs.Known.{balances_after}
use Rattle.cdc_checked.specs.Checked.{checked, last_of, names}
use Rattle.cdc_checked.proofs.StandLemmas.{balances_after-push, last_of-push}
use Rattle.cdc_checked_laws.specs.Laws.{CheckedBooksHoldBalances}
use Rattle.cdc_checked_laws.proofs.Members.{each_has}
use Rattle.cdc_checked_laws.proofs.Missed.{checked_holds}

-- an event shows the ledger's balances of its accounts
record ShowsBalances (h : History) (e : Event) : Type 0 where
  pub debit : (entry_of e.debit_account).balances ≡ balances h e.debit_account.id e.timestamp
  pub credit : (entry_of e.credit_account).balances ≡ balances h e.credit_account.id e.timestamp

-- an account that is there is shown under its id
id_found : (h : History) (id : ℕ) (o : Option Opened) → opened h id ≡ o → IsSome o
    → (unwrap_or o nobody).request.id ≡ id
id_found h id None is found = cc
id_found h id (Some x) is found = opened_id h x id is

each_shows : (h : History) (entries : List Entry) → AllByRecursion (HasAccounts h) entries
    → AllByRecursion (ShowsBalances h) (map (event_of h) entries)
each_shows h [] known = tt
each_shows h (x ∷ entries) known = (
  record {
    debit = ap (λ n. balances h n x.timestamp) (sym (id_found h x.transfer.debit_account_id
        (opened h x.transfer.debit_account_id) refl known.0.0));
    credit = ap (λ n. balances h n x.timestamp) (sym (id_found h x.transfer.credit_account_id
        (opened h x.transfer.credit_account_id) refl known.0.1));
  },
  each_shows h entries known.1,
)

module _ (h : History) (id : ℕ) (legal : IsLegal h) where
  -- so do events of a ledger that show the account, in any order
  abbrev HasBalances : List Event → Type 0
  HasBalances es = list_any (names id) es ≡ true → balances_after es id ≡ balances h id (last_of es id)

  one_more : (past : List Event) (e : Event) → HasBalances past → Contains (events h) e → HasBalances (past ++ e ∷ [])
  one_more past e has there shown =
      balances_after-push past e id
      ∙ elim (eqb_tells e.credit_account.id id) [
        | inl credit ↦
            ap (λ b. if b then (entry_of e.credit_account).balances
            else (if e.debit_account.id == id then (entry_of e.debit_account).balances else balances_after past id))
            credit.0
            ∙ shows.credit ∙ ap (λ n. balances h n e.timestamp) credit.1
            ∙ sym (ap (balances h id) (last_of-push past e id
            ∙ ap (λ b. if b then e.timestamp else (if e.debit_account.id == id then e.timestamp else last_of past id))
            credit.0))
        | inr credit ↦ elim (eqb_tells e.debit_account.id id) [
          | inl debit ↦
              ap₂ (λ a b. if a then (entry_of e.credit_account).balances
              else (if b then (entry_of e.debit_account).balances else balances_after past id)) credit.0 debit.0
              ∙ shows.debit ∙ ap (λ n. balances h n e.timestamp) debit.1
              ∙ sym (ap (balances h id) (last_of-push past e id
              ∙ ap₂ (λ a b. if a then e.timestamp else (if b then e.timestamp else last_of past id)) credit.0 debit.0))
          | inr debit ↦
              ap₂ (λ a b. if a then (entry_of e.credit_account).balances
              else (if b then (entry_of e.debit_account).balances else balances_after past id)) credit.0 debit.0
              ∙ has (before debit.0 credit.0)
              ∙ sym (ap (balances h id) (last_of-push past e id
              ∙ ap₂ (λ a b. if a then e.timestamp else (if b then e.timestamp else last_of past id)) credit.0 debit.0))
        ]
      ]
    where
      shows : ShowsBalances h e
      shows =
          each_has (ShowsBalances h) (events h) e (each_shows h h.entries (IsSound-from_legal h legal).known) there

      or_no : (b : Bool) → (b || ((false || false) || false)) ≡ b
      or_no true = refl
      or_no false = refl

      before : (e.debit_account.id == id) ≡ false → (e.credit_account.id == id) ≡ false
          → list_any (names id) past ≡ true
      before debit credit =
          sym (list_any-append (names id) past (e ∷ [])
          ∙ ap₂ (λ a b. list_any (names id) past || ((a || b) || false)) debit credit
          ∙ or_no (list_any (names id) past))
          ∙ shown

  all_have : (past rest : List Event) → HasBalances past → AllByRecursion (Contains (events h)) rest
      → HasBalances (past ++ rest)
  all_have past [] has inside = rw append-nil has
  all_have past (e ∷ rest) has inside =
      rw append_assoc at (all_have (past ++ e ∷ []) rest (one_more past e has inside.0) inside.1)

pub checked_books_hold_balances : CheckedBooksHoldBalances
checked_books_hold_balances h received id legal inside shown =
    all_have h id legal [] (checked received) (λ nothing. absurd (false≢true nothing))
    (checked_holds h received legal inside).inside shown
