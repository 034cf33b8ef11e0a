-- The accounts with their balances after each change.
use Rattle.cdc_ledger.proofs.Words.{[], ◌++◌, ◌<◌, ◌∙◌, ◌∷◌, ◌≡◌, ◌≤◌, Account, AllByRecursion, Entry, Follows, HasAccounts, History, IsSound, List, None, Opened, account_now, account_with, accounts_now, ap, ap₂, map, opened, sym, ℕ}
use Rattle.std.proofs.lemmas.List.{map_push}
use Rattle.cdc_ledger.proofs.Changes.{pushed, with_account, timed, IsUpTo, account_after, effect_of, no_balances}
use Rattle.cdc_ledger.proofs.Elements.{AllByRecursion-every, map_same, map-map}
use Rattle.cdc_ledger.proofs.BalanceLaws.{balances_later, balances-pushed, balances_none}

-- two views of a list of accounts are equal if they agree on each account, so balances can be compared one by one
map_every : (f g : Opened → Account) → ((o : Opened) → f o ≡ g o) → (os : List Opened) → map f os ≡ map g os
map_every f g same os = map_same f g os (AllByRecursion-every (λ o. f o ≡ g o) same os)

-- a refused request takes its timestamp and leaves the balances of all accounts
pub accounts_now-timed : (h : History) (t : ℕ) → IsUpTo h.last h → h.last ≤ t
    → accounts_now (timed h t) ≡ accounts_now h
accounts_now-timed h t within later = map_every (account_now (timed h t)) (account_now h)
    (λ o. ap (account_with o) (balances_later h o.request.id h.last t within later)) h.accounts

-- the account after the entry e
abbrev pub account_after_entry : History → Entry → Account → Account
account_after_entry h e = account_after (effect_of h e) e.transfer.debit_account_id e.transfer.credit_account_id

-- an entry changes all accounts as the code changes its running balances
pub accounts_now-pushed : (h : History) (e : Entry) → IsSound h → Follows h e → h.last < e.timestamp
    → accounts_now (pushed h e) ≡ map (account_after_entry h e) (accounts_now h)
accounts_now-pushed h e sound follows after =
    map_every (account_now (pushed h e)) (λ o. account_after_entry h e (account_now h o))
    (λ o. ap (account_with o) (balances-pushed h e o.request.id sound follows after)) h.accounts
    ∙ sym (map-map (account_after_entry h e) (account_now h) h.accounts)

-- a new account comes last, without any amount, and the others keep their balances
pub accounts_now-with_account : (h : History) (o : Opened) → IsUpTo h.last h → AllByRecursion (HasAccounts h) h.entries
    → opened h o.request.id ≡ None → h.last ≤ o.timestamp
    → accounts_now (with_account h o) ≡ accounts_now h ++ account_with o no_balances ∷ []
accounts_now-with_account h o within known free later =
    map_push (account_now (with_account h o)) h.accounts o
    ∙ ap₂ (λ xs x. xs ++ x ∷ [])
    (map_every (account_now (with_account h o)) (account_now h)
    (λ x. ap (account_with x) (balances_later h x.request.id h.last o.timestamp within later)) h.accounts)
    (ap (account_with o) (balances_none h o.request.id o.timestamp known free))
