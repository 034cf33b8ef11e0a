-- The events after one more entry or account, and their timestamps.
use Rattle.cdc_ledger.proofs.Words.{[], ◌++◌, ◌<◌, ◌∙◌, ◌∷◌, ◌≡◌, ◌≤◌, AllByRecursion, Balances, Entry, Event, HasAccounts, History, Opened, ap, ap₂, arith, balances, event_of, events, nobody, opened, shown_account, shown_transfer, unwrap_or}
use Rattle.std.specs.Prelude.{Option}
use Rattle.std.proofs.lemmas.List.{map_push}
use Rattle.cdc_ledger.proofs.Changes.{pushed, with_account, IsUpTo}
use Rattle.cdc_ledger.proofs.Elements.{AllByRecursion-weaker, map_same}
use Rattle.cdc_ledger.proofs.BalanceLaws.{balances-pushed_before}
use Rattle.cdc_ledger.proofs.OpenedLaws.{opened-with_account_same}

-- `events` reads the accounts and the entries alone, so a change of last or closed leaves it by computation

-- the event of an entry, by the accounts and their balances
abbrev event_with : Entry → Option Opened → Option Opened → Balances → Balances → Event
event_with e debit credit debits credits = record {
  timestamp = e.timestamp;
  kind = e.kind;
  ledger = e.transfer.ledger;
  transfer = shown_transfer e.transfer;
  debit_account = shown_account (unwrap_or debit nobody) debits;
  credit_account = shown_account (unwrap_or credit nobody) credits;
}

-- an event stays the same if the balances that it shows do
same_balances : (e : Entry) (d c : Option Opened) (s s' t t' : Balances) → s ≡ s' → t ≡ t'
    → event_with e d c s t ≡ event_with e d c s' t'
same_balances e d c s s' t t' p q = ap₂ (λ x y. event_with e d c x y) p q

-- an event stays the same if its two accounts do
same_accounts : (e : Entry) (d d' c c' : Option Opened) (s t : Balances) → d ≡ d' → c ≡ c'
    → event_with e d c s t ≡ event_with e d' c' s t
same_accounts e d d' c c' s t p q = ap₂ (λ x y. event_with e x y s t) p q

-- an entry after all others, of any kind
pub events-pushed : (h : History) (e : Entry) → IsUpTo h.last h → h.last < e.timestamp
    → events (pushed h e) ≡ events h ++ event_of (pushed h e) e ∷ []
events-pushed h e within after =
    map_push (event_of (pushed h e)) h.entries e
    ∙ ap (λ xs. xs ++ event_of (pushed h e) e ∷ []) (map_same (event_of (pushed h e)) (event_of h) h.entries
    (AllByRecursion-weaker (λ x. x.timestamp ≤ h.last) (λ x. event_of (pushed h e) x ≡ event_of h x)
    (λ x at. same_balances x (opened h x.transfer.debit_account_id) (opened h x.transfer.credit_account_id) _ _ _ _
    (balances-pushed_before h e x.transfer.debit_account_id x.timestamp (omega arith))
    (balances-pushed_before h e x.transfer.credit_account_id x.timestamp (omega arith)))
    h.entries within))

-- one more account leaves the events as they are, if the accounts of each entry already existed
pub events-with_account : (h : History) (o : Opened) → AllByRecursion (HasAccounts h) h.entries
    → events (with_account h o) ≡ events h
events-with_account h o known = map_same (event_of (with_account h o)) (event_of h) h.entries
    (AllByRecursion-weaker (HasAccounts h) (λ e. event_of (with_account h o) e ≡ event_of h e)
    (λ e has. same_accounts e _ _ _ _ (balances h e.transfer.debit_account_id e.timestamp)
    (balances h e.transfer.credit_account_id e.timestamp)
    (opened-with_account_same h o e.transfer.debit_account_id has.0)
    (opened-with_account_same h o e.transfer.credit_account_id has.1))
    h.entries known)
