-- A ledger's history: everything that it ever accepted.
use Rattle.std.specs.Prelude.{ℕ, Bool, false, ◌==◌, Option, List, [], find}
use Rattle.cdc_types.specs.declared.accounts.NewAccount.{NewAccount}
use Rattle.cdc_types.specs.declared.events.Entry.{Entry}

-- an account as it was opened (TigerBeetle, Account)
pub record Opened : Type 0 where
  pub request : NewAccount
  pub timestamp : ℕ

-- the accounts and the entries in the order of their timestamps, the last timestamp that was given out,
-- and whether the ledger takes no more
pub record History : Type 0 where
  pub accounts : List Opened
  pub entries : List Entry
  pub last : ℕ
  pub closed : Bool

-- nothing was accepted yet
abbrev pub empty_history : History
empty_history = record { accounts = []; entries = []; last = 0; closed = false }

-- the account of this id, if it was opened
abbrev pub opened : History → ℕ → Option Opened
opened h id = find (λ o. o.request.id == id) h.accounts
