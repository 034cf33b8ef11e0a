-- An entry and the indices of its two accounts, in relation to a history (for private contracts).
use Rattle.std.specs.Prelude.{ℕ, ◌+◌, ◌-◌, ◌<◌, ◌≤◌, ◌^◌, ◌≡◌, ◌==◌, Option, Some, None, option_map, IfSome, List, map, position, slice_get}
use Rattle.cdc_types.specs.declared.accounts.Account.{Account}
use Rattle.cdc_types.specs.declared.events.Entry.{Entry}
use Rattle.cdc_types.specs.declared.transfers.NewTransfer.{NewTransfer}
use Rattle.cdc_types.specs.declared.transfers.Transfer.{Transfer}
use Rattle.cdc_types.specs.Lines.{first_line}
use Rattle.cdc_ledger.specs.declared.movements.Movement.{Movement}
use Rattle.cdc_ledger.specs.Effects.{Effect, effect_by, settled_by, account_after}
use Rattle.cdc_ledger.specs.Events.{accounts_now}
use Rattle.cdc_ledger.specs.Filling.{stored}
use Rattle.cdc_ledger.specs.Follows.{Follows}
use Rattle.cdc_ledger.specs.History.{History}
use Rattle.cdc_ledger.specs.Submit.{entry_of}
use Rattle.cdc_ledger.specs.Verdict.{transfer_lines}

-- the account of this id is at this index
abbrev pub IsPlace : List Account → ℕ → ℕ → Type 0
IsPlace accounts id place = position (λ a. a.id == id) accounts ≡ Some place

-- the pending transfer that the movement settles, if it settles one
abbrev pub settled_transfer : Movement → Option Transfer
settled_transfer m = option_map (λ p. p.transfer) m.settled

-- what the movement does to its two accounts
abbrev pub effect_of_movement : Movement → Effect
effect_of_movement m = effect_by (settled_transfer m) m.entry

-- the entry that stored the transfer of this id is at this index
abbrev pub IsStoredAt : History → ℕ → ℕ → Type 0
IsStoredAt h id place = (e : Entry) × (slice_get h.entries place ≡ Some e) × (stored h id ≡ Some e)

-- both accounts of the movement are at its indices
pub record IsPlaced (accounts : List Account) (m : Movement) : Type 0 where
  pub debit : IsPlace accounts m.entry.transfer.debit_account_id m.debit
  pub credit : IsPlace accounts m.entry.transfer.credit_account_id m.credit

-- the movement is that of its entry after the history: it knows the places of its two accounts, and the pending
-- transfer that it settles with the place of its entry
pub record IsMovement (h : History) (m : Movement) : Type 0 where
  pub placed : IsPlaced (accounts_now h) m
  pub settled : settled_transfer m ≡ settled_by h m.entry
  pub found : IfSome m.settled (λ p. IsStoredAt h p.transfer.id p.place)

-- no line refuses the request at the timestamp n, and the movement is that of its entry, which may come next
pub record IsValidated (h : History) (r : NewTransfer) (n : ℕ) (m : Movement) : Type 0 where
  pub unrefused : first_line (transfer_lines h r n) ≡ None
  pub entry : m.entry ≡ entry_of h r n
  pub movement : IsMovement h m
  pub follows : Follows h m.entry

-- one side's sums take the effect: what is released is there, and what is added fits 128 bits
pub record SideFits (f : Effect) (pending posted : ℕ) : Type 0 where
  pub released : f.released ≤ pending
  pub held : pending + f.held < 2 ^ 128 + f.released
  pub moved : posted + f.moved < 2 ^ 128

-- the account that is debited, and the one that is credited, after the effect
abbrev pub debited_account : Effect → Account → Account
debited_account f a = record a {
  balances = record a.balances {
    debits_pending = a.balances.debits_pending + f.held - f.released;
    debits_posted = a.balances.debits_posted + f.moved;
  };
}

-- the same on its credit side
abbrev pub credited_account : Effect → Account → Account
credited_account f a = record a {
  balances = record a.balances {
    credits_pending = a.balances.credits_pending + f.held - f.released;
    credits_posted = a.balances.credits_posted + f.moved;
  };
}

-- the balances of an account can take the effect, if it is one of the two accounts
abbrev pub Takes : Effect → ℕ → ℕ → Account → Type 0
Takes f debit credit a =
    (a.id ≡ debit → SideFits f a.balances.debits_pending a.balances.debits_posted)
    × (a.id ≡ credit → SideFits f a.balances.credits_pending a.balances.credits_posted)

-- the ids of accounts
abbrev pub account_ids : List Account → List ℕ
account_ids accounts = map (λ a. a.id) accounts

-- the accounts after the movement
abbrev pub accounts_after : Movement → List Account → List Account
accounts_after m =
    map (account_after (effect_of_movement m) m.entry.transfer.debit_account_id m.entry.transfer.credit_account_id)
