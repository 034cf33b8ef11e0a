-- The balances of an account, as sums over the entries (TigerBeetle, Account and Two-Phase Transfers).
use Rattle.std.specs.Prelude.{ℕ, ◌+◌, ◌≤◌, Bool, ◌==◌, ◌&&◌, ◌||◌, not, nat_le, if◌then◌else◌, sum_by}
use Rattle.std.specs.List.{list_any}
use Rattle.cdc_types.specs.declared.accounts.Balances.{Balances}
use Rattle.cdc_types.specs.declared.events.Entry.{Entry}
use Rattle.cdc_types.specs.declared.transfers.Transfer.{Transfer}
use Rattle.cdc_types.specs.Widths.{max_128}
use Rattle.cdc_ledger.specs.History.{History}
use Rattle.cdc_ledger.specs.Kinds.{holds, moves, posts, voids, expires}

-- the entry is a post, a void or the expiry of the pending transfer p
abbrev pub resolves : Transfer → Entry → Bool
resolves p e = posts e.kind e.transfer p || voids e.kind e.transfer p || expires e.kind e.transfer p

-- the test holds for some entry up to the timestamp t
abbrev pub some_by : History → ℕ → (Entry → Bool) → Bool
some_by h t test = list_any (λ e. nat_le e.timestamp t && test e) h.entries

-- some entry up to the timestamp t resolves the pending transfer p
abbrev pub resolved : History → Transfer → ℕ → Bool
resolved h p t = some_by h t (resolves p)

-- the amount that the entry still holds back at the timestamp t
abbrev pub held_amount : History → ℕ → Entry → ℕ
held_amount h t e = if holds e.kind && not (resolved h e.transfer t) then e.transfer.amount else 0

-- what the entry moved for good
abbrev pub moved_amount : Entry → ℕ
moved_amount e = if moves e.kind then e.transfer.amount else 0

-- the amount of an entry that is no later than the timestamp t and has the account on this side, otherwise 0
abbrev pub share : (Entry → ℕ) → (Transfer → ℕ) → ℕ → ℕ → Entry → ℕ
share amount side account t e = if nat_le e.timestamp t && (side e.transfer == account) then amount e else 0

-- the account that a transfer debits
abbrev pub debit_side : Transfer → ℕ
debit_side x = x.debit_account_id

-- the account that it credits
abbrev pub credit_side : Transfer → ℕ
credit_side x = x.credit_account_id

-- the balances of an account at the timestamp t
abbrev pub balances : History → ℕ → ℕ → Balances
balances h account t = record {
  debits_pending = sum_by (share (held_amount h t) debit_side account t) h.entries;
  debits_posted = sum_by (share moved_amount debit_side account t) h.entries;
  credits_pending = sum_by (share (held_amount h t) credit_side account t) h.entries;
  credits_posted = sum_by (share moved_amount credit_side account t) h.entries;
}

-- the balances at the timestamp t, as a function of the account's id
abbrev pub as_of : History → ℕ → ℕ → Balances
as_of h t = λ account. balances h account t

-- the sums of each account fit 128 bits, on each side pending and posted together
abbrev pub IsBounded : History → Type 0
IsBounded h =
    (id : ℕ) → ((balances h id h.last).debits_pending + (balances h id h.last).debits_posted ≤ max_128)
    × ((balances h id h.last).credits_pending + (balances h id h.last).credits_posted ≤ max_128)
