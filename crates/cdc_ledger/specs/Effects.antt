-- What an entry does to the balances of its two accounts, in one form for every kind (for private contracts and the
-- laws).
use Rattle.std.specs.Prelude.{ℕ, ◌+◌, ◌-◌, ◌==◌, Option, Some, None, option_map, if◌then◌else◌}
use Rattle.cdc_types.specs.declared.accounts.Account.{Account}
use Rattle.cdc_types.specs.declared.accounts.Balances.{Balances}
use Rattle.cdc_types.specs.declared.events.Entry.{Entry}
use Rattle.cdc_types.specs.declared.events.EventKind.{EventKind}
use Rattle.cdc_types.specs.declared.events.EventKind.TheVariants.{SinglePhase, TwoPhasePending, TwoPhasePosted, TwoPhaseVoided, TwoPhaseExpired}
use Rattle.cdc_types.specs.declared.transfers.Transfer.{Transfer}
use Rattle.cdc_ledger.specs.Filling.{stored}
use Rattle.cdc_ledger.specs.History.{History}
use Rattle.cdc_ledger.specs.Kinds.{holds, moves}
-- what leaves the pending sums, what joins them, and what joins the posted ones: `released`, `held` and `moved`
pub use Rattle.cdc_ledger.specs.declared.movements.Effect.{Effect}

-- the pending transfer that an entry of this kind with this transfer settles, if it does
abbrev pub settled_in : EventKind → History → Transfer → Option Transfer
settled_in SinglePhase h x = None
settled_in TwoPhasePending h x = None
settled_in TwoPhasePosted h x = option_map (λ e. e.transfer) (stored h x.pending_id)
settled_in TwoPhaseVoided h x = option_map (λ e. e.transfer) (stored h x.pending_id)
settled_in TwoPhaseExpired h x = Some x

-- the same of an entry
abbrev pub settled_by : History → Entry → Option Transfer
settled_by h e = settled_in e.kind h e.transfer

-- the amount of a pending transfer, 0 if there is none
abbrev pub amount_of : Option Transfer → ℕ
amount_of None = 0
amount_of (Some p) = p.amount

-- what an entry does that settles this pending transfer, if any
abbrev pub effect_by : Option Transfer → Entry → Effect
effect_by p e = record {
  released = amount_of p;
  held = if holds e.kind then e.transfer.amount else 0;
  moved = if moves e.kind then e.transfer.amount else 0;
}

-- what an entry does after the history h
abbrev pub effect_of : History → Entry → Effect
effect_of h e = effect_by (settled_by h e) e

-- the amount, if the account is on this side of a transfer, otherwise 0
abbrev pub part : ℕ → ℕ → ℕ → ℕ
part side account amount = if side == account then amount else 0

-- the balances of an account after an effect on the accounts of these two ids, of which it may be either
abbrev pub balances_after : Effect → ℕ → ℕ → ℕ → Balances → Balances
balances_after f debit credit account sums = record {
  debits_pending = sums.debits_pending + part debit account f.held - part debit account f.released;
  debits_posted = sums.debits_posted + part debit account f.moved;
  credits_pending = sums.credits_pending + part credit account f.held - part credit account f.released;
  credits_posted = sums.credits_posted + part credit account f.moved;
}

-- the balances of an account after the entry e
abbrev pub balances_after_entry : History → Entry → ℕ → Balances → Balances
balances_after_entry h e = balances_after (effect_of h e) e.transfer.debit_account_id e.transfer.credit_account_id

-- the account after an effect
abbrev pub account_after : Effect → ℕ → ℕ → Account → Account
account_after f debit credit a = record a { balances = balances_after f debit credit a.id a.balances }
