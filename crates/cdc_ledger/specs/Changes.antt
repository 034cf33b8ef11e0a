-- The changes of a history, one at a time.
use Rattle.std.specs.Prelude.{ℕ, ◌++◌, [], ◌∷◌}
use Rattle.cdc_types.specs.declared.events.Entry.{Entry}
use Rattle.cdc_types.specs.declared.events.EventKind.TheVariants.{TwoPhaseExpired}
use Rattle.cdc_types.specs.declared.transfers.Transfer.{Transfer}
use Rattle.cdc_ledger.specs.History.{Opened, History}

-- one more entry, at its timestamp
abbrev pub pushed : History → Entry → History
pushed h e = record h { entries = h.entries ++ e ∷ []; last = e.timestamp }

-- one more account, at its timestamp
abbrev pub with_account : History → Opened → History
with_account h o = record h { accounts = h.accounts ++ o ∷ []; last = o.timestamp }

-- a timestamp is taken, and nothing else
abbrev pub timed : History → ℕ → History
timed h t = record h { last = t }

-- the entry by which the pending transfer p expires at the timestamp t
abbrev pub expiry : Transfer → ℕ → Entry
expiry p t = record { timestamp = t; kind = TwoPhaseExpired; transfer = p }
