-- Short streams of events, for examples.
use Rattle.std.specs.Prelude.{ℕ, ◌+◌, List, [], ◌∷◌}
use Rattle.cdc_types.specs.declared.events.Event.{Event}
use Rattle.cdc_types.specs.declared.events.EventAccount.{EventAccount}
use Rattle.cdc_types.specs.declared.events.EventKind.{EventKind}
use Rattle.cdc_types.specs.declared.events.EventKind.TheVariants.{SinglePhase, TwoPhasePending, TwoPhasePosted, TwoPhaseVoided, TwoPhaseExpired}

-- an account as an event shows it
abbrev pub account : ℕ → ℕ → ℕ → ℕ → ℕ → EventAccount
account id debits_pending debits_posted credits_pending credits_posted = record {
  id = id;
  debits_pending = debits_pending;
  debits_posted = debits_posted;
  credits_pending = credits_pending;
  credits_posted = credits_posted;
  user_data_128 = 0;
  user_data_64 = 0;
  user_data_32 = 0;
  code = 10;
  flags = 0;
  timestamp = 1000 + id;
}

-- the flags of a transfer of this kind of event
abbrev pub flags_of : EventKind → ℕ
flags_of SinglePhase = 0
flags_of TwoPhasePending = 2
flags_of TwoPhasePosted = 4
flags_of TwoPhaseVoided = 8
flags_of TwoPhaseExpired = 2

-- an event of this kind: its timestamp, the transfer's id and pending id, its amount, and the two accounts
abbrev pub event : EventKind → ℕ → ℕ → ℕ → ℕ → EventAccount → EventAccount → Event
event kind timestamp id pending_id amount debit credit = record {
  timestamp = timestamp;
  kind = kind;
  ledger = 700;
  transfer = record {
    id = id;
    amount = amount;
    pending_id = pending_id;
    user_data_128 = 0;
    user_data_64 = 0;
    user_data_32 = 0;
    timeout = 0;
    code = 1;
    flags = flags_of kind;
    timestamp = timestamp;
  };
  debit_account = debit;
  credit_account = credit;
}

-- account 1 pays 10 to account 2, and then 5
abbrev pub first : Event
first = event SinglePhase 2001 1 0 10 (account 1 0 10 0 0) (account 2 0 0 0 10)

abbrev pub second : Event
second = event SinglePhase 2002 2 0 5 (account 1 0 15 0 0) (account 2 0 0 0 15)

-- account 2 pays 3 to account 3, and account 4 pays 7 to account 5
abbrev pub third : Event
third = event SinglePhase 2003 3 0 3 (account 2 0 3 0 15) (account 3 0 0 0 3)

abbrev pub elsewhere : Event
elsewhere = event SinglePhase 2004 4 0 7 (account 4 0 7 0 0) (account 5 0 0 0 7)

-- account 1 pays nothing to account 2; it pays 1
abbrev pub nothing : Event
nothing = event SinglePhase 2005 5 0 0 (account 1 0 15 0 0) (account 2 0 3 0 15)

abbrev pub fourth : Event
fourth = event SinglePhase 2006 6 0 1 (account 1 0 16 0 0) (account 2 0 3 0 16)

abbrev pub all : List Event
all = first ∷ second ∷ third ∷ elsewhere ∷ nothing ∷ fourth ∷ []

-- account 1 holds 5 for account 2, which is then voided or posted in part
abbrev pub holding : Event
holding = event TwoPhasePending 2002 2 0 5 (account 1 5 10 0 0) (account 2 0 0 5 10)

abbrev pub voiding : Event
voiding = event TwoPhaseVoided 2003 3 2 5 (account 1 0 10 0 0) (account 2 0 0 0 10)

abbrev pub posting : Event
posting = event TwoPhasePosted 2003 3 2 4 (account 1 0 14 0 0) (account 2 0 0 0 14)

abbrev pub after_void : Event
after_void = event SinglePhase 2004 4 0 1 (account 1 0 11 0 0) (account 2 0 0 0 11)

abbrev pub after_post : Event
after_post = event SinglePhase 2004 4 0 1 (account 1 0 15 0 0) (account 2 0 0 0 15)

-- account 1 holds 5 for account 2, voids that, holds 5 again, pays 1, and voids the second one
abbrev pub hold_one : Event
hold_one = event TwoPhasePending 2001 1 0 5 (account 1 5 0 0 0) (account 2 0 0 5 0)

abbrev pub void_one : Event
void_one = event TwoPhaseVoided 2002 2 1 5 (account 1 0 0 0 0) (account 2 0 0 0 0)

abbrev pub hold_other : Event
hold_other = event TwoPhasePending 2003 3 0 5 (account 1 5 0 0 0) (account 2 0 0 5 0)

abbrev pub pays : Event
pays = event SinglePhase 2004 4 0 1 (account 1 5 1 0 0) (account 2 0 0 5 1)

abbrev pub void_other : Event
void_other = event TwoPhaseVoided 2005 5 3 5 (account 1 0 1 0 0) (account 2 0 0 0 1)

-- after it account 1 pays 1 more
abbrev pub pays_again : Event
pays_again = event SinglePhase 2006 6 0 1 (account 1 0 2 0 0) (account 2 0 0 0 2)

-- account 1 has 5 held for account 2; it pays 1, holds 3 more, and posts 2 of the first 5
abbrev pub pays_late : Event
pays_late = event SinglePhase 2002 2 0 1 (account 1 5 1 0 0) (account 2 0 0 5 1)

abbrev pub holds_more : Event
holds_more = event TwoPhasePending 2003 3 0 3 (account 1 8 1 0 0) (account 2 0 0 8 1)

abbrev pub posts_some : Event
posts_some = event TwoPhasePosted 2004 4 1 2 (account 1 3 3 0 0) (account 2 0 0 3 3)
