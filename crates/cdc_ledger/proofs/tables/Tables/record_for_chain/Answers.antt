use Rattle.cdc_ledger.proofs.Words.{◌<◌, ◌≡◌, Account, History, IsPlace, List, Some, account_with, accounts_now, ap, get_or, length, no_balances, nobody, slice_get, ℕ}
use Rattle.std.proofs.lemmas.Option.{slice_get-get_or}
use Rattle.cdc_ledger.proofs.AccountPlaces.{place-inside}
use Rattle.cdc_ledger.proofs.tables.Tables.record_for_chain.Goals as goal

-- the account at the place of an id, among those that the tables keep
module _ (h : History) (xs : List Account) (same : xs ≡ accounts_now h) (id place : ℕ)
    (at : IsPlace (accounts_now h) id place) where
  -- the value that is read past the last account
  abbrev no_account : Account
  no_account = account_with nobody no_balances

  -- reading it is in bounds
  inside : place < length xs
  inside = rw same (place-inside (accounts_now h) id place no_account at)

  -- and gives that account
  read : slice_get (accounts_now h) place ≡ Some (get_or xs place no_account)
  read = rw same (slice_get-get_or (accounts_now h) place no_account
      (place-inside (accounts_now h) id place no_account at))

pub bounds-accounts-movement : goal.bounds-accounts-movement
bounds-accounts-movement c =
    inside c.args.self.now.history c.accounts-accounts.result.now c.accounts-accounts.ensures.accounts
    c.args.movement.now.entry.transfer.debit_account_id c.args.movement.now.debit c.requires.movement.placed.debit

pub bounds-accounts-movement-2 : goal.bounds-accounts-movement-2
bounds-accounts-movement-2 c =
    inside c.args.self.now.history c.accounts-accounts.result.now c.accounts-accounts.ensures.accounts
    c.args.movement.now.entry.transfer.credit_account_id c.args.movement.now.credit
    c.requires.movement.placed.credit

pub record-requires : goal.record-requires
record-requires c = record {
  later = c.requires.later;
  within = c.requires.within;
  follows = c.requires.follows;
  movement = c.requires.movement;
  room = c.requires.room;
  place_room = λ stored. c.requires.place_room;
}

pub returns-clause-recorded : goal.returns-clause-recorded
returns-clause-recorded c = record {
  sound = c.accounts-accounts.ensures.sound;
  follows = c.requires.follows;
  later = c.requires.later;
  within = c.requires.within;
  movement = c.requires.movement;
  place = ap length c.entries-place.ensures.entries;
  last = c.last-last.ensures.last;
  debit = read c.args.self.now.history c.accounts-accounts.result.now c.accounts-accounts.ensures.accounts
      c.args.movement.now.entry.transfer.debit_account_id c.args.movement.now.debit c.requires.movement.placed.debit;
  credit = read c.args.self.now.history c.accounts-accounts.result.now c.accounts-accounts.ensures.accounts
      c.args.movement.now.entry.transfer.credit_account_id c.args.movement.now.credit
      c.requires.movement.placed.credit;
  event = c.record.ensures.event;
}

pub returns-clause-history : goal.returns-clause-history
returns-clause-history c = c.record.ensures.history
