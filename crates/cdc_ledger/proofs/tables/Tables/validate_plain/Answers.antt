use Rattle.cdc_ledger.proofs.Words.{◌∙◌, ◌≡◌, Account, Entry, EventKind, IsPlace, Transfer, account_with, accounts_now, ap₂, entry_of, get_or, no_balances, nobody, sym}
use Rattle.cdc_ledger.proofs.Validated.{IsOpened-place, IsValidated-from, unopened-no_place, bounded-opened, first_line-plain, first_line-between, first_line-no_debit, first_line-no_credit, filled-plain, settled-plain}
use Rattle.cdc_ledger.proofs.tables.Tables.validate_plain.Goals as goal

-- the value that is read past the last account
abbrev no_account : Account
no_account = account_with nobody no_balances

pub returns-in_default : goal.returns-in_default
returns-in_default c =
    let h = c.args.self.now.history in
    let r = c.args.request.now in
    first_line-plain h r c.args.timestamp c.requires.shape c.requires.unknown c.requires.plain
    ∙ first_line-no_debit h r c.args.timestamp
    (unopened-no_place h r.debit_account_id (sym c.account_place.ensures ∙ c.in_default.is))

pub returns-in_default-account_place : goal.returns-in_default-account_place
returns-in_default-account_place c =
    let h = c.args.self.now.history in
    let r = c.args.request.now in
    let xs = c.accounts-accounts.result.now in
    let same = c.accounts-accounts.ensures.accounts in
    first_line-plain h r c.args.timestamp c.requires.shape c.requires.unknown c.requires.plain
    ∙ first_line-no_credit h r c.args.timestamp (get_or xs c.in-Some.debit no_account)
    (IsOpened-place h r.debit_account_id xs same c.in-Some.debit no_account
    (sym c.account_place.ensures ∙ c.in-Some.is))
    (unopened-no_place h r.credit_account_id (sym c.account_place-2.ensures ∙ c.in_default-account_place.is))

pub refusal_between-requires : goal.refusal_between-requires
refusal_between-requires c =
    let h = c.args.self.now.history in
    let r = c.args.request.now in
    let xs = c.accounts-accounts.result.now in
    let same = c.accounts-accounts.ensures.accounts in
    let i = c.in-Some.debit in
    let j = c.in-Some-account_place.credit in
    let bounded = c.accounts-accounts.ensures.sound.bounded in
    record {
      debited = bounded-opened h r.debit_account_id (get_or xs i no_account)
          (IsOpened-place h r.debit_account_id xs same i no_account (sym c.account_place.ensures ∙ c.in-Some.is))
          bounded;
      credited = bounded-opened h r.credit_account_id (get_or xs j no_account)
          (IsOpened-place h r.credit_account_id xs same j no_account
          (sym c.account_place-2.ensures ∙ c.in-Some-account_place.is))
          bounded;
      within = c.requires.within;
    }

-- the two accounts are there, and what lies between them refuses the request
pub returns-in-Some-refusal_between : goal.returns-in-Some-refusal_between
returns-in-Some-refusal_between c =
    let h = c.args.self.now.history in
    let r = c.args.request.now in
    let n = c.args.timestamp in
    let xs = c.accounts-accounts.result.now in
    let same = c.accounts-accounts.ensures.accounts in
    let i = c.in-Some.debit in
    let j = c.in-Some-account_place.credit in
    first_line-plain h r n c.requires.shape c.requires.unknown c.requires.plain
    ∙ first_line-between h r n (get_or xs i no_account) (get_or xs j no_account)
    c.accounts-accounts.ensures.sound.past c.requires.later
    (IsOpened-place h r.debit_account_id xs same i no_account (sym c.account_place.ensures ∙ c.in-Some.is))
    (IsOpened-place h r.credit_account_id xs same j no_account
    (sym c.account_place-2.ensures ∙ c.in-Some-account_place.is))
    ∙ sym c.refusal_between.ensures ∙ c.in-Some-refusal_between.is

pub returns : goal.returns
returns c =
    let h = c.args.self.now.history in
    let r = c.args.request.now in
    let n = c.args.timestamp in
    let xs = c.accounts-accounts.result.now in
    let same = c.accounts-accounts.ensures.accounts in
    let i = c.in-Some.debit in
    let j = c.in-Some-account_place.credit in
    let debit : IsPlace (accounts_now h) r.debit_account_id i = sym c.account_place.ensures ∙ c.in-Some.is in
    let credit : IsPlace (accounts_now h) r.credit_account_id j =
    sym c.account_place-2.ensures ∙ c.in-Some-account_place.is in
    let made : EventKind → Transfer → Entry = λ kind x. record { timestamp = n; kind = kind; transfer = x } in
    let entry : made c.kind_of.result c.as_asked.result ≡ entry_of h r n =
    ap₂ made c.kind_of.ensures (c.as_asked.ensures ∙ sym (filled-plain h r n c.requires.plain)) in
    let unrefused = first_line-plain h r n c.requires.shape c.requires.unknown c.requires.plain
    ∙ first_line-between h r n (get_or xs i no_account) (get_or xs j no_account)
    c.accounts-accounts.ensures.sound.past c.requires.later
    (IsOpened-place h r.debit_account_id xs same i no_account debit)
    (IsOpened-place h r.credit_account_id xs same j no_account credit)
    ∙ sym c.refusal_between.ensures ∙ c.in_default-refusal_between.is in
    IsValidated-from h r n _ c.accounts-accounts.ensures.sound c.requires.later unrefused entry
    (record { debit = rw c.as_asked.ensures debit; credit = rw c.as_asked.ensures credit })
    (sym (settled-plain h r n c.requires.plain)) tt
