-- The widths of what is read from a line.
use Rattle.std.proofs.Common.{◌≡◌, ◌≤◌, ◌<◌, ◌^◌, ◌-◌, ℕ, Bool, true, false, nat_le, cond, Ok, Err, Result}
use Rattle.std.proofs.Common.{refl, subst, arith}
use Rattle.std.proofs.lemmas.Bool.{leb-true}
use Rattle.serde_json.specs.Data.{Data}
use Rattle.cdc_types.specs.declared.events.Event.{Event}
use Rattle.cdc_types.specs.declared.events.EventTransfer.{EventTransfer}
use Rattle.cdc_types.specs.declared.events.EventAccount.{EventAccount}
use Rattle.cdc_message.specs.declared.fields.Field.{Field}
use Rattle.cdc_message.specs.declared.fields.Part.{Part}
use Rattle.cdc_message.specs.declared.fields.Part.TheVariants.{Top, Transfer, Debit, Credit}
use Rattle.cdc_message.specs.declared.fields.FieldName.TheVariants as name
use Rattle.cdc_message.specs.Fields.{field}
use Rattle.cdc_message.specs.Reading.{Read, ◌>>=◌, typed, whole_number, up_to, member_at, number_at, number_up_to}
use Rattle.cdc_message.specs.Reading.{account_at, account_of, event_of, is_object, kind_at, members_of, part_at}
use Rattle.cdc_message.specs.Reading.{transfer_at, transfer_of}
use Rattle.cdc_message.specs.Widths.{AccountFits, EventFits, TransferFits}

-- what was read in the end was read of something that was read before
goes_on : {A B : Type 0} (read : Read A) (rest : A → Read B) (b : B) → (read >>= rest) ≡ Ok b
    → (a : A) × (read ≡ Ok a) × (rest a ≡ Ok b)
goes_on (Ok a) rest b is = (a, refl, is)
goes_on (Err why) rest b is = absurd cc

pub same_value : {B E : Type 0} {a b : B} → ◌≡◌ {A = Result B E} (Ok a) (Ok b) → a ≡ b
same_value is = cc

-- a choice that gave a value
pub chosen : {A E : Type 0} (b : Bool) (read : Result A E) (why : E) (a : A) → cond b read (Err why) ≡ Ok a
    → (b ≡ true) × (read ≡ Ok a)
chosen true read why a is = (refl, is)
chosen false read why a is = absurd cc

up_to_fits : (most : ℕ) (at : Field) (m n : ℕ) → up_to most at m ≡ Ok n → n ≤ most
up_to_fits most at m n is =
    let both = chosen (nat_le m most) (Ok m) _ n is in
    let same : m ≡ n = same_value both.1 in
    omega (arith, leb-true m most both.0, same)

-- a number is at most the greatest one of its field
number_fits : (most : ℕ) (at : Field) (value : Data) (n : ℕ) → number_up_to most at value ≡ Ok n → n ≤ most
number_fits most at value n is =
    let found = goes_on (member_at at value) _ n is in
    let whole = goes_on (typed at (whole_number found.0)) (up_to most at) n found.2 in
    up_to_fits most at whole.0 n whole.2

fits-16 : (at : Field) (value : Data) (n : ℕ) → number_at 16 at value ≡ Ok n → n < 2 ^ 16
fits-16 at value n is = let most = number_fits (2 ^ 16 - 1) at value n is in omega (arith, most)

fits-32 : (at : Field) (value : Data) (n : ℕ) → number_at 32 at value ≡ Ok n → n < 2 ^ 32
fits-32 at value n is = let most = number_fits (2 ^ 32 - 1) at value n is in omega (arith, most)

fits-64 : (at : Field) (value : Data) (n : ℕ) → number_at 64 at value ≡ Ok n → n < 2 ^ 64
fits-64 at value n is = let most = number_fits (2 ^ 64 - 1) at value n is in omega (arith, most)

fits-128 : (at : Field) (value : Data) (n : ℕ) → number_at 128 at value ≡ Ok n → n < 2 ^ 128
fits-128 at value n is = let most = number_fits (2 ^ 128 - 1) at value n is in omega (arith, most)

transfer_fits : (value : Data) (t : EventTransfer) → transfer_of value ≡ Ok t → TransferFits t
transfer_fits value t is =
    let id = goes_on (number_at 128 (field Transfer name.Id) value) _ t is in
    let amount = goes_on (number_at 128 (field Transfer name.Amount) value) _ t id.2 in
    let pending_id = goes_on (number_at 128 (field Transfer name.PendingId) value) _ t amount.2 in
    let user_data_128 = goes_on (number_at 128 (field Transfer name.UserData128) value) _ t pending_id.2 in
    let user_data_64 = goes_on (number_at 64 (field Transfer name.UserData64) value) _ t user_data_128.2 in
    let user_data_32 = goes_on (number_at 32 (field Transfer name.UserData32) value) _ t user_data_64.2 in
    let timeout = goes_on (number_at 32 (field Transfer name.Timeout) value) _ t user_data_32.2 in
    let code = goes_on (number_at 16 (field Transfer name.Code) value) _ t timeout.2 in
    let flags = goes_on (number_at 16 (field Transfer name.Flags) value) _ t code.2 in
    let timestamp = goes_on (number_at 64 (field Transfer name.Timestamp) value) _ t flags.2 in
    let same = same_value timestamp.2 in
    subst TransferFits same (record {
      id = fits-128 (field Transfer name.Id) value id.0 id.1;
      amount = fits-128 (field Transfer name.Amount) value amount.0 amount.1;
      pending_id = fits-128 (field Transfer name.PendingId) value pending_id.0 pending_id.1;
      user_data_128 = fits-128 (field Transfer name.UserData128) value user_data_128.0 user_data_128.1;
      user_data_64 = fits-64 (field Transfer name.UserData64) value user_data_64.0 user_data_64.1;
      user_data_32 = fits-32 (field Transfer name.UserData32) value user_data_32.0 user_data_32.1;
      timeout = fits-32 (field Transfer name.Timeout) value timeout.0 timeout.1;
      code = fits-16 (field Transfer name.Code) value code.0 code.1;
      flags = fits-16 (field Transfer name.Flags) value flags.0 flags.1;
      timestamp = fits-64 (field Transfer name.Timestamp) value timestamp.0 timestamp.1;
    })

account_fits : (part : Part) (value : Data) (a : EventAccount) → account_of part value ≡ Ok a → AccountFits a
account_fits part value a is =
    let id = goes_on (number_at 128 (field part name.Id) value) _ a is in
    let debits_pending = goes_on (number_at 128 (field part name.DebitsPending) value) _ a id.2 in
    let debits_posted = goes_on (number_at 128 (field part name.DebitsPosted) value) _ a debits_pending.2 in
    let credits_pending = goes_on (number_at 128 (field part name.CreditsPending) value) _ a debits_posted.2 in
    let credits_posted = goes_on (number_at 128 (field part name.CreditsPosted) value) _ a credits_pending.2 in
    let user_data_128 = goes_on (number_at 128 (field part name.UserData128) value) _ a credits_posted.2 in
    let user_data_64 = goes_on (number_at 64 (field part name.UserData64) value) _ a user_data_128.2 in
    let user_data_32 = goes_on (number_at 32 (field part name.UserData32) value) _ a user_data_64.2 in
    let code = goes_on (number_at 16 (field part name.Code) value) _ a user_data_32.2 in
    let flags = goes_on (number_at 16 (field part name.Flags) value) _ a code.2 in
    let timestamp = goes_on (number_at 64 (field part name.Timestamp) value) _ a flags.2 in
    let same = same_value timestamp.2 in
    subst AccountFits same (record {
      id = fits-128 (field part name.Id) value id.0 id.1;
      debits_pending = fits-128 (field part name.DebitsPending) value debits_pending.0 debits_pending.1;
      debits_posted = fits-128 (field part name.DebitsPosted) value debits_posted.0 debits_posted.1;
      credits_pending = fits-128 (field part name.CreditsPending) value credits_pending.0 credits_pending.1;
      credits_posted = fits-128 (field part name.CreditsPosted) value credits_posted.0 credits_posted.1;
      user_data_128 = fits-128 (field part name.UserData128) value user_data_128.0 user_data_128.1;
      user_data_64 = fits-64 (field part name.UserData64) value user_data_64.0 user_data_64.1;
      user_data_32 = fits-32 (field part name.UserData32) value user_data_32.0 user_data_32.1;
      code = fits-16 (field part name.Code) value code.0 code.1;
      flags = fits-16 (field part name.Flags) value flags.0 flags.1;
      timestamp = fits-64 (field part name.Timestamp) value timestamp.0 timestamp.1;
    })

members_fit : (value : Data) (e : Event) → members_of value ≡ Ok e → EventFits e
members_fit value e is =
    let timestamp = goes_on (number_at 64 (field Top name.Timestamp) value) _ e is in
    let kind = goes_on (kind_at value) _ e timestamp.2 in
    let ledger = goes_on (number_at 32 (field Top name.Ledger) value) _ e kind.2 in
    let transfer = goes_on (transfer_at value) _ e ledger.2 in
    let debit = goes_on (account_at name.DebitAccount Debit value) _ e transfer.2 in
    let credit = goes_on (account_at name.CreditAccount Credit value) _ e debit.2 in
    let transfer-part = goes_on (part_at name.TransferPart value) transfer_of transfer.0 transfer.1 in
    let debit-part = goes_on (part_at name.DebitAccount value) (account_of Debit) debit.0 debit.1 in
    let credit-part = goes_on (part_at name.CreditAccount value) (account_of Credit) credit.0 credit.1 in
    subst EventFits (same_value credit.2) (record {
      timestamp = fits-64 (field Top name.Timestamp) value timestamp.0 timestamp.1;
      ledger = fits-32 (field Top name.Ledger) value ledger.0 ledger.1;
      transfer = transfer_fits transfer-part.0 transfer.0 transfer-part.2;
      debit_account = account_fits Debit debit-part.0 debit.0 debit-part.2;
      credit_account = account_fits Credit credit-part.0 credit.0 credit-part.2;
    })

-- an event that a value is
pub event_fits : (value : Data) (e : Event) → event_of value ≡ Ok e → EventFits e
event_fits value e is = members_fit value e (chosen (is_object value) (members_of value) _ e is).1
