-- `same_item` decides whether two items are equal.
use Rattle.std.proofs.Common.{◌≡◌, Bool, true, false, refl, ap, subst, rules}
use Rattle.std.specs.Prelude.{◌&&◌}
use Rattle.std.specs.Bool.{Decides}
use Rattle.std.proofs.lemmas.Bool.{eqb-true}
use denote.Enum.Bare.{same_true}
use Rattle.cdc_types.specs.contracts.events.EventAccountPartialEq.TheImpl as of_accounts
use Rattle.cdc_types.specs.contracts.events.EventEq.TheImpl.Laws as event_laws
use Rattle.cdc_types.specs.contracts.events.EventKind.{the_type}
use Rattle.cdc_types.specs.contracts.events.EventKindPartialEq.TheImpl as of_kinds
use Rattle.cdc_types.specs.contracts.events.EventTransferPartialEq.TheImpl as of_transfers
use Rattle.cdc_types.specs.declared.events.Event.{Event}
use Rattle.cdc_types.specs.declared.events.EventAccount.{EventAccount}
use Rattle.cdc_types.specs.declared.events.EventKind.{EventKind}
use Rattle.cdc_types.specs.declared.events.EventTransfer.{EventTransfer}
use Rattle.cdc_message.specs.declared.items.Item.{Item}
use Rattle.cdc_message.specs.declared.items.Item.TheVariants.{Event as OfEvent, EndMark}
use Rattle.cdc_message.specs.Items.{same_event, same_item}

-- two tests that hold together
and_true : (a b : Bool) → (a && b) ≡ true → (a ≡ true) × (b ≡ true)
and_true true b h = (refl, h)
and_true false b h = cc

-- kinds that agree by `==` are equal, so that events whose parts agree are
kind-true : (a b : EventKind) → of_kinds.ghosts.eq a b ≡ true → a ≡ b
kind-true a b h = same_true the_type (search rules) a b h

-- so are accounts that agree in every field
account-true : (a b : EventAccount) → of_accounts.ghosts.eq a b ≡ true → a ≡ b
account-true a b h =
    let id = and_true _ _ h in
    let dpe = and_true _ _ id.1 in
    let dpo = and_true _ _ dpe.1 in
    let cpe = and_true _ _ dpo.1 in
    let cpo = and_true _ _ cpe.1 in
    let u128 = and_true _ _ cpo.1 in
    let u64 = and_true _ _ u128.1 in
    let u32 = and_true _ _ u64.1 in
    let code = and_true _ _ u32.1 in
    let flags = and_true _ _ code.1 in
    λ i. record {
      id = eqb-true a.id b.id id.0 i;
      debits_pending = eqb-true a.debits_pending b.debits_pending dpe.0 i;
      debits_posted = eqb-true a.debits_posted b.debits_posted dpo.0 i;
      credits_pending = eqb-true a.credits_pending b.credits_pending cpe.0 i;
      credits_posted = eqb-true a.credits_posted b.credits_posted cpo.0 i;
      user_data_128 = eqb-true a.user_data_128 b.user_data_128 u128.0 i;
      user_data_64 = eqb-true a.user_data_64 b.user_data_64 u64.0 i;
      user_data_32 = eqb-true a.user_data_32 b.user_data_32 u32.0 i;
      code = eqb-true a.code b.code code.0 i;
      flags = eqb-true a.flags b.flags flags.0 i;
      timestamp = eqb-true a.timestamp b.timestamp flags.1 i;
    }

-- so are transfers
transfer-true : (a b : EventTransfer) → of_transfers.ghosts.eq a b ≡ true → a ≡ b
transfer-true a b h =
    let id = and_true _ _ h in
    let amount = and_true _ _ id.1 in
    let pending = and_true _ _ amount.1 in
    let u128 = and_true _ _ pending.1 in
    let u64 = and_true _ _ u128.1 in
    let u32 = and_true _ _ u64.1 in
    let timeout = and_true _ _ u32.1 in
    let code = and_true _ _ timeout.1 in
    let flags = and_true _ _ code.1 in
    λ i. record {
      id = eqb-true a.id b.id id.0 i;
      amount = eqb-true a.amount b.amount amount.0 i;
      pending_id = eqb-true a.pending_id b.pending_id pending.0 i;
      user_data_128 = eqb-true a.user_data_128 b.user_data_128 u128.0 i;
      user_data_64 = eqb-true a.user_data_64 b.user_data_64 u64.0 i;
      user_data_32 = eqb-true a.user_data_32 b.user_data_32 u32.0 i;
      timeout = eqb-true a.timeout b.timeout timeout.0 i;
      code = eqb-true a.code b.code code.0 i;
      flags = eqb-true a.flags b.flags flags.0 i;
      timestamp = eqb-true a.timestamp b.timestamp flags.1 i;
    }

-- so are whole events: a duplicate is recognized by its fields
event-true : (a b : Event) → same_event a b ≡ true → a ≡ b
event-true a b h =
    let timestamp = and_true _ _ h in
    let kind = and_true _ _ timestamp.1 in
    let ledger = and_true _ _ kind.1 in
    let transfer = and_true _ _ ledger.1 in
    let debit = and_true _ _ transfer.1 in
    λ i. record {
      timestamp = eqb-true a.timestamp b.timestamp timestamp.0 i;
      kind = kind-true a.kind b.kind kind.0 i;
      ledger = eqb-true a.ledger b.ledger ledger.0 i;
      transfer = transfer-true a.transfer b.transfer transfer.0 i;
      debit_account = account-true a.debit_account b.debit_account debit.0 i;
      credit_account = account-true a.credit_account b.credit_account debit.1 i;
    }

-- events agree in every field if and only if they are equal
pub Decides-same_event : (a b : Event) → Decides (same_event a b) (a ≡ b)
Decides-same_event a b =
    (event-true a b, λ e. let P : Event → Type 0 = λ x. same_event a x ≡ true in subst P e (event_laws.laws-law.refl a))

-- the same for items, so that the laws of replays hold of lists in which duplicates are recognized by their fields
pub Decides-same_item : (a b : Item) → Decides (same_item a b) (a ≡ b)
Decides-same_item (OfEvent a) (OfEvent b) =
    (λ h. ap OfEvent (event-true a b h), λ e. let same : a ≡ b = cc in (Decides-same_event a b).1 same)
Decides-same_item (OfEvent a) EndMark = (λ h. cc, λ e. cc)
Decides-same_item EndMark (OfEvent b) = (λ h. cc, λ e. cc)
Decides-same_item EndMark EndMark = (λ h. refl, λ e. refl)
