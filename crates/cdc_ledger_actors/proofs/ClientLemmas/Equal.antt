-- `==` of the requests of a batch decides whether they are equal.
use Rattle.std.proofs.Common.{◌≡◌, ℕ, Bool, true, false, List, refl, sym, ap₂, ◌∙◌, subst}
use Rattle.std.specs.Prelude.{◌&&◌}
use Rattle.std.specs.Bool.{Decides}
use Rattle.std.specs.Cmp.Lexicographic.{pointwise}
use Rattle.std.proofs.lemmas.Bool.{eqb-true}
use Rattle.std.proofs.lemmas.Slice.Eq.{slice_eq-Decides}
use Rattle.cdc_types.specs.contracts.accounts.NewAccountEq.TheImpl.Laws as account_laws
use Rattle.cdc_types.specs.contracts.accounts.NewAccountPartialEq.TheImpl as of_accounts
use Rattle.cdc_types.specs.contracts.transfers.NewTransferEq.TheImpl.Laws as transfer_laws
use Rattle.cdc_types.specs.contracts.transfers.NewTransferPartialEq.TheImpl as of_transfers
use Rattle.cdc_types.specs.declared.accounts.NewAccount.{NewAccount}
use Rattle.cdc_types.specs.declared.batches.Batch.{Batch}
use Rattle.cdc_types.specs.declared.batches.Batch.TheVariants as batch
use Rattle.cdc_types.specs.declared.transfers.NewTransfer.{NewTransfer}

-- two tests that hold together
and_true : (a b : Bool) → (a && b) ≡ true → (a ≡ true) × (b ≡ true)
and_true true b h = (refl, h)
and_true false b h = cc

-- requests for accounts that agree in every field are equal
account-true : (a b : NewAccount) → of_accounts.ghosts.eq a b ≡ true → a ≡ b
account-true a b h =
    let id = and_true _ _ h in
    let u128 = and_true _ _ id.1 in
    let u64 = and_true _ _ u128.1 in
    let u32 = and_true _ _ u64.1 in
    let ledger = and_true _ _ u32.1 in
    let code = and_true _ _ ledger.1 in
    λ i. record {
      id = eqb-true a.id b.id id.0 i;
      user_data_128 = eqb-true a.user_data_128 b.user_data_128 u128.0 i;
      user_data_64 = eqb-true a.user_data_64 b.user_data_64 u64.0 i;
      user_data_32 = eqb-true a.user_data_32 b.user_data_32 u32.0 i;
      ledger = eqb-true a.ledger b.ledger ledger.0 i;
      code = eqb-true a.code b.code code.0 i;
      flags = eqb-true a.flags b.flags code.1 i;
    }

Decides-account : (a b : NewAccount) → Decides (of_accounts.ghosts.eq a b) (a ≡ b)
Decides-account a b = (
  account-true a b,
  λ e. let P : NewAccount → Type 0 = λ x. of_accounts.ghosts.eq a x ≡ true in
      subst P e (account_laws.laws-law.refl a),
)

-- so are requests for transfers
transfer-true : (a b : NewTransfer) → of_transfers.ghosts.eq a b ≡ true → a ≡ b
transfer-true a b h =
    let id = and_true _ _ h in
    let debit = and_true _ _ id.1 in
    let credit = and_true _ _ debit.1 in
    let amount = and_true _ _ credit.1 in
    let pending = and_true _ _ amount.1 in
    let u128 = and_true _ _ pending.1 in
    let u64 = and_true _ _ u128.1 in
    let u32 = and_true _ _ u64.1 in
    let timeout = and_true _ _ u32.1 in
    let ledger = and_true _ _ timeout.1 in
    let code = and_true _ _ ledger.1 in
    λ i. record {
      id = eqb-true a.id b.id id.0 i;
      debit_account_id = eqb-true a.debit_account_id b.debit_account_id debit.0 i;
      credit_account_id = eqb-true a.credit_account_id b.credit_account_id credit.0 i;
      amount = eqb-true a.amount b.amount amount.0 i;
      pending_id = eqb-true a.pending_id b.pending_id pending.0 i;
      user_data_128 = eqb-true a.user_data_128 b.user_data_128 u128.0 i;
      user_data_64 = eqb-true a.user_data_64 b.user_data_64 u64.0 i;
      user_data_32 = eqb-true a.user_data_32 b.user_data_32 u32.0 i;
      timeout = eqb-true a.timeout b.timeout timeout.0 i;
      ledger = eqb-true a.ledger b.ledger ledger.0 i;
      code = eqb-true a.code b.code code.0 i;
      flags = eqb-true a.flags b.flags code.1 i;
    }

Decides-transfer : (a b : NewTransfer) → Decides (of_transfers.ghosts.eq a b) (a ≡ b)
Decides-transfer a b = (
  transfer-true a b,
  λ e. let P : NewTransfer → Type 0 = λ x. of_transfers.ghosts.eq a x ≡ true in
      subst P e (transfer_laws.laws-law.refl a),
)

-- batches of accounts of one timestamp are equal if their requests are
pub same_accounts : (now at : ℕ) (items others : List NewAccount) (r : Bool) → now ≡ at
    → r ≡ pointwise of_accounts.ghosts.eq items others
    → Decides r (batch.Accounts now items ≡ batch.Accounts at others)
same_accounts now at items others r same is =
    let decides : Decides r (items ≡ others) = slice_eq-Decides Decides-account items others r is in (
      λ yes. ap₂ (λ (n : ℕ) (l : List NewAccount). batch.Accounts n l) same (decides.0 yes),
      λ e. let equal : items ≡ others = cc in decides.1 equal,
    )

-- and so are those of transfers
pub same_transfers : (now at : ℕ) (items others : List NewTransfer) (r : Bool) → now ≡ at
    → r ≡ pointwise of_transfers.ghosts.eq items others
    → Decides r (batch.Transfers now items ≡ batch.Transfers at others)
same_transfers now at items others r same is =
    let decides : Decides r (items ≡ others) = slice_eq-Decides Decides-transfer items others r is in (
      λ yes. ap₂ (λ (n : ℕ) (l : List NewTransfer). batch.Transfers n l) same (decides.0 yes),
      λ e. let equal : items ≡ others = cc in decides.1 equal,
    )

-- the same of values that are these batches
pub decides_as : (a b x y : Batch) (r : Bool) → a ≡ x → b ≡ y → Decides r (x ≡ y) → Decides r (a ≡ b)
decides_as a b x y r first second decides =
    (λ yes. first ∙ decides.0 yes ∙ sym second, λ e. decides.1 (sym first ∙ e ∙ second))
