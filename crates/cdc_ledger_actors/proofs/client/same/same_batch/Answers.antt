use Rattle.std.proofs.Common.{◌≡◌, ap₂, ◌∙◌}
use Rattle.std.specs.Cmp.Lexicographic.{pointwise}
use Rattle.cdc_types.specs.contracts.accounts.NewAccountPartialEq.TheImpl as of_accounts
use Rattle.cdc_types.specs.contracts.transfers.NewTransferPartialEq.TheImpl as of_transfers
use Rattle.cdc_types.specs.declared.batches.Batch.TheVariants as batch
use Rattle.cdc_ledger_actors.proofs.ClientLemmas.Equal.{decides_as, same_accounts, same_transfers}
use Rattle.cdc_ledger_actors.proofs.client.same.same_batch.Goals as goal

pub returns-then-now-at : goal.returns-then-now-at
returns-then-now-at c =
    let arm = c.in-Accounts-Accounts in
    let first : c.args.one.now ≡ batch.Accounts arm.now arm.items = cc in
    let second : c.args.other.now ≡ batch.Accounts arm.at arm.others = cc in
    let made : c.eq.result ≡ pointwise of_accounts.ghosts.eq arm.items arm.others =
    c.eq.ensures ∙ ap₂ (pointwise of_accounts.ghosts.eq) c.as_slice.ensures c.as_slice-then-now-at.ensures in
    decides_as c.args.one.now c.args.other.now (batch.Accounts arm.now arm.items) (batch.Accounts arm.at arm.others)
    c.eq.result first second
    (same_accounts arm.now arm.at arm.items arm.others c.eq.result c.if-now-at.true made)

pub returns-then-now-at-2 : goal.returns-then-now-at-2
returns-then-now-at-2 c =
    let arm = c.in-Transfers-Transfers in
    let equal = c.eq-then-now-at-2 in
    let first : c.args.one.now ≡ batch.Transfers arm.now arm.items = cc in
    let second : c.args.other.now ≡ batch.Transfers arm.at arm.others = cc in
    let made : equal.result ≡ pointwise of_transfers.ghosts.eq arm.items arm.others =
    equal.ensures
    ∙ ap₂ (pointwise of_transfers.ghosts.eq) c.as_slice-then-now-at-2.ensures c.as_slice-then-now-at-2-2.ensures in
    decides_as c.args.one.now c.args.other.now (batch.Transfers arm.now arm.items) (batch.Transfers arm.at arm.others)
    equal.result first second
    (same_transfers arm.now arm.at arm.items arm.others equal.result c.if-now-at-2.true made)
