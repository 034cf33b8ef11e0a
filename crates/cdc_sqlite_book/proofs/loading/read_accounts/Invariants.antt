use Rattle.std.proofs.Common.{◌≡◌, suc, false, length}
use Rattle.sqlite.specs.State.{HasCleanDisk, Survives}
use Rattle.sqlite.specs.Held.{state}
use Rattle.cdc_sqlite_book.specs.Loading.{AreRead, IsDetailed}
use Rattle.cdc_sqlite_book.specs.Tables.{HasTables}
use Rattle.cdc_sqlite_book.proofs.loading.read_accounts.Given as goal

abbrev pub invariant-places : goal.invariant-places
invariant-places g l =
    let old = state g.S.Store l.fn.conn in
    let now = state g.S.Store l.conn in
    (l.fn.conn.in_transaction ≡ false → l.conn.in_transaction ≡ false)
    × Survives old now (λ _. ¬ HasTables old.now.schema)
    × (HasCleanDisk now → HasTables old.now.schema
    → (now.now ≡ old.now) × IsDetailed l.detailed old.now.schema
    × AreRead l.detailed (old.now.trees 1) l.accounts.book l.accounts.details.entries
    × (l.place ≡ suc (length l.accounts.book)))
