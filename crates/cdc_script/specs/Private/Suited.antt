-- Which statements may follow: an item needs a batch of its kind.
use Rattle.std.specs.Prelude.{◌≡◌, Option, Some}
use Rattle.cdc_script.specs.declared.fields.ItemKind.{ItemKind}
use Rattle.cdc_script.specs.declared.fields.ItemKind.TheVariants as item
use Rattle.cdc_script.specs.declared.statements.Context.{Context}
use Rattle.cdc_script.specs.declared.statements.Statement.{Statement}
use Rattle.cdc_script.specs.declared.statements.Statement.TheVariants as states

-- the statement is no item of a batch
abbrev pub IsNoItem : Statement → Type 0
IsNoItem (states.Account a) = ⊥
IsNoItem (states.Transfer t) = ⊥
IsNoItem _ = Unit {0}

-- an item finds a batch of its kind open
abbrev pub HasBatch : Option ItemKind → Statement → Type 0
HasBatch open_batch (states.Account a) = open_batch ≡ Some item.Account
HasBatch open_batch (states.Transfer t) = open_batch ≡ Some item.Transfer
HasBatch open_batch _ = Unit {0}

-- the statement may follow
abbrev pub IsSuited : Context → Statement → Type 0
IsSuited context stated = HasBatch context.open_batch stated
