-- The marks that the code keeps of the keys that are given, while a line is read word by word.
use Rattle.std.proofs.Common.{◌≡◌, Option, None, List, length, Result}
use Rattle.std.specs.List.{slice_index_or}
use Rattle.cdc_script.specs.declared.faults.LineFault.{LineFault}
use Rattle.cdc_script.specs.declared.faults.Span.{Span}
use Rattle.cdc_types.specs.declared.transfers.NewTransfer.{NewTransfer}
use Rattle.cdc_script.specs.declared.fields.ItemKind.{ItemKind}
use Rattle.cdc_script.specs.declared.fields.Key.{Key}
use Rattle.cdc_script.specs.Fields.{Given, giver_of, key_place, fields_from}
use Rattle.cdc_script.specs.Words.{Placed}

-- there is a mark for each key: the word that gives it, if one does
pub record AreMarks (marks : List (Option Span)) (given : List Given) : Type 0 where
  pub length_is : length marks ≡ 12
  pub decides : (k : Key) → slice_index_or marks (key_place k) None ≡ giver_of k given

-- what is left of a line makes of the fields so far what the whole line makes
pub record IsRead (kind : ItemKind) (marks : List (Option Span)) (fields : NewTransfer) (rest : List Placed)
    (whole : Result NewTransfer LineFault) : Type 0 where
  pub given : List Given
  pub marked : AreMarks marks given
  pub same : fields_from kind given fields rest ≡ whole
