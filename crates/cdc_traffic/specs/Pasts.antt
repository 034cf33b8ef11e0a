-- The history that a message names, in contracts alone: by the batches that made it, and by its close.
use Rattle.std.specs.Prelude.{◌≡◌, true, false, [], ◌∷◌, ◌++◌}
use Rattle.cdc_ledger.specs.History.{History, empty_history}
use Rattle.cdc_ledger.specs.Submit.{after_batches, closed_if}
use Rattle.cdc_message.specs.Replays.{IsPrefix}
use Rattle.cdc_traffic.specs.declared.pasts.Past.{Past}
use Rattle.cdc_types.specs.declared.batches.Batch.{Batch}

-- nothing was submitted to an open ledger
abbrev pub no_past : Past
no_past = record { batches = []; closed = false }

-- the history that its batches make of the empty one, in order, and its close after them
abbrev pub history_of : Past → History
history_of past = closed_if past.closed (after_batches empty_history past.batches)

-- one more batch was submitted
abbrev pub with_batch : Batch → Past → Past
with_batch batch past = record past { batches = past.batches ++ batch ∷ [] }

-- the later one extends the earlier: the earlier batches are a prefix of the later ones, and if the earlier was
-- closed, both are equal
pub record Continues (earlier later : Past) : Type 0 where
  pub batches : IsPrefix earlier.batches later.batches
  pub shut : earlier.closed ≡ true → later ≡ earlier
