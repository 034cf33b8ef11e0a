-- How far a chain came (for private contracts).
use Rattle.std.specs.Prelude.{ℕ, ◌+◌, ◌<◌, ◌≡◌, Bool, Option, Some, None, Result, Ok, Err, List, [], ◌∷◌, ◌++◌, drop, length, option_map, replicate, take}
use Rattle.cdc_types.specs.declared.results.TransferResult.{TransferResult}
use Rattle.cdc_types.specs.declared.transfers.NewTransfer.{NewTransfer}
use Rattle.cdc_ledger.specs.declared.chains.Stop.{Stop}
use Rattle.cdc_ledger.specs.declared.recording.Recorded.{Recorded}
use Rattle.cdc_ledger.specs.Chains.{Rules, played, refused_in_chain, unvalidated}
use Rattle.cdc_ledger.specs.Changes.{pushed}
use Rattle.cdc_ledger.specs.History.{History}
use Rattle.cdc_ledger.specs.Recorded.{IsRecorded}
use Rattle.cdc_ledger.specs.Submit.{entry_of, transfer_rules}

-- the place of the item at which a chain failed, and why it was refused
abbrev pub stop_parts : {R : Type 0} → Option (Stop R) → Option (ℕ × R)
stop_parts stop = option_map (λ s. (s.place, s.refusal)) stop

-- the number of items of a chain that were validated
abbrev pub validated_count : {A R : Type 0} → Option (ℕ × R) → List A → ℕ
validated_count None chain = length chain
validated_count (Some stop) chain = stop.0 + 1

module _ {A R : Type 0} (rules : Rules A R) where
  -- the history after items that were all accepted, from the timestamp t on
  abbrev pub taken_all : History → ℕ → List A → History
  taken_all h t [] = h
  taken_all h t (a ∷ rest) = taken_all (rules.taken h a t) (t + 1) rest

  -- no item was refused, each validated after those before it
  abbrev pub AreUnrefused : History → ℕ → List A → Type 0
  AreUnrefused h t [] = Unit {0}
  AreUnrefused h t (a ∷ rest) = (rules.refused h a t ≡ None) × AreUnrefused (rules.taken h a t) (t + 1) rest

  -- the items of a chain were recorded from the timestamp t on, up to the one at which the chain failed, if it
  -- failed; this turned the history h into g
  abbrev pub IsStopped : History → ℕ → List A → Option (ℕ × R) → History → Type 0
  IsStopped h t chain None g = played rules h t chain ≡ (replicate (length chain) rules.accepted, Some g)
  IsStopped h t chain (Some stop) g =
      (stop.0 < length chain)
      × (played rules h t chain
      ≡ (replicate stop.0 rules.failed ++ stop.1 ∷ unvalidated rules (drop (stop.0 + 1) chain), None))
      × (g ≡ taken_all h t (take stop.0 chain))
      × AreUnrefused h t (take stop.0 chain)

-- a request of a chain was refused, which changed nothing, or its entry was taken
abbrev pub IsValidatedInChain : History → NewTransfer → Bool → ℕ → Result Recorded TransferResult → History → Type 0
IsValidatedInChain h r is_last t (Ok recorded) g =
    (refused_in_chain transfer_rules h r is_last t ≡ None)
    × IsRecorded h recorded
    × (recorded.movement.entry ≡ entry_of h r t)
    × (g ≡ pushed h (entry_of h r t))
IsValidatedInChain h r is_last t (Err refusal) g =
    (refused_in_chain transfer_rules h r is_last t ≡ Some refusal) × (g ≡ h)
