-- What each kind of entry does to its transfer (TigerBeetle, Two-Phase Transfers).
use Rattle.std.specs.Prelude.{ℕ, Bool, true, false, ◌==◌}
use Rattle.cdc_types.specs.declared.transfers.Transfer.{Transfer}
use Rattle.cdc_types.specs.declared.events.EventKind.{EventKind}
use Rattle.cdc_types.specs.declared.events.EventKind.TheVariants.{SinglePhase, TwoPhasePending, TwoPhasePosted, TwoPhaseVoided, TwoPhaseExpired}

-- the entry holds its amount back
abbrev pub holds : EventKind → Bool
holds SinglePhase = false
holds TwoPhasePending = true
holds TwoPhasePosted = false
holds TwoPhaseVoided = false
holds TwoPhaseExpired = false

-- the entry moves its amount from one account to the other
abbrev pub moves : EventKind → Bool
moves SinglePhase = true
moves TwoPhasePending = false
moves TwoPhasePosted = true
moves TwoPhaseVoided = false
moves TwoPhaseExpired = false

-- the entry's transfer was stored by it: an expiry shows a transfer that was stored before
abbrev pub stores : EventKind → Bool
stores SinglePhase = true
stores TwoPhasePending = true
stores TwoPhasePosted = true
stores TwoPhaseVoided = true
stores TwoPhaseExpired = false

-- the entry settles a pending transfer: it posts it, voids it, or lets it expire
abbrev pub settles : EventKind → Bool
settles SinglePhase = false
settles TwoPhasePending = false
settles TwoPhasePosted = true
settles TwoPhaseVoided = true
settles TwoPhaseExpired = true

-- the id of the pending transfer that an entry of this kind with this transfer settles
abbrev pub settled_id : EventKind → Transfer → ℕ
settled_id SinglePhase x = 0
settled_id TwoPhasePending x = 0
settled_id TwoPhasePosted x = x.pending_id
settled_id TwoPhaseVoided x = x.pending_id
settled_id TwoPhaseExpired x = x.id

-- an entry of this kind with this transfer posts the pending transfer p
abbrev pub posts : EventKind → Transfer → Transfer → Bool
posts SinglePhase x p = false
posts TwoPhasePending x p = false
posts TwoPhasePosted x p = x.pending_id == p.id
posts TwoPhaseVoided x p = false
posts TwoPhaseExpired x p = false

-- an entry of this kind with this transfer voids the pending transfer p
abbrev pub voids : EventKind → Transfer → Transfer → Bool
voids SinglePhase x p = false
voids TwoPhasePending x p = false
voids TwoPhasePosted x p = false
voids TwoPhaseVoided x p = x.pending_id == p.id
voids TwoPhaseExpired x p = false

-- an entry of this kind with this transfer is the expiry of the pending transfer p
abbrev pub expires : EventKind → Transfer → Transfer → Bool
expires SinglePhase x p = false
expires TwoPhasePending x p = false
expires TwoPhasePosted x p = false
expires TwoPhaseVoided x p = false
expires TwoPhaseExpired x p = x.id == p.id
