-- The flags of a request that is asked for an event of some kind.
use Rattle.std.proofs.Common.{◌≡◌, Bool, true, false, not, if◌then◌else◌, ap₂, ◌∙◌, ◌&&◌, ◌||◌, arith}
use Rattle.cdc_audit_laws.proofs.OfTypes.{EventKind, SinglePhase, TwoPhasePending, TwoPhasePosted, TwoPhaseVoided, NewTransfer, is_pending_request, is_plain_request, is_post_request, is_void_request, asks_for_two_kinds}
use Rattle.cdc_audit_laws.proofs.OfLedger.{holds, moves, settles, stores, kind_of}
use Rattle.cdc_audit_laws.proofs.OfAudit.{is_of_kind}

-- the request asks for this kind
pub record Asks (k : EventKind) (r : NewTransfer) : Type 0 where
  pub pending : is_pending_request r ≡ holds k
  pub post : is_post_request r ≡ (settles k && moves k)
  pub void : is_void_request r ≡ (settles k && not (moves k))

-- so a request with the flags of a kind asks for it
pub asks : (k : EventKind) (r : NewTransfer) → stores k ≡ true → asks_for_two_kinds r ≡ false → is_of_kind k r ≡ true
    → Asks k r
asks k r storing one is = grind arith

-- the kind of a request with these flags
abbrev pub kind_by : Bool → Bool → Bool → EventKind
kind_by pending post void =
    if pending then TwoPhasePending
    else if post then TwoPhasePosted
    else if void then TwoPhaseVoided
    else SinglePhase

same_plain : (k : EventKind) → not ((settles k && moves k) || (settles k && not (moves k))) ≡ not (settles k)
same_plain k = grind arith

-- and is of that kind once it is accepted
pub kind_is : (k : EventKind) (r : NewTransfer) → stores k ≡ true → Asks k r → kind_of r ≡ k
kind_is k r storing is = grind arith

-- it is plain unless it settles a pending transfer
pub plain_is : (k : EventKind) (r : NewTransfer) → Asks k r → is_plain_request r ≡ not (settles k)
plain_is k r is = ap₂ (λ b c. not (b || c)) is.post is.void ∙ same_plain k
