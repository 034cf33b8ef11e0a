-- How many messages the broker actor has received.
use Rattle.cdc_broker_actors.proofs.Words.{◌+◌, ◌∙◌, ◌≡◌, ◌≤◌, Bool, BrokerCore, HasReceivedIf, HasReceivedNext, all_served, ap, arith, false, is_over, length, one_received, refl, stopped, stopped_if, true, ℕ}
use Rattle.cdc_broker_actors.proofs.BrokerLemmas.Failing.{all_keep, next_takes}

-- no more than one and so many further ones, since it was so
abbrev pub HasReceivedFew : ℕ → BrokerCore → BrokerCore → Type 0
HasReceivedFew more old new = length new.inbox.received ≤ length old.inbox.received + 1 + more

-- a message that was handled is one more
counted_next : (old new : BrokerCore) → HasReceivedNext old new
    → length new.inbox.received ≡ length old.inbox.received + 1
counted_next old new came =
    let takes = next_takes old new came in
    one_received old.inbox new.inbox (takes.0, (came.entry.1.0, takes.1)) takes.4

pub few_first : (old new : BrokerCore) (more : ℕ) → HasReceivedNext old new → HasReceivedFew more old new
few_first old new more came = omega (arith, counted_next old new came)

pub few_next : (old mid new : BrokerCore) (more : ℕ) (some : Bool) → some ≡ true → HasReceivedFew more old mid
    → HasReceivedIf some mid new → HasReceivedFew (more + 1) old new
few_next old mid new more some is few came = omega (arith, few, counted_next mid new (rw is at came))

pub few_none : (old mid new : BrokerCore) (some : Bool) (more most : ℕ) → some ≡ false → more ≤ most
    → HasReceivedFew more old mid → HasReceivedIf some mid new → HasReceivedFew most old new
few_none old mid new some more most isnt below few came =
    let same : new ≡ mid = rw isnt at came in
    rw same (omega (arith, few, below))

-- and what follows receives none
stopping_keeps : (over : Bool) (d : BrokerCore) → (stopped_if over d).inbox ≡ d.inbox
stopping_keeps true d = refl
stopping_keeps false d = refl

pub few_turned : (more n : ℕ) (old mid served new : BrokerCore) → HasReceivedFew more old mid
    → served ≡ all_served n mid → new ≡ stopped served → HasReceivedFew more old new
few_turned more n old mid served new few serves stops =
    let inbox : new.inbox ≡ mid.inbox =
    ap (λ (d : BrokerCore). d.inbox) stops
    ∙ (stopping_keeps (is_over served) served
    ∙ (ap (λ (d : BrokerCore). d.inbox) serves ∙ (all_keep n mid).inbox)) in
    rw inbox few
