-- The texts of the kinds of event (TigerBeetle, Change Data Capture, `type`).
use Rattle.std.specs.Prelude.{ℕ, List, [], ◌∷◌, codes, Option, find, bytes_eq}
use Rattle.cdc_types.specs.declared.events.EventKind.{EventKind}
use Rattle.cdc_types.specs.declared.events.EventKind.TheVariants.{SinglePhase, TwoPhasePending, TwoPhasePosted, TwoPhaseVoided, TwoPhaseExpired}

-- the text of the kind
abbrev pub kind_text : EventKind → List ℕ
kind_text SinglePhase = codes "single_phase"
kind_text TwoPhasePending = codes "two_phase_pending"
kind_text TwoPhasePosted = codes "two_phase_posted"
kind_text TwoPhaseVoided = codes "two_phase_voided"
kind_text TwoPhaseExpired = codes "two_phase_expired"

-- every kind
abbrev pub all_kinds : List EventKind
all_kinds = SinglePhase ∷ TwoPhasePending ∷ TwoPhasePosted ∷ TwoPhaseVoided ∷ TwoPhaseExpired ∷ []

-- the kind of the text, if any
abbrev pub kind_named : List ℕ → Option EventKind
kind_named text = find (λ kind. bytes_eq (kind_text kind) text) all_kinds
