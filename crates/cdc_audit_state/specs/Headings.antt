-- Reading back what precedes the lines of a state's text (private: for the code's own contracts).
use Rattle.std.specs.Prelude.{◌≡◌, ℕ, ◌<◌, ◌^◌, List, ◌++◌, ◌∷◌}
use Rattle.cdc_subscriber.specs.Lines.{subscriber_line}
use Rattle.cdc_audit.specs.Standing.{AuditorState}
use Rattle.cdc_audit_state.specs.declared.saved.Front.{Front}
use Rattle.cdc_audit_state.specs.States.{chain_text, heading}

-- this front has these parts of an auditor, and these lines follow
pub record IsFront (front : Front) (auditor : AuditorState) (lines : List ℕ) : Type 0 where
  pub foreign : front.foreign ≡ auditor.foreign
  pub chain : front.chain ≡ auditor.chain
  pub applied : front.applied ≡ auditor.kept.applied
  pub last : front.last ≡ auditor.kept.last
  pub ended : front.ended ≡ auditor.kept.ended
  pub lines_are : front.lines.now ≡ lines

-- if a text begins with the heading and the subscriber's line of an auditor, they are read
abbrev pub ReadsFront : List ℕ → Front → Type 0
ReadsFront text front =
    (auditor : AuditorState) (lines : List ℕ) → auditor.kept.last < 2 ^ 64 → auditor.kept.applied < 2 ^ 64
    → auditor.chain < 2 ^ 64
    → text ≡ heading auditor ++ (subscriber_line 1 auditor.kept ++ lines) → IsFront front auditor lines

-- if a text begins with that of a chain, and a line ends there, the chain is read
abbrev pub ReadsChain : List ℕ → ℕ → List ℕ → Type 0
ReadsChain text value left =
    (chain : ℕ) (rest : List ℕ) → chain < 2 ^ 64 → text ≡ chain_text chain ++ 10 ∷ rest
    → (value ≡ chain) × (left ≡ 10 ∷ rest)
