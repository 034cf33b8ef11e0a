use Rattle.std.proofs.Common.{◌≡◌, ◌∙◌, Option, Some, None, inr, refl, ap, subst}
use Rattle.std.specs.Prelude.{IsSomeAnd}
use Rattle.cdc_audit.specs.Standing.{AuditorState}
use Rattle.cdc_audit_command.proofs.StoredLemmas.{unequal}
use Rattle.cdc_audit_command.proofs.states.resume_text.Goals as goal
use Rattle.cdc_audit_command.proofs.states.resume_text.Goals.{in_default-via-in-Some+else-foreign, in_default-via-in_default}

-- what was found is this state
found_state : (found : Option AuditorState) (auditor state : AuditorState) → found ≡ Some auditor
    → IsSomeAnd found (λ a. a ≡ state) → auditor ≡ state
found_state found auditor state is all =
    subst (λ (f : Option AuditorState). IsSomeAnd f (λ (a : AuditorState). a ≡ state)) is all

-- and something was found
found_none : (found : Option AuditorState) (state : AuditorState) → found ≡ None → IsSomeAnd found (λ a. a ≡ state) → ⊥
found_none found state is all =
    subst (λ (f : Option AuditorState). IsSomeAnd f (λ (a : AuditorState). a ≡ state)) is all

pub returns-in_default-clause-refused : goal.returns-in_default-clause-refused
returns-in_default-clause-refused c = inr (
  refl,
  λ state can same is.
      let all = c.in_ok-auditor.ensures.all state can is in
      elim c.in_default.branch [
        | in_default-via-in-Some+else-foreign w ↦
            unequal w.foreign.result c.args.foreign w.if-foreign.false
            (w.foreign.ensures
            ∙ ap (λ (a : AuditorState). a.foreign)
            (found_state c.in_ok-auditor.field-0 w.in-Some.auditor state w.in-Some.is all)
            ∙ same)
        | in_default-via-in_default w ↦ found_none c.in_ok-auditor.field-0 state w.in_default.is all
      ],
)
