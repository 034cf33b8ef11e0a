use Rattle.std.proofs.Common.{◌≡◌, ◌∙◌, ◌⊎◌, Bool, Err, List, None, Ok, Option, Result, Some, inl, inr, subst, ℕ}
use Rattle.std.specs.Prelude.{IfErr, IsSomeAnd}
use Rattle.cdc_files.specs.declared.errors.StoreError.{StoreError}
use Rattle.cdc_files.specs.declared.errors.StoreError.TheVariants.{BadRecord, OutOfMemory}
use Rattle.cdc_audit.specs.Audits.{AuditState}
use Rattle.cdc_audit.specs.Standing.{AuditorState, StandsFor}
use Rattle.cdc_audit_state.specs.Logs.{audited_all}
use Rattle.cdc_audit_state.proofs.ReplayLemmas.{foreign_all}
use Rattle.cdc_audit_command.specs.States.{IsNoLog, IsNoState, IsRefused}
use Rattle.cdc_audit_command.proofs.StoredLemmas.{unequal}
use Rattle.cdc_audit_command.proofs.states.resume.Goals as goal
use Rattle.cdc_audit_command.proofs.states.resume.Goals.{in_default-via-in-Some+else-foreign, in_default-via-in_default}

-- what was found is of such a stream as what it stands for
found_foreign : (found : Option AuditorState) (auditor : AuditorState) (state : AuditState) → found ≡ Some auditor
    → IsSomeAnd found (λ a. StandsFor a state) → auditor.foreign ≡ state.foreign
found_foreign found auditor state is all =
    (subst (λ (f : Option AuditorState). IsSomeAnd f (λ (a : AuditorState). StandsFor a state)) is all).foreign

-- and something was found
found_none : (found : Option AuditorState) (state : AuditState) → found ≡ None
    → IsSomeAnd found (λ a. StandsFor a state) → ⊥
found_none found state is all =
    subst (λ (f : Option AuditorState). IsSomeAnd f (λ (a : AuditorState). StandsFor a state)) is all

-- a text that is no state is refused if it is no log either
refuses : {T : Type 0} (result : Result T StoreError) (foreign : Bool) (text : List ℕ)
    → IfErr result (λ error. (error ≡ OutOfMemory) ⊎ ((error ≡ BadRecord) × IsNoState foreign text))
    → IsNoLog foreign text → IfErr result (IsRefused foreign text)
refuses (Ok done) foreign text refused none = tt
refuses (Err error) foreign text refused none =
    elim refused [
      | inl memory ↦ inl memory
      | inr bad ↦ inr (bad.0, bad.1, none)
    ]

pub returns-in-Some-clause-all : goal.returns-in-Some-clause-all
returns-in-Some-clause-all c = λ base records torn state can log stands replays same.
    rw c.in-Some.is at (c.in_ok-found.ensures.all base records torn state can log stands replays)

pub returns-in_default-clause-all : goal.returns-in_default-clause-all
returns-in_default-clause-all c = λ base records torn state can log stands replays same.
    let all = c.in_ok-found.ensures.all base records torn state can log stands replays in
    let after = audited_all state records in
    absurd (elim c.in_default.branch [
      | in_default-via-in-Some+else-foreign w ↦ unequal w.foreign.result c.args.foreign w.if-foreign.false
          (w.foreign.ensures ∙ found_foreign c.in_ok-found.field-0 w.in-Some.found after w.in-Some.is all
          ∙ foreign_all records state ∙ same)
      | in_default-via-in_default w ↦ found_none c.in_ok-found.field-0 after w.in_default.is all
    ])

pub returns-in_default-clause-refused : goal.returns-in_default-clause-refused
returns-in_default-clause-refused c =
    refuses c.resume_text.result c.args.foreign c.args.text.now c.resume_text.ensures.refused
    (λ base records torn state can stands replays same log.
    let all = c.in_ok-found.ensures.all base records torn state can log stands replays in
    let after = audited_all state records in
    elim c.in_default.branch [
      | in_default-via-in-Some+else-foreign w ↦ unequal w.foreign.result c.args.foreign w.if-foreign.false
          (w.foreign.ensures ∙ found_foreign c.in_ok-found.field-0 w.in-Some.found after w.in-Some.is all
          ∙ foreign_all records state ∙ same)
      | in_default-via-in_default w ↦ found_none c.in_ok-found.field-0 after w.in_default.is all
    ])
