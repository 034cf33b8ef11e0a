-- What an auditor stands for while a stream is audited, line by line.
use Rattle.std.proofs.Common.{◌≡◌, ℕ, ◌+◌, ◌-◌, ◌^◌, ◌<◌, ◌≤◌, List, [], ◌∷◌, ◌++◌, append-nil, append_assoc, false, min}
use Rattle.std.proofs.Common.{Option, None, Some, refl, sym, ap, ◌∙◌, subst, arith, add-zero}
use Rattle.std.proofs.Math.Nat.{min-eq_left}
use Rattle.std.specs.Prelude.{IfSome}
use Rattle.cdc_follow.specs.Lines.{lines_of}
use Rattle.cdc_streams.specs.declared.endings.StreamEnding.{StreamEnding}
use Rattle.cdc_streams.specs.declared.endings.StreamEnding.TheVariants.{Stopped, Failed}
use Rattle.cdc_streams.specs.Saving.{IfStopped}
use Rattle.cdc_streams.specs.Taking.{LeadsOn}
use Rattle.cdc_streams.proofs.EntryLemmas.{count_grows, entry_count}
use Rattle.cdc_audit.specs.declared.streams.AuditStop.{AuditStop}
use Rattle.cdc_audit.specs.Audits.{AuditState}
use Rattle.cdc_audit.specs.Standing.{AuditorState, StandsFor}
use Rattle.cdc_audit_command.specs.Auditing.{StandsAfter, StopsAt}
use Rattle.cdc_audit_command.specs.Duplicates.{EndsSkipping, SkippingAudit, bytes_audited_by, lines_audited_by, skipping_more}
use Rattle.cdc_audit_command.specs.Private.Audited.{HasAudited, lines_keep}
use Rattle.cdc_audit_command.specs.Private.Turns.{StepPasses, StepTurns}
use Rattle.cdc_audit_command.specs.declared.turns.Turn.TheVariants as turn
use Rattle.cdc_audit_command.proofs.SkipLemmas.{more_more}
use Rattle.cdc_audit_command.specs.declared.auditors.AuditSetup.{AuditSetup}
use Rattle.cdc_audit_command.specs.declared.auditors.StreamAudit.{StreamAudit}

-- one more line was audited or skipped, of which so many duplicates are counted
leads_on : (setup : AuditSetup) (start old : StreamAudit) (bytes : List ℕ) (count number added now : ℕ)
    (mid : List ℕ) (auditor : AuditorState) (left : Option (List ℕ)) → added ≤ 1
    → ((skipped : ℕ) → skipped < number → old.duplicates ≡ skipped → now ≡ skipped + added)
    → HasAudited setup start bytes count old number mid
    → StepPasses setup.skips_duplicates number old.auditor mid added auditor left
    → LeadsOn (HasAudited setup start bytes) (StopsAt setup start bytes) (StandsAfter setup start bytes) count number
    None (record { auditor = auditor; duplicates = now }) left
leads_on setup start old bytes count number added now mid auditor left small counts has step =
    let skips = setup.skips_duplicates in
    let rest = step.1 in
    let front = has.front ++ step.0 ∷ [] in
    let whole : lines_of bytes ≡ front ++ lines_of rest =
    has.whole ∙ ap (λ lines. has.front ++ lines) step.3
    ∙ sym (append_assoc has.front (step.0 ∷ []) (lines_of rest)) in
    let below = has.fewer in (
      rest,
      step.2,
      entry_count false front,
      subst (λ n. n ≤ entry_count false front) (sym has.counted) (count_grows false has.front (step.0 ∷ [])),
      record {
        front = front;
        whole = whole;
        counted = refl;
        skipped = has.skipped + added;
        fewer = omega (arith, below, small);
        shown = λ none. counts has.skipped has.fewer (has.shown none);
        goes = λ state stands.
            let before = has.goes state stands in
            let on = step.4 before.next before.stands in
            record {
              next = on.next;
              stands = on.stands;
              leads = λ others. ap (lines_audited_by skips state 1) (append_assoc has.front (step.0 ∷ []) others)
                  ∙ before.leads (step.0 ∷ others) ∙ ap (skipping_more has.skipped) (on.leads others)
                  ∙ more_more has.skipped added (lines_audited_by skips on.next (number + 1) others);
            };
      },
    )

-- an audit that skipped some duplicates before ends so
ends_after : (it : SkippingAudit) (skipped : ℕ) (stop : AuditStop) (auditor : AuditorState)
    → EndsSkipping it stop auditor 0 → EndsSkipping (skipping_more skipped it) stop auditor skipped
ends_after it skipped stop auditor ends =
    record { ends = ends.ends; duplicates = ap (λ n. skipped + n) ends.duplicates ∙ add-zero skipped }

-- auditing stops at a line
leads_to_stop : (setup : AuditSetup) (start old : StreamAudit) (bytes : List ℕ) (count number : ℕ) (mid : List ℕ)
    (auditor : AuditorState) (stop : AuditStop) (left : Option (List ℕ))
    → HasAudited setup start bytes count old number mid
    → StepTurns setup.skips_duplicates number old.auditor mid (turn.Stops stop) auditor left
    → LeadsOn (HasAudited setup start bytes) (StopsAt setup start bytes) (StandsAfter setup start bytes) count number
    (Some stop) (record { auditor = auditor; duplicates = old.duplicates }) left
leads_to_stop setup start old bytes count number mid auditor stop left has step =
    let skips = setup.skips_duplicates in
    let all = entry_count false (lines_of bytes) in
    let ends : (state : AuditState) → StandsFor start.auditor state
    → EndsSkipping (bytes_audited_by skips state bytes) stop auditor has.skipped = λ state stands.
    let so_far = has.goes state stands in
    let whole : bytes_audited_by skips state bytes
    ≡ skipping_more has.skipped (lines_audited_by skips so_far.next number (lines_of mid)) =
    ap (lines_audited_by skips state 1) has.whole ∙ so_far.leads (lines_of mid) in
    subst (λ (it : SkippingAudit). EndsSkipping it stop auditor has.skipped) (sym whole)
    (ends_after (lines_audited_by skips so_far.next number (lines_of mid)) has.skipped stop auditor
    (step so_far.next so_far.stands)) in (
      λ none state stands.
          subst (EndsSkipping (bytes_audited_by skips state bytes) stop auditor) (sym (has.shown none))
          (ends state stands),
      (
        all,
        subst (λ n. n ≤ all) (sym has.counted)
            (subst (λ lines. entry_count false has.front ≤ entry_count false lines) (sym has.whole)
            (count_grows false has.front (lines_of mid))),
        λ state stands.
            subst (StandsFor auditor)
            (lines_keep skips state bytes (lines_of bytes) [] (sym (append-nil (lines_of bytes))))
            (ends state stands).ends.stands,
      ),
    )

-- a line of bytes that may be unknown was audited
pub line_audited : (setup : AuditSetup) (old : StreamAudit) (number : ℕ) (auditor : AuditorState)
    (mid left : Option (List ℕ))
    → IfSome mid (λ bytes. StepTurns setup.skips_duplicates number old.auditor bytes turn.Audited auditor left)
    → IfSome mid (λ rest. (start : StreamAudit) (bytes : List ℕ) (count : ℕ)
    → HasAudited setup start bytes count old number rest
    → LeadsOn (HasAudited setup start bytes) (StopsAt setup start bytes) (StandsAfter setup start bytes) count number
    None (record { auditor = auditor; duplicates = old.duplicates }) left)
line_audited setup old number auditor None left step = tt
line_audited setup old number auditor (Some mid) left step = λ start bytes count has.
    leads_on setup start old bytes count number 0 old.duplicates mid auditor left (omega arith)
    (λ skipped below is. is ∙ sym (add-zero skipped)) has step

-- a line was skipped, and counted
pub line_skipped : (setup : AuditSetup) (old : StreamAudit) (number now : ℕ) (auditor : AuditorState)
    (mid left : Option (List ℕ)) → number < 2 ^ 64 → now ≡ min (old.duplicates + 1) (2 ^ 64 - 1)
    → IfSome mid (λ bytes. StepTurns setup.skips_duplicates number old.auditor bytes turn.Duplicate auditor left)
    → IfSome mid (λ rest. (start : StreamAudit) (bytes : List ℕ) (count : ℕ)
    → HasAudited setup start bytes count old number rest
    → LeadsOn (HasAudited setup start bytes) (StopsAt setup start bytes) (StandsAfter setup start bytes) count number
    None (record { auditor = auditor; duplicates = now }) left)
line_skipped setup old number now auditor None left fits is step = tt
line_skipped setup old number now auditor (Some mid) left fits is step = λ start bytes count has.
    leads_on setup start old bytes count number 1 now mid auditor left (omega arith)
    (λ skipped below same. is ∙ min-eq_left (omega (arith, fits, below, same)) ∙ ap (λ n. n + 1) same) has step

-- auditing stopped at a line
pub line_stops : (setup : AuditSetup) (old : StreamAudit) (number : ℕ) (auditor : AuditorState) (stop : AuditStop)
    (mid left : Option (List ℕ))
    → IfSome mid (λ bytes. StepTurns setup.skips_duplicates number old.auditor bytes (turn.Stops stop) auditor left)
    → IfSome mid (λ rest. (start : StreamAudit) (bytes : List ℕ) (count : ℕ)
    → HasAudited setup start bytes count old number rest
    → LeadsOn (HasAudited setup start bytes) (StopsAt setup start bytes) (StandsAfter setup start bytes) count number
    (Some stop) (record { auditor = auditor; duplicates = old.duplicates }) left)
line_stops setup old number auditor stop None left step = tt
line_stops setup old number auditor stop (Some mid) left step = λ start bytes count has.
    leads_to_stop setup start old bytes count number mid auditor stop left has step

-- auditing began without a skipped duplicate
pub begun_stops : (duplicates : ℕ) (ending : StreamEnding AuditStop) (known : Option (List ℕ))
    (Holds : List ℕ → AuditStop → Type 0) → duplicates ≡ 0
    → IfStopped ending (λ stop. IfSome known (λ bytes. duplicates ≡ 0 → Holds bytes stop))
    → IfStopped ending (λ stop. IfSome known (λ bytes. Holds bytes stop))
begun_stops duplicates (Stopped stop) None Holds none stops = tt
begun_stops duplicates (Stopped stop) (Some bytes) Holds none stops = stops none
begun_stops duplicates (Failed why) known Holds none stops = tt
