-- The lines that an auditor keeps, and the log of its state: a base, and records after it.
use Rattle.std.proofs.Common.{◌≡◌, ℕ, ◌+◌, List, [], ◌∷◌, ◌++◌, length, Option, None, Some, refl, sym, ap, ◌∙◌, subst}
use Rattle.std.proofs.Common.{append-nil, append_assoc, arith, inl, inr, Bool, true, false}
use Rattle.std.proofs.Math.Bool.{beq}
use Rattle.std.specs.Prelude.{IfSome, IsSomeAnd}
use Rattle.std.specs.declared.alloc.Global.{Global}
use Rattle.std.specs.declared.vec.Vec.{Vec}
use Rattle.std.proofs.lemmas.List.{length-append}
use Rattle.cdc_frames.specs.Frames.{frame, frames}
use Rattle.cdc_frames.proofs.FrameLemmas.{frames-append}
use Rattle.cdc_follow.specs.LineParts.{HasNoFeed}
use Rattle.cdc_follow.specs.Lines.{lines_of}
use Rattle.cdc_follow.proofs.LineLemmas.{lines_of-feed, lines_of-none}
use Rattle.cdc_audit.proofs.AuditLemmas.{no_lines}
use Rattle.cdc_audit.specs.declared.streams.AuditStop.TheVariants.{AtEnd}
use Rattle.cdc_audit.specs.Audits.{AuditState, bytes_audited, lines_audited}
use Rattle.cdc_audit.specs.Standing.{AuditorState}
use Rattle.cdc_audit.specs.Stops.{EndsAs, IsTaken}
use Rattle.cdc_audit_state.specs.Logs.{log_name, log_text}
use Rattle.cdc_audit_state.proofs.LawLemmas.{cut_lines, go_on}
use Rattle.cdc_audit_state.proofs.ReplayLemmas.{replays_more}
use Rattle.cdc_audit_state.specs.States.{state_text}
use Rattle.cdc_streams.proofs.KeepingLemmas.{adds_one, last_of_more}
use Rattle.cdc_streams.specs.Keeping.{AddsTexts, AppendsText, ReplacesText, last_text}
use Rattle.cdc_audit_command.specs.States.{IsTextOf}
use Rattle.cdc_audit_command.specs.declared.auditors.StreamAudit.{StreamAudit}
use Rattle.cdc_audit_command.specs.declared.auditors.StreamAuditor.{StreamAuditor}
use Rattle.cdc_audit_command.specs.Private.Kept.{AreWhole, Fits, GoesOn, HasRecords, Leads}

-- the frame of this number
abbrev Frame : ℕ → List ℕ → List ℕ
Frame number content = frame log_name number content

base_log : (auditor : AuditorState) → HasRecords (Frame 0 (state_text auditor)) 0 auditor
base_log auditor =
    (auditor, [], sym (append-nil (Frame 0 (state_text auditor))), λ state stands. (tt, stands), refl)

-- the text of a log with one more record
more_text : (base : AuditorState) (records : List (List ℕ)) (lines : List ℕ) (number : ℕ)
    → number ≡ length records + 1 → log_text base records ++ Frame number lines ≡ log_text base (records ++ lines ∷ [])
more_text base records lines number is =
    let first = state_text base in
    let next : 0 + length (first ∷ records) ≡ number = omega (arith, is) in
    sym (frames-append log_name 0 (first ∷ records) (lines ∷ [])
    ∙ ap (λ n. frames log_name 0 (first ∷ records) ++ (Frame n lines ++ [])) next
    ∙ ap (λ last. frames log_name 0 (first ∷ records) ++ last) (append-nil (Frame number lines)))

record_log : (text : List ℕ) (count number : ℕ) (past now : AuditorState) (lines : List ℕ)
    → HasRecords text count past → Leads past lines now → number ≡ count + 1
    → HasRecords (text ++ Frame number lines) number now
record_log text count number past now lines has leads next =
    let base = has.0 in
    let records = has.1 in
    let is : number ≡ length records + 1 = next ∙ ap (λ n. n + 1) has.4 in
    let longer = length-append records (lines ∷ []) in (
      base,
      records ++ lines ∷ [],
      ap (λ t. t ++ Frame number lines) has.2 ∙ more_text base records lines number is,
      replays_more base past now records lines has.3 (λ state stands. (leads.1 state stands).stop)
          (λ state stands. (leads.1 state stands).stands),
      omega (arith, is, longer),
    )

-- ---- the lines that are kept

-- none yet
pub none_kept : (auditor : AuditorState) → Leads auditor [] auditor
none_kept auditor = (
  inl refl,
  λ state stands. subst (λ audited. EndsAs audited AtEnd auditor) (sym (nothing state))
      (record { stop = refl; stands = stands }),
)
  where
    nothing : (state : AuditState) → bytes_audited state [] ≡ record { state = state; stop = AtEnd }
    nothing state = ap (lines_audited state 1) lines_of-none ∙ no_lines state 1

-- the lines of whole lines, and of one more
lines_more : (lines line : List ℕ) → AreWhole lines → HasNoFeed line
    → lines_of (lines ++ (line ++ 10 ∷ [])) ≡ lines_of lines ++ line ∷ []
lines_more lines line (inl none) clean =
    ap (λ l. lines_of (l ++ (line ++ 10 ∷ []))) none ∙ one
    ∙ ap (λ l. l ++ line ∷ []) (sym lines_of-none ∙ ap lines_of (sym none))
  where
    one : lines_of (line ++ 10 ∷ []) ≡ line ∷ []
    one = lines_of-feed line [] clean ∙ ap (λ rest. line ∷ rest) lines_of-none
lines_more lines line (inr whole) clean =
    ap (λ l. lines_of (l ++ (line ++ 10 ∷ []))) whole.1
    ∙ ap lines_of (append_assoc whole.0 (10 ∷ []) (line ++ 10 ∷ []))
    ∙ cut_lines whole.0 (line ++ 10 ∷ [])
    ∙ ap (λ l. lines_of (whole.0 ++ 10 ∷ []) ++ l)
    (lines_of-feed line [] clean ∙ ap (λ rest. line ∷ rest) lines_of-none)
    ∙ ap (λ l. lines_of l ++ line ∷ []) (sym whole.1)

pub one_kept : (past old new : AuditorState) (lines line : List ℕ) → HasNoFeed line → IsTaken line old new
    → Leads past lines old → Leads past (lines ++ (line ++ 10 ∷ [])) new
one_kept past old new lines line clean taken leads = (
  inr (lines ++ line, sym (append_assoc lines line (10 ∷ []))),
  λ state stands.
      let first = leads.1 state stands in
      let mid = (bytes_audited state lines).state in
      let number = 1 + length (lines_of lines) in
      let on = taken number mid first.stands in
      let whole : bytes_audited state (lines ++ (line ++ 10 ∷ [])) ≡ record { state = on.next; stop = AtEnd } =
      ap (lines_audited state 1) (lines_more lines line leads.0 clean)
      ∙ go_on state 1 (lines_of lines) (line ∷ []) first.stop ∙ on.leads [] ∙ no_lines on.next (number + 1) in
      subst (λ audited. EndsAs audited AtEnd new) (sym whole) (record { stop = refl; stands = on.stands }),
)

-- a line was taken, and is kept with the others, if these are
pub goes_on_one : (was now : Option (Vec ℕ Global)) (line : List ℕ) (old new : AuditorState) (had has : ℕ)
    → HasNoFeed line
    → IsTaken line old new
    → IfSome now (λ later. IsSomeAnd was (λ lines. later.items ≡ lines.items ++ (line ++ 10 ∷ [])))
    → GoesOn (record { auditor = old; lines = was; duplicates = had })
    (record { auditor = new; lines = now; duplicates = has })
goes_on_one was None line old new had has clean taken kept = tt
goes_on_one None (Some later) line old new had has clean taken kept = absurd kept
goes_on_one (Some lines) (Some later) line old new had has clean taken kept = λ past leads.
    subst (λ l. Leads past l new) (sym kept) (one_kept past old new lines.items line clean taken leads)

-- nothing was taken
pub stays : (it : StreamAuditor) → GoesOn it it
stays it = go it.lines
  where
    go : (kept : Option (Vec ℕ Global))
        → IfSome kept (λ later. IsSomeAnd kept (λ lines. (past : AuditorState) → Leads past lines.items it.auditor
        → Leads past later.items it.auditor))
    go None = tt
    go (Some lines) = λ past leads. leads

-- ---- what was held

one_base : (old new : Option (List (List ℕ))) (it : StreamAudit)
    → ReplacesText old new (Frame 0 (state_text it.auditor))
    → IfSome old (λ before. (text : List ℕ) × (new ≡ Some (before ++ text ∷ [])) × IsTextOf text it)
one_base None new it is = tt
one_base (Some before) new it is =
    let log = base_log it.auditor in (Frame 0 (state_text it.auditor), is, (log.0, log.1, log.2, log.3))

pub keeps_base : (first old new : Option (List (List ℕ))) (states : List StreamAudit) (it : StreamAudit)
    → ReplacesText old new (Frame 0 (state_text it.auditor)) → AddsTexts IsTextOf first old states
    → AddsTexts IsTextOf first new (states ++ it ∷ [])
keeps_base first old new states it is adds = adds_one IsTextOf first old new states it adds (one_base old new it is)

one_record : (old new : Option (List (List ℕ))) (count number : ℕ) (lines : Vec ℕ Global) (it : StreamAudit)
    → Fits old count (Some lines) it.auditor → number ≡ count + 1 → AppendsText old new (Frame number lines.items)
    → IfSome old (λ before. (text : List ℕ) × (new ≡ Some (before ++ text ∷ [])) × IsTextOf text it)
one_record None new count number lines it fits next is = tt
one_record (Some before) new count number lines it fits next is =
    let log = record_log (last_text before) count number fits.0 it.auditor lines.items fits.1 fits.2 next in
    (last_text before ++ Frame number lines.items, is, (log.0, log.1, log.2, log.3))

pub keeps_record : (first old new : Option (List (List ℕ))) (states : List StreamAudit) (count number : ℕ)
    (lines : Vec ℕ Global) (it : StreamAudit) → Fits old count (Some lines) it.auditor → number ≡ count + 1
    → AppendsText old new (Frame number lines.items) → AddsTexts IsTextOf first old states
    → AddsTexts IsTextOf first new (states ++ it ∷ [])
keeps_record first old new states count number lines it fits next is adds =
    adds_one IsTextOf first old new states it adds (one_record old new count number lines it fits next is)

-- ---- what fits it

fits_after : (new : Option (List (List ℕ))) (count : ℕ) (past : AuditorState) (kept : Option (Vec ℕ Global))
    (now : AuditorState) → IfSome new (λ held. HasRecords (last_text held) count past)
    → IfSome kept (λ lines. Leads past lines.items now) → Fits new count kept now
fits_after new count past None now has leads = tt
fits_after None count past (Some lines) now has leads = tt
fits_after (Some held) count past (Some lines) now has leads = (past, has, leads)

last_is : (before : List (List ℕ)) (text : List ℕ) (new : Option (List (List ℕ))) (count : ℕ) (auditor : AuditorState)
    → new ≡ Some (before ++ text ∷ []) → HasRecords text count auditor
    → IfSome new (λ held. HasRecords (last_text held) count auditor)
last_is before text new count auditor is has =
    subst (λ it. IfSome it (λ held. HasRecords (last_text held) count auditor)) (sym is)
    (subst (λ last. HasRecords last count auditor) (sym (last_of_more before text)) has)

has_base : (old new : Option (List (List ℕ))) (auditor : AuditorState)
    → ReplacesText old new (Frame 0 (state_text auditor)) → IfSome new (λ held. HasRecords (last_text held) 0 auditor)
has_base None new auditor is = subst (λ it. IfSome it (λ held. HasRecords (last_text held) 0 auditor)) (sym is) tt
has_base (Some before) new auditor is =
    last_is before (Frame 0 (state_text auditor)) new 0 auditor is (base_log auditor)

pub fits_base : (old new : Option (List (List ℕ))) (count : ℕ) (auditor : AuditorState)
    (kept : Option (Vec ℕ Global)) (now : AuditorState) → ReplacesText old new (Frame 0 (state_text auditor))
    → count ≡ 0 → IfSome kept (λ lines. Leads auditor lines.items now) → Fits new count kept now
fits_base old new count auditor kept now is none leads =
    subst (λ n. Fits new n kept now) (sym none) (fits_after new 0 auditor kept now (has_base old new auditor is) leads)

has_record : (old new : Option (List (List ℕ))) (count number : ℕ) (lines : Vec ℕ Global) (now : AuditorState)
    → Fits old count (Some lines) now → number ≡ count + 1 → AppendsText old new (Frame number lines.items)
    → IfSome new (λ held. HasRecords (last_text held) number now)
has_record None new count number lines now fits next is =
    subst (λ it. IfSome it (λ held. HasRecords (last_text held) number now)) (sym is) tt
has_record (Some before) new count number lines now fits next is =
    last_is before (last_text before ++ Frame number lines.items) new number now is
    (record_log (last_text before) count number fits.0 now lines.items fits.1 fits.2 next)

pub fits_record : (old new : Option (List (List ℕ))) (count later number : ℕ) (lines : Vec ℕ Global)
    (auditor : AuditorState) (kept : Option (Vec ℕ Global)) (now : AuditorState)
    → Fits old count (Some lines) auditor → number ≡ count + 1 → later ≡ number
    → AppendsText old new (Frame number lines.items) → IfSome kept (λ other. Leads auditor other.items now)
    → Fits new later kept now
fits_record old new count later number lines auditor kept now fits next same is leads =
    subst (λ n. Fits new n kept now) (sym same)
    (fits_after new number auditor kept now (has_record old new count number lines auditor fits next is) leads)

-- ---- whether the stream is another ledger's

-- two flags that are equal are found to be
pub unequal : (x y : Bool) → beq x y ≡ false → x ≡ y → ⊥
unequal true true differ same = cc
unequal true false differ same = cc
unequal false true differ same = cc
unequal false false differ same = cc
