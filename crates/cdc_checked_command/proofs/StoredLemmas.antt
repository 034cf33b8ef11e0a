-- The lines that a checker keeps, and the log of its state: a base, and records after it.
use Rattle.std.proofs.Common.{◌≡◌, ℕ, ◌+◌, List, [], ◌∷◌, ◌++◌, length, Option, None, Some, refl, sym, ap, ◌∙◌, subst}
use Rattle.std.proofs.Common.{append-nil, append_assoc, arith, inl, inr, true}
use Rattle.std.specs.Prelude.{IfSome, IsSomeAnd}
use Rattle.std.specs.declared.alloc.Global.{Global}
use Rattle.std.specs.declared.vec.Vec.{Vec}
use Rattle.std.proofs.lemmas.List.{length-append}
use Rattle.cdc_frames.specs.Frames.{frame, frames}
use Rattle.cdc_frames.proofs.FrameLemmas.{frames-append}
use Rattle.cdc_follow.specs.LineParts.{HasNoFeed}
use Rattle.cdc_follow.specs.declared.counts.Counts.{Counts}
use Rattle.cdc_follow.specs.Lines.{lines_of}
use Rattle.cdc_follow.proofs.LineLemmas.{lines_of-feed, lines_of-none}
use Rattle.cdc_audit_state.proofs.LawLemmas.{cut_lines}
use Rattle.cdc_checked_follow.proofs.StreamLemmas.{no_lines}
use Rattle.cdc_checked_follow.specs.declared.streams.CheckStop.TheVariants.{AtEnd}
use Rattle.cdc_checked_follow.specs.Checking.{CheckedState, bytes_checked, lines_checked}
use Rattle.cdc_checked_follow.specs.Standing.{CheckedFollowerState}
use Rattle.cdc_checked_follow.specs.Streams.{EndsAs, IsTaken}
use Rattle.cdc_checked_state.specs.Logs.{log_name, log_text}
use Rattle.cdc_checked_state.proofs.ReplayLemmas.{replays_more}
use Rattle.cdc_checked_state.specs.States.{state_text}
use Rattle.cdc_streams.proofs.KeepingLemmas.{adds_one, last_of_more}
use Rattle.cdc_streams.specs.Keeping.{AddsTexts, AppendsText, ReplacesText, last_text}
use Rattle.cdc_checked_command.specs.Books.{IsTextOf}
use Rattle.cdc_checked_command.specs.Following.{IsOf}
use Rattle.cdc_checked_command.specs.declared.checkers.BoundFollower.{BoundFollower}
use Rattle.cdc_checked_command.specs.declared.checkers.StreamChecker.{StreamChecker}
use Rattle.cdc_checked_command.specs.Private.Kept.{AreWhole, Fits, GoesOn, HasRecords, Leads}
use Rattle.cdc_checked_command.proofs.KeptLemmas.{Next}
use Rattle.cdc_checked_command.proofs.LineLemmas.{go_on}

-- the frame of this number
abbrev Frame : ℕ → List ℕ → List ℕ
Frame number content = frame log_name number content

-- the text of a follower's state
abbrev text_of : BoundFollower → List ℕ
text_of it = state_text it.binding_text.items it.follower

base_log : (it : BoundFollower) → HasRecords (Frame 0 (text_of it)) 0 it
base_log it = (it.follower, [], sym (append-nil (Frame 0 (text_of it))), λ state stands. (tt, stands), refl)

-- the text of a log with one more record
more_text : (binding : List ℕ) (base : CheckedFollowerState) (records : List (List ℕ)) (lines : List ℕ) (number : ℕ)
    → number ≡ length records + 1
    → log_text binding base records ++ Frame number lines ≡ log_text binding base (records ++ lines ∷ [])
more_text binding base records lines number is =
    let first = state_text binding base in
    let next : 0 + length (first ∷ records) ≡ number = omega (arith, is) in
    sym (frames-append log_name 0 (first ∷ records) (lines ∷ [])
    ∙ ap (λ n. frames log_name 0 (first ∷ records) ++ (Frame n lines ++ [])) next
    ∙ ap (λ last. frames log_name 0 (first ∷ records) ++ last) (append-nil (Frame number lines)))

record_log : (text : List ℕ) (count number : ℕ) (past now : BoundFollower) (lines : List ℕ)
    → HasRecords text count past → Leads past lines now → number ≡ count + 1
    → HasRecords (text ++ Frame number lines) number now
record_log text count number past now lines has leads next =
    let base = has.0 in
    let records = has.1 in
    let is : number ≡ length records + 1 = next ∙ ap (λ n. n + 1) has.4 in
    let longer = length-append records (lines ∷ []) in
    let log : HasRecords (text ++ Frame number lines) number (Next past now.follower now.counts) = (
      base,
      records ++ lines ∷ [],
      ap (λ t. t ++ Frame number lines) has.2
          ∙ more_text past.binding_text.items base records lines number is,
      replays_more past.binding base past.follower now.follower records lines has.3
          (λ state stands. (leads.2 state stands).stop) (λ state stands. (leads.2 state stands).stands),
      omega (arith, is, longer),
    ) in
    subst (HasRecords (text ++ Frame number lines) number) (sym leads.1) log

-- ---- the lines that are kept

-- none yet
pub none_kept : (it : BoundFollower) → Leads it [] it
none_kept it = (
  inl refl,
  refl,
  λ state stands. subst (λ followed. EndsAs it.binding followed AtEnd it.follower) (sym (nothing state))
      (record { stop = refl; stands = stands }),
)
  where
    nothing : (state : CheckedState) → bytes_checked true state [] ≡ record { state = state; stop = AtEnd }
    nothing state = ap (lines_checked true state 1) lines_of-none ∙ no_lines it.binding true state 1

-- the lines of whole lines, and of one more
lines_more : (lines line : List ℕ) → AreWhole lines → HasNoFeed line
    → lines_of (lines ++ (line ++ 10 ∷ [])) ≡ lines_of lines ++ line ∷ []
lines_more lines line (inl none) clean =
    ap (λ l. lines_of (l ++ (line ++ 10 ∷ []))) none ∙ one
    ∙ ap (λ l. l ++ line ∷ []) (sym lines_of-none ∙ ap lines_of (sym none))
  where
    one : lines_of (line ++ 10 ∷ []) ≡ line ∷ []
    one = lines_of-feed line [] clean ∙ ap (λ rest. line ∷ rest) lines_of-none
lines_more lines line (inr whole) clean =
    ap (λ l. lines_of (l ++ (line ++ 10 ∷ []))) whole.1
    ∙ ap lines_of (append_assoc whole.0 (10 ∷ []) (line ++ 10 ∷ []))
    ∙ cut_lines whole.0 (line ++ 10 ∷ [])
    ∙ ap (λ l. lines_of (whole.0 ++ 10 ∷ []) ++ l)
    (lines_of-feed line [] clean ∙ ap (λ rest. line ∷ rest) lines_of-none)
    ∙ ap (λ l. lines_of l ++ line ∷ []) (sym whole.1)

pub one_kept : (past old new : BoundFollower) (lines line : List ℕ) → HasNoFeed line
    → IsTaken old.binding line old.follower new.follower → IsOf old new
    → Leads past lines old → Leads past (lines ++ (line ++ 10 ∷ [])) new
one_kept past old new lines line clean taken same leads = (
  inr (lines ++ line, sym (append_assoc lines line (10 ∷ []))),
  same ∙ ap (λ (it : BoundFollower). Next it new.follower new.counts) leads.1,
  λ state stands.
      let binding : old.binding ≡ past.binding = ap (λ (it : BoundFollower). it.binding) leads.1 in
      let taken_so = subst (λ b. IsTaken b line old.follower new.follower) binding taken in
      let first = leads.2 state stands in
      let mid = (bytes_checked true state lines).state in
      let number = 1 + length (lines_of lines) in
      let on = taken_so number mid first.stands in
      let whole : bytes_checked true state (lines ++ (line ++ 10 ∷ [])) ≡ record { state = on.next; stop = AtEnd } =
      ap (lines_checked true state 1) (lines_more lines line leads.0 clean)
      ∙ go_on past.binding true state 1 (lines_of lines) (line ∷ []) first.stop ∙ on.leads []
      ∙ no_lines past.binding true on.next (number + 1) in
      subst (λ followed. EndsAs past.binding followed AtEnd new.follower) (sym whole)
      (record { stop = refl; stands = on.stands }),
)

-- a line was taken, and is kept with the others, if these are
pub goes_on_one : (was now : Option (Vec ℕ Global)) (line : List ℕ) (old : BoundFollower)
    (follower : CheckedFollowerState) (counts : Counts) → HasNoFeed line
    → IsTaken old.binding line old.follower follower
    → IfSome now (λ later. IsSomeAnd was (λ lines. later.items ≡ lines.items ++ (line ++ 10 ∷ [])))
    → GoesOn (record { bound = old; lines = was }) (record { bound = Next old follower counts; lines = now })
goes_on_one was None line old follower counts clean taken kept = tt
goes_on_one None (Some later) line old follower counts clean taken kept = absurd kept
goes_on_one (Some lines) (Some later) line old follower counts clean taken kept = λ past leads.
    subst (λ l. Leads past l (Next old follower counts)) (sym kept)
    (one_kept past old (Next old follower counts) lines.items line clean taken refl leads)

-- nothing was taken
pub stays : (it : StreamChecker) → GoesOn it it
stays it = go it.lines
  where
    go : (kept : Option (Vec ℕ Global))
        → IfSome kept (λ later. IsSomeAnd kept (λ lines. (past : BoundFollower) → Leads past lines.items it.bound
        → Leads past later.items it.bound))
    go None = tt
    go (Some lines) = λ past leads. leads

-- ---- what was held

one_base : (old new : Option (List (List ℕ))) (it : BoundFollower)
    → ReplacesText old new (Frame 0 (text_of it))
    → IfSome old (λ before. (text : List ℕ) × (new ≡ Some (before ++ text ∷ [])) × IsTextOf text it)
one_base None new it is = tt
one_base (Some before) new it is =
    let log = base_log it in (Frame 0 (text_of it), is, (log.0, log.1, log.2, log.3))

pub keeps_base : (first old new : Option (List (List ℕ))) (states : List BoundFollower) (it : BoundFollower)
    → ReplacesText old new (Frame 0 (text_of it)) → AddsTexts IsTextOf first old states
    → AddsTexts IsTextOf first new (states ++ it ∷ [])
keeps_base first old new states it is adds = adds_one IsTextOf first old new states it adds (one_base old new it is)

one_record : (old new : Option (List (List ℕ))) (count number : ℕ) (lines : Vec ℕ Global) (it : BoundFollower)
    → Fits old count (Some lines) it → number ≡ count + 1 → AppendsText old new (Frame number lines.items)
    → IfSome old (λ before. (text : List ℕ) × (new ≡ Some (before ++ text ∷ [])) × IsTextOf text it)
one_record None new count number lines it fits next is = tt
one_record (Some before) new count number lines it fits next is =
    let log = record_log (last_text before) count number fits.0 it lines.items fits.1 fits.2 next in
    (last_text before ++ Frame number lines.items, is, (log.0, log.1, log.2, log.3))

pub keeps_record : (first old new : Option (List (List ℕ))) (states : List BoundFollower) (count number : ℕ)
    (lines : Vec ℕ Global) (it : BoundFollower) → Fits old count (Some lines) it → number ≡ count + 1
    → AppendsText old new (Frame number lines.items) → AddsTexts IsTextOf first old states
    → AddsTexts IsTextOf first new (states ++ it ∷ [])
keeps_record first old new states count number lines it fits next is adds =
    adds_one IsTextOf first old new states it adds (one_record old new count number lines it fits next is)

-- ---- what fits it

fits_after : (new : Option (List (List ℕ))) (count : ℕ) (past : BoundFollower) (kept : Option (Vec ℕ Global))
    (now : BoundFollower) → IfSome new (λ held. HasRecords (last_text held) count past)
    → IfSome kept (λ lines. Leads past lines.items now) → Fits new count kept now
fits_after new count past None now has leads = tt
fits_after None count past (Some lines) now has leads = tt
fits_after (Some held) count past (Some lines) now has leads = (past, has, leads)

last_is : (before : List (List ℕ)) (text : List ℕ) (new : Option (List (List ℕ))) (count : ℕ) (it : BoundFollower)
    → new ≡ Some (before ++ text ∷ []) → HasRecords text count it
    → IfSome new (λ held. HasRecords (last_text held) count it)
last_is before text new count it is has =
    subst (λ texts. IfSome texts (λ held. HasRecords (last_text held) count it)) (sym is)
    (subst (λ last. HasRecords last count it) (sym (last_of_more before text)) has)

has_base : (old new : Option (List (List ℕ))) (it : BoundFollower)
    → ReplacesText old new (Frame 0 (text_of it)) → IfSome new (λ held. HasRecords (last_text held) 0 it)
has_base None new it is = subst (λ texts. IfSome texts (λ held. HasRecords (last_text held) 0 it)) (sym is) tt
has_base (Some before) new it is =
    last_is before (Frame 0 (text_of it)) new 0 it is (base_log it)

pub fits_base : (old new : Option (List (List ℕ))) (count : ℕ) (it : BoundFollower)
    (kept : Option (Vec ℕ Global)) (now : BoundFollower) → ReplacesText old new (Frame 0 (text_of it))
    → count ≡ 0 → IfSome kept (λ lines. Leads it lines.items now) → Fits new count kept now
fits_base old new count it kept now is none leads =
    subst (λ n. Fits new n kept now) (sym none) (fits_after new 0 it kept now (has_base old new it is) leads)

has_record : (old new : Option (List (List ℕ))) (count number : ℕ) (lines : Vec ℕ Global) (now : BoundFollower)
    → Fits old count (Some lines) now → number ≡ count + 1 → AppendsText old new (Frame number lines.items)
    → IfSome new (λ held. HasRecords (last_text held) number now)
has_record None new count number lines now fits next is =
    subst (λ texts. IfSome texts (λ held. HasRecords (last_text held) number now)) (sym is) tt
has_record (Some before) new count number lines now fits next is =
    last_is before (last_text before ++ Frame number lines.items) new number now is
    (record_log (last_text before) count number fits.0 now lines.items fits.1 fits.2 next)

pub fits_record : (old new : Option (List (List ℕ))) (count later number : ℕ) (lines : Vec ℕ Global)
    (it : BoundFollower) (kept : Option (Vec ℕ Global)) (now : BoundFollower)
    → Fits old count (Some lines) it → number ≡ count + 1 → later ≡ number
    → AppendsText old new (Frame number lines.items) → IfSome kept (λ other. Leads it other.items now)
    → Fits new later kept now
fits_record old new count later number lines it kept now fits next same is leads =
    subst (λ n. Fits new n kept now) (sym same)
    (fits_after new number it kept now (has_record old new count number lines it fits next is) leads)
