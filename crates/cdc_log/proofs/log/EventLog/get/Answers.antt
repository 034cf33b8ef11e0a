use Rattle.std.proofs.Common.{◌≡◌, ◌+◌, ◌*◌, ◌<◌, ◌/◌, ◌%◌, List, None, Some, slice_get, sym, ap, ◌∙◌, arith}
use Rattle.std.specs.Option.{option_copied}
use Rattle.std.proofs.lemmas.Option.{MatchOption-at_none, MatchOption-at_some}
use Rattle.cdc_types.specs.declared.events.Event.{Event}
use Rattle.cdc_log.specs.Log.{Log}
use Rattle.cdc_log.specs.Segments.{joined}
use Rattle.cdc_log.proofs.Segments.{slice_get-joined}
use Rattle.cdc_log.proofs.log.EventLog.get.Goals as goal

pub returns-in_err-segment : goal.returns-in_err-segment
returns-in_err-segment c =
    let segments = c.self.inside.segments.items in
    let place = c.args.place in
    let i = place / 1024 in
    let r = place % 1024 in
    let at : place ≡ 1024 * i + r = omega arith in
    let found = slice_get-joined c.self.inside.len segments place i r c.self.invariant.filled at (omega arith) in
    let none : slice_get segments i ≡ None =
    ap (λ (ss : List (List Event)). slice_get ss i) (sym c.deref.ensures.value) ∙ sym c.nth.ensures
    ∙ ap option_copied c.in_err-segment.was in
    ap option_copied c.from_residual.ensures
    ∙ sym (MatchOption-at_none (slice_get (joined segments) place ≡ None)
    (λ s. slice_get (joined segments) place ≡ slice_get s r) none found)
    ∙ ap (λ (log : Log). slice_get log.events place) c.self.view_is

pub returns : goal.returns
returns c =
    let segments = c.self.inside.segments.items in
    let place = c.args.place in
    let i = place / 1024 in
    let r = place % 1024 in
    let at : place ≡ 1024 * i + r = omega arith in
    let found = slice_get-joined c.self.inside.len segments place i r c.self.invariant.filled at (omega arith) in
    let s = c.in_ok-segment.segment.now in
    let some : slice_get segments i ≡ Some s =
    ap (λ (ss : List (List Event)). slice_get ss i) (sym c.deref.ensures.value) ∙ sym c.nth.ensures
    ∙ ap option_copied c.in_ok-segment.was in
    c.get.ensures
    ∙ sym (MatchOption-at_some (slice_get (joined segments) place ≡ None)
    (λ s. slice_get (joined segments) place ≡ slice_get s r) s some found)
    ∙ ap (λ (log : Log). slice_get log.events place) c.self.view_is
