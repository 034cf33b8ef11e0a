use Rattle.std.proofs.Common.{◌≡◌, ℕ, ◌<◌, ◌-◌, length, List, [], ◌∷◌, slice_get, refl, sym, ap, ◌∙◌, arith}
use Rattle.cdc_types.specs.declared.events.Event.{Event}
use Rattle.cdc_types.specs.Timestamps.{last_timestamp}
use Rattle.cdc_types.proofs.Rising.{last_timestamp_from-slice_get}
use Rattle.cdc_log.specs.Log.{Log}
use Rattle.cdc_log.proofs.Segments.{length-joined}
use Rattle.cdc_log.proofs.log.EventLog.last_timestamp.Goals as goal

pub event-requires : goal.event-requires
event-requires c =
    let joined_long = length-joined c.self.inside.len c.self.inside.segments.items c.self.invariant.filled in
    let long : c.self.inside.len ≡ length c.args.self.now.events =
    sym joined_long ∙ ap (λ (log : Log). length log.events) c.self.view_is in
    omega (arith, c.in-Some.ensures.0, c.in-Some.ensures.1)

pub returns-in-Some-clause-last : goal.returns-in-Some-clause-last
returns-in-Some-clause-last c =
    let es = c.args.self.now.events in
    let joined_long = length-joined c.self.inside.len c.self.inside.segments.items c.self.invariant.filled in
    let long : c.self.inside.len ≡ length es =
    sym joined_long ∙ ap (λ (log : Log). length log.events) c.self.view_is in
    let at : length es - 1 ≡ c.in-Some.last = omega (arith, c.in-Some.ensures.1) in
    sym (last_timestamp_from-slice_get es c.event.result.now (ap (slice_get es) at ∙ c.event.ensures))

-- the last timestamp of an empty list is 0
nothing_last : (es : List Event) → length es ≡ 0 → 0 ≡ last_timestamp es
nothing_last [] none = refl
nothing_last (e ∷ es) none = absurd (omega arith)

pub returns-in-None-clause-last : goal.returns-in-None-clause-last
returns-in-None-clause-last c =
    let joined_long = length-joined c.self.inside.len c.self.inside.segments.items c.self.invariant.filled in
    let long : c.self.inside.len ≡ length c.args.self.now.events =
    sym joined_long ∙ ap (λ (log : Log). length log.events) c.self.view_is in
    nothing_last c.args.self.now.events (omega (arith, c.in-None.ensures))
