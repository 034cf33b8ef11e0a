use Rattle.std.proofs.Common.{◌≡◌, ℕ, ◌+◌, ◌*◌, ◌-◌, ◌<◌, ◌/◌, ◌%◌, List, [], ◌∷◌, ◌++◌, length, get_or, set, subst, sym, ap, ◌∙◌, arith}
use Rattle.std.proofs.lemmas.List.{get_or_default}
use Rattle.cdc_types.specs.declared.events.Event.{Event}
use Rattle.cdc_types.specs.Timestamps.{last_timestamp}
use Rattle.cdc_types.proofs.Rising.{last_timestamp_from-push}
use Rattle.cdc_log.specs.Log.{Log}
use Rattle.cdc_log.specs.Segments.{joined, IsKept}
use Rattle.cdc_log.proofs.Segments.{IsKept-push, joined-push, length-segment}
use Rattle.cdc_log.proofs.log.EventLog.push.Goals as goal

-- the place of the segment that is filled next, and what is in it
record Next (segments : List (List Event)) (n : ℕ) (s : List Event) : Type 0 where
  within : n / 1024 < length segments
  at : n ≡ 1024 * (n / 1024) + n % 1024
  low : n % 1024 < 1024
  is : s ≡ get_or segments (n / 1024) []
  short : length s < 1024

next : (segments : List (List Event)) (n : ℕ) (s : List Event) → IsKept segments n → 0 < 1024 * length segments - n
    → s ≡ get_or segments (n / 1024) s → Next segments n s
next segments n s kept room found =
    let at : n ≡ 1024 * (n / 1024) + n % 1024 = omega arith in
    let within : n / 1024 < length segments = omega arith in
    let is = found ∙ get_or_default segments (n / 1024) s [] within in
    let long = length-segment n segments (n / 1024) kept.filled within in
    record {
      within = within;
      at = at;
      low = omega arith;
      is = is;
      short = subst (λ (es : List Event). length es < 1024) (sym is) (omega arith);
    }

pub push-requires : goal.push-requires
push-requires c =
    let room : 1024 * length c.self.inside.segments.items - c.self.inside.len ≡ c.args.self.now.room =
    ap (λ (log : Log). log.room) c.self.view_is in
    let p = next c.self.inside.segments.items c.self.inside.len c.index_mut.result.now c.self.invariant
    (omega (arith, c.requires.room)) c.index_mut.ensures.value in
    p.short

here : (c : goal.After-self-2-1) → Next c.self.inside.segments.items c.self.inside.len c.index_mut.result.now
here c =
    let room : 1024 * length c.self.inside.segments.items - c.self.inside.len ≡ c.args.self.now.room =
    ap (λ (log : Log). log.room) c.self.view_is in
    next c.self.inside.segments.items c.self.inside.len c.index_mut.result.now c.self.invariant
    (omega (arith, c.requires.room)) c.index_mut.ensures.value

-- what is in it then
filled : (c : goal.After-self-2-1)
    → c.push.new.self ≡ get_or c.self.inside.segments.items (c.self.inside.len / 1024) [] ++ c.args.event ∷ []
filled c = let p = here c in c.push.ensures ∙ ap (λ es. es ++ c.args.event ∷ []) p.is

pub invariant_of-self : goal.invariant_of-self
invariant_of-self c =
    let segments = c.self.inside.segments.items in
    let n = c.self.inside.len in
    let p = here c in
    let IsBefore = λ (log : Log). last_timestamp log.events < c.args.event.timestamp in
    let later = subst IsBefore (sym c.self.view_is) c.requires.later in
    subst (λ (s : List Event). IsKept (set segments (n / 1024) s) (n + 1)) (sym (filled c))
    (IsKept-push segments n (n / 1024) (n % 1024) c.args.event c.self.invariant p.at p.low p.within later)

-- the events have one more
pushed : (c : goal.After-self-2-1)
    → joined (set c.self.inside.segments.items (c.self.inside.len / 1024) c.push.new.self)
    ≡ joined c.self.inside.segments.items ++ c.args.event ∷ []
pushed c =
    let segments = c.self.inside.segments.items in
    let n = c.self.inside.len in
    let p = here c in
    let put = joined-push n segments (n / 1024) (n % 1024) c.args.event c.self.invariant.filled p.at p.low p.within in
    ap (λ (s : List Event). joined (set segments (n / 1024) s)) (filled c) ∙ put.0

pub returns-clause-events : goal.returns-clause-events
returns-clause-events c = pushed c ∙ ap (λ (log : Log). log.events ++ c.args.event ∷ []) c.self.view_is

pub returns-clause-last : goal.returns-clause-last
returns-clause-last c =
    ap last_timestamp (pushed c) ∙ last_timestamp_from-push 0 (joined c.self.inside.segments.items) c.args.event
