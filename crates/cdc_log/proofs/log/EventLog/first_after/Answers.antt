use Rattle.std.proofs.Common.{rules, ◌≡◌, ℕ, ◌+◌, ◌*◌, ◌-◌, ◌<◌, ◌≤◌, true, false, suc, List, [], get_or, length, drop, subst, sym, ap, ◌∙◌, arith}
use Rattle.std.specs.List.Sorted.{IsPartitionedBy, IsPartitionPoint}
use Rattle.std.proofs.lemmas.List.{get_or_default}
use Rattle.std.proofs.lemmas.List.Sorted.{IsPartitionPoint-from_clause}
use Rattle.cdc_types.specs.declared.events.Event.{Event}
use Rattle.cdc_log.specs.Log.{Log, events_after, RiseFrom}
use Rattle.cdc_log.specs.Segments.{joined, begins_by, IsKept}
use Rattle.cdc_log.proofs.Segments.{begun-parted, filled-fits, length-joined, none-begun, place-joined, place-fits, RiseFrom-segment}
use Rattle.cdc_log.proofs.log.EventLog.first_after.Goals as goal

-- a search for the segments that begin by a timestamp stopped right after them
abbrev Begun : ℕ → List (List Event) → ℕ → Type 0
Begun t segments begun =
    IsPartitionPoint (λ s. begins_by t s ≡ true) (λ s. begins_by t s ≡ false) segments begun

pub up_to-requires : goal.up_to-requires
up_to-requires c =
    let segments = c.self.inside.segments.items in
    let same : length c.deref.result.now ≡ length segments =
    ap (λ (ss : List (List Event)). length ss) c.deref.ensures.value in
    let within : c.in-Some.last < length segments =
    omega (arith, c.in-Some.ensures.0, c.in-Some.ensures.1, c.partition_point-begun.ensures.bound) in
    let at = c.index.ensures ∙ get_or_default segments c.in-Some.last c.index.result.now [] within in
    subst (λ (es : List Event). RiseFrom 0 es) (sym at)
    (RiseFrom-segment 0 segments c.in-Some.last c.self.invariant.rising)

-- the place in the last of these segments, and in the log
record Place (t n : ℕ) (segments : List (List Event)) (l p : ℕ) : Type 0 where
  fits : l * 1024 + p ≤ n
  parts : drop (l * 1024 + p) (joined segments) ≡ events_after t (joined segments)

place : (t n : ℕ) (segments : List (List Event)) (begun l p : ℕ) (s : List Event) → IsKept segments n
    → Begun t segments begun → begun ≤ length segments → 1 ≤ begun → l ≡ begun - 1 → s ≡ get_or segments l s
    → p ≤ length s → drop p s ≡ events_after t s → Place t n segments l p
place t n segments begun l p s kept parts bound some at is fits found =
    let within : l < length segments = omega arith in
    let last : begun ≡ suc l = omega arith in
    let begun_last = subst (Begun t segments) last parts in
    let same = is ∙ get_or_default segments l s [] within in
    let fits_there : p ≤ length (get_or segments l []) = subst (λ (es : List Event). p ≤ length es) same fits in
    let found_there = subst (λ (es : List Event). drop p es ≡ events_after t es) same found in
    let turned : l * 1024 + p ≡ 1024 * l + p = omega arith in
    let inside = place-fits t n segments l p kept.filled within (parts.0 l [] (omega arith) (omega arith)) fits_there in
    record {
      fits = omega arith;
      parts = ap (λ m. drop m (joined segments)) turned
          ∙ place-joined t n 0 segments l p kept.filled kept.rising begun_last within fits_there found_there;
    }

there : (c : goal.After-up_to)
    → Place c.args.timestamp c.self.inside.len c.self.inside.segments.items c.in-Some.last c.up_to.result
there c =
    let t = c.args.timestamp in
    let segments = c.self.inside.segments.items in
    let n = c.self.inside.len in
    let begun = c.partition_point-begun.result in
    let kept = c.self.invariant in
    let IsParted = λ (ss : List (List Event)). IsPartitionedBy (begins_by t) ss in
    let parted = subst IsParted (sym c.deref.ensures.value) (begun-parted t n 0 segments kept.filled kept.rising) in
    let parts = IsPartitionPoint-from_clause (begins_by t) c.deref.result.now begun
    c.partition_point-begun.ensures.partitioned parted (λ a r f called. search rules) in
    let same : length c.deref.result.now ≡ length segments =
    ap (λ (ss : List (List Event)). length ss) c.deref.ensures.value in
    place t n segments begun c.in-Some.last c.up_to.result c.index.result.now kept
    (subst (λ (ss : List (List Event)). Begun t ss begun) c.deref.ensures.value parts)
    (omega (arith, c.partition_point-begun.ensures.bound)) c.in-Some.ensures.0 c.in-Some.ensures.1 c.index.ensures
    c.up_to.ensures.bound c.up_to.ensures.parts

pub overflow_add-result : goal.overflow_add-result
overflow_add-result c =
    let fits = (there c).fits in
    let few = filled-fits c.self.inside.len c.self.inside.segments.items c.self.invariant.filled in
    let countable = c.self.invariant.countable in
    omega arith

pub returns-in-Some-clause-bound : goal.returns-in-Some-clause-bound
returns-in-Some-clause-bound c =
    let fits = (there c).fits in
    let joined_long = length-joined c.self.inside.len c.self.inside.segments.items c.self.invariant.filled in
    let long : c.self.inside.len ≡ length c.args.self.now.events =
    sym joined_long ∙ ap (λ (log : Log). length log.events) c.self.view_is in
    omega arith

pub returns-in-Some-clause-parts : goal.returns-in-Some-clause-parts
returns-in-Some-clause-parts c =
    let at = c.in-Some.last * 1024 + c.up_to.result in
    subst (λ (log : Log). drop at log.events ≡ events_after c.args.timestamp log.events) c.self.view_is (there c).parts

pub returns-in-None-clause-parts : goal.returns-in-None-clause-parts
returns-in-None-clause-parts c =
    let t = c.args.timestamp in
    let segments = c.self.inside.segments.items in
    let begun = c.partition_point-begun.result in
    let kept = c.self.invariant in
    let IsParted = λ (ss : List (List Event)). IsPartitionedBy (begins_by t) ss in
    let parted = subst IsParted (sym c.deref.ensures.value)
    (begun-parted t c.self.inside.len 0 segments kept.filled kept.rising) in
    let parts = IsPartitionPoint-from_clause (begins_by t) c.deref.result.now begun
    c.partition_point-begun.ensures.partitioned parted (λ a r f called. search rules) in
    let none : begun ≡ 0 = omega (arith, c.in-None.ensures) in
    let from_0 = subst (λ (ss : List (List Event)). Begun t ss begun) c.deref.ensures.value parts in
    let later = none-begun t 0 segments kept.rising (λ k d within. from_0.1 k d (omega arith) within) in
    subst (λ (log : Log). log.events ≡ events_after t log.events) c.self.view_is (sym later)
