use Rattle.std.proofs.Common.{◌≡◌, ℕ, ◌+◌, ◌*◌, ◌-◌, ◌<◌, ◌≤◌, ◌^◌, List, [], ◌∷◌, ◌++◌, length, length-append, sym, ap, ◌∙◌, subst, arith}
use Rattle.cdc_types.specs.declared.events.Event.{Event}
use Rattle.cdc_log.specs.Log.{Log}
use Rattle.cdc_log.specs.Segments.{IsKept}
use Rattle.cdc_log.proofs.Segments.{IsKept-more, filled-fits}
use Rattle.cdc_log.proofs.log.EventLog.add_segment.Goals as goal

-- one more segment, which is empty
one_more : (c : goal.In_ok-push) → c.push.new.self.items ≡ c.self.inside.segments.items ++ [] ∷ []
one_more c =
    c.in_ok-push.ensures.items ∙ ap (λ (s : List Event). c.self.inside.segments.items ++ s ∷ []) c.in_ok-new.ensures

pub invariant_of-self-2 : goal.invariant_of-self-2
invariant_of-self-2 c =
    let segments = c.self.inside.segments.items in
    let n = c.self.inside.len in
    let few : 1024 * length segments + 1024 ≤ 2 ^ 63 = omega (arith, c.if-len-ge-MOST_SEGMENTS.false, c.len.ensures) in
    subst (λ (ss : List (List Event)). IsKept ss n) (sym (one_more c)) (IsKept-more segments n c.self.invariant few)

pub returns-clause-room : goal.returns-clause-room
returns-clause-room c =
    let segments = c.self.inside.segments.items in
    let fits = filled-fits c.self.inside.len segments c.self.invariant.filled in
    let room : 1024 * length segments - c.self.inside.len ≡ c.args.self.now.room =
    ap (λ (log : Log). log.room) c.self.view_is in
    let long : length c.push.new.self.items ≡ length segments + 1 =
    ap (λ (ss : List (List Event)). length ss) (one_more c) ∙ length-append segments ([] ∷ []) in
    omega arith
