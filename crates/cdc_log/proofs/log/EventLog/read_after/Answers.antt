use Rattle.std.proofs.Common.{◌≡◌, ℕ, ◌+◌, ◌-◌, ◌≤◌, min, zero, suc, List, [], ◌∷◌, length, length-drop, take, drop, refl, sym, ap, ◌∙◌, subst, arith}
use Rattle.std.specs.Result.{IfOk}
use Rattle.cdc_types.specs.declared.events.Event.{Event}
use Rattle.cdc_log.specs.Log.{Log}
use Rattle.cdc_log.proofs.Segments.{length-joined}
use Rattle.cdc_log.proofs.log.EventLog.read_after.Goals as goal

pub overflow_sub-self-inside : goal.overflow_sub-self-inside
overflow_sub-self-inside c =
    let joined_long = length-joined c.self.inside.len c.self.inside.segments.items c.self.invariant.filled in
    let long : c.self.inside.len ≡ length c.args.self.now.events =
    sym joined_long ∙ ap (λ (log : Log). length log.events) c.self.view_is in
    omega (arith, c.first_after-first.ensures.bound)

pub copy-requires-clause-within : goal.copy-requires-clause-within
copy-requires-clause-within c =
    let joined_long = length-joined c.self.inside.len c.self.inside.segments.items c.self.invariant.filled in
    let long : c.self.inside.len ≡ length c.args.self.now.events =
    sym joined_long ∙ ap (λ (log : Log). length log.events) c.self.view_is in
    omega (arith, c.first_after-first.ensures.bound, c.min.ensures)

-- a list has no more than all its elements
take-fewer : (limit some : ℕ) (es : List Event) → some ≡ min limit (length es) → take some es ≡ take limit es
take-fewer zero some es at = let none : some ≡ 0 = omega arith in ap (λ k. take k es) none
take-fewer (suc limit) zero [] at = refl
take-fewer (suc limit) (suc some) [] at = refl
take-fewer (suc limit) zero (e ∷ es) at = absurd (omega arith)
take-fewer (suc limit) (suc some) (e ∷ es) at = ap (λ read. e ∷ read) (take-fewer limit some es (omega arith))

pub returns : goal.returns
returns c =
    let es = c.args.self.now.events in
    let first = c.first_after-first.result in
    let some = c.min.result in
    let joined_long = length-joined c.self.inside.len c.self.inside.segments.items c.self.invariant.filled in
    let long : c.self.inside.len ≡ length es =
    sym joined_long ∙ ap (λ (log : Log). length log.events) c.self.view_is in
    let left = length-drop first es in
    let back : first + some - first ≡ some = omega arith in
    let as_many : some ≡ min c.args.limit (length (drop first es)) = omega (arith, c.min.ensures) in
    let read = ap (λ k. take k (drop first es)) back ∙ take-fewer c.args.limit some (drop first es) as_many
    ∙ ap (take c.args.limit) c.first_after-first.ensures.parts in
    subst (λ (found : List Event). IfOk c.copy.result (λ v. v.items ≡ found)) read c.copy.ensures
