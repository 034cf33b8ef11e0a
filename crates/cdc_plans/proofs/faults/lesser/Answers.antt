use Rattle.cdc_plans.specs.Faults.{IsLeast, closes_of}
use Rattle.std.proofs.Common.{arith, subst, ℕ, ◌≡◌, ◌≤◌}
use Rattle.std.specs.Prelude.{Option, ◌⊎◌}
use Rattle.cdc_plans.proofs.Closes.{counts_so, least_begins, least_falls}
use Rattle.cdc_plans.proofs.faults.lesser.Goals as goal

pub returns-in-Some : goal.returns-in-Some
returns-in-Some c =
    let n : ℕ = c.in-Some.number in
    let low : c.min.result ≤ n = omega arith in
    let lower : c.min.result ≤ c.args.entry.1 = omega arith in
    let which : (c.min.result ≡ n) ⊎ (c.min.result ≡ c.args.entry.1) = grind arith in
    λ closes is.
    least_falls c.args.subscriber closes c.args.entry n c.min.result
    (counts_so c.args.subscriber c.args.entry c.if-entry-subscriber.false c.if-entry-eq0.false) low lower which
    (subst (λ (o : Option ℕ). IsLeast (closes_of c.args.subscriber closes) o) c.in-Some.is is)

pub returns-in-None : goal.returns-in-None
returns-in-None c = λ closes is.
    least_begins c.args.subscriber closes c.args.entry
    (counts_so c.args.subscriber c.args.entry c.if-entry-subscriber.false c.if-entry-eq0.false)
    (subst (λ (o : Option ℕ). IsLeast (closes_of c.args.subscriber closes) o) c.in-None.is is)
