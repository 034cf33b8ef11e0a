-- Tries of a step that failed, one more at a time, and the last one.
use Rattle.cdc_world.proofs.Words.{Did, FailsTimes, IsTrue, Moves, MovesPast, NextOver, Parts, Result, Risks, Stands, Step, StepError, WorldState, arith, false, is_passing, loads, refl, subst, suc, ℕ, ◌+◌, ◌∙◌, ◌≡◌, ◌≤◌}

-- a step was tried so often, and each try failed
pub record HasFailed (p p' : Parts) (step : Step) (failed : ℕ) : Type 0 where
  pub honest : p'.honest ≡ p.honest
  pub risks : p'.risks ≡ p.risks
  pub leads : (IsTrue (loads step) → IsTrue p.honest) → (w : WorldState) → Stands p w
      → ((w' : WorldState) × (Stands p' w' × FailsTimes p.risks failed w step w'))

-- before the first try
pub HasFailed-none : (p : Parts) (step : Step) → HasFailed p p step 0
HasFailed-none p step = record { honest = refl; risks = refl; leads = λ honest w st. (w, (st, refl)) }

-- one more
pub HasFailed-more : (p p' p'' : Parts) (step : Step) (failed : ℕ) (answer : Result Did StepError)
    → IsTrue (is_passing answer) → HasFailed p p' step failed → Moves p' step answer p'' → p''.honest ≡ p'.honest
    → p''.risks ≡ p'.risks → HasFailed p p'' step (failed + 1)
HasFailed-more p p' p'' step failed answer passing has moves honest' risks' =
    let more : suc failed ≡ failed + 1 = omega arith in record {
      honest = honest' ∙ has.honest;
      risks = risks' ∙ has.risks;
      leads = λ honest w st.
          let before = has.leads honest w st in
          let after = moves (λ reads. has.honest ∙ honest reads) before.0 before.1.0 in (
            after.0,
            (
              after.1.0,
              subst (λ (n : ℕ). FailsTimes p.risks n w step after.0) more (
                answer,
                before.0,
                (
                  before.1.1,
                  (passing, subst (λ (r : Risks). NextOver r before.0 step answer after.0) has.risks after.1.1),
                ),
              ),
            ),
          );
    }

-- an answer after which no further try is made
pub isnt_passing : {P : Type 0} (answer : Result Did StepError) → is_passing answer ≡ false
    → IsTrue (is_passing answer) → P
isnt_passing answer isnt is = cc

-- the last
pub MovesPast-last : (p p' p'' : Parts) (step : Step) (tries failed : ℕ) (answer : Result Did StepError)
    → failed ≤ tries → (IsTrue (is_passing answer) → failed ≡ tries) → HasFailed p p' step failed
    → Moves p' step answer p'' → MovesPast tries p step answer p''
MovesPast-last p p' p'' step tries failed answer within spent has moves honest w st =
    let before = has.leads honest w st in
    let after = moves (λ reads. has.honest ∙ honest reads) before.0 before.1.0 in (
      after.0,
      (
        after.1.0,
        record {
          failed = failed;
          within = within;
          before = before.0;
          fails = before.1.1;
          last = subst (λ (r : Risks). NextOver r before.0 step answer after.0) has.risks after.1.1;
          spent = spent;
        },
      ),
    )
