-- Steps that are all done, one more at a time, and where they stop.
use Rattle.cdc_world.proofs.Words.{Did, DoesAll, Err, Going, IsTrue, List, MovesBy, NextOver, NextPast, None, Ok, Option, Parts, Plays, PlaysBy, Result, Risks, Some, Stands, Step, StepError, StopsAt, WorldState, [], ap, arith, drop, drop_more, get_or, length, list_any, loads, refl, subst, sym, take, take_more, ℕ, ◌++◌, ◌+◌, ◌<◌, ◌∙◌, ◌∷◌, ◌≡◌, ◌≤◌}
use Rattle.std.proofs.Math.Seq.{drop-length}
use Rattle.std.proofs.lemmas.List.Folds.{list_any_at}

-- so many of these steps are done
pub record HasDone (Goes : Going) (p p' : Parts) (steps : List Step) (done : ℕ) : Type 0 where
  pub honest : p'.honest ≡ p.honest
  pub risks : p'.risks ≡ p.risks
  pub leads : (IsTrue (list_any loads steps) → IsTrue p.honest) → (w : WorldState) → Stands p w
      → ((w' : WorldState) × (Stands p' w' × DoesAll Goes w (take done steps) w'))

-- a step of a play that loads is one of the play's steps that load
loads_one : (steps : List Step) (done : ℕ) (step : Step) → done < length steps → step ≡ get_or steps done step
    → IsTrue (loads step) → IsTrue (list_any loads steps)
loads_one steps done step inside here reads = list_any_at loads steps done step inside (ap loads (sym here) ∙ reads)

-- one more step
DoesAll_push : (Goes : Going) (w between w' : WorldState) (steps : List Step) (step : Step) (did : Did)
    → DoesAll Goes w steps between → Goes between step (Ok did) w' → DoesAll Goes w (steps ++ step ∷ []) w'
DoesAll_push Goes w between w' [] step did does next =
    (did, w', (rw (← does) next, refl))
DoesAll_push Goes w between w' (first ∷ steps) step did does next =
    (does.0, does.1, (does.2.0, DoesAll_push Goes does.1 between w' steps step did does.2.1 next))

-- so the loop of a play may go on once another step is done
pub HasDone-more : (Goes : Going) (p p' p'' : Parts) (steps : List Step) (done : ℕ) (step : Step) (did : Did)
    → done < length steps → step ≡ get_or steps done step → HasDone Goes p p' steps done
    → MovesBy Goes p' step (Ok did) p'' → p''.honest ≡ p'.honest → p''.risks ≡ p'.risks
    → HasDone Goes p p'' steps (done + 1)
HasDone-more Goes p p' p'' steps done step did inside here has moves honest' risks' = record {
  honest = honest' ∙ has.honest;
  risks = risks' ∙ has.risks;
  leads = λ honest w st.
      let before = has.leads honest w st in
      let after = moves (λ reads. has.honest ∙ honest (loads_one steps done step inside here reads))
      before.0 before.1.0 in
      let more : take (done + 1) steps ≡ take done steps ++ step ∷ [] =
      take_more steps done step inside ∙ ap (λ (s : Step). take done steps ++ s ∷ []) (sym here) in (
        after.0,
        (
          after.1.0,
          subst (λ (ss : List Step). DoesAll Goes w ss after.0) (sym more)
              (DoesAll_push Goes w before.0 after.0 (take done steps) step did before.1.1 after.1.1),
        ),
      );
}

-- a step that is refused ends a play
pub Plays-stopped : (Goes : Going) (p p' p'' : Parts) (steps : List Step) (done : ℕ) (step : Step) (why : StepError)
    → done < length steps
    → step ≡ get_or steps done step → HasDone Goes p p' steps done → MovesBy Goes p' step (Err why) p''
    → PlaysBy Goes p steps done (Some why) p''
Plays-stopped Goes p p' p'' steps done step why inside here has moves honest w st =
    let before = has.leads honest w st in
    let after = moves (λ reads. has.honest ∙ honest (loads_one steps done step inside here reads))
    before.0 before.1.0 in
    let rest : drop done steps ≡ step ∷ drop (done + 1) steps =
    drop_more steps done step inside ∙ ap (λ (s : Step). s ∷ drop (done + 1) steps) (sym here) in (
      after.0,
      (
        after.1.0,
        record {
          count = omega arith;
          before = before.0;
          does = before.1.1;
          stops = rw rest (after.1.1);
        },
      ),
    )

-- a play of which all steps are done
pub Plays-ended : (Goes : Going) (p p' : Parts) (steps : List Step) (done : ℕ) → length steps ≤ done
    → done ≤ length steps → HasDone Goes p p' steps done → PlaysBy Goes p steps (length steps) None p'
Plays-ended Goes p p' steps done all within has honest w st =
    let before = has.leads honest w st in
    let same : done ≡ length steps = omega (arith, all, within) in (
      before.0,
      (
        before.1.0,
        record {
          count = omega arith;
          before = before.0;
          does = subst (λ (n : ℕ). DoesAll Goes w (take n steps) before.0) same before.1.1;
          stops = rw (drop-length steps);
        },
      ),
    )

-- a step that is tried again is the same over equal risks
pub MovesBy-past : (risks risks' : Risks) (tries : ℕ) (p : Parts) (step : Step) (answer : Result Did StepError)
    (p' : Parts) → risks ≡ risks' → MovesBy (NextPast risks tries) p step answer p'
    → MovesBy (NextPast risks' tries) p step answer p'
MovesBy-past risks risks' tries p step answer p' same moves =
    subst (λ (r : Risks). MovesBy (NextPast r tries) p step answer p') same moves

-- ---- a play that tries nothing again takes each step once

-- as each of its steps is
once : (risks : Risks) (w : WorldState) (step : Step) (answer : Result Did StepError) (w' : WorldState)
    → NextPast risks 0 w step answer w' → NextOver risks w step answer w'
once risks w step answer w' next =
    let none : next.failed ≡ 0 = omega (arith, next.within) in
    let same : next.before ≡ w = rw none at (next.fails) in rw (← same) (next.last)

-- those that are done
does_once : (risks : Risks) (w w' : WorldState) (steps : List Step) → DoesAll (NextPast risks 0) w steps w'
    → DoesAll (NextOver risks) w steps w'
does_once risks w w' [] does = does
does_once risks w w' (step ∷ steps) (did, between, (here, rest)) =
    (did, between, (once risks w step (Ok did) between here, does_once risks between w' steps rest))

-- and the one that is refused, if one is
stops_once : (risks : Risks) (w w' : WorldState) (steps : List Step) (refusal : Option StepError)
    → StopsAt (NextPast risks 0) w steps refusal w' → StopsAt (NextOver risks) w steps refusal w'
stops_once risks w w' [] None stops = stops
stops_once risks w w' (step ∷ steps) (Some why) stops = once risks w step (Err why) w' stops
stops_once risks w w' steps refusal stops = stops

-- so it is a play
pub Plays-once : (p : Parts) (steps : List Step) (done : ℕ) (refusal : Option StepError) (p' : Parts)
    → PlaysBy (NextPast p.risks 0) p steps done refusal p' → Plays p steps done refusal p'
Plays-once p steps done refusal p' plays honest w st =
    let after = plays honest w st in
    let play = after.1.1 in (
      after.0,
      (
        after.1.0,
        record {
          count = play.count;
          before = play.before;
          does = does_once p.risks w play.before (take done steps) play.does;
          stops = stops_once p.risks play.before after.0 (drop done steps) refusal play.stops;
        },
      ),
    )
