-- What a try leads to.
use Rattle.std.proofs.Common.{ap, refl, subst, sym, ◌∙◌}
use Rattle.std.specs.Prelude.{◌≡◌, ℕ, ◌+◌, Bool, false, if◌then◌else◌, List, [], ◌∷◌, ◌++◌, drop, fold, map, Option, Some, None, Ok, Err, get_or, length, ◌<◌}
use Rattle.std.proofs.lemmas.List.{drop_more}
use Rattle.std.proofs.lemmas.List.Sums.{fold-append}
use Rattle.cdc_match.specs.Arguments.{Arguments}
use Rattle.cdc_script.specs.declared.scripts.Script.{Script}
use Rattle.cdc_script.specs.declared.step_files.Act.{Act}
use Rattle.cdc_script.specs.declared.step_files.Act.TheVariants as act
use Rattle.cdc_types.specs.declared.steps.Step.{Step}
use Rattle.cdc_world.specs.Next.{Outcome, next}
use Rattle.cdc_world.specs.Parts.{Parts}
use Rattle.cdc_world.specs.Stands.{Stands}
use Rattle.cdc_world.specs.Worlds.{WorldState, new_world}
use Rattle.cdc_enabled_steps.specs.Enabled.{Trial, after_asking, after_outcome, after_trial, asked, enabled_acts, first_of, new_trial, submission}
use Rattle.cdc_enabled_steps.specs.Private.Trials.{IsTried, TriesAct, TriesStep}

-- where a try ends whose act is done or not
record IsAfter (trial : Trial) (a : Act) (rest : List Step) (is_done : Bool) (w : WorldState) (after : Trial)
    : Type 0 where
  world : after.world ≡ w
  left : after.left ≡ (if is_done then rest else trial.left)
  acts : after.done ≡ (if is_done then trial.done ++ a ∷ [] else trial.done)

outcome_tried : (trial : Trial) (a : Act) (left : List Step) (outcome : Outcome) (done : Bool) (world : WorldState)
    → IsTried outcome done trial.world world
    → IsAfter trial a left done world (after_outcome trial a left outcome)
outcome_tried trial a left (Ok did) done world tried = record {
  world = sym tried.1;
  left = sym (ap (λ it. if it then left else trial.left) tried.0);
  acts = sym (ap (λ it. if it then trial.done ++ a ∷ [] else trial.done) tried.0);
}
outcome_tried trial a left (Err why) done world tried = record {
  world = sym tried.1;
  left = sym (ap (λ it. if it then left else trial.left) tried.0);
  acts = sym (ap (λ it. if it then trial.done ++ a ∷ [] else trial.done) tried.0);
}

-- an act asks for this step, which is tried
pub step_tried : (submissions : List Step) (a : Act) (s : Step) (left : List Step) (made made_then : ℕ) (done : Bool)
    (old new : Parts) → TriesStep s done old new → asked a (drop made submissions) ≡ Some (s, left)
    → (if done then left else drop made submissions) ≡ drop made_then submissions
    → TriesAct submissions a done old made new made_then
step_tried submissions a s left made made_then done old new tries asks leaves = λ trial stands is_left.
    let it = tries trial.world stands in
    let after = outcome_tried trial a left (next trial.world s) done it.0 it.1.1 in (
      after_outcome trial a left (next trial.world s),
      (
        subst (λ w. Stands new w) (sym after.world) it.1.0,
        (
          after.left ∙ ap (λ rest. if done then left else rest) is_left ∙ leaves,
          (ap (after_asking trial a) (ap (asked a) is_left ∙ asks), after.acts),
        ),
      ),
    )

-- a batch is asked for, whose step is tried and done, or refused
pub batch_tried : (submissions : List Step) (a : Act) (s : Step) (made made_then : ℕ) (done : Bool) (old new : Parts)
    → a ≡ act.Batch → made < length submissions → s ≡ get_or submissions made s → TriesStep s done old new
    → (if done then drop (made + 1) submissions else drop made submissions) ≡ drop made_then submissions
    → TriesAct submissions a done old made new made_then
batch_tried submissions a s made made_then done old new is within found tries leaves =
    let first : drop made submissions ≡ s ∷ drop (made + 1) submissions =
    drop_more submissions made s within ∙ ap (λ y. y ∷ drop (made + 1) submissions) (sym found) in
    step_tried submissions a s (drop (made + 1) submissions) made made_then done old new tries
    (ap (λ it. asked it (drop made submissions)) is ∙ ap first_of first) leaves

-- a batch is asked for, and none is left
pub none_left : (submissions : List Step) (made : ℕ) (old : Parts) → drop made submissions ≡ []
    → TriesAct submissions act.Batch false old made old made
none_left submissions made old none = λ trial stands is_left.
    (trial, (stands, (is_left, (ap (λ left. after_asking trial act.Batch (asked act.Batch left)) (is_left ∙ none), refl))))

-- how far the acts were tried that a loop has come to
pub record HasTried (start new : Parts) (submissions : List Step) (made : ℕ) (tried done : List Act) (w : WorldState)
    : Type 0 where
  pub now : Trial
  pub stands : Stands new now.world
  pub left : now.left ≡ drop made submissions
  pub is : fold after_trial (new_trial w submissions) tried ≡ now
  pub acts : now.done ≡ done

-- nothing was tried
pub none_tried : (start : Parts) (submissions : List Step) (w : WorldState) → Stands start w
    → HasTried start start submissions 0 [] [] w
none_tried start submissions w stands = record {
  now = new_trial w submissions;
  stands = stands;
  left = refl;
  is = refl;
  acts = refl;
}

-- one more act was tried
pub one_tried : (start old new : Parts) (submissions : List Step) (made made_then : ℕ) (tried acts : List Act) (a : Act)
    (done : Bool) (w : WorldState) → HasTried start old submissions made tried acts w
    → TriesAct submissions a done old made new made_then
    → HasTried start new submissions made_then (tried ++ a ∷ []) (if done then acts ++ a ∷ [] else acts) w
one_tried start old new submissions made made_then tried acts a done w has tries =
    let it = tries has.now has.stands has.left in
    record {
      now = it.0;
      stands = it.1.0;
      left = it.1.1.0;
      is = fold-append after_trial (new_trial w submissions) tried (a ∷ []) ∙ ap (λ t. after_trial t a) has.is
          ∙ it.1.1.1.0;
      acts = it.1.1.1.1 ∙ ap (λ xs. if done then xs ++ a ∷ [] else xs) has.acts;
    }

-- what is kept of a script's steps
pub of_script : (script : Script) (window : ℕ) (acts kept : List Act) (bindings : List Arguments) (steps : List Step)
    → bindings ≡ script.bindings → steps ≡ map submission script.batches
    → kept ≡ (fold after_trial (new_trial (new_world bindings window None) steps) acts).done
    → kept ≡ enabled_acts script window acts
of_script script window acts kept bindings steps same submitted is =
    is ∙ ap (λ w. (fold after_trial (new_trial (new_world w window None) steps) acts).done) same
    ∙ ap (λ s. (fold after_trial (new_trial (new_world script.bindings window None) s) acts).done) submitted
