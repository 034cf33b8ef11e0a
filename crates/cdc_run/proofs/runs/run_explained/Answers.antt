use Rattle.cdc_run.proofs.Words.{AreFinished, Batch, Failure, IfErr, IsErrAnd, IsRunFailure, List, err_from_is_err_and, length, length-map, map, places_of, subst, sym, ◌∙◌, ◌≡◌}
use Rattle.cdc_run.proofs.Counting.{has_failed, unsettled}
use Rattle.cdc_run.proofs.Finished.{all_finished}
use Rattle.cdc_run.proofs.Leaving.{are_left, in_places}
use Rattle.cdc_run.proofs.Ran.{has_counted, has_run, have_subscribed, no_client_done, ran_from}
use Rattle.cdc_run.proofs.Seated.{all_seated}
use Rattle.cdc_run.proofs.runs.run_explained.Goals as goal

-- no client has finished yet
pub tasks_of-requires : goal.tasks_of-requires
tasks_of-requires g c = no_client_done _ _ _ _ _ c.in-Ok.ends c.in-Ok.ensures.made

-- what is left is in its places
pub actors_of-requires : goal.actors_of-requires
actors_of-requires g c =
    let scripts : List (List Batch) = map (λ s. s.items) c.args.scripts.items in
    in_places g.row.S.Denot (places_of c.in-Ok.ends) scripts c.in_ok-tasks.tasks.items c.in_ok-left.left.items
    c.in_ok-left.ensures.left c.in_ok-tasks.ensures

-- each actor is where it was made
pub settle-requires : goal.settle-requires
settle-requires g c =
    let scripts : List (List Batch) = map (λ s. s.items) c.args.scripts.items in
    let are = are_left g.row.S.Denot (places_of c.in-Ok.ends) scripts c.in_ok-tasks.tasks.items
    c.in_ok-left.left.items (places_of c.in_ok-finished.finished) c.in_ok-left.ensures.left c.in_ok-tasks.ensures
    c.in_ok-finished.ensures in
    let made = c.in-Ok.ensures.made in
    (λ system. made.wiring, all_seated _ _ _ _ _ c.in-Ok.ends c.in_ok-finished.finished scripts made are)

-- the report is that of the scripts
pub returns-in-Ok-settle-clause-report : goal.returns-in-Ok-settle-clause-report
returns-in-Ok-settle-clause-report g c =
    let scripts : List (List Batch) = map (λ s. s.items) c.args.scripts.items in
    let are = are_left g.row.S.Denot (places_of c.in-Ok.ends) scripts c.in_ok-tasks.tasks.items
    c.in_ok-left.left.items (places_of c.in_ok-finished.finished) c.in_ok-left.ensures.left c.in_ok-tasks.ensures
    c.in_ok-finished.ensures in
    let many : length scripts ≡ c.args.config.clients =
    length-map c.args.scripts.items (λ s. s.items) ∙ sym c.args.scripts.ok.0 ∙ c.requires.scripts in
    has_run _ _ _ _ _ c.in-Ok.ends c.in-Ok.ensures.made c.in_ok-finished.finished scripts are c.in-Ok-settle.report
    c.in-Ok-settle.ensures.report many

-- it is of a run that was made as it was to be
pub returns-in-Ok-settle-clause-ran : goal.returns-in-Ok-settle-clause-ran
returns-in-Ok-settle-clause-ran g c =
    let scripts : List (List Batch) = map (λ s. s.items) c.args.scripts.items in
    let are = are_left g.row.S.Denot (places_of c.in-Ok.ends) scripts c.in_ok-tasks.tasks.items
    c.in_ok-left.left.items (places_of c.in_ok-finished.finished) c.in_ok-left.ensures.left c.in_ok-tasks.ensures
    c.in_ok-finished.ensures in
    ran_from _ _ _ _ _ c.in-Ok.ends c.in-Ok.ensures.made c.in_ok-finished.finished scripts are c.in-Ok-settle.report
    c.in-Ok-settle.ensures.report c.connector_actor_laws.ensures.finished

-- and what it counts that of packets
pub returns-in-Ok-settle-clause-counts : goal.returns-in-Ok-settle-clause-counts
returns-in-Ok-settle-clause-counts g c =
    let scripts : List (List Batch) = map (λ s. s.items) c.args.scripts.items in
    let are = are_left g.row.S.Denot (places_of c.in-Ok.ends) scripts c.in_ok-tasks.tasks.items
    c.in_ok-left.left.items (places_of c.in_ok-finished.finished) c.in_ok-left.ensures.left c.in_ok-tasks.ensures
    c.in_ok-finished.ensures in
    has_counted _ _ _ _ _ c.in-Ok.ends c.in-Ok.ensures.made c.in_ok-finished.finished scripts are
    c.in-Ok-settle.report c.in-Ok-settle.ensures.report

-- its subscribers have come to what they may rely on
pub returns-in-Ok-settle-clause-subscribers : goal.returns-in-Ok-settle-clause-subscribers
returns-in-Ok-settle-clause-subscribers g c = λ zero.
    let scripts : List (List Batch) = map (λ s. s.items) c.args.scripts.items in
    let are = are_left g.row.S.Denot (places_of c.in-Ok.ends) scripts c.in_ok-tasks.tasks.items
    c.in_ok-left.left.items (places_of c.in_ok-finished.finished) c.in_ok-left.ensures.left c.in_ok-tasks.ensures
    c.in_ok-finished.ensures in
    let made = c.in-Ok.ensures.made in (
      made.closes,
      made.closes_are,
      have_subscribed _ _ _ _ _ c.in-Ok.ends made c.in_ok-finished.finished scripts are c.in-Ok-settle.report
          c.in-Ok-settle.ensures.report zero,
    )

-- the stop that counts is one of its actors
pub returns-in_err-left-clause-failure : goal.returns-in_err-left-clause-failure
returns-in_err-left-clause-failure g c =
    let scripts : List (List Batch) = map (λ s. s.items) c.args.scripts.items in
    let many : length scripts ≡ c.args.config.clients =
    length-map c.args.scripts.items (λ s. s.items) ∙ sym c.args.scripts.ok.0 ∙ c.requires.scripts in
    let Is : Failure g.row.S.Denot → Type 0 = IsRunFailure c.args.config.system
    (g.S.ProgressStore.is_honest c.args.store) (g.S.ProgressStore.risks c.args.store) c.args.config.clients
    (length c.args.config.bindings.items) in
    let failed : Is c.in_err-left.field-0.0 =
    has_failed _ _ _ _ _ c.in-Ok.ends c.in-Ok.ensures.made scripts many c.in_ok-tasks.tasks.items
    c.in_ok-tasks.ensures c.in_err-left.field-0.0 c.in_err-left.ensures.stopped in
    let same : IsErrAnd c.from_residual-in_err-left.result (λ e. e ≡ c.in_err-left.field-0.0) =
    c.from_residual-in_err-left.ensures.1 in
    let out = err_from_is_err_and c.from_residual-in_err-left.result same in
    subst (λ r. IfErr r Is) (sym out.1) (subst Is (sym out.2) failed)

-- they have all finished, so that they aren't put together is out of memory
pub out_of_memory-requires-in-Err-settle : goal.out_of_memory-requires-in-Err-settle
out_of_memory-requires-in-Err-settle g c =
    let scripts : List (List Batch) = map (λ s. s.items) c.args.scripts.items in
    let are = are_left g.row.S.Denot (places_of c.in-Ok.ends) scripts c.in_ok-tasks.tasks.items
    c.in_ok-left.left.items (places_of c.in_ok-finished.finished) c.in_ok-left.ensures.left c.in_ok-tasks.ensures
    c.in_ok-finished.ensures in
    let many : length scripts ≡ c.args.config.clients =
    length-map c.args.scripts.items (λ s. s.items) ∙ sym c.args.scripts.ok.0 ∙ c.requires.scripts in
    let fit : AreFinished c.in_ok-finished.finished =
    all_finished _ _ _ _ _ c.in-Ok.ends c.in_ok-finished.finished scripts c.in-Ok.ensures.made many are in
    unsettled (AreFinished c.in_ok-finished.finished) fit c.in-Err-settle.fault c.in-Err-settle.ensures.refused
