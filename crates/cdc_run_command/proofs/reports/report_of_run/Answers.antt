use Rattle.cdc_run_command.proofs.Words.{Batch, ClientBatch, HasRun, IsClient, IsOrderOf, List, Some, ap, arith, client_count, entries_of, length, length-map, owners_of, refl, replies_of, shares_from, slice_get, subst, sym, ℕ, ◌∙◌, ◌≡◌}
use Rattle.cdc_run_command.proofs.RunFaults.{may_fail_so}
use Rattle.cdc_run_command.proofs.RunLemmas.{clients_fit, counted_same, order_of_shares, ran_same, subscribed_same}
use Rattle.cdc_run_command.proofs.ShareLemmas.{length-shares_from}
use Rattle.cdc_run_command.proofs.reports.report_of_run.Goals as goal

pub run_explained-requires-clause-fits : goal.run_explained-requires-clause-fits
run_explained-requires-clause-fits g c κs within =
    let script = c.args.script in
    let fit = clients_fit script c.requires.script in
    let bindings = c.into_vec-bindings.result in
    let counted : c.in_ok-clients.field-0.clients ≡ client_count script.batches =
    c.in_ok-clients.ensures.clients ∙ ap client_count c.into_vec-batches.ensures in
    let so_many : length bindings.items ≡ length script.bindings = ap length c.into_vec-bindings.ensures in
    record {
      some_client = omega (arith, counted, fit.0);
      clients = omega (arith, counted, fit.1);
      some_binding = omega (arith, bindings.ok.0, so_many, c.requires.script.some);
      bindings = omega (arith, bindings.ok.0, so_many, c.requires.script.few);
      window = c.requires.plan.window;
      some_prefetch = c.requires.plan.prefetch.least;
      prefetch = c.requires.plan.prefetch.greatest;
    }

pub run_explained-requires-clause-scripts : goal.run_explained-requires-clause-scripts
run_explained-requires-clause-scripts g c κs within =
    let scripts = c.in_ok-clients.field-0.scripts in
    let batches = c.into_vec-batches.result.items in
    let so_many : length scripts.items ≡ c.in_ok-clients.field-0.clients =
    sym (length-map scripts.items (λ s. s.items)) ∙ ap length c.in_ok-clients.ensures.scripts
    ∙ length-shares_from 1 (client_count batches) (entries_of batches) ∙ sym c.in_ok-clients.ensures.clients in
    omega (arith, scripts.ok.0, so_many)

-- a run that failed met a fault of its actors, or ran out of memory
pub returns-in-Err-clause-failed : goal.returns-in-Err-clause-failed
returns-in-Err-clause-failed g c =
    may_fail_so _ _ _ _ _ c.in-Err.failure c.of.result c.in-Err.ensures.failure c.of.ensures

-- what it reports is that of the script, and its replies are those to the batches in their order
pub returns-in-Ok-clause-comes : goal.returns-in-Ok-clause-comes
returns-in-Ok-clause-comes g c =
    let report = c.in-Ok.report in
    record {
      run = subst (λ (scripts : List (List Batch)). HasRun scripts report)
          (c.in_ok-clients.ensures.scripts
          ∙ ap (λ (all : List ClientBatch). shares_from 1 (client_count all) (entries_of all))
          c.into_vec-batches.ensures)
          c.in-Ok.ensures.report;
      ran = record {
        config = record {
          system = 1;
          bindings = c.into_vec-bindings.result;
          clients = c.in_ok-clients.field-0.clients;
          window = c.args.plan.window;
          prefetch = c.args.plan.prefetch;
          start = c.args.plan.start;
        };
        is_config = record {
          bindings = c.into_vec-bindings.ensures;
          clients = c.in_ok-clients.ensures.clients ∙ ap client_count c.into_vec-batches.ensures;
          window = refl;
          prefetch = refl;
          start = refl;
        };
        ran = ran_same _ _ _ _ _ report _ _
            (c.in_ok-clients.ensures.scripts
            ∙ ap (λ (all : List ClientBatch). shares_from 1 (client_count all) (entries_of all))
            c.into_vec-batches.ensures)
            c.in-Ok.ensures.ran;
      };
      counts = counted_same _ report.counts _ _ c.into_vec-bindings.ensures c.in-Ok.ensures.counts;
      subscribers = λ zero.
          let come = c.in-Ok.ensures.subscribers zero in (
            come.0,
            (
              come.1,
              subscribed_same report.ledger _ come.0 report.subscribers.items _ _ c.into_vec-bindings.ensures come.2,
            ),
          );
    }

pub returns-in-Ok-clause-owners : goal.returns-in-Ok-clause-owners
returns-in-Ok-clause-owners g c = c.in_ok-clients.ensures.order ∙ ap owners_of c.into_vec-batches.ensures

pub returns-in-Ok-clause-replies : goal.returns-in-Ok-clause-replies
returns-in-Ok-clause-replies g c =
    let batches = c.into_vec-batches.result.items in
    let report = c.in-Ok.report in
    subst (λ (order : List ℕ). IsOrderOf order (replies_of report)) (sym c.in_ok-clients.ensures.order)
    (order_of_shares batches (replies_of report)
    (subst (λ (all : List ClientBatch). (k : ℕ) (b : ClientBatch) → slice_get all k ≡ Some b → IsClient b.client)
    (sym c.into_vec-batches.ensures) c.requires.script.clients)
    (c.in-Ok.ensures.report.scripts_are ∙ c.in_ok-clients.ensures.scripts))
