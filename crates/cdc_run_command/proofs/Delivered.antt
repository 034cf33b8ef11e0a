-- A run's report has what each subscriber of its script was delivered.
use Rattle.cdc_run_command.proofs.Words.{AllZip, Bool, Config, Faults, List, None, Option, RanBy, RanFrom, Received, Report, Risks, Saved, Script, Setting, Some, [], ap, arith, deliveries_of, false, found_at, if◌then◌else◌, length, length-map, made_subscribers, refl, slice_get_within, subst, suc, sym, true, ℕ, ◌+◌, ◌-◌, ◌<◌, ◌==◌, ◌∙◌, ◌∷◌, ◌≡◌}
use Rattle.std.specs.List.{slice_get}
use Rattle.cdc_run.specs.Ends.{ActorState}
use Rattle.cdc_run.specs.Subscriber.{SubscriberCore}
use Rattle.cdc_commands.specs.QueuePrinted.{binding_at}
use Rattle.cdc_run.specs.Links.{LinkId}
use Rattle.cdc_match.specs.Arguments.{Arguments}
use Rattle.cdc_run.specs.Tasks.{SubscriberLeaves}
use Rattle.cdc_run.specs.ToBroker.{ToBroker}
use Rattle.cdc_run.specs.ToSubscriber.{ToSubscriber}
use Rattle.cdc_run.specs.Batch.{Batch}

-- as many subscribers are left as were made
many_left : (system : ℕ) (acks : LinkId ToBroker) (number : ℕ) (links : List (LinkId ToSubscriber))
    (closes : List (Option ℕ)) (news : List (ActorState SubscriberCore)) → length closes ≡ length links
    → AllZip SubscriberLeaves (made_subscribers system acks number links closes) news → length news ≡ length links
many_left system acks number [] [] [] many all = refl
many_left system acks number [] [] (new ∷ news) many all = absurd all
many_left system acks number [] (close ∷ closes) news many all = absurd (omega arith)
many_left system acks number (link ∷ links) [] news many all = absurd (omega arith)
many_left system acks number (link ∷ links) (close ∷ closes) [] many all = absurd all
many_left system acks number (link ∷ links) (close ∷ closes) (new ∷ news) many all =
    let fewer : length closes ≡ length links = omega arith in
    ap (λ (n : ℕ). suc n) (many_left system acks (number + 1) links closes news fewer all.1)

-- one for each binding
all_delivered : (config : Config) (faults : Faults) (held : Option Saved) (honest : Bool) (risks : Risks)
    (scripts : List (List Batch)) (report : Report) → RanFrom config faults held honest risks scripts report
    → length (deliveries_of report) ≡ length config.bindings.items
all_delivered config faults held honest risks scripts report ran =
    let made = ran.are_made in
    ap length ran.reported.deliveries
    ∙ length-map ran.left.subscribers.items (λ (s : ActorState SubscriberCore). s.work.arrivals)
    ∙ many_left config.system made.wiring.to_broker 1 made.wiring.to_subscribers made.closes ran.left.subscribers.items
    (made.closes_count ∙ sym made.subscribers_count)
    (subst (λ (l : List (ActorState SubscriberCore)). AllZip SubscriberLeaves l ran.left.subscribers.items)
    made.subscribers ran.are_left.subscribers)
    ∙ made.subscribers_count

-- a number with a binding is within its list
found_in : (test : Bool) (found : Option Arguments) (binding : Arguments)
    → (if test then None else found) ≡ Some binding → found ≡ Some binding
found_in true found binding is = cc
found_in false found binding is = is

binding_within : (bindings : List Arguments) (number : ℕ) (binding : Arguments)
    → binding_at bindings number ≡ Some binding → number - 1 < length bindings
binding_within bindings number binding found =
    slice_get_within bindings (number - 1) binding
    (found_in (number == 0) (slice_get bindings (number - 1)) binding found)

-- so it has what the subscriber of a binding was delivered
pub delivered_to : (setting : Setting) (script : Script) (report : Report) (number : ℕ) (binding : Arguments)
    → RanBy setting script report → binding_at script.bindings number ≡ Some binding
    → (received : List Received) × (slice_get (deliveries_of report) (number - 1) ≡ Some received)
delivered_to setting script report number binding ran found =
    let plan = setting.plan in
    let many = all_delivered ran.config plan.faults setting.held setting.honest setting.risks _ report ran.ran in
    let within = binding_within script.bindings number binding found in
    let bindings : length ran.config.bindings.items ≡ length script.bindings = ap length ran.is_config.bindings in
    found_at (deliveries_of report) (number - 1) (omega (arith, many, within, bindings))
