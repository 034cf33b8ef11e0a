-- What arrives at a subscriber in a simulation is what the world's subscriber took.
use Rattle.cdc_deliveries.proofs.Words.{AllByRecursion, AllZip, Arguments, Arrival, ArrivesAsTaken, Bool, Contains, Contains-append_left, Delivery, Event, IsArrivalOf, List, Option, Plan, PlaysActs, Reception, Some, Stage, StepError, [], ap, arrivals, at_start, delivery_steps, each_from, events, feed, fold, items_in, map, new_subscription, next_placed, next_reception, nothing, nothing_sent, numbered, numbered_from, numbered_parts, option_map, placed, refl, slice_get-map, subst, sym, ℕ, ◌-◌, ◌∙◌, ◌∷◌, ◌≡◌}
use Rattle.cdc_commands.specs.QueuePrinted.{binding_at}
use Rattle.cdc_commands.proofs.SimulationReached.{is_reached}
use Rattle.cdc_deliveries.proofs.FoundItems.{IsFound, taken_is_found}
use Rattle.cdc_deliveries.proofs.SentPositions.{in_turn_new, plays_in_turn}
use Rattle.cdc_deliveries.proofs.TakenDeliveries.{Follows, IsNamed}
use Rattle.cdc_deliveries.proofs.TakenPlays.{PlaysOpen, plays_open}

-- arrivals of these names, whose items are found, are the deliveries
are_arrivals : (fed : List Event) (arrived : List Arrival) (ds : List Delivery) → AllZip IsNamed arrived ds
    → AllByRecursion (λ (d : Delivery). IsFound fed d.item) ds → AllZip (IsArrivalOf fed) arrived ds
are_arrivals fed [] [] named found = tt
are_arrivals fed [] (d ∷ ds) named found = absurd named
are_arrivals fed (a ∷ arrived) [] named found = absurd named
are_arrivals fed (a ∷ arrived) (d ∷ ds) (named, rest) (found, more) = (
  record {
    position = named.position;
    item = named.item;
    place = found.0;
    found = ap (placed fed) named.item ∙ found.1.0;
    brings = found.1.1;
  },
  are_arrivals fed arrived ds rest more,
)

-- what is received of arrivals is what is received of the deliveries
received_of : (fed : List Event) (reception : Reception) (arrived : List Arrival) (ds : List Delivery)
    → AllZip (IsArrivalOf fed) arrived ds
    → fold (λ r arrival. next_placed r (placed fed arrival.item)) reception arrived
    ≡ fold next_reception reception (items_in ds)
received_of fed reception [] [] are = refl
received_of fed reception [] (d ∷ ds) are = absurd are
received_of fed reception (a ∷ arrived) [] are = absurd are
received_of fed reception (a ∷ arrived) (d ∷ ds) (is, rest) =
    let one : next_placed reception (placed fed a.item) ≡ next_reception reception d.item =
    ap (next_placed reception) is.found ∙ ap (next_reception reception) is.brings in
    ap (λ (r : Reception). fold (λ x arrival. next_placed x (placed fed arrival.item)) r arrived) one
    ∙ received_of fed (next_reception reception d.item) arrived ds rest

-- before the first act nothing has come to the subscriber
new_here : (bindings : List Arguments) (i : ℕ) (binding : Arguments) → binding_at bindings i ≡ Some binding
    → numbered (map new_subscription bindings) i ≡ Some (new_subscription binding)
new_here bindings i binding binds =
    let at = numbered_parts bindings i binding binds in
    numbered_from (map new_subscription bindings) i (new_subscription binding) at.0
    (slice_get-map new_subscription bindings (i - 1) ∙ ap (option_map new_subscription) at.1)

pub arrives_as_taken : (i : ℕ) (binding : Arguments) (plan : Plan) (refusal : Option StepError) (end : Stage)
    → binding_at plan.script.bindings i ≡ Some binding
    → PlaysActs plan.script.batches (at_start plan.script.bindings plan.window) plan.acts refusal end
    → ArrivesAsTaken i binding plan refusal end
arrives_as_taken i binding plan refusal end binds plays =
    let bindings = plan.script.bindings in
    let batches = plan.script.batches in
    let begun : Follows nothing_sent (new_subscription binding) =
    record { flight = refl; arrived = tt; received = refl } in
    let opened : PlaysOpen i binding batches (at_start bindings plan.window) plan.acts refusal end =
    plays_open i binding batches (at_start bindings plan.window) plan.acts refusal end (new_subscription binding) plays
    (new_here bindings i binding binds) refl refl begun in
    let turn = plays_in_turn i batches (at_start bindings plan.window) plan.acts refusal end (new_subscription binding)
    plays (new_here bindings i binding binds) (in_turn_new binding) in
    let taken = opened.last.subscription.taken in
    let whose : opened.now.binding ≡ binding = opened.later.binding ∙ opened.bound in
    let fed = feed (events end.world.history) binding in
    let found = each_from (λ (d : Delivery). IsFound fed d.item) taken (λ d there.
    subst (λ (b : Arguments). IsFound (feed (events end.world.history) b) d.item) whose
    (taken_is_found end.world i opened.now (is_reached bindings plan.window batches plan.acts refusal end plays)
    opened.here d
    (subst (λ (ds : List Delivery). Contains ds d) (sym opened.later.taken)
    (Contains-append_left taken opened.later.late d there)))) in
    let arrived : AllZip (IsArrivalOf fed) (arrivals i (delivery_steps end.seen)) taken =
    are_arrivals fed (arrivals i (delivery_steps end.seen)) taken
    (subst (λ (others : List Arrival). AllZip IsNamed others taken) (sym opened.arrived) opened.follows.arrived)
    found in
    record {
      last = opened.last;
      taken = arrived;
      subscription = opened.now;
      here = opened.here;
      binds = whose;
      received_so = opened.later.reception
          ∙ ap (λ (shut : Bool). record opened.last.subscription.reception { closed = shut }) (sym opened.last.is_open)
          ∙ opened.follows.received
          ∙ sym (received_of fed nothing (arrivals i (delivery_steps end.seen)) taken arrived);
      sent = λ p. (turn.1.within p, λ up. turn.1.covers p up.0 up.1);
    }
