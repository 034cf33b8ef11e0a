-- The steps of deliveries, one step of a simulation after another.
use Rattle.cdc_deliveries.proofs.Words.{DeliveryStep, Global, IfSome, List, None, Option, Seen, Some, Vec, [], ap, append-nil, cons_option, delivery_step, delivery_steps, filter_map-append, sym, ◌++◌, ◌∙◌, ◌∷◌, ◌≡◌}

-- one more step that was seen
more_seen : (seen : List Seen) (one : Seen) (did : Option DeliveryStep) → did ≡ delivery_step one
    → delivery_steps seen ++ cons_option did [] ≡ delivery_steps (seen ++ one ∷ [])
more_seen seen one did is =
    ap (λ (step : Option DeliveryStep). delivery_steps seen ++ cons_option step []) is
    ∙ sym (filter_map-append delivery_step seen (one ∷ []))

-- it did something with deliveries
pub step_recorded : (steps : Option (Vec DeliveryStep Global)) (seen : List Seen) (one : Seen) (step : DeliveryStep)
    → Some step ≡ delivery_step one
    → IfSome steps (λ recorded. recorded.items ≡ delivery_steps seen ++ step ∷ [])
    → IfSome steps (λ recorded. recorded.items ≡ delivery_steps (seen ++ one ∷ []))
step_recorded None seen one step is has = tt
step_recorded (Some recorded) seen one step is has = has ∙ more_seen seen one (Some step) is

-- it did nothing with them
pub none_recorded : (steps : Option (Vec DeliveryStep Global)) (seen : List Seen) (one : Seen)
    → None ≡ delivery_step one → IfSome steps (λ recorded. recorded.items ≡ delivery_steps seen)
    → IfSome steps (λ recorded. recorded.items ≡ delivery_steps (seen ++ one ∷ []))
none_recorded None seen one is has = tt
none_recorded (Some recorded) seen one is has =
    has ∙ sym (append-nil (delivery_steps seen)) ∙ more_seen seen one None is
