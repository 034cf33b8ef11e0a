-- How a stop reports that an actor has stopped.
use Rattle.cdc_run.proofs.Words.{ActorState, Fault, HasStopped, IfSome, Meets, Place, RunFault, Some, StopState, Unstarted, ap, refl, subst, sym, ◌∙◌, ◌≡◌}

module _ {W Seat : Type 0} (seat_of : W → Seat) (place_of : W → Place) (K : W → RunFault → Type 0) (old : ActorState W)
    (stop : StopState) where
  -- it had no thread
  pub aborted : stop ≡ record { system = old.system; place = place_of old.work; met = Unstarted }
      → HasStopped seat_of place_of K old stop
  aborted is = record {
    left = old;
    seat = refl;
    system = ap (λ (s : StopState). s.system) is;
    place = ap (λ (s : StopState). s.place) is;
    met = subst (Meets K old) (sym (ap (λ (s : StopState). s.met) is)) tt;
  }

  -- it met a fault
  pub has_met : (new : ActorState W) (fault : RunFault) → seat_of new.work ≡ seat_of old.work
      → new.system ≡ old.system → new.fault ≡ Some fault → K new.work fault
      → IfSome new.fault
      (λ f. stop ≡ record { system = new.system; place = place_of new.work; met = Fault f })
      → HasStopped seat_of place_of K old stop
  has_met new fault seat system met kind emitted =
      let is : stop ≡ record { system = new.system; place = place_of new.work; met = Fault fault } =
      subst (λ o. IfSome o
      (λ f. stop ≡ record { system = new.system; place = place_of new.work; met = Fault f })) met emitted in
      record {
        left = new;
        seat = seat;
        system = ap (λ (s : StopState). s.system) is ∙ system;
        place = ap (λ (s : StopState). s.place) is;
        met = subst (Meets K new) (sym (ap (λ (s : StopState). s.met) is)) (met, kind);
      }
