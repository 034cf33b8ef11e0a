-- What arrives in a play of acts is what the subscriber took up to its close.
use Rattle.cdc_deliveries.proofs.Words.{Act, ActsTo, AnswersTo, Arguments, Arriving, ClientBatch, Close, DeliveryStep, Err, LastOpen, List, Next, None, Option, PlaysActs, Seen, Some, Stage, Step, StepError, Submit, Subscription, WorldState, [], ap, arriving, cons_option, delivery_step, delivery_steps, false, filter_map-append, fold, fold-append, inl, inr, nothing_sent, numbered, option_map, refl, seen_of, slice_get, step_for, subst, sym, true, with_step, ℕ, ◌++◌, ◌+◌, ◌∙◌, ◌∷◌, ◌≡◌}
use Rattle.cdc_progress.specs.StoreError.TheVariants as store
use Rattle.cdc_script.specs.declared.step_files.Act.TheVariants as act
use Rattle.cdc_world.specs.declared.steps.StepError.TheVariants.{NotEnabled, Refused, Store, SessionsExhausted, OutOfMemory, StartNotAllowed}
use Rattle.cdc_deliveries.proofs.SubscriptionSteps.{Changes, step_does, with_recorded}
use Rattle.cdc_deliveries.proofs.TakenDeliveries.{Follows, IsLater, IsLater-same, IsLater-trans, goes_on, stays_closed}

-- ---- one more step that was seen

-- what arrives by the steps that were seen
abbrev pub arriving_by : ℕ → List Seen → Arriving
arriving_by i seen = arriving i (delivery_steps seen)

-- one recorded step more, or none
one_recorded : (i : ℕ) (before : Arriving) (recorded : Option DeliveryStep)
    → fold (with_step i) before (cons_option recorded []) ≡ with_recorded i before recorded
one_recorded i before None = refl
one_recorded i before (Some step) = refl

arriving_more : (i : ℕ) (seen : List Seen) (one : Seen)
    → arriving_by i (seen ++ one ∷ []) ≡ with_recorded i (arriving_by i seen) (delivery_step one)
arriving_more i seen one =
    ap (arriving i) (filter_map-append delivery_step seen (one ∷ []))
    ∙ fold-append (with_step i) nothing_sent (delivery_steps seen) (cons_option (delivery_step one) [])
    ∙ one_recorded i (arriving_by i seen) (delivery_step one)

-- ---- one act

-- an act that is done: its step, and what that makes of a subscription
pub record ActChanges (i : ℕ) (want : Option (Step × ℕ)) (s : Subscription) (before after : Stage) : Type 0 where
  pub step : Step
  pub batches : ℕ
  pub wanted : want ≡ Some (step, batches)
  pub one : Seen
  pub seen : after.seen ≡ before.seen ++ one ∷ []
  pub next : Subscription
  pub here : numbered after.world.subscriptions i ≡ Some next
  pub changes : Changes i step (delivery_step one) s next
  pub arrives : arriving_by i after.seen ≡ with_recorded i (arriving_by i before.seen) (delivery_step one)

pub act_changes : (i : ℕ) (want : Option (Step × ℕ)) (s : Subscription) (before after : Stage)
    → numbered before.world.subscriptions i ≡ Some s → AnswersTo before want None after
    → ActChanges i want s before after
act_changes i None s before after found answers = absurd answers
act_changes i (Some want) s before after found answers =
    let did = answers.0 in
    let w = answers.1 in
    let does = step_does before.world i s found want.0 did w answers.2.0 in
    let one : Seen = seen_of before.world want.0 did w in
    let seen : after.seen ≡ before.seen ++ one ∷ [] = ap (λ (x : Stage). x.seen) answers.2.1 in
    record {
      step = want.0;
      batches = want.1;
      wanted = refl;
      one = one;
      seen = seen;
      next = does.next;
      here = ap (λ (x : Stage). numbered x.world.subscriptions i) answers.2.1 ∙ does.here;
      changes = does.changes;
      arrives = ap (arriving_by i) seen ∙ arriving_more i before.seen one;
    }

-- an act whose step is a close asks for it
asks_close : (batches : List ClientBatch) (n : ℕ) (a : Act) (i m : ℕ) → step_for batches n a ≡ Some (Close i, m)
    → a ≡ act.Step (Close i)
asks_close batches n act.Batch i m is = by_batch (slice_get batches n) is
  where
    by_batch : (found : Option ClientBatch)
        → option_map {U = Step × ℕ} (λ (b : ClientBatch). (Submit b.batch, n + 1)) found ≡ Some (Close i, m)
        → act.Batch ≡ act.Step (Close i)
    by_batch None same = cc
    by_batch (Some b) same =
        let both : ◌≡◌ {A = Step × ℕ} (Submit b.batch, n + 1) (Close i, m) = cc in
        let steps : Submit b.batch ≡ Close i = ap (λ (x : Step × ℕ). x.0) both in cc
asks_close batches n (act.Step stated) i m is =
    let both : ◌≡◌ {A = Step × ℕ} (stated, n) (Close i, m) = cc in
    ap (λ (x : Step × ℕ). act.Step x.0) both

-- ---- an act that is refused

-- a step that is refused changes no subscription
refused_same : (w : WorldState) (step : Step) (why : StepError) (w' : WorldState) → Next w step (Err why) w'
    → w'.subscriptions ≡ w.subscriptions
refused_same w step NotEnabled w' is = ap (λ (x : WorldState). x.subscriptions) is.1
refused_same w step (Refused why) w' is = ap (λ (x : WorldState). x.subscriptions) is.1
refused_same w step SessionsExhausted w' is = ap (λ (x : WorldState). x.subscriptions) is.1
refused_same w step StartNotAllowed w' is = ap (λ (x : WorldState). x.subscriptions) is.1
refused_same w step OutOfMemory w' is = ap (λ (x : WorldState). x.subscriptions) is.1.1
refused_same w step (Store store.ReadFault) w' (uses, (tried, (loads, same))) =
    ap (λ (x : WorldState). x.subscriptions) same
refused_same w step (Store store.WriteFault) w' (uses, (tried, (saved, is, either))) =
    elim either [
      | inl same ↦ ap (λ (x : WorldState). x.subscriptions) same
      | inr new ↦ ap (λ (x : WorldState). x.subscriptions) new
    ]
refused_same w step (Store store.BadRecord) w' is = absurd is.1.1
refused_same w step (Store store.OutOfMemory) w' is = absurd is.1.1

-- so an act that is refused changes none, and nothing more is seen or done
pub record ActRefused (before after : Stage) : Type 0 where
  pub subscriptions : after.world.subscriptions ≡ before.world.subscriptions
  pub seen : after.seen ≡ before.seen
  pub done : after.done ≡ before.done

pub act_refused : (before : Stage) (want : Option (Step × ℕ)) (why : StepError) (after : Stage)
    → AnswersTo before want (Some why) after → ActRefused before after
act_refused before None why after answers = record {
  subscriptions = ap (λ (x : Stage). x.world.subscriptions) answers.1;
  seen = ap (λ (x : Stage). x.seen) answers.1;
  done = ap (λ (x : Stage). x.done) answers.1;
}
act_refused before (Some want) why after answers = record {
  subscriptions = ap (λ (x : Stage). x.world.subscriptions) answers.1.1
      ∙ refused_same before.world want.0 why answers.0 answers.1.0.0;
  seen = ap (λ (x : Stage). x.seen) answers.1.1;
  done = ap (λ (x : Stage). x.done) answers.1.1;
}

-- ---- a play from a stage at which the subscriber is closed

-- a play leaves a subscription that is a later state of this one, and nothing has arrived meanwhile
record PlaysClosed (i : ℕ) (s : Subscription) (before end : Stage) : Type 0 where
  now : Subscription
  here : numbered end.world.subscriptions i ≡ Some now
  later : IsLater s now
  arrived : (arriving_by i end.seen).arrived ≡ (arriving_by i before.seen).arrived

plays_closed : (i : ℕ) (batches : List ClientBatch) (before : Stage) (acts : List Act) (refusal : Option StepError)
    (end : Stage) (s : Subscription) → PlaysActs batches before acts refusal end
    → numbered before.world.subscriptions i ≡ Some s → s.reception.closed ≡ true → PlaysClosed i s before end
plays_closed i batches before [] None end s plays found shut = record {
  now = s;
  here = ap (λ (x : Stage). numbered x.world.subscriptions i) plays ∙ found;
  later = IsLater-same s;
  arrived = ap (λ (x : Stage). (arriving_by i x.seen).arrived) plays;
}
plays_closed i batches before [] (Some why) end s plays found shut = absurd plays
plays_closed i batches before (a ∷ acts) refusal end s (inl refused) found shut =
    let same = act_refused before (step_for batches before.batches a) refused.0 end refused.1.1 in
    record {
      now = s;
      here = ap (λ (ss : List Subscription). numbered ss i) same.subscriptions ∙ found;
      later = IsLater-same s;
      arrived = ap (λ (seen : List Seen). (arriving_by i seen).arrived) same.seen;
    }
plays_closed i batches before (a ∷ acts) refusal end s (inr on) found shut =
    let between = on.0 in
    let does = act_changes i (step_for batches before.batches a) s before between found on.1.0 in
    let stays = stays_closed i does.step (delivery_step does.one) (arriving_by i before.seen) s does.next shut
    does.changes in
    let rest = plays_closed i batches between acts refusal end does.next on.1.1 does.here stays.0 in
    record {
      now = rest.now;
      here = rest.here;
      later = IsLater-trans s does.next rest.now stays.1 rest.later;
      arrived = rest.arrived ∙ ap (λ (a : Arriving). a.arrived) does.arrives ∙ stays.2;
    }

-- ---- a play from a stage at which it is open

-- what a play comes to: a last stage at which the subscriber is open, at which it took what arrives in the whole play;
-- and in the end a later state of the subscription there
pub record PlaysOpen (i : ℕ) (binding : Arguments) (batches : List ClientBatch) (before : Stage) (acts : List Act)
    (refusal : Option StepError) (end : Stage) : Type 0 where
  pub last : LastOpen i batches before acts refusal end
  pub bound : last.subscription.binding ≡ binding
  pub follows : Follows (arriving_by i last.stage.seen) last.subscription
  pub arrived : (arriving_by i end.seen).arrived ≡ (arriving_by i last.stage.seen).arrived
  pub now : Subscription
  pub here : numbered end.world.subscriptions i ≡ Some now
  pub later : IsLater last.subscription now

-- the play from a later stage, and the act that leads there
one_act_more : (i : ℕ) (binding : Arguments) (batches : List ClientBatch) (before between : Stage) (a : Act)
    (acts : List Act) (refusal : Option StepError) (end : Stage) → ActsTo batches before a None between
    → PlaysOpen i binding batches between acts refusal end → PlaysOpen i binding batches before (a ∷ acts) refusal end
one_act_more i binding batches before between a acts refusal end acted rest =
    let last = rest.last in
    record {
      last = record {
        stage = last.stage;
        done = a ∷ last.done;
        left = last.left;
        all = ap (λ (others : List Act). a ∷ others) last.all;
        leads = inr (between, (acted, last.leads));
        goes_on = last.goes_on;
        ends = last.ends;
        subscription = last.subscription;
        here = last.here;
        is_open = last.is_open;
      };
      bound = rest.bound;
      follows = rest.follows;
      arrived = rest.arrived;
      now = rest.now;
      here = rest.here;
      later = rest.later;
    }

pub plays_open : (i : ℕ) (binding : Arguments) (batches : List ClientBatch) (before : Stage) (acts : List Act)
    (refusal : Option StepError) (end : Stage) (s : Subscription) → PlaysActs batches before acts refusal end
    → numbered before.world.subscriptions i ≡ Some s → s.reception.closed ≡ false → s.binding ≡ binding
    → Follows (arriving_by i before.seen) s → PlaysOpen i binding batches before acts refusal end
plays_open i binding batches before [] None end s plays found is_open bound follows = record {
  last = record {
    stage = before;
    done = [];
    left = [];
    all = refl;
    leads = refl;
    goes_on = plays;
    ends = inl (ap (λ (x : Stage). x.done) plays);
    subscription = s;
    here = found;
    is_open = is_open;
  };
  bound = bound;
  follows = follows;
  arrived = ap (λ (x : Stage). (arriving_by i x.seen).arrived) plays;
  now = s;
  here = ap (λ (x : Stage). numbered x.world.subscriptions i) plays ∙ found;
  later = IsLater-same s;
}
plays_open i binding batches before [] (Some why) end s plays found is_open bound follows = absurd plays
plays_open i binding batches before (a ∷ acts) refusal end s (inl refused) found is_open bound follows =
    let same = act_refused before (step_for batches before.batches a) refused.0 end refused.1.1 in
    record {
      last = record {
        stage = before;
        done = [];
        left = a ∷ acts;
        all = refl;
        leads = refl;
        goes_on = inl refused;
        ends = inl same.done;
        subscription = s;
        here = found;
        is_open = is_open;
      };
      bound = bound;
      follows = follows;
      arrived = ap (λ (seen : List Seen). (arriving_by i seen).arrived) same.seen;
      now = s;
      here = ap (λ (ss : List Subscription). numbered ss i) same.subscriptions ∙ found;
      later = IsLater-same s;
    }
plays_open i binding batches before (a ∷ acts) refusal end s (inr on) found is_open bound follows =
    let between : Stage = on.0 in
    let does = act_changes i (step_for batches before.batches a) s before between found on.1.0 in
    let goes = goes_on i does.step (delivery_step does.one) (arriving_by i before.seen) s does.next is_open follows
    does.changes in
    elim goes [
      | inl closes ↦
          let rest = plays_closed i batches between acts refusal end does.next on.1.1 does.here closes.1 in
          let closing : step_for batches before.batches a ≡ Some (Close i, does.batches) =
          does.wanted ∙ ap (λ (x : Step). Some (x, does.batches)) closes.0 in
          record {
            last = record {
              stage = before;
              done = [];
              left = a ∷ acts;
              all = refl;
              leads = refl;
              goes_on = inr on;
              ends = inr (asks_close batches before.batches a i does.batches closing);
              subscription = s;
              here = found;
              is_open = is_open;
            };
            bound = bound;
            follows = follows;
            arrived = rest.arrived ∙ ap (λ (x : Arriving). x.arrived) does.arrives ∙ closes.3;
            now = rest.now;
            here = rest.here;
            later = IsLater-trans s does.next rest.now closes.2 rest.later;
          }
      | inr stays ↦
          one_act_more i binding batches before between a acts refusal end on.1.0
          (plays_open i binding batches between acts refusal end does.next on.1.1 does.here stays.0
          (stays.1 ∙ bound)
          (subst (λ (x : Arriving). Follows x does.next) (sym does.arrives) stays.2))
    ]
