-- What holds whatever happens.
use Rattle.std.proofs.Common.{◌≡◌, ◌⊎◌, ℕ, zero, suc, ◌+◌, ◌≤◌, List, [], ◌∷◌, ◌++◌, length, take, Bool, true, false, cond}
use Rattle.std.proofs.Common.{eqb}
use Rattle.std.proofs.Common.{Option, Some, None, Result, Ok, Err, refl, sym, ap, subst, ◌∙◌, arith, length-append}
use Rattle.std.proofs.Common.{inl, inr, append-nil}
use Rattle.std.specs.List.{AllByRecursion}
use Rattle.std.specs.Option.{option_to_list}
use Rattle.std.proofs.lemmas.List.Sums.{fold-append}
use Rattle.cdc_amqp_methods.specs.declared.requests.Request.{Request}
use Rattle.cdc_amqp_methods.specs.declared.requests.Request.TheVariants as sent
use Rattle.cdc_amqp_consumer.specs.declared.consumer.Done.{Done}
use Rattle.cdc_amqp_consumer.specs.declared.consumer.Outcome.{Outcome}
use Rattle.cdc_amqp_consumer.specs.declared.consumer.Outcome.TheVariants.{GoesOn, Delivered, Ended}
use Rattle.cdc_amqp_consumer.specs.declared.errors.ConsumeFault.{ConsumeFault}
use Rattle.cdc_amqp_consumer.specs.declared.replies.Settings.{Settings}
use Rattle.cdc_amqp_consumer.specs.Machine.{State, Turn, received}
use Rattle.cdc_follow.specs.declared.entries.Entry.{Entry}
use Rattle.cdc_follow.specs.declared.errors.LineError.{LineError}
use Rattle.cdc_follow.specs.Entries.{Read}
use Rattle.cdc_amqp_dialogue.specs.Deliveries.{Delivery, bad_tag, bad_tags, delivery_entry, entries_of, entry_list}
use Rattle.cdc_amqp_dialogue.specs.Laws.{Carries, IsAllowed, IsKept, IsSound, rejected_tag, rejected_tags}
use Rattle.cdc_amqp_dialogue.specs.Taking.{EntryRules, Plan, delivery_of, follow_entries, follower_after}
use Rattle.cdc_amqp_dialogue.specs.Taking.{refusal_of, taking_after, taking_by, taking_of, taking_of_read}
use Rattle.cdc_amqp_dialogue.specs.Worlds.{Step, Comes, Saves, Acknowledges, Closes, Looks, World, begins, came, comes}
use Rattle.cdc_amqp_dialogue.specs.Worlds.{answers_of, closes, deliveries_after, follower_of, happens}
use Rattle.cdc_amqp_dialogue.specs.Worlds.{handled_after, rejections_of, requests_of, run, saves, stop_after}
use Rattle.cdc_amqp_dialogue.specs.Worlds.{taken_after}
use Rattle.cdc_amqp_dialogue.specs.declared.taking.Reason.TheVariants.{BadMessage}
use Rattle.cdc_amqp_dialogue.specs.declared.taking.Refusal.{Refusal}
use Rattle.cdc_amqp_dialogue.specs.declared.taking.Taking.{Taking}
use Rattle.cdc_amqp_dialogue.specs.declared.taking.Taking.TheVariants.{Taken, Parked, Refused, Ignored}
use Rattle.cdc_amqp_dialogue.proofs.Entries.{all_first, carries_last, carries_more, entries_more, first_stay}
use Rattle.cdc_amqp_dialogue.proofs.Entries.{rejected_more, tags_more}
use Rattle.cdc_amqp_dialogue.proofs.Turns as turns
use Rattle.cdc_amqp_dialogue.proofs.Turns.{IsNeutral, Keeps, completes, turn_keeps}

-- ---- requests

all_both : (P : Request → Type 0) (xs ys : List Request) → AllByRecursion P xs → AllByRecursion P ys
    → AllByRecursion P (xs ++ ys)
all_both P [] ys p q = q
all_both P (x ∷ xs) ys p q = (p.0, all_both P xs ys p.1 q)

-- an acknowledgement stays allowed when more is saved and more deliveries come
allowed_more : (chained : Bool) (ds more : List Delivery) (n m : ℕ) (r : Request) → n ≤ m → IsAllowed chained ds n r
    → IsAllowed chained (ds ++ more) m r
allowed_more chained ds more n m (sent.Ack tag) le h =
    (h.0, omega (arith, h.1, le), carries_more chained ds more tag h.2)
allowed_more chained ds more n m (sent.Reject tag) le h = tt
allowed_more chained ds more n m (sent.StartOk a b) le h = tt
allowed_more chained ds more n m (sent.TuneOk a b) le h = tt
allowed_more chained ds more n m (sent.Open a) le h = tt
allowed_more chained ds more n m sent.ChannelOpen le h = tt
allowed_more chained ds more n m (sent.Qos a) le h = tt
allowed_more chained ds more n m (sent.Declare a) le h = tt
allowed_more chained ds more n m (sent.Consume a) le h = tt
allowed_more chained ds more n m sent.Cancel le h = tt
allowed_more chained ds more n m sent.Close le h = tt
allowed_more chained ds more n m sent.CloseOk le h = tt
allowed_more chained ds more n m sent.ChannelCloseOk le h = tt
allowed_more chained ds more n m sent.Heartbeat le h = tt

all_more : (chained : Bool) (ds more : List Delivery) (n m : ℕ) (rs : List Request) → n ≤ m
    → AllByRecursion (IsAllowed chained ds n) rs → AllByRecursion (IsAllowed chained (ds ++ more) m) rs
all_more chained ds more n m [] le all = tt
all_more chained ds more n m (r ∷ rs) le all =
    (allowed_more chained ds more n m r le all.0, all_more chained ds more n m rs le all.1)

-- what a request is that neither acknowledges nor rejects
record IsOther (chained : Bool) (ds : List Delivery) (n : ℕ) (rs : List Request) : Type 0 where
  pub allowed : AllByRecursion (IsAllowed chained ds n) rs
  pub rejected : rejected_tags rs ≡ []

neutral : (chained : Bool) (ds : List Delivery) (n : ℕ) (o : Option Request) → IsNeutral o
    → IsOther chained ds n (option_to_list o)
unfolding rejected_tags
neutral chained ds n None none = record { allowed = tt; rejected = refl }
neutral chained ds n (Some (sent.Ack tag)) none = absurd none
neutral chained ds n (Some (sent.Reject tag)) none = absurd none
neutral chained ds n (Some (sent.StartOk a b)) none = record { allowed = (tt, tt); rejected = refl }
neutral chained ds n (Some (sent.TuneOk a b)) none = record { allowed = (tt, tt); rejected = refl }
neutral chained ds n (Some (sent.Open a)) none = record { allowed = (tt, tt); rejected = refl }
neutral chained ds n (Some sent.ChannelOpen) none = record { allowed = (tt, tt); rejected = refl }
neutral chained ds n (Some (sent.Qos a)) none = record { allowed = (tt, tt); rejected = refl }
neutral chained ds n (Some (sent.Declare a)) none = record { allowed = (tt, tt); rejected = refl }
neutral chained ds n (Some (sent.Consume a)) none = record { allowed = (tt, tt); rejected = refl }
neutral chained ds n (Some sent.Cancel) none = record { allowed = (tt, tt); rejected = refl }
neutral chained ds n (Some sent.Close) none = record { allowed = (tt, tt); rejected = refl }
neutral chained ds n (Some sent.CloseOk) none = record { allowed = (tt, tt); rejected = refl }
neutral chained ds n (Some sent.ChannelCloseOk) none = record { allowed = (tt, tt); rejected = refl }
neutral chained ds n (Some sent.Heartbeat) none = record { allowed = (tt, tt); rejected = refl }

-- the tags that are rejected because of what becomes of a delivery
abbrev parked_tags : {R : Type 0} → Taking R → List ℕ
parked_tags (Taken e) = []
parked_tags (Parked tag error) = tag ∷ []
parked_tags (Refused why) = []
parked_tags Ignored = []

rejected_by : {R : Type 0} (taking : Taking R) → rejected_tags (rejections_of taking) ≡ parked_tags taking
unfolding rejected_tags
rejected_by (Taken e) = refl
rejected_by (Parked tag error) = refl
rejected_by (Refused why) = refl
rejected_by Ignored = refl

allowed_by : {R : Type 0} (chained : Bool) (ds : List Delivery) (n : ℕ) (taking : Taking R)
    → AllByRecursion (IsAllowed chained ds n) (rejections_of taking)
allowed_by chained ds n (Taken e) = tt
allowed_by chained ds n (Parked tag error) = (tt, tt)
allowed_by chained ds n (Refused why) = tt
allowed_by chained ds n Ignored = tt

-- what is sent after a frame
answers_rejected : {R : Type 0} (done : Done) (taking : Taking R) → IsNeutral done.first → IsNeutral done.second
    → rejected_tags (answers_of done taking) ≡ parked_tags taking
answers_rejected done taking one other =
    rejected_more (requests_of done) (rejections_of taking)
    ∙ ap (λ (l : List ℕ). l ++ rejected_tags (rejections_of taking))
    (rejected_more (option_to_list done.first) (option_to_list done.second)
    ∙ ap (λ (l : List ℕ). l ++ rejected_tags (option_to_list done.second)) (neutral false [] 0 done.first one).rejected
    ∙ (neutral false [] 0 done.second other).rejected)
    ∙ rejected_by taking

answers_allowed : {R : Type 0} (chained : Bool) (ds : List Delivery) (n : ℕ) (done : Done) (taking : Taking R)
    → IsNeutral done.first → IsNeutral done.second → AllByRecursion (IsAllowed chained ds n) (answers_of done taking)
answers_allowed chained ds n done taking one other =
    let P = IsAllowed chained ds n in
    all_both P (requests_of done) (rejections_of taking)
    (all_both P (option_to_list done.first) (option_to_list done.second) (neutral chained ds n done.first one).allowed
    (neutral chained ds n done.second other).allowed)
    (allowed_by chained ds n taking)

-- ---- what becomes of a delivery agrees with its entry

abbrev pub IsFair : {S R : Type 0} → EntryRules S R → Bool → Outcome → Option (Refusal R) → State → Taking R → Type 0
IsFair rules parks Delivered stop s (Taken e) =
    (stop ≡ None) × (delivery_entry rules.chained (delivery_of s) ≡ Ok e)
IsFair rules parks Delivered stop s (Parked tag error) =
    (stop ≡ None) × (delivery_entry rules.chained (delivery_of s) ≡ Err error) × (tag ≡ s.tag) × (parks ≡ true)
IsFair rules parks Delivered stop s (Refused why) = Unit {0}
IsFair {S} {R} rules parks Delivered stop s Ignored = (why : Refusal R) × (stop ≡ Some why)
IsFair rules parks GoesOn stop s (Taken e) = ⊥
IsFair rules parks GoesOn stop s (Parked tag error) = ⊥
IsFair rules parks GoesOn stop s (Refused why) = ⊥
IsFair rules parks GoesOn stop s Ignored = Unit {0}
IsFair rules parks (Ended end) stop s (Taken e) = ⊥
IsFair rules parks (Ended end) stop s (Parked tag error) = ⊥
IsFair rules parks (Ended end) stop s (Refused why) = ⊥
IsFair rules parks (Ended end) stop s Ignored = Unit {0}

fair_by : {S R : Type 0} (rules : EntryRules S R) (parks : Bool) (s : State) (e : Entry) (why : Option R)
    → delivery_entry rules.chained (delivery_of s) ≡ Ok e
    → IsFair rules parks Delivered None s (taking_by s e why)
fair_by rules parks s e None is = (refl, is)
fair_by rules parks s e (Some why) is = tt

fair_bad : {S R : Type 0} (rules : EntryRules S R) (parks : Bool) (s : State) (error : LineError) (b : Bool)
    → parks ≡ b → delivery_entry rules.chained (delivery_of s) ≡ Err error
    → IsFair rules parks Delivered None s
    (cond b (Parked s.tag error) (Refused (refusal_of {R = R} s (BadMessage error))))
fair_bad rules parks s error true parked is = (refl, is, refl, parked)
fair_bad rules parks s error false parked is = tt

fair_read : {S R : Type 0} (rules : EntryRules S R) (parks : Bool) (follower : S) (s : State) (r : Read Entry)
    → delivery_entry rules.chained (delivery_of s) ≡ r
    → IsFair rules parks Delivered None s (taking_of_read rules parks follower s r)
fair_read rules parks follower s (Err error) is = fair_bad rules parks s error parks refl is
fair_read rules parks follower s (Ok e) is = fair_by rules parks s e (rules.stop follower e s.tag) is

pub fair : {S R : Type 0} (rules : EntryRules S R) (parks : Bool) (follower : S) (stop : Option (Refusal R))
    (outcome : Outcome) (s : State)
    → IsFair rules parks outcome stop s (taking_after rules parks follower stop outcome s)
unfolding taking_of
fair rules parks follower (Some why) Delivered s = (why, refl)
fair rules parks follower None Delivered s =
    fair_read rules parks follower s (delivery_entry rules.chained (delivery_of s)) refl
fair rules parks follower stop GoesOn s = tt
fair rules parks follower stop (Ended end) s = tt

-- ---- a frame

-- the store's last follower stays that of the first deliveries
kept_more : {S R : Type 0} (plan : Plan S R) (ds more : List Delivery) (saved : ℕ) (kept : List S)
    → saved ≤ length ds → IsKept plan ds saved kept → IsKept plan (ds ++ more) saved kept
kept_more plan ds more saved kept le is =
    elim is [
      | inl none ↦ inl none
      | inr last ↦ inr (
        last.0,
        last.1 ∙ ap (λ (l : List Delivery).
            last.0 ++ follow_entries plan (entries_of plan.rules.chained l) ∷ [])
            (sym (first_stay saved ds more le)),
      )
    ]

last_more : (chained : Bool) (ds more : List Delivery) (tag : ℕ) → (tag ≡ 0) ⊎ Carries chained ds tag
    → (tag ≡ 0) ⊎ Carries chained (ds ++ more) tag
last_more chained ds more tag last =
    elim last [
      | inl none ↦ inl none
      | inr carries ↦ inr (carries_more chained ds more tag carries)
    ]

-- what holds of deliveries after a frame, and of the follower
record Shares {S R : Type 0} (plan : Plan S R) (old : World S R) (ds : List Delivery) (delivered : ℕ)
    (stop : Option (Refusal R)) (taking : Taking R) : Type 0 where
  pub handled : handled_after old.handled delivered taking ≤ length ds
  pub all : stop ≡ None → handled_after old.handled delivered taking ≡ length ds
  pub rejected : rejected_tags old.sent ++ parked_tags taking
      ≡ bad_tags plan.rules.chained 1 (take (handled_after old.handled delivered taking) ds)
  pub parked : plan.parks ≡ false → parked_tags taking ≡ []
  pub taken : taken_after old.taken delivered taking ≤ handled_after old.handled delivered taking
  pub last : (taken_after old.taken delivered taking ≡ 0)
      ⊎ Carries plan.rules.chained ds (taken_after old.taken delivered taking)
  pub later : entries_of plan.rules.chained (take (handled_after old.handled delivered taking) ds)
      ≡ entries_of plan.rules.chained (take (taken_after old.taken delivered taking) ds)
  pub saved : old.saved ≤ taken_after old.taken delivered taking
  pub saved_last : (old.saved ≡ 0) ⊎ Carries plan.rules.chained ds old.saved
  pub kept : IsKept plan ds old.saved old.kept
  pub more : (ds ≡ old.deliveries) ⊎ ((d : Delivery) × (ds ≡ old.deliveries ++ d ∷ []))
  pub follows : follow_entries plan (entries_of plan.rules.chained
      (take (handled_after old.handled delivered taking) ds))
      ≡ follower_after plan.rules (follower_of plan old) taking

module _ {S R : Type 0} (plan : Plan S R) (w : World S R) (sound : IsSound plan w) where
  -- no delivery is complete
  same_shares : (stop : Option (Refusal R)) (delivered : ℕ) → stop ≡ w.stop
      → Shares plan w w.deliveries delivered stop Ignored
  same_shares stop delivered is = record {
    handled = sound.handled;
    all = λ none. sound.all (sym is ∙ none);
    rejected = append-nil (rejected_tags w.sent) ∙ sound.rejected;
    parked = λ _. refl;
    taken = sound.taken;
    last = sound.last;
    later = sound.later;
    saved = sound.saved;
    saved_last = sound.saved_last;
    kept = sound.kept;
    more = inl refl;
    follows = refl;
  }

  -- a further delivery isn't handled
  past_shares : (d : Delivery) (stop : Option (Refusal R)) (delivered : ℕ) (taking : Taking R)
      → (stop ≡ None → ⊥) → handled_after w.handled delivered taking ≡ w.handled
      → taken_after w.taken delivered taking ≡ w.taken → parked_tags taking ≡ []
      → follower_after plan.rules (follower_of plan w) taking ≡ follower_of plan w
      → Shares plan w (w.deliveries ++ d ∷ []) delivered stop taking
  past_shares d stop delivered taking stopped handled_is taken_is parked_are follower_is =
      let ds = w.deliveries in
      let first : take w.handled (ds ++ d ∷ []) ≡ take w.handled ds = first_stay w.handled ds (d ∷ []) sound.handled in
      let taken_first : take w.taken (ds ++ d ∷ []) ≡ take w.taken ds =
      first_stay w.taken ds (d ∷ []) (omega (arith, sound.taken, sound.handled)) in
      record {
        handled = omega (arith, handled_is, sound.handled, length-append ds (d ∷ []));
        all = λ none. absurd (stopped none);
        rejected = ap (λ (l : List ℕ). rejected_tags w.sent ++ l) parked_are ∙ append-nil (rejected_tags w.sent)
            ∙ sound.rejected ∙ ap (bad_tags plan.rules.chained 1) (sym first)
            ∙ ap (λ (n : ℕ). bad_tags plan.rules.chained 1 (take n (ds ++ d ∷ []))) (sym handled_is);
        parked = λ _. parked_are;
        taken = omega (arith, handled_is, taken_is, sound.taken);
        last = subst (λ (n : ℕ). (n ≡ 0) ⊎ Carries plan.rules.chained (ds ++ d ∷ []) n) (sym taken_is)
            (last_more plan.rules.chained ds (d ∷ []) w.taken sound.last);
        later = ap (λ (n : ℕ). entries_of plan.rules.chained (take n (ds ++ d ∷ []))) handled_is ∙ ap (entries_of plan.rules.chained) first
            ∙ sound.later ∙ ap (entries_of plan.rules.chained) (sym taken_first)
            ∙ ap (λ (n : ℕ). entries_of plan.rules.chained (take n (ds ++ d ∷ []))) (sym taken_is);
        saved = omega (arith, taken_is, sound.saved);
        saved_last = last_more plan.rules.chained ds (d ∷ []) w.saved sound.saved_last;
        kept = kept_more plan ds (d ∷ []) w.saved w.kept (omega (arith, sound.saved, sound.taken, sound.handled))
            sound.kept;
        more = inr (d, refl);
        follows = ap (λ (n : ℕ). follow_entries plan (entries_of plan.rules.chained (take n (ds ++ d ∷ [])))) handled_is
            ∙ ap (λ (l : List Delivery). follow_entries plan (entries_of plan.rules.chained l)) first ∙ sym follower_is;
      }

  -- all deliveries before are handled
  all_before : w.stop ≡ None → take w.handled w.deliveries ≡ w.deliveries
  all_before none = all_first w.handled w.deliveries (sound.all none)

  -- so is the next one
  all_after : (d : Delivery) (delivered : ℕ) → delivered ≡ length w.deliveries + 1
      → take delivered (w.deliveries ++ d ∷ []) ≡ w.deliveries ++ d ∷ []
  all_after d delivered is =
      all_first delivered (w.deliveries ++ d ∷ []) (omega (arith, is, length-append w.deliveries (d ∷ [])))

  taken_shares : (d : Delivery) (stop : Option (Refusal R)) (delivered : ℕ) (e : Entry) → w.stop ≡ None
      → delivered ≡ length w.deliveries + 1 → delivery_entry plan.rules.chained d ≡ Ok e
      → Shares plan w (w.deliveries ++ d ∷ []) delivered stop (Taken e)
  taken_shares d stop delivered e none is carried =
      let ds = w.deliveries in
      let longer = length-append ds (d ∷ []) in
      record {
        handled = omega (arith, is, longer);
        all = λ _. omega (arith, is, longer);
        rejected = append-nil (rejected_tags w.sent) ∙ sound.rejected
            ∙ ap (bad_tags plan.rules.chained 1) (all_before none) ∙ sym (append-nil (bad_tags plan.rules.chained 1 ds))
            ∙ ap (λ (r : Read Entry). bad_tags plan.rules.chained 1 ds ++ bad_tag (1 + length ds) r) (sym carried)
            ∙ sym (tags_more plan.rules.chained 1 ds d) ∙ ap (bad_tags plan.rules.chained 1) (sym (all_after d delivered is));
        parked = λ _. refl;
        taken = omega arith;
        last = inr (carries_last plan.rules.chained ds d delivered e is carried);
        later = refl;
        saved = omega (arith, is, sound.saved, sound.taken, sound.handled);
        saved_last = last_more plan.rules.chained ds (d ∷ []) w.saved sound.saved_last;
        kept = kept_more plan ds (d ∷ []) w.saved w.kept (omega (arith, sound.saved, sound.taken, sound.handled))
            sound.kept;
        more = inr (d, refl);
        follows = ap (λ (l : List Delivery). follow_entries plan (entries_of plan.rules.chained l)) (all_after d delivered is)
            ∙ ap (follow_entries plan) (entries_more plan.rules.chained ds d
            ∙ ap (λ (r : Read Entry). entries_of plan.rules.chained ds ++ entry_list r) carried)
            ∙ fold-append plan.rules.next plan.start (entries_of plan.rules.chained ds) (e ∷ [])
            ∙ ap (λ (l : List Delivery). plan.rules.next (follow_entries plan (entries_of plan.rules.chained l)) e)
            (sym (all_before none));
      }

  parked_shares : (d : Delivery) (stop : Option (Refusal R)) (delivered tag : ℕ) (error : LineError) → w.stop ≡ None
      → delivered ≡ length w.deliveries + 1 → delivery_entry plan.rules.chained d ≡ Err error → tag ≡ delivered
      → plan.parks ≡ true → Shares plan w (w.deliveries ++ d ∷ []) delivered stop (Parked tag error)
  parked_shares d stop delivered tag error none is carried tag_is parks =
      let ds = w.deliveries in
      let longer = length-append ds (d ∷ []) in
      let taken_first : take w.taken (ds ++ d ∷ []) ≡ take w.taken ds =
      first_stay w.taken ds (d ∷ []) (omega (arith, sound.taken, sound.handled)) in
      let entries : entries_of plan.rules.chained (ds ++ d ∷ []) ≡ entries_of plan.rules.chained ds =
      entries_more plan.rules.chained ds d ∙ ap (λ (r : Read Entry). entries_of plan.rules.chained ds ++ entry_list r) carried
      ∙ append-nil (entries_of plan.rules.chained ds) in
      let next : 1 + length ds ≡ tag = omega (arith, is, tag_is) in
      record {
        handled = omega (arith, is, longer);
        all = λ _. omega (arith, is, longer);
        rejected = ap (λ (l : List ℕ). l ++ tag ∷ []) (sound.rejected ∙ ap (bad_tags plan.rules.chained 1) (all_before none))
            ∙ ap (λ (n : ℕ). bad_tags plan.rules.chained 1 ds ++ n ∷ []) (sym next)
            ∙ ap (λ (r : Read Entry). bad_tags plan.rules.chained 1 ds ++ bad_tag (1 + length ds) r) (sym carried)
            ∙ sym (tags_more plan.rules.chained 1 ds d) ∙ ap (bad_tags plan.rules.chained 1) (sym (all_after d delivered is));
        parked = λ un. absurd (let clash : true ≡ false = sym parks ∙ un in cc);
        taken = omega (arith, is, sound.taken, sound.handled);
        last = last_more plan.rules.chained ds (d ∷ []) w.taken sound.last;
        later = ap (entries_of plan.rules.chained) (all_after d delivered is) ∙ entries
            ∙ ap (entries_of plan.rules.chained) (sym (all_before none)) ∙ sound.later
            ∙ ap (entries_of plan.rules.chained) (sym taken_first);
        saved = sound.saved;
        saved_last = last_more plan.rules.chained ds (d ∷ []) w.saved sound.saved_last;
        kept = kept_more plan ds (d ∷ []) w.saved w.kept (omega (arith, sound.saved, sound.taken, sound.handled))
            sound.kept;
        more = inr (d, refl);
        follows = ap (λ (l : List Delivery). follow_entries plan (entries_of plan.rules.chained l)) (all_after d delivered is)
            ∙ ap (follow_entries plan) entries
            ∙ ap (λ (l : List Delivery). follow_entries plan (entries_of plan.rules.chained l)) (sym (all_before none));
      }

  shares_after : (outcome : Outcome) (s : State) (taking : Taking R) → turns.IsTagged outcome s
      → s.delivered ≡ w.state.delivered + completes outcome → IsFair plan.rules plan.parks outcome w.stop s taking
      → Shares plan w (deliveries_after w.deliveries outcome s) s.delivered (stop_after w.stop taking) taking
  shares_after Delivered s (Taken e) tagged is fair =
      taken_shares (delivery_of s) w.stop s.delivered e fair.0 (omega (arith, is, sound.counted)) fair.1
  shares_after Delivered s (Parked tag error) tagged is fair =
      parked_shares (delivery_of s) w.stop s.delivered tag error fair.0 (omega (arith, is, sound.counted)) fair.1
      (fair.2 ∙ tagged) fair.3
  shares_after Delivered s (Refused why) tagged is fair =
      past_shares (delivery_of s) (Some why) s.delivered (Refused why) (λ none. absurd cc) refl refl refl refl
  shares_after Delivered s Ignored tagged is fair =
      past_shares (delivery_of s) w.stop s.delivered Ignored
      (λ none. absurd (let clash : None ≡ Some fair.0 = sym none ∙ fair.1 in cc)) refl refl refl refl
  shares_after GoesOn s (Taken e) tagged is fair = absurd fair
  shares_after GoesOn s (Parked tag error) tagged is fair = absurd fair
  shares_after GoesOn s (Refused why) tagged is fair = absurd fair
  shares_after GoesOn s Ignored tagged is fair = same_shares w.stop s.delivered refl
  shares_after (Ended end) s (Taken e) tagged is fair = absurd fair
  shares_after (Ended end) s (Parked tag error) tagged is fair = absurd fair
  shares_after (Ended end) s (Refused why) tagged is fair = absurd fair
  shares_after (Ended end) s Ignored tagged is fair = same_shares w.stop s.delivered refl

  -- what was sent stays allowed
  allowed_after : (ds : List Delivery) → (ds ≡ w.deliveries) ⊎ ((d : Delivery) × (ds ≡ w.deliveries ++ d ∷ []))
      → AllByRecursion (IsAllowed plan.rules.chained ds w.saved) w.sent
  allowed_after ds more =
      elim more [
        | inl same ↦ subst (λ (l : List Delivery). AllByRecursion (IsAllowed plan.rules.chained l w.saved) w.sent) (sym same)
            sound.acknowledged
        | inr one ↦ subst (λ (l : List Delivery). AllByRecursion (IsAllowed plan.rules.chained l w.saved) w.sent) (sym one.1)
            (all_more plan.rules.chained w.deliveries (one.0 ∷ []) w.saved w.saved w.sent (omega arith) sound.acknowledged)
      ]

  came_sound : (t : Turn) (taking : Taking R) → turns.IsKept w.state.delivered t
      → IsFair plan.rules plan.parks t.done.outcome w.stop t.state taking → IsSound plan (came w t taking)
  came_sound t taking kept fair =
      let ds = deliveries_after w.deliveries t.done.outcome t.state in
      let shares = shares_after t.done.outcome t.state taking kept.tagged kept.counted fair in
      let rejected = rejected_more w.sent (answers_of t.done taking)
      ∙ ap (λ (l : List ℕ). rejected_tags w.sent ++ l) (answers_rejected t.done taking kept.first kept.second) in
      record {
        counted = omega (arith, turns.length_after w.deliveries t.done.outcome t.state, kept.counted, sound.counted);
        ready = kept.ready;
        handled = shares.handled;
        all = shares.all;
        rejected = rejected ∙ shares.rejected;
        parked = λ un. rejected ∙ ap (λ (l : List ℕ). l ++ parked_tags taking) (sound.parked un) ∙ shares.parked un;
        taken = shares.taken;
        last = shares.last;
        later = shares.later;
        saved = shares.saved;
        saved_last = shares.saved_last;
        kept = shares.kept;
        acknowledged = all_both (IsAllowed plan.rules.chained ds w.saved) w.sent (answers_of t.done taking)
            (allowed_after ds shares.more)
            (answers_allowed plan.rules.chained ds w.saved t.done taking kept.first kept.second);
      }

  -- the follower after a frame
  pub came_follows : (t : Turn) (taking : Taking R) → turns.IsKept w.state.delivered t
      → IsFair plan.rules plan.parks t.done.outcome w.stop t.state taking
      → follower_of plan (came w t taking) ≡ follower_after plan.rules (follower_of plan w) taking
  came_follows t taking kept fair =
      (shares_after t.done.outcome t.state taking kept.tagged kept.counted fair).follows

comes_sound : {S R : Type 0} (plan : Plan S R) (w : World S R) (r : Result Turn ConsumeFault) → IsSound plan w
    → Keeps w.state.delivered r → IsSound plan (comes plan w r)
comes_sound plan w (Err fault) sound kept = sound
comes_sound plan w (Ok t) sound kept =
    came_sound plan w sound t _ kept
    (fair plan.rules plan.parks (follower_of plan w) w.stop t.done.outcome t.state)

-- ---- the other steps

saves_sound : {S R : Type 0} (plan : Plan S R) (w : World S R) → IsSound plan w → IsSound plan (saves plan w)
saves_sound plan w sound = record {
  counted = sound.counted;
  ready = sound.ready;
  handled = sound.handled;
  all = sound.all;
  rejected = sound.rejected;
  parked = sound.parked;
  taken = sound.taken;
  last = sound.last;
  later = sound.later;
  saved = omega arith;
  saved_last = sound.last;
  kept = inr (w.kept, ap (λ (es : List Entry). w.kept ++ follow_entries plan es ∷ []) sound.later);
  acknowledged = subst (λ (ds : List Delivery). AllByRecursion (IsAllowed plan.rules.chained ds w.taken) w.sent)
      (append-nil w.deliveries)
      (all_more plan.rules.chained w.deliveries [] w.saved w.taken w.sent sound.saved sound.acknowledged);
}

-- a number that isn't 0
positive : (n : ℕ) → eqb n 0 ≡ false → 1 ≤ n
positive zero is = absurd cc
positive (suc n) is = omega arith

-- what is saved carries an entry, if there is something
carried : (chained : Bool) (ds : List Delivery) (n : ℕ) → eqb n 0 ≡ false → (n ≡ 0) ⊎ Carries chained ds n
    → Carries chained ds n
carried chained ds n is last =
    elim last [
      | inl none ↦ absurd (omega (arith, none, positive n is))
      | inr carries ↦ carries
    ]

-- other requests reject nothing
no_more_rejected : (rs : List Request) (r : Request) → rejected_tag r ≡ []
    → rejected_tags (rs ++ r ∷ []) ≡ rejected_tags rs
unfolding rejected_tags
no_more_rejected rs r none =
    rejected_more rs (r ∷ [])
    ∙ ap (λ (l : List ℕ). rejected_tags rs ++ (l ++ [])) none ∙ append-nil (rejected_tags rs)

acknowledges_by : {S R : Type 0} (plan : Plan S R) (w : World S R) (b : Bool) → eqb w.saved 0 ≡ b → IsSound plan w
    → IsSound plan (cond b w (record w { sent = w.sent ++ sent.Ack w.saved ∷ []; acknowledged = w.saved }))
acknowledges_by plan w true is sound = sound
acknowledges_by plan w false is sound =
    let same = no_more_rejected w.sent (sent.Ack w.saved) refl in
    record {
      counted = sound.counted;
      ready = sound.ready;
      handled = sound.handled;
      all = sound.all;
      rejected = same ∙ sound.rejected;
      parked = λ un. same ∙ sound.parked un;
      taken = sound.taken;
      last = sound.last;
      later = sound.later;
      saved = sound.saved;
      saved_last = sound.saved_last;
      kept = sound.kept;
      acknowledged = all_both (IsAllowed plan.rules.chained w.deliveries w.saved) w.sent (sent.Ack w.saved ∷ [])
          sound.acknowledged (
            (positive w.saved is, omega arith, carried plan.rules.chained w.deliveries w.saved is sound.saved_last),
            tt,
          );
    }

closes_sound : {S R : Type 0} (plan : Plan S R) (w : World S R) → IsSound plan w → IsSound plan (closes w)
closes_sound plan w sound =
    let same = no_more_rejected w.sent sent.Cancel refl in
    record {
      counted = sound.counted;
      ready = λ under. absurd cc;
      handled = sound.handled;
      all = sound.all;
      rejected = same ∙ sound.rejected;
      parked = λ un. same ∙ sound.parked un;
      taken = sound.taken;
      last = sound.last;
      later = sound.later;
      saved = sound.saved;
      saved_last = sound.saved_last;
      kept = sound.kept;
      acknowledged = all_both (IsAllowed plan.rules.chained w.deliveries w.saved) w.sent (sent.Cancel ∷ [])
          sound.acknowledged (tt, tt);
    }

looks_sound : {S R : Type 0} (plan : Plan S R) (w : World S R) (waiting : Bool) → IsSound plan w
    → IsSound plan (record w { waiting = waiting })
looks_sound plan w waiting sound = record {
  counted = sound.counted;
  ready = sound.ready;
  handled = sound.handled;
  all = sound.all;
  rejected = sound.rejected;
  parked = sound.parked;
  taken = sound.taken;
  last = sound.last;
  later = sound.later;
  saved = sound.saved;
  saved_last = sound.saved_last;
  kept = sound.kept;
  acknowledged = sound.acknowledged;
}

-- each step keeps it
pub happens_sound : {S R : Type 0} (settings : Settings) (plan : Plan S R) (w : World S R) (m : Step)
    → IsSound plan w → IsSound plan (happens settings plan w m)
happens_sound settings plan w (Looks waiting) sound = looks_sound plan w waiting sound
happens_sound settings plan w (Comes f) sound =
    comes_sound plan w (received settings w.state f.kind f.channel f.payload) sound
    (turn_keeps settings w.state f.kind f.channel f.payload sound.ready)
happens_sound settings plan w Saves sound = saves_sound plan w sound
happens_sound settings plan w Acknowledges sound = acknowledges_by plan w (eqb w.saved 0) refl sound
happens_sound settings plan w Closes sound = closes_sound plan w sound

sound_on : {S R : Type 0} (settings : Settings) (plan : Plan S R) (w : World S R) (ms : List Step) → IsSound plan w
    → IsSound plan (run settings plan w ms)
unfolding run
sound_on settings plan w [] sound = sound
sound_on settings plan w (m ∷ ms) sound =
    sound_on settings plan (happens settings plan w m) ms (happens_sound settings plan w m sound)

-- so it holds after any steps
pub runs_are_sound : {S R : Type 0} (settings : Settings) (plan : Plan S R) (ms : List Step)
    → IsSound plan (run settings plan begins ms)
unfolding rejected_tags bad_tags
runs_are_sound settings plan ms = sound_on settings plan begins ms (record {
  counted = refl;
  ready = λ under. absurd cc;
  handled = omega arith;
  all = λ goes. refl;
  rejected = refl;
  parked = λ _. refl;
  taken = omega arith;
  last = inl refl;
  later = refl;
  saved = omega arith;
  saved_last = inl refl;
  kept = inl (refl, refl);
  acknowledged = tt;
})
