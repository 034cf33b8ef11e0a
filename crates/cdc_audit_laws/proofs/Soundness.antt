-- Accepted events are the events of a legal history, or the first ones of one.
use Rattle.std.proofs.Common.{◌≡◌, ◌≢◌, not, map, inl, inr, ℕ, ◌+◌, ◌<◌, ◌≤◌, ◌^◌, Bool, true, false, List, [], ◌∷◌, ◌++◌, Some, None, if◌then◌else◌, refl, sym, ap, ap₂, ◌∙◌, subst, arith, ◌==◌, ◌&&◌, ◌||◌, nat_eq, nat_le, nat_lt, length, append-nil}
use Rattle.cdc_audit_laws.proofs.OfStd.{AllByRecursion, list_any, lookup, option_or, and_from, and_parts, eqb-false, eqb-true, false≢true, ltb-false, not-true, not_from_false, or_parts}
use Rattle.cdc_audit_laws.proofs.OfTypes.{BATCH_ITEMS, RiseFrom, TIMESTAMP, last_timestamp, last_timestamp_from-push, Event, EventAccount, has_flag, account_refusal, AccountFits, EventFits}
use Rattle.cdc_audit_laws.proofs.OfLedger.{events as events_of, empty_history, AllByRecursion-both, AllByRecursion-weaker}
use Rattle.cdc_audit_laws.proofs.OfAudit.{FixedFields, chain_length, ends_in_chain, first_due, follows_on, is_accepted, is_linked, last_expiry, asked_account, fields_before, fixed_fields}
use Rattle.cdc_types.specs.declared.accounts.TheConstants.AccountFlags.{LINKED}
use Rattle.cdc_audit_laws.proofs.Premises.{CanBeMade, HaveRoom, accounts_in}
use Rattle.cdc_audit_laws.specs.Soundness.{AcceptedEventsAreALedgers, AcceptedEventsBeginALedgers, AcceptedEventsStartAsALedgers, PulseFits}
use Rattle.cdc_audit_laws.proofs.Coming.{has_accounts}
use Rattle.cdc_audit_laws.proofs.Streams.{accepted_events_rise, first_follows, first_room, parts_follow}
use Rattle.cdc_audit_laws.proofs.Alone.{AreAlone, all_alone, alone-nil}
use Rattle.cdc_audit_laws.proofs.Known.{IsKnown, accounts_parts, all_known, all_parts, found_has, lookup_parts}
use Rattle.cdc_audit_laws.proofs.Unseen.{HasIds, each_there, has_ids, none_has, times_after, times_after-all, times_after-has, unseen, unseen-found, unseen-openable}
use Rattle.cdc_audit_laws.proofs.Plan.{Admits, AllAdmit, Opens, Planned, all-place_all, events_in, events_in-only, events_in-place_all, only, only-all, only-rises, place_all, place_all-opens, rises-place_all}
use Rattle.cdc_audit_laws.proofs.Openings.{AreCreated, IsOpenable, are_created, opening_of}
use Rattle.cdc_audit_laws.proofs.Modes.{IsInChain, Mode, Reaches, chain-push, first_up, part_legal, run-push, whole_legal}
use Rattle.cdc_audit_laws.proofs.Opening.{AreFew, AreFollowed, CanMake, IsReady, IsThere}
use Rattle.std.proofs.lemmas.Bool.{leb-false}
use Rattle.cdc_audit_laws.proofs.Walk.{made_from_empty}
use Rattle.cdc_audit_laws.proofs.Gaps.{can_be_made}
use Rattle.cdc_audit_laws.proofs.Completing.{Begins, chain_begins, pulse_begins}

-- ---- the accounts of accepted events can be opened

-- an account can be opened, after 0
record IsFit (a : ℕ × FixedFields) : Type 0 where
  openable : IsOpenable (opening_of a)
  some : 0 < a.1.timestamp

account_fits : (ledger : ℕ) (a : EventAccount) (t : ℕ) → ledger < 2 ^ 32 → AccountFits a
    → account_refusal (asked_account ledger a) ≡ None → 0 < a.timestamp
    → a.timestamp < t → t ≤ TIMESTAMP → IsFit (a.id, fixed_fields ledger a)
account_fits ledger a t ledger_fits fits fields some earlier within = grind arith

all_fit : (past rest : List Event) → follows_on past rest ≡ true → AllByRecursion EventFits rest
    → AllByRecursion IsFit (accounts_in rest)
all_fit past [] follow fit = tt
all_fit past (e ∷ rest) follow fit =
    let first = first_follows past e rest follow in
    let created : AreCreated e = are_created past e first.0 in
    let fields = has_accounts past e first.0 in
    let fits = fit.0 in
    let within = ltb-false TIMESTAMP e.timestamp first.0.within in (
      account_fits e.ledger e.debit_account e.timestamp fits.ledger fits.debit_account fields.0
          created.debit_some created.debit within,
      (
        account_fits e.ledger e.credit_account e.timestamp fits.ledger fits.credit_account fields.1
            created.credit_some created.credit within,
        all_fit (past ++ e ∷ []) rest first.1 fit.1,
      ),
    )

-- events and accounts are early enough
all_within : (past rest : List Event) → follows_on past rest ≡ true
    → AllByRecursion (λ e. e.timestamp ≤ TIMESTAMP) rest
all_within past [] follow = tt
all_within past (e ∷ rest) follow =
    let first = first_follows past e rest follow in
    (ltb-false TIMESTAMP e.timestamp first.0.within, all_within (past ++ e ∷ []) rest first.1)

all_early : (past rest : List Event) → follows_on past rest ≡ true
    → AllByRecursion (λ a. a.1.timestamp < TIMESTAMP) (accounts_in rest)
all_early past [] follow = tt
all_early past (e ∷ rest) follow =
    let first = first_follows past e rest follow in
    let created : AreCreated e = are_created past e first.0 in
    let within = ltb-false TIMESTAMP e.timestamp first.0.within in
    let debit = created.debit in
    let credit = created.credit in
    (omega (arith, debit, within), (omega (arith, credit, within), all_early (past ++ e ∷ []) rest first.1))

-- ---- accounts that are found

-- an account with this timestamp is there
any_there : (all those : List (ℕ × FixedFields)) (t : ℕ)
    → AllByRecursion (λ a. lookup (nat_eq a.0) all ≡ Some a.1) those
    → list_any (λ b. b.1.timestamp == t) those ≡ true → IsThere all t
any_there all [] t known some = cc
any_there all (b ∷ those) t known some =
    by (b.1.timestamp == t) refl some (any_there all those t known.1)
  where
    by : (is : Bool) → (b.1.timestamp == t) ≡ is → (is || list_any (λ x. x.1.timestamp == t) those) ≡ true
        → (list_any (λ x. x.1.timestamp == t) those ≡ true → IsThere all t) → IsThere all t
    by true is some more = record { account = b; known = known.0; time = eqb-true b.1.timestamp t is }
    by false is some more = more some

-- what holds of all timestamps holds of one that is there
time_has : (P : ℕ → Type 0) (t : ℕ) (ts : List ℕ) → AllByRecursion P ts → list_any (λ u. t == u) ts ≡ true → P t
time_has P t [] all some = cc
time_has P t (u ∷ ts) all some = by (t == u) refl some (time_has P t ts all.1)
  where
    by : (is : Bool) → (t == u) ≡ is → (is || list_any (λ v. t == v) ts) ≡ true
        → (list_any (λ v. t == v) ts ≡ true → P t) → P t
    by true is some more = subst P (sym (eqb-true t u is)) all.0
    by false is some more = more some

-- no account has a timestamp that isn't found
none_there : (t : ℕ) (those : List (ℕ × FixedFields)) → list_any (λ b. b.1.timestamp == t) those ≡ false
    → AllByRecursion (λ b. b.1.timestamp ≢ t) those
none_there t [] none = tt
none_there t (b ∷ those) none =
    let parts = or_parts (b.1.timestamp == t) (list_any (λ x. x.1.timestamp == t) those) none in
    (eqb-false b.1.timestamp t parts.0, none_there t those parts.1)

-- what holds of each image, and what holds of the first part
mapped : (P : ℕ × FixedFields → Type 0) (f : ℕ → ℕ × FixedFields) (ts : List ℕ) → AllByRecursion (λ t. P (f t)) ts
    → AllByRecursion P (map f ts)
mapped P f [] all = tt
mapped P f (t ∷ ts) all = (all.0, mapped P f ts all.1)

first_part : (P : ℕ × FixedFields → Type 0) (first second : List (ℕ × FixedFields))
    → AllByRecursion P (first ++ second) → AllByRecursion P first
first_part P [] second all = tt
first_part P (a ∷ first) second all = (all.0, first_part P first second all.1)

-- ---- so a ledger can make them all
module _ (events : List Event) (can : CanBeMade events) (accepted : is_accepted events ≡ true) where
  abbrev shown : List (ℕ × FixedFields)
  shown = accounts_in events

  fit : AllByRecursion IsFit shown
  fit = all_fit [] events accepted can.fit

  known : AllByRecursion (IsKnown events) shown
  known = all_known [] events accepted tt

  each_alone : AreAlone events
  each_alone = all_alone [] events accepted alone-nil

  -- ---- accounts that no event shows: one after each linked account that is the last one shown of its chain
  ids : HasIds shown
  ids = has_ids events (accepted_events_rise events accepted) (all_within [] events accepted)

  abbrev needs : ℕ × FixedFields → Bool
  needs a = has_flag a.1.flags LINKED && not (list_any (λ b. b.1.timestamp == a.1.timestamp + 1) shown)

  abbrev times : List ℕ
  times = times_after needs shown

  abbrev others : List (ℕ × FixedFields)
  others = map (unseen ids.from) times

  abbrev all : List (ℕ × FixedFields)
  all = shown ++ others

  -- such a timestamp is that of no event and of no account that is shown
  record IsTime (t : ℕ) : Type 0 where
    some : 0 < t
    within : t ≤ TIMESTAMP
    no_event : AllByRecursion (λ e. e.timestamp ≢ t) events
    no_shown : AllByRecursion (λ b. b.1.timestamp ≢ t) shown

  times_are : AllByRecursion IsTime times
  times_are =
      times_after-all needs IsTime shown (AllByRecursion-weaker _ _ (λ a is need.
      let parts = and_parts _ _ need in
      let early = is.0 in
      record {
        some = omega arith;
        within = omega (arith, early);
        no_event = is.1 parts.0;
        no_shown = none_there (a.1.timestamp + 1) shown (not-true _ parts.1);
      }) shown (AllByRecursion-both _ _ shown (all_early [] events accepted) can.next_free))

  -- each account is found
  abbrev IsFound : ℕ × FixedFields → Type 0
  IsFound a = lookup (nat_eq a.0) all ≡ Some a.1

  found_times : AllByRecursion (λ t. IsFound (unseen ids.from t)) times
  found_times =
      AllByRecursion-weaker _ _ (λ t is. lookup_parts (ids.from + t) shown others
      ∙ ap₂ option_or (none_has ids.from t shown is.0.within ids.free)
      (unseen-found ids.from t times ∙ ap (λ b. if b then Some (unseen ids.from t).1 else None) is.1)) times
      (AllByRecursion-both _ _ times times_are (each_there times))

  found_all : AllByRecursion IsFound all
  found_all =
      all_parts _ _ _ (AllByRecursion-weaker _ _
      (λ a is. lookup_parts a.0 shown others ∙ ap (λ o. option_or o (lookup (nat_eq a.0) others)) is) shown known)
      (mapped IsFound (unseen ids.from) times found_times)

  -- those that are shown among them
  found_shown : AllByRecursion IsFound shown
  found_shown = first_part IsFound shown others found_all

  -- and can be opened
  fit_all : AllByRecursion IsFit all
  fit_all =
      all_parts _ _ _ fit (mapped _ _ _ (AllByRecursion-weaker _ _
      (λ t is. record {
        openable = unseen-openable ids.from t ids.some ids.bound is.within;
        some = is.some;
      }) times times_are))

  -- ---- the plan
  abbrev plan : List Planned
  plan = place_all opening_of all (only events)

  same_events : events_in plan ≡ events
  same_events = events_in-place_all opening_of all (only events) ∙ events_in-only events

  -- an account of one timestamp with this one is this one
  no_other : (a : ℕ × FixedFields) → IsKnown events a → (b : ℕ × FixedFields) → IsKnown events b
      → Admits (opening_of a) (inl (opening_of b))
  no_other a a_known b b_known time =
      let id : b.0 ≡ a.0 = each_alone.no_other b.0 a.0 b.1 a.1 b_known a_known time in
      let found : Some b.1 ≡ Some a.1 = sym b_known ∙ ap (fields_before events) id ∙ a_known in
      let fields : b.1 ≡ a.1 = cc in
      ap₂ (λ n f. opening_of (n, f)) id fields

  admits_shown : (a : ℕ × FixedFields) → IsKnown events a → AllAdmit opening_of all (only events) a
  admits_shown a a_known = (
    all_parts _ _ _ (AllByRecursion-weaker _ _ (no_other a a_known) shown known)
        (mapped _ _ _ (AllByRecursion-weaker _ _
        (λ t is time. absurd (found_has _ shown a is.no_shown a_known (sym time))) times times_are)),
    only-all _ _ (each_alone.no_event a.0 a.1 a_known),
  )

  admits_other : (t : ℕ) → IsTime t → AllAdmit opening_of all (only events) (unseen ids.from t)
  admits_other t is = (
    all_parts _ _ _ (AllByRecursion-weaker _ _ (λ b other time. absurd (other time)) shown is.no_shown) (mapped _ _ _
        (AllByRecursion-weaker _ _ (λ u other time. ap (λ v. opening_of (unseen ids.from v)) time) times times_are)),
    only-all (Admits (opening_of (unseen ids.from t))) events is.no_event,
  )

  opens : AllByRecursion (λ a. Opens (opening_of a) plan) all
  opens =
      place_all-opens opening_of all (only events) (all_parts _ _ _ (AllByRecursion-weaker _ _ admits_shown shown known)
      (mapped _ _ _ (AllByRecursion-weaker _ _ admits_other times times_are)))

  ready : AllByRecursion (IsReady all empty_history plan) (accounts_in (events_in plan))
  ready =
      subst (λ es. AllByRecursion (IsReady all empty_history plan) (accounts_in es)) (sym same_events)
      (AllByRecursion-weaker _ _ (λ a is. inr is) shown
      (first_part (λ a. Opens (opening_of a) plan) shown others opens))

  can_make : AllByRecursion (CanMake all) plan
  can_make =
      all-place_all opening_of _ all (only events) (AllByRecursion-weaker _ _
      (λ a is. (is.0.openable, is.1)) all (AllByRecursion-both _ _ all fit_all found_all))
      (only-all (CanMake all) events can.fit)

  -- after each linked account there is one: it is shown, or another one
  abbrev HasNext : ℕ × FixedFields → Type 0
  HasNext a = has_flag a.1.flags LINKED ≡ true → IsThere all (a.1.timestamp + 1)

  has_next : (a : ℕ × FixedFields)
      → (needs a ≡ true → list_any (λ u. a.1.timestamp + 1 == u) times ≡ true) → HasNext a
  has_next a has linked = by (list_any (λ b. b.1.timestamp == a.1.timestamp + 1) shown) refl
    where
      by : (b : Bool) → list_any (λ x. x.1.timestamp == a.1.timestamp + 1) shown ≡ b
          → IsThere all (a.1.timestamp + 1)
      by true some = any_there all shown (a.1.timestamp + 1) (first_part IsFound shown others found_all) some
      by false none = record {
        account = unseen ids.from (a.1.timestamp + 1);
        known = time_has _ (a.1.timestamp + 1) times found_times (has (and_from _ _ linked (not_from_false _ none)));
        time = refl;
      }

  followed : AreFollowed all
  followed a found =
      found_has _ all a (all_parts _ _ _ (AllByRecursion-weaker _ _ has_next shown (times_after-has needs shown))
      (mapped _ _ _ (AllByRecursion-weaker _ _ (λ t is linked. absurd (false≢true linked)) times times_are))) found

  few : AreFew all
  few t =
      let one = can.accounts_room t in (
        one.0,
        one.1,
        λ a found. found_has _ all a (all_parts _ _ _ one.2
            (mapped _ _ _ (AllByRecursion-weaker _ _ (λ u is time. refl) times times_are))) found,
      )

  reaches : Reaches all events
  reaches =
      let after : AllByRecursion (λ a. 0 < (opening_of a).timestamp) all =
      AllByRecursion-weaker _ _ (λ a is. is.some) all fit_all in
      subst (Reaches all) same_events
      (made_from_empty all plan followed few (λ a found. found_has (λ b. Opens (opening_of b) plan) all a opens found)
      (rises-place_all opening_of 0 all (only events) after (only-rises 0 events
      (accepted_events_rise events accepted)))
      can_make ready (ap (follows_on []) same_events ∙ accepted)
      (subst (HaveRoom 0) (sym same_events) can.room))

-- so they are the events of a ledger, if none is missing at the end
pub accepted_events_are_a_ledgers : AcceptedEventsAreALedgers
accepted_events_are_a_ledgers events fit whole accepted =
    let can = can_be_made events fit accepted in
    whole_legal (all events can accepted) events (reaches events can accepted) whole

-- and all of them but a last part are
pub accepted_events_start_as_a_ledgers : AcceptedEventsStartAsALedgers
accepted_events_start_as_a_ledgers events fit accepted =
    let can = can_be_made events fit accepted in
    part_legal (all events can accepted) events (reaches events can accepted)

-- ---- and a ledger has their events, and then others

-- the last one of some events
split_last : (e : Event) (es : List Event) → (front : List Event) × (l : Event) × (e ∷ es ≡ front ++ l ∷ [])
split_last e [] = ([], e, refl)
split_last e (x ∷ es) =
    let more = split_last x es in (e ∷ more.0, more.1, ap (λ xs. e ∷ xs) more.2)

split_chain : (es : List Event) → ends_in_chain es ≡ true
    → (front : List Event) × (l : Event) × (es ≡ front ++ l ∷ [])
split_chain [] ends = cc
split_chain (e ∷ es) ends = split_last e es

-- what holds of all events holds of the last one
last_has : (P : Event → Type 0) (front : List Event) (l : Event) → AllByRecursion P (front ++ l ∷ []) → P l
last_has P [] l all = all.0
last_has P (e ∷ front) l all = last_has P front l all.1

-- a chain is completed
module _ (events : List Event) (fit : AllByRecursion EventFits events) (accepted : is_accepted events ≡ true) where
  can : CanBeMade events
  can = can_be_made events fit accepted

  end : Reaches (all events can accepted) events
  end = reaches events can accepted

  completed : IsInChain end.last → (front : List Event) (l : Event) → events ≡ front ++ l ∷ []
      → Begins (events_of end.last)
  completed chain front l split =
      let follow : follows_on front (l ∷ []) ≡ true =
      (parts_follow [] front (l ∷ []) (subst (λ es. is_accepted es ≡ true) split accepted)).1 in
      let can_follow = (first_follows front l [] follow).0 in
      let room = first_room front l [] follow in
      let created = are_created front l can_follow in
      let linked : is_linked l ≡ true =
      sym (chain-push front l) ∙ ap ends_in_chain (sym split ∙ sym end.same) ∙ chain.chained in
      let last : l.timestamp ≡ end.last.last =
      sym (last_timestamp_from-push 0 front l) ∙ ap last_timestamp (sym split ∙ sym end.same) ∙ chain.at_end in
      let late = leb-false TIMESTAMP l.timestamp
      (sym (ap (λ b. b && nat_le TIMESTAMP l.timestamp) linked) ∙ room.last) in
      let long = ltb-false BATCH_ITEMS (chain_length front + 2)
      (sym (ap (λ b. b && nat_lt BATCH_ITEMS (chain_length front + 2)) linked) ∙ room.long) in
      let run : chain_length (events_of end.last) ≡ chain_length front + 1 =
      ap chain_length (end.same ∙ split) ∙ run-push front l linked in
      let found = accounts_parts (λ (a : ℕ × FixedFields). lookup (nat_eq a.0) (all events can accepted) ≡ Some a.1)
      front l []
      (subst (λ es. AllByRecursion
      (λ (a : ℕ × FixedFields). lookup (nat_eq a.0) (all events can accepted) ≡ Some a.1) (accounts_in es)) split
      (found_shown events can accepted)) in
      let d_created = created.debit in
      let c_created = created.credit in
      let d_early : l.debit_account.timestamp < end.last.last = omega (arith, d_created, last) in
      let c_early : l.credit_account.timestamp < end.last.last = omega (arith, c_created, last) in
      chain_begins end.last front l (record {
        sound = end.sound;
        shown = end.shown;
        split = end.same ∙ split;
        can = can_follow;
        fits = last_has EventFits front l (subst (AllByRecursion EventFits) split fit);
        debit = end.opened_each (l.debit_account.id, fixed_fields l.ledger l.debit_account) found.1 d_early;
        credit = end.opened_each (l.credit_account.id, fixed_fields l.ledger l.credit_account) found.2 c_early;
        rises = subst (RiseFrom 0) (sym end.same) (accepted_events_rise events accepted);
        within = subst (AllByRecursion (λ e. e.timestamp ≤ TIMESTAMP)) (sym end.same) (all_within [] events accepted);
        few = omega (arith, run, long);
        in_time = omega (arith, last, late);
      }) chain

  begins : PulseFits events → Begins events
  begins pulse_fits = by end.mode
    where
      on : Begins (events_of end.last) → Begins events
      on found = (found.0, found.1, found.2, found.3 ∙ ap (λ es. es ++ found.1) end.same)

      by : Mode end.last → Begins events
      by (inl legal) = on (end.last, [], legal, sym (append-nil (events_of end.last)))
      by (inr (inl chain)) =
          let split = split_chain events (ap ends_in_chain (sym end.same) ∙ chain.chained) in
          on (completed chain split.0 split.1 split.2)
      by (inr (inr pulse)) =
          let up = first_up end.last end.sound pulse in
          let enough = pulse_fits pulse.last up.one (ap last_expiry (sym end.same) ∙ pulse.last_is)
          (ap first_due (sym end.same) ∙ up.is) (pulse.time ∙ sym up.time) in
          let same = ap length end.same in
          let time = ap last_timestamp (sym end.same) ∙ pulse.ends in
          on (pulse_begins end.last end.sound pulse (omega (arith, enough, same, time)))

pub accepted_events_begin_a_ledgers : AcceptedEventsBeginALedgers
accepted_events_begin_a_ledgers events fit pulse accepted = begins events fit accepted pulse
