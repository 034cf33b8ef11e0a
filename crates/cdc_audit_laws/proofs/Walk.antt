-- A ledger that opens accounts and stores events in the order of their timestamps, as a plan has them.
use Rattle.std.proofs.Common.{◌≡◌, ◌⊎◌, inl, inr, ℕ, ◌+◌, ◌-◌, ◌<◌, ◌≤◌, Bool, true, false, List, [], ◌∷◌, ◌++◌, Some, refl, sym, ap, ◌∙◌, subst, append_assoc, arith, ◌&&◌, nat_eq, append-nil}
use Rattle.cdc_audit_laws.proofs.OfStd.{cases_Bool, AllByRecursion, lookup, false≢true, ltb-false}
use Rattle.cdc_audit_laws.proofs.OfTypes.{TIMESTAMP, Entry, Event, NewTransfer, Transfer, has_flag, is_linked_transfer, last_timestamp, last_timestamp_from-push}
use Rattle.cdc_audit_laws.proofs.OfLedger.{pushed, timed, with_account, due, events, expires_at as expires_at_one, NewTransferFits, Follows, History, empty_history, opened, stores, IsLegal, transfer_rules, balances_later, AllByRecursion-weaker, IsLegal-empty, IsSound-empty, IsSound-timed}
use Rattle.cdc_audit_laws.proofs.OfAudit.{FixedFields, follows_on, asked_transfer, chain_length, ends_in_chain, is_linked, last_expiry, expires_at}
use Rattle.cdc_types.specs.declared.transfers.TheConstants.TransferFlags.{LINKED}
use Rattle.cdc_audit_laws.proofs.Premises.{HaveRoom, accounts_in}
use Rattle.cdc_audit_laws.proofs.Coming.{Comes}
use Rattle.cdc_audit_laws.proofs.Entering.{entry_is, own, own_follows, shows_own, unrefused}
use Rattle.cdc_audit_laws.proofs.Expiry.{expired, expiry_follows, expiry_is, is_up, shows_expired}
use Rattle.cdc_audit_laws.proofs.Following.{CanFollow}
use Rattle.cdc_audit_laws.proofs.Made.{IsShownBy, entry_with, events_then, shown_then, sound_then}
use Rattle.cdc_audit_laws.proofs.Modes.{IsOfChain, IsOfPulse, Mode, Reaches, StartsLegal, chain-push, chain_next, expiry-push, pulse_next, run-push, run_from-push, starts, starts-push}
use Rattle.cdc_audit_laws.proofs.Openings.{are_created, opening_of, request_fits}
use Rattle.cdc_audit_laws.proofs.Running.{Pulses, RunsOn, pulses-done, pulses-expired, pulses-legal, runs-done, runs-legal, runs-more, runs-taken, timed_before}
use Rattle.cdc_audit_laws.proofs.Streams.{first_follows}
use Rattle.cdc_audit_laws.proofs.Plan.{Opens, Rises, Planned, events_in, opens_later}
use Rattle.cdc_audit_laws.proofs.Soonest.{AllThatExpire, expire_then, no_earlier, none_before_expiry}
use Rattle.cdc_audit_laws.proofs.Turns.{its_time, next_due}
use Rattle.cdc_audit_laws.proofs.Opening.{AreFew, AreFollowed, CanMake, Goes, IsBegun, IsOpening, IsReady, begun_before, begun_new, goes_then, past_later, same_events, to_come, too_late}

module _ (all : List (ℕ × FixedFields)) where
  -- ---- an event happens
  module _ (h : History) (e : Event) (rest : List Planned) (goes : Goes all h (inr e ∷ rest)) where
    first : CanFollow (events h) e × (follows_on (events h ++ e ∷ []) (events_in rest) ≡ true)
    first = first_follows (events h) e (events_in rest) goes.follow

    in_time : e.timestamp ≤ TIMESTAMP
    in_time = ltb-false TIMESTAMP e.timestamp first.0.within

    -- no chain of accounts is on its way: its next one would come first
    mode_at : Mode h
    mode_at = by goes.mode
      where
        by : (Mode h ⊎ IsOpening all h) → Mode h
        by (inl mode) = mode
        by (inr opening) =
            let later : e.timestamp < opening.next.account.1.timestamp =
            opens_later e.timestamp (opening_of opening.next.account) rest goes.rises.1
            (to_come all h (inr e ∷ rest) goes opening) in
            let after : h.last < e.timestamp = goes.rises.0 in
            let time = opening.next.time in
            absurd (let no : ⊥ = omega (arith, later, after, time) in no)

    -- its accounts were opened before it
    before : (a : ℕ × FixedFields) → a.1.timestamp < e.timestamp → IsReady all h (inr e ∷ rest) a
        → opened h a.0 ≡ Some (opening_of a)
    before a earlier (inl there) = there
    before a earlier (inr later) =
        let after : e.timestamp < a.1.timestamp = opens_later e.timestamp (opening_of a) rest goes.rises.1 later in
        absurd (let no : ⊥ = omega (arith, earlier, after) in no)

    comes : Comes h e
    comes =
        let created = are_created (events h) e first.0 in
        record {
          sound = goes.sound;
          shown = goes.shown;
          later = goes.rises.0;
          can = first.0;
          debit = before _ created.debit goes.ready.0;
          credit = before _ created.credit goes.ready.1.0;
        }

    -- the history with its entry
    module _ (y : Transfer) (is : IsShownBy e y) (follows : Follows h (entry_with e y))
        (mode : Mode (pushed h (entry_with e y))) where
      same_then : events (pushed h (entry_with e y)) ≡ events h ++ e ∷ []
      same_then = events_then h e comes y is follows

      goes_with : Goes all (pushed h (entry_with e y)) rest
      goes_with = record {
        followed = goes.followed;
        few = goes.few;
        all_ready = λ a known. goes.all_ready a known;
        sound = sound_then h e comes y is follows;
        shown = shown_then h e comes y is follows;
        is_open = goes.is_open;
        rises = goes.rises.1;
        can = goes.can.1;
        past =
            let later : h.last < e.timestamp = goes.rises.0 in
            past_later all h.last e.timestamp h.accounts (omega (arith, later)) goes.past;
        ready = goes.ready.1.1;
        follow = subst (λ es. follows_on es (events_in rest) ≡ true) (sym same_then) first.1;
        room =
            subst (λ n. HaveRoom n (events_in rest)) (sym (ap chain_length same_then ∙ run_from-push 0 (events h) e))
            goes.room.1;
        mode = inl mode;
      }

    -- a transfer that is stored
    module _ (storing : stores e.kind ≡ true) where
      abbrev request : NewTransfer
      request = asked_transfer e

      abbrev with_own : History
      with_own = pushed h (entry_with e (own h e comes storing))

      same_own : events with_own ≡ events h ++ e ∷ []
      same_own =
          events_then h e comes (own h e comes storing) (shows_own h e comes storing) (own_follows h e comes storing)

      -- a chain is on its way, or begins
      runs : RunsOn h e.timestamp (chain_length (events h)) × StartsLegal (events h) IsOfChain
      runs = by mode_at
        where
          by : Mode h → RunsOn h e.timestamp (chain_length (events h)) × StartsLegal (events h) IsOfChain
          by (inl legal) = (
            runs-more transfer_rules NewTransferFits h e.timestamp (chain_length (events h))
                (runs-legal h e.timestamp legal goes.is_open goes.rises.0),
            starts IsOfChain h legal,
          )
          by (inr (inl chain)) =
              let next = chain_next h e chain first.0 in
              (subst (λ t. RunsOn h t (chain_length (events h))) (sym next.1) chain.runs, chain.start)
          by (inr (inr pulse)) =
              let next = pulse_next h e goes.sound pulse first.0 in
              absurd (false≢true (sym next.storing ∙ storing))

      fit : NewTransferFits request
      fit = request_fits e goes.can.0

      linked_is : is_linked_transfer request ≡ is_linked e
      linked_is = ap (λ b. b && has_flag e.transfer.flags LINKED) (sym storing)

      -- it ends the chain, or goes on with it
      own_mode : Mode with_own
      own_mode = by (is_linked e) refl
        where
          by : (b : Bool) → is_linked e ≡ b → Mode with_own
          by false is =
              inl (subst (λ (x : Entry). IsLegal (pushed h x)) (entry_is h e comes storing)
              (runs-done transfer_rules NewTransferFits h e.timestamp
              (chain_length (events h)) request runs.0 goes.room.0 in_time (linked_is ∙ is)
              (unrefused h e comes storing) fit))
          by true is =
              inr (inl (record {
                runs =
                    subst (RunsOn with_own (e.timestamp + 1))
                    (sym (ap chain_length same_own ∙ run-push (events h) e is))
                    (subst (λ (x : Entry). RunsOn (pushed h x) (e.timestamp + 1) (chain_length (events h) + 1))
                    (entry_is h e comes storing)
                    (runs-taken transfer_rules NewTransferFits h e.timestamp (chain_length (events h)) request runs.0
                    (linked_is ∙ is)
                    (unrefused h e comes storing) fit));
                chained = ap ends_in_chain same_own ∙ chain-push (events h) e ∙ is;
                at_end = ap last_timestamp same_own ∙ last_timestamp_from-push 0 (events h) e;
                start =
                    subst (λ es. StartsLegal es IsOfChain) (sym same_own)
                    (starts-push IsOfChain (events h) e runs.1 is);
              }))

      goes_own : Goes all with_own rest
      goes_own =
          goes_with (own h e comes storing) (shows_own h e comes storing) (own_follows h e comes storing) own_mode

    -- an expiry, within a pulse at its expiry time
    module _ (storing : stores e.kind ≡ false) (pulses : Pulses h (expires_at e.transfer))
        (start : StartsLegal (events h) (IsOfPulse (expires_at e.transfer))) (next : e.timestamp ≡ h.last + 1) where
      abbrev now : ℕ
      now = expires_at e.transfer

      abbrev gone : Transfer
      gone = expired h e comes storing

      abbrev with_gone : History
      with_gone = pushed h (entry_with e gone)

      same_gone : events with_gone ≡ events h ++ e ∷ []
      same_gone = events_then h e comes gone (shows_expired h e comes storing) (expiry_follows h e comes storing)

      up : expires_at_one gone ≤ now
      up =
          let same = ap expires_at (shows_expired h e comes storing).shown in
          omega (arith, same)

      pulses_then : Pulses with_gone now
      pulses_then =
          subst (λ (x : Entry). Pulses (pushed h x) now) (expiry_is h e comes storing)
          (pulses-expired h now e.timestamp gone pulses next
          (next_due h e comes storing (none_before_expiry (events h) e first.0 storing) now up e.timestamp
          goes.rises.0))

      -- none that is left expires sooner
      least : AllThatExpire (events with_gone) (λ y. now ≤ expires_at y.transfer)
      least =
          subst (λ es. AllThatExpire es (λ y. now ≤ expires_at y.transfer)) (sym same_gone)
          (expire_then (events h) e (λ y. now ≤ expires_at y.transfer) storing
          (AllByRecursion-weaker _ _ (λ y not_sooner passes. no_earlier y e (not_sooner passes)) (events h)
          (none_before_expiry (events h) e first.0 storing)))

      gone_mode : Mode with_gone
      gone_mode = by (due with_gone now) refl
        where
          by : (ps : List Transfer) → due with_gone now ≡ ps → Mode with_gone
          by [] is = inl (pulses-done with_gone now pulses_then is in_time)
          by (p ∷ ps) is =
              inr (inr (record {
                now = now;
                next = p;
                others = ps;
                left = is;
                least = least;
                pulses = pulses_then;
                last = e;
                last_is = ap last_expiry same_gone ∙ expiry-push (events h) e storing;
                time = refl;
                at_end = refl;
                ends = ap last_timestamp same_gone ∙ last_timestamp_from-push 0 (events h) e;
                start =
                    subst (λ es. StartsLegal es (IsOfPulse now)) (sym same_gone)
                    (starts-push (IsOfPulse now) (events h) e start (storing, refl));
              }))

      goes_gone : Goes all with_gone rest
      goes_gone = goes_with gone (shows_expired h e comes storing) (expiry_follows h e comes storing) gone_mode

  -- before a pulse begins, the timestamp before it is taken
  module _ (h : History) (e : Event) (rest : List Planned) (goes : Goes all h (inr e ∷ rest)) (legal : IsLegal h) where
    abbrev paused : History
    paused = timed h (e.timestamp - 1)

    goes_paused : Goes all paused (inr e ∷ rest)
    goes_paused =
        let later : h.last < e.timestamp = goes.rises.0 in
        let within = in_time h e rest goes in
        record {
          followed = goes.followed;
          few = goes.few;
          all_ready = goes.all_ready;
          sound = IsSound-timed h (e.timestamp - 1) goes.sound (omega (arith, later)) (omega (arith, within));
          shown = λ id. goes.shown id
              ∙ sym (balances_later h id h.last (e.timestamp - 1) goes.sound.past (omega (arith, later)));
          is_open = goes.is_open;
          rises = (omega (arith, later), goes.rises.1);
          can = goes.can;
          past = past_later all h.last (e.timestamp - 1) h.accounts (omega (arith, later)) goes.past;
          ready = goes.ready;
          follow = goes.follow;
          room = goes.room;
          mode = inl (inl (timed_before h e.timestamp legal goes.is_open later within));
        }

    pulses_paused : stores e.kind ≡ false → Pulses paused (expires_at e.transfer)
    pulses_paused storing =
        let later : h.last < e.timestamp = goes.rises.0 in
        let within = in_time h e rest goes in
        let one = comes h e rest goes in
        let same = ap expires_at (shows_expired h e one storing).shown in
        let up = is_up h e one storing in
        pulses-legal paused (expires_at e.transfer) (timed_before h e.timestamp legal goes.is_open later within)
        goes.is_open (omega (arith, same, up, later)) (omega (arith, same, up, within))

  -- one event more
  record Steps (h : History) (e : Event) (rest : List Planned) : Type 0 where
    after : History
    goes : Goes all after rest
    events_are : events after ≡ events h ++ e ∷ []

  steps : (h : History) (e : Event) (rest : List Planned) → Goes all h (inr e ∷ rest) → Steps h e rest
  steps h e rest goes = by (cases_Bool (stores e.kind))
    where
      expires : stores e.kind ≡ false → Mode h → Steps h e rest
      expires storing (inl legal) =
          let later : h.last < e.timestamp = goes.rises.0 in
          let start = goes_paused h e rest goes legal in
          let pulses = pulses_paused h e rest goes legal storing in
          let next : e.timestamp ≡ e.timestamp - 1 + 1 = omega (arith, later) in
          let from = starts (IsOfPulse (expires_at e.transfer)) h legal in
          record {
            after = with_gone (paused h e rest goes legal) e rest start storing pulses from next;
            goes = goes_gone (paused h e rest goes legal) e rest start storing pulses from next;
            events_are = same_gone (paused h e rest goes legal) e rest start storing pulses from next;
          }
      expires storing (inr (inl chain)) =
          absurd (false≢true (sym storing ∙ (chain_next h e chain (first h e rest goes).0).0))
      expires storing (inr (inr pulse)) =
          let on = pulse_next h e goes.sound pulse (first h e rest goes).0 in
          let no_sooner = its_time h e (comes h e rest goes) storing (λ t. pulse.now ≤ t) pulse.least in
          let time : expires_at e.transfer ≡ pulse.now = omega (arith, on.no_later, no_sooner) in
          let pulses = subst (Pulses h) (sym time) pulse.pulses in
          let from = subst (λ t. StartsLegal (events h) (IsOfPulse t)) (sym time) pulse.start in
          record {
            after = with_gone h e rest goes storing pulses from on.next;
            goes = goes_gone h e rest goes storing pulses from on.next;
            events_are = same_gone h e rest goes storing pulses from on.next;
          }

      by : ((stores e.kind ≡ true) ⊎ (stores e.kind ≡ false)) → Steps h e rest
      by (inl storing) = record {
        after = with_own h e rest goes storing;
        goes = goes_own h e rest goes storing;
        events_are = same_own h e rest goes storing;
      }
      by (inr storing) = expires storing (mode_at h e rest goes)

  -- an account that was created before the last timestamp is open
  opened_early : (h : History) (rest : List Planned) → Goes all h rest → (a : ℕ × FixedFields)
      → lookup (nat_eq a.0) all ≡ Some a.1 → a.1.timestamp < h.last → opened h a.0 ≡ Some (opening_of a)
  opened_early h rest goes a known early = by (goes.all_ready a known)
    where
      by : IsReady all h rest a → opened h a.0 ≡ Some (opening_of a)
      by (inl there) = there
      by (inr later) =
          let after = opens_later h.last (opening_of a) rest goes.rises later in
          absurd (let no : ⊥ = omega (arith, early, after) in no)

  -- so the plan is done to its end; accounts that no later event shows stay away, if a chain or a pulse is cut off
  reaches : (rest : List Planned) (h : History) → Goes all h rest → Reaches all (events h ++ events_in rest)
  reaches [] h goes = by goes.mode
    where
      by : (Mode h ⊎ IsOpening all h) → Reaches all (events h ++ [])
      by (inl mode) = record {
        last = h;
        sound = goes.sound;
        mode = mode;
        same = sym (append-nil (events h));
        shown = goes.shown;
        opened_each = opened_early h [] goes;
      }
      by (inr opening) = absurd (to_come all h [] goes opening)
  reaches (inl o ∷ rest) h goes =
      by goes.mode (events_in rest) refl
      (λ begun. subst (Reaches all) (ap (λ es. es ++ events_in rest) (same_events all h o rest goes))
      (reaches rest (with_account h o) (goes_then all h o rest goes begun)))
    where
      by : (Mode h ⊎ IsOpening all h) → (es : List Event) → events_in rest ≡ es
          → (IsBegun all h o.timestamp → Reaches all (events h ++ events_in rest))
          → Reaches all (events h ++ events_in rest)
      by (inl (inl legal)) es is more = more (begun_new all h o rest goes legal)
      by (inl (inr on)) [] is more = record {
        last = h;
        sound = goes.sound;
        mode = inr on;
        same = sym (append-nil (events h)) ∙ ap (λ es. events h ++ es) (sym is);
        shown = goes.shown;
        opened_each = opened_early h (inl o ∷ rest) goes;
      }
      by (inl (inr on)) (e ∷ es) is more = absurd (too_late all h o rest goes e es is on)
      by (inr opening) es is more = more (begun_before all h o rest goes opening)
  reaches (inr e ∷ rest) h goes =
      let step = steps h e rest goes in
      subst (Reaches all)
      (ap (λ es. es ++ events_in rest) step.events_are ∙ append_assoc (events h) (e ∷ []) (events_in rest))
      (reaches rest step.after step.goes)

  -- from a new ledger on
  pub made_from_empty : (plan : List Planned) → AreFollowed all → AreFew all
      → ((a : ℕ × FixedFields) → lookup (nat_eq a.0) all ≡ Some a.1 → Opens (opening_of a) plan) → Rises 0 plan
      → AllByRecursion (CanMake all) plan
      → AllByRecursion (IsReady all empty_history plan) (accounts_in (events_in plan))
      → follows_on [] (events_in plan) ≡ true → HaveRoom 0 (events_in plan) → Reaches all (events_in plan)
  made_from_empty plan followed few opened_all rises can ready follow room =
      reaches plan empty_history (record {
        followed = followed;
        few = few;
        all_ready = λ a known. inr (opened_all a known);
        sound = IsSound-empty;
        shown = λ id. refl;
        is_open = refl;
        rises = rises;
        can = can;
        past = tt;
        ready = ready;
        follow = follow;
        room = room;
        mode = inl (inl IsLegal-empty);
      })
