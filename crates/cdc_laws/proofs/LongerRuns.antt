-- A connector run stays one if more is confirmed, and on every longer line.
use Rattle.std.proofs.Common.{◌≡◌, ℕ, ◌<◌, ◌≤◌, List, [], ◌∷◌, ◌++◌, sym, ap, ◌∙◌, inl, inr, append_assoc, arith}
use Rattle.std.specs.Prelude.{Contains, Some, slice_get}
use Rattle.cdc_ledger.specs.Events.{events}
use Rattle.cdc_ledger.specs.History.{History}
use Rattle.cdc_ledger.specs.Sound.{IsSound}
use Rattle.cdc_laws.specs.Arrivals.{AreAmong}
use Rattle.cdc_laws.specs.ConnectorRuns.{AreSessions, IsBase, IsConnectorRun, Shown}
use Rattle.cdc_laws.specs.GoingOn.{GoesOn}
use Rattle.cdc_laws.specs.Line.{line_after}
use Rattle.cdc_laws.proofs.Bases.{event_at, prefix_at}
use Rattle.cdc_laws.proofs.Lines.{line_after-goes_on, split_events}
use Rattle.cdc_laws.proofs.ListElements.{Contains-cons_cases, Contains_slice_get, each_has, none_there}
use Rattle.cdc_laws.proofs.Rising.{all_later}
use Rattle.cdc_laws.proofs.Sessions.{AreSessions-more}
use Rattle.cdc_log.specs.Log.{events_after}
use Rattle.cdc_message.specs.declared.items.Item.TheVariants.{Event as OfEvent}
use Rattle.cdc_message.specs.declared.packets.Confirm.{Confirm}
use Rattle.cdc_message.specs.declared.packets.Packet.{Packet}
use Rattle.cdc_message.specs.Replays.{IsPrefix}
use Rattle.cdc_types.specs.declared.events.Event.{Event}

-- a prefix of a list is one of each longer list
pub IsPrefix-longer : {X : Type 0} (some all more : List X) → IsPrefix some all → IsPrefix some (all ++ more)
IsPrefix-longer {X} some all more front = record {
  rest = front.rest ++ more;
  whole = sym (append_assoc some front.rest more) ∙ ap (λ (xs : List X). xs ++ more) front.whole;
}

-- under more confirms
pub IsConnectorRun-more : (h : History) (start : ℕ) (sent : List Packet) (confirms more : List Confirm)
    → IsConnectorRun h start sent confirms → AreAmong confirms more → IsConnectorRun h start sent more
IsConnectorRun-more h start sent confirms more run kept = record {
  sessions = run.sessions;
  makes = run.makes;
  each = AreSessions-more confirms more kept h start run.sessions run.each;
}

module _ (h : History) (sound : IsSound h) (start : ℕ) (confirms : List Confirm) where
  -- an event that a session has published is later than the timestamp after which the session begins
  event_late : (s : Shown) (place : ℕ) (e : Event) → IsPrefix s.items (line_after h s.base)
      → slice_get s.items place ≡ Some (OfEvent e) → s.base < e.timestamp
  event_late s place e front here =
      let es : List Event = events_after s.base (events h) in
      let at = event_at es h.closed place e (prefix_at s.items (line_after h s.base) place (OfEvent e) front here) in
      each_has (λ x. s.base < x.timestamp) es e (all_later s.base es (split_events h s.base sound).1.rise)
      (Contains_slice_get es place e at)

  -- so no session may begin before the start
  pub base_late : (sessions : List Shown) → AreSessions h start confirms sessions → (t : ℕ)
      → IsBase start confirms sessions t → start ≤ t
  base_late sessions each t (inl none) = omega (arith, none)
  base_late [] each t (inr (s, among, which)) = absurd (none_there s among)
  base_late (x ∷ earlier) each t (inr (s, among, which)) =
      elim (Contains-cons_cases x earlier s among) [
        | inl is ↦
            let late = base_late earlier each.1 x.base each.0.base in
            let base = ap (λ (y : Shown). y.base) is in
            elim which [
              | inl same ↦ omega (arith, late, base, same)
              | inr to ↦
                  let later = event_late s to.place to.event (rw is at each.0.items) to.published in
                  omega (arith, late, base, later, to.at)
            ]
        | inr old ↦ base_late earlier each.1 t (inr (s, old, which))
      ]

  -- and none of lawful sessions does
  pub each_late : (sessions : List Shown) → AreSessions h start confirms sessions → (s : Shown) → Contains sessions s
      → start ≤ s.base
  each_late [] each s among = absurd (none_there s among)
  each_late (x ∷ earlier) each s among =
      elim (Contains-cons_cases x earlier s among) [
        | inl is ↦ rw (← is) (base_late earlier each.1 x.base each.0.base)
        | inr old ↦ each_late earlier each.1 s old
      ]

-- sessions stay valid if the ledger goes on
pub AreSessions-goes_on : (h g : History) (start : ℕ) (confirms : List Confirm) → GoesOn h g → (sessions : List Shown)
    → AreSessions h start confirms sessions → AreSessions g start confirms sessions
AreSessions-goes_on h g start confirms on [] each = tt
AreSessions-goes_on h g start confirms on (s ∷ earlier) each =
    let more = line_after-goes_on h g s.base on in (
      record {
        above = each.0.above;
        base = each.0.base;
        items = rw more.1 (IsPrefix-longer s.items (line_after h s.base) more.0 each.0.items);
        end = each.0.end;
      },
      AreSessions-goes_on h g start confirms on earlier each.1,
    )

-- on a longer line
pub IsConnectorRun-goes_on : (h g : History) (start : ℕ) (sent : List Packet) (confirms : List Confirm) → GoesOn h g
    → IsConnectorRun h start sent confirms → IsConnectorRun g start sent confirms
IsConnectorRun-goes_on h g start sent confirms on run = record {
  sessions = run.sessions;
  makes = run.makes;
  each = AreSessions-goes_on h g start confirms on run.sessions run.each;
}
