-- The order in which pending transfers expire.
use Rattle.std.specs.Prelude.{◌+◌, Bool, ◌==◌, ◌&&◌, ◌||◌, not, nat_lt, filter, List, [], ◌∷◌, Option, Some, None, if◌then◌else◌}
use Rattle.cdc_types.specs.declared.events.Event.{Event}
use Rattle.cdc_types.specs.declared.events.EventTransfer.{EventTransfer}
use Rattle.cdc_ledger.specs.Kinds.{holds, stores}
use Rattle.cdc_audit.specs.declared.refusals.Refusal.{Refusal}
use Rattle.cdc_audit.specs.declared.refusals.Refusal.TheVariants.{ExpiresLate, ExpiresApart}
use Rattle.cdc_audit.specs.Known.{is_settled}
use Rattle.cdc_audit.specs.Settling.{expires_at}

-- a pending transfer expires before another one: its time is up sooner, or at the same time and it was stored sooner
abbrev pub is_sooner : EventTransfer → EventTransfer → Bool
is_sooner x y =
    nat_lt (expires_at x) (expires_at y) || ((expires_at x == expires_at y) && nat_lt x.timestamp y.timestamp)

-- the same of the transfers of two events; of two that were stored at one time, the one with the lesser id
abbrev pub goes_first : Event → Event → Bool
goes_first e f =
    is_sooner e.transfer f.transfer || (not (is_sooner f.transfer e.transfer) && nat_lt e.transfer.id f.transfer.id)

-- the one of these events whose transfer expires first
abbrev pub sooner_of : Event → Option Event → Event
sooner_of e None = e
sooner_of e (Some f) = if goes_first f e then f else e

abbrev pub first_of : List Event → Option Event
first_of [] = None
first_of (e ∷ es) = Some (sooner_of e (first_of es))

-- an event stored a pending transfer with a timeout, and none of these events settled it
abbrev pub can_expire : List Event → Event → Bool
can_expire past e = holds e.kind && not (e.transfer.timeout == 0) && not (is_settled past e.transfer.id)

-- the event of the open pending transfer that expires first, if one has a timeout
abbrev pub first_due : List Event → Option Event
first_due past = first_of (filter (can_expire past) past)

-- the line on an expiry: it isn't that of the transfer that expires first
abbrev pub late_line : Event → Event → Bool × Refusal
late_line first e =
    (not (stores e.kind) && is_sooner first.transfer e.transfer, ExpiresLate e.transfer.id first.transfer.id)

-- the line on an event after the last expiry: the transfer that expires first has the same expiry time, so the event is
-- an expiry, one nanosecond after that one
abbrev pub apart_line : Event → Event → Event → Bool × Refusal
apart_line first last e = (
  (expires_at first.transfer == expires_at last.transfer)
      && not (not (stores e.kind) && (e.timestamp == last.timestamp + 1)),
  ExpiresApart first.transfer.id last.transfer.id,
)

-- the lines on an event by the open pending transfer that expires first and by the last expiry before the event
abbrev pub expiry_lines : Option Event → Option Event → Event → List (Bool × Refusal)
expiry_lines None last e = []
expiry_lines (Some first) None e = late_line first e ∷ []
expiry_lines (Some first) (Some last) e = late_line first e ∷ apart_line first last e ∷ []
