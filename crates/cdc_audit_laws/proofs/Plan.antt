-- A plan for a ledger: accounts to open and events to store, in the order of their timestamps.
use Rattle.std.proofs.Common.{◌≡◌, ◌≢◌, ◌⊎◌, inl, inr, ℕ, ◌<◌, Bool, List, [], ◌∷◌, if◌then◌else◌, map, refl, ap, ◌∙◌, arith, ◌==◌, nat_lt}
use Rattle.cdc_audit_laws.proofs.OfStd.{AllByRecursion}
use Rattle.cdc_audit_laws.proofs.OfTypes.{Event, RiseFrom}
use Rattle.cdc_audit_laws.proofs.OfLedger.{Opened, AllByRecursion-weaker}

-- an account to open, or an event to store
abbrev pub Planned : Type 0
Planned = Opened ⊎ Event

abbrev pub time_of : Planned → ℕ
time_of (inl o) = o.timestamp
time_of (inr e) = e.timestamp

-- the events of a plan
abbrev pub events_in : List Planned → List Event
events_in [] = []
events_in (inl o ∷ rest) = events_in rest
events_in (inr e ∷ rest) = e ∷ events_in rest

-- the timestamps rise from this one
abbrev pub Rises : ℕ → List Planned → Type 0
Rises t [] = Unit {0}
Rises t (x ∷ rest) = (t < time_of x) × Rises (time_of x) rest

-- the account is opened
abbrev pub Opens : Opened → List Planned → Type 0
Opens o [] = ⊥
Opens o (inl x ∷ rest) = (x ≡ o) ⊎ Opens o rest
Opens o (inr e ∷ rest) = Opens o rest

-- an account that is opened later has a later timestamp
pub opens_later : (t : ℕ) (o : Opened) (plan : List Planned) → Rises t plan → Opens o plan → t < o.timestamp
opens_later t o [] rises opens = absurd opens
opens_later t o (inl x ∷ rest) rises (inl same) =
    let is : x.timestamp ≡ o.timestamp = ap (λ (y : Opened). y.timestamp) same in
    omega (arith, is, rises.0)
opens_later t o (inl x ∷ rest) rises (inr opens) =
    omega (arith, rises.0, opens_later x.timestamp o rest rises.1 opens)
opens_later t o (inr e ∷ rest) rises opens =
    omega (arith, rises.0, opens_later e.timestamp o rest rises.1 opens)

-- and so has the first event
pub events_later : (t : ℕ) (plan : List Planned) (e : Event) (es : List Event) → Rises t plan → events_in plan ≡ e ∷ es
    → t < e.timestamp
events_later t [] e es rises is = cc
events_later t (inl o ∷ rest) e es rises is =
    let later = events_later o.timestamp rest e es rises.1 is in
    omega (arith, later, rises.0)
events_later t (inr x ∷ rest) e es rises is =
    let same : x ≡ e = cc in
    let time : x.timestamp ≡ e.timestamp = ap (λ (y : Event). y.timestamp) same in
    omega (arith, time, rises.0)

-- events alone
abbrev pub only : List Event → List Planned
only events = map (λ (e : Event). let x : Planned = inr e in x) events

pub events_in-only : (events : List Event) → events_in (only events) ≡ events
events_in-only [] = refl
events_in-only (e ∷ rest) = ap (λ es. e ∷ es) (events_in-only rest)

pub only-rises : (t : ℕ) (events : List Event) → RiseFrom t events → Rises t (only events)
only-rises t [] rises = tt
only-rises t (e ∷ rest) rises = (rises.0, only-rises e.timestamp rest rises.1)

pub only-all : (P : Planned → Type 0) (events : List Event) → AllByRecursion (λ e. P (inr e)) events
    → AllByRecursion P (only events)
only-all P [] all = tt
only-all P (e ∷ rest) all = (all.0, only-all P rest all.1)

-- one more account to open, in its place; if the timestamp is there already, nothing
abbrev place_by : Bool → Bool → Opened → Planned → List Planned → List Planned → List Planned
place_by sooner same o x rest later =
    if sooner then inl o ∷ x ∷ rest else if same then x ∷ rest else x ∷ later

abbrev pub place_in : Opened → List Planned → List Planned
place_in o [] = inl o ∷ []
place_in o (x ∷ rest) =
    place_by (nat_lt o.timestamp (time_of x)) (o.timestamp == time_of x) o x rest (place_in o rest)

-- the events stay the same
events_in-place_by : (sooner same : Bool) (o : Opened) (x : Planned) (rest later : List Planned)
    → events_in later ≡ events_in rest → events_in (place_by sooner same o x rest later) ≡ events_in (x ∷ rest)
events_in-place_by sooner same o x rest later is = grind arith

pub events_in-place_in : (o : Opened) (plan : List Planned) → events_in (place_in o plan) ≡ events_in plan
events_in-place_in o [] = refl
events_in-place_in o (x ∷ rest) = events_in-place_by _ _ o x rest (place_in o rest) (events_in-place_in o rest)

-- the timestamps rise as before
pub rises-place_in : (t : ℕ) (o : Opened) (plan : List Planned) → t < o.timestamp → Rises t plan
    → Rises t (place_in o plan)
rises-place_in t o [] after rises = (after, tt)
rises-place_in t o (x ∷ rest) after rises =
    by (nat_lt o.timestamp (time_of x)) refl (o.timestamp == time_of x) refl
    (λ later. rises-place_in (time_of x) o rest later rises.1)
  where
    by : (sooner : Bool) → nat_lt o.timestamp (time_of x) ≡ sooner → (same : Bool) → (o.timestamp == time_of x) ≡ same
        → (time_of x < o.timestamp → Rises (time_of x) (place_in o rest))
        → Rises t (place_by sooner same o x rest (place_in o rest))
    by sooner is same same_is more = grind arith

-- what holds of all of a plan, and of the account
all-place_by : (P : Planned → Type 0) (sooner same : Bool) (o : Opened) (x : Planned)
    (rest later : List Planned) → P (inl o)
    → P x → AllByRecursion P rest → AllByRecursion P later → AllByRecursion P (place_by sooner same o x rest later)
all-place_by P sooner same o x rest later here first others more = grind arith

pub all-place_in : (P : Planned → Type 0) (o : Opened) (plan : List Planned) → P (inl o) → AllByRecursion P plan
    → AllByRecursion P (place_in o plan)
all-place_in P o [] here all = (here, tt)
all-place_in P o (x ∷ rest) here all =
    all-place_by P _ _ o x rest (place_in o rest) here all.0 all.1 (all-place_in P o rest here all.1)

-- what was opened still is
opens_by : (a o : Opened) (sooner same : Bool) (x : Planned) (rest later : List Planned)
    → (Opens a rest → Opens a later) → Opens a (x ∷ rest) → Opens a (place_by sooner same o x rest later)
opens_by a o sooner same x rest later more opens = grind arith

pub opens-place_in : (a o : Opened) (plan : List Planned) → Opens a plan → Opens a (place_in o plan)
opens-place_in a o [] opens = absurd opens
opens-place_in a o (x ∷ rest) opens =
    opens_by a o _ _ x rest (place_in o rest) (opens-place_in a o rest) opens

-- an item of a plan has another timestamp than the account, or is this account
abbrev pub Admits : Opened → Planned → Type 0
Admits o (inl x) = x.timestamp ≡ o.timestamp → x ≡ o
Admits o (inr e) = e.timestamp ≢ o.timestamp

pub place_in-opens : (o : Opened) (plan : List Planned) → AllByRecursion (Admits o) plan → Opens o (place_in o plan)
place_in-opens o [] all = inl refl
place_in-opens o (x ∷ rest) all =
    by (nat_lt o.timestamp (time_of x)) (o.timestamp == time_of x) refl (place_in-opens o rest all.1)
  where
    by : (sooner same : Bool) → (o.timestamp == time_of x) ≡ same → Opens o (place_in o rest)
        → Opens o (place_by sooner same o x rest (place_in o rest))
    by sooner same is later = grind arith

-- several accounts to open, each in its place
module _ {A : Type 0} (opening : A → Opened) where
  abbrev pub place_all : List A → List Planned → List Planned
  place_all [] plan = plan
  place_all (a ∷ rest) plan = place_in (opening a) (place_all rest plan)

  pub events_in-place_all : (those : List A) (plan : List Planned) → events_in (place_all those plan) ≡ events_in plan
  events_in-place_all [] plan = refl
  events_in-place_all (a ∷ rest) plan =
      events_in-place_in (opening a) (place_all rest plan) ∙ events_in-place_all rest plan

  pub rises-place_all : (t : ℕ) (those : List A) (plan : List Planned)
      → AllByRecursion (λ a. t < (opening a).timestamp) those → Rises t plan → Rises t (place_all those plan)
  rises-place_all t [] plan after rises = rises
  rises-place_all t (a ∷ rest) plan after rises =
      rises-place_in t (opening a) (place_all rest plan) after.0 (rises-place_all t rest plan after.1 rises)

  pub all-place_all : (P : Planned → Type 0) (those : List A) (plan : List Planned)
      → AllByRecursion (λ a. P (inl (opening a))) those → AllByRecursion P plan
      → AllByRecursion P (place_all those plan)
  all-place_all P [] plan all others = others
  all-place_all P (a ∷ rest) plan all others =
      all-place_in P (opening a) (place_all rest plan) all.0 (all-place_all P rest plan all.1 others)

  -- the accounts of a list admit an account, and so do these events
  abbrev pub AllAdmit : List A → List Planned → A → Type 0
  AllAdmit all plan a =
      AllByRecursion (λ b. Admits (opening a) (inl (opening b))) all × AllByRecursion (Admits (opening a)) plan

  -- then each of them is opened
  opens_each : (all those : List A) (plan : List Planned)
      → ((Q : A → Type 0) → AllByRecursion Q all → AllByRecursion Q those) → AllByRecursion (AllAdmit all plan) those
      → AllByRecursion (λ a. Opens (opening a) (place_all those plan)) those
  opens_each all [] plan part admit = tt
  opens_each all (a ∷ rest) plan part admit = (
    place_in-opens (opening a) (place_all rest plan)
        (all-place_all (Admits (opening a)) rest plan
        (part (λ b. Admits (opening a) (inl (opening b))) admit.0.0).1 admit.0.1),
    AllByRecursion-weaker _ _ (λ b opens. opens-place_in (opening b) (opening a) (place_all rest plan) opens) rest
        (opens_each all rest plan (λ Q every. (part Q every).1) admit.1),
  )

  pub place_all-opens : (those : List A) (plan : List Planned) → AllByRecursion (AllAdmit those plan) those
      → AllByRecursion (λ a. Opens (opening a) (place_all those plan)) those
  place_all-opens those plan admit = opens_each those those plan (λ Q every. every) admit
