-- Sessions of a connector, and the packets that they have sent.
use Rattle.std.proofs.Common.{◌≡◌, ℕ, suc, ◌+◌, List, [], ◌∷◌, refl, sym, ap, ◌∙◌, inl, inr, arith}
use Rattle.std.specs.Prelude.{Contains, Some, slice_get}
use Rattle.std.proofs.lemmas.List.Elements.{Contains-append_cases, Contains-append_right}
use Rattle.cdc_ledger.specs.History.{History}
use Rattle.cdc_laws.specs.Arrivals.{AreAmong}
use Rattle.cdc_laws.specs.ConnectorRuns.{AreConfirmed, AreSessions, IsBase, IsConfirmedTo, MayFollow, Shown, packets_of, publishes_from, sent_by}
use Rattle.cdc_laws.proofs.ListElements.{Contains-cons_cases, none_there}
use Rattle.cdc_message.specs.declared.items.Item.{Item}
use Rattle.cdc_message.specs.declared.packets.Confirm.{Confirm}
use Rattle.cdc_message.specs.declared.packets.Packet.TheVariants.{Connect, Publish}

-- ---- what sessions have published

-- one of the sessions has published this item under this tag
pub record IsPublished (sessions : List Shown) (number tag : ℕ) (item : Item) : Type 0 where
  pub session : Shown
  pub among : Contains sessions session
  pub its : session.number ≡ number
  pub place : ℕ
  pub tagged : tag ≡ place + 1
  pub here : slice_get session.items place ≡ Some item

-- the item of a publish is as far on in the session as its tag is from the first
pub publish_place : (session first : ℕ) (items : List Item) (number tag : ℕ) (item : Item)
    → Contains (publishes_from session first items) (Publish number tag item)
    → (session ≡ number) × ((k : ℕ) × (tag ≡ first + k) × (slice_get items k ≡ Some item))
publish_place session first [] number tag item there = absurd (none_there _ there)
publish_place session first (x ∷ items) number tag item there =
    elim (Contains-cons_cases (Publish session first x) (publishes_from session (first + 1) items) _ there) [
      | inl is ↦
          let tagged : first ≡ tag = cc in
          let same : x ≡ item = cc in
          (cc, (0, omega (arith, tagged), ap (λ y. Some y) same))
      | inr later ↦
          let rest = publish_place session (first + 1) items number tag item later in
          (rest.0, (suc rest.1.0, omega (arith, rest.1.1), rest.1.2))
    ]

-- so whatever publish was sent, a session has published it
pub IsPublished-sent : (sessions : List Shown) (number tag : ℕ) (item : Item)
    → Contains (sent_by sessions) (Publish number tag item) → IsPublished sessions number tag item
IsPublished-sent [] number tag item there = absurd (none_there _ there)
IsPublished-sent (s ∷ earlier) number tag item there =
    elim (Contains-append_cases (sent_by earlier) (packets_of s) _ there) [
      | inl before ↦
          let old = IsPublished-sent earlier number tag item before in
          record {
            session = old.session;
            among = Contains-append_right (s ∷ []) earlier old.session old.among;
            its = old.its;
            place = old.place;
            tagged = old.tagged;
            here = old.here;
          }
      | inr own ↦
          elim (Contains-cons_cases (Connect s.number) (publishes_from s.number 1 s.items) _ own) [
            | inl is ↦ cc
            | inr publish ↦
                let found = publish_place s.number 1 s.items number tag item publish in
                record {
                  session = s;
                  among = (0, omega arith, refl);
                  its = found.0;
                  place = found.1.0;
                  tagged = omega (arith, found.1.1);
                  here = found.1.2;
                }
          ]
    ]

-- ---- sessions by their numbers

-- each of lawful sessions may follow some of them
pub record Follows (h : History) (start : ℕ) (confirms : List Confirm) (sessions : List Shown) (s : Shown)
    : Type 0 where
  pub earlier : List Shown
  pub may : MayFollow h start confirms earlier s

pub follows : (h : History) (start : ℕ) (confirms : List Confirm) (sessions : List Shown) (s : Shown)
    → AreSessions h start confirms sessions → Contains sessions s → Follows h start confirms sessions s
follows h start confirms [] s each there = absurd (none_there s there)
follows h start confirms (x ∷ earlier) s each there =
    elim (Contains-cons_cases x earlier s there) [
      | inl is ↦ record { earlier = earlier; may = rw is at each.0 }
      | inr old ↦
          let rest = follows h start confirms earlier s each.1 old in
          record { earlier = rest.earlier; may = rest.may }
    ]

-- no two sessions have one number
pub one_session : (h : History) (start : ℕ) (confirms : List Confirm) (sessions : List Shown) (s t : Shown)
    → AreSessions h start confirms sessions → Contains sessions s → Contains sessions t → s.number ≡ t.number → s ≡ t
one_session h start confirms [] s t each there here same = absurd (none_there s there)
one_session h start confirms (x ∷ earlier) s t each there here same =
    let apart : (y z : Shown) → x ≡ y → Contains earlier z → y.number ≡ z.number → ⊥ = λ y z is old equal.
    let below = each.0.above z old in
    let number = ap (λ (w : Shown). w.number) is in
    omega (arith, below, number, equal) in
    elim (Contains-cons_cases x earlier s there) [
      | inl s_first ↦
          elim (Contains-cons_cases x earlier t here) [
            | inl t_first ↦ sym s_first ∙ t_first
            | inr t_old ↦ absurd (apart s t s_first t_old same)
          ]
      | inr s_old ↦
          elim (Contains-cons_cases x earlier t here) [
            | inl t_first ↦ absurd (apart t s t_first s_old (sym same))
            | inr t_old ↦ one_session h start confirms earlier s t each.1 s_old t_old same
          ]
    ]

-- ---- more confirms

module _ (confirms more : List Confirm) (kept : AreAmong confirms more) where
  -- what was confirmed stays so
  pub AreConfirmed-more : (session count : ℕ) → AreConfirmed confirms session count → AreConfirmed more session count
  AreConfirmed-more session count has tag above within = kept _ (has tag above within)

  -- so a session stays confirmed up to a timestamp
  pub IsConfirmedTo-more : (s : Shown) (time : ℕ) → IsConfirmedTo confirms s time → IsConfirmedTo more s time
  IsConfirmedTo-more s time is = record {
    place = is.place;
    event = is.event;
    published = is.published;
    at = is.at;
    confirmed = AreConfirmed-more s.number (is.place + 1) is.confirmed;
  }

  -- and a timestamp after which a session may begin stays one
  pub IsBase-more : (start : ℕ) (earlier : List Shown) (time : ℕ) → IsBase start confirms earlier time
      → IsBase start more earlier time
  IsBase-more start earlier time (inl none) = inl none
  IsBase-more start earlier time (inr (s, there, inl same)) = inr (s, there, inl same)
  IsBase-more start earlier time (inr (s, there, inr is)) = inr (s, there, inr (IsConfirmedTo-more s time is))

  -- so sessions stay lawful as more is confirmed
  pub AreSessions-more : (h : History) (start : ℕ) (sessions : List Shown) → AreSessions h start confirms sessions
      → AreSessions h start more sessions
  AreSessions-more h start [] each = tt
  AreSessions-more h start (s ∷ earlier) each = (
    record {
      above = each.0.above;
      base = IsBase-more start earlier s.base each.0.base;
      items = each.0.items;
      end = λ place there. AreConfirmed-more s.number place (each.0.end place there);
    },
    AreSessions-more h start earlier each.1,
  )
