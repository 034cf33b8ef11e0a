-- What was sent over a link, and what was received. A message is paired with what it names: (message, name). What was
-- received is preceded by the number of its sender: (sender, (message, name)).
use Rattle.std.specs.Prelude.{◌≡◌, ◌==◌, ◌<◌, ◌+◌, ℕ, zero, suc, Option, Some, None, List, [], ◌∷◌, ◌++◌, All, Contains, map, length, sum_by}
use Rattle.std.specs.List.{filter}
use Rattle.crossbeam_channel.specs.declared.flavors.array.Key.{Key}
use Rattle.atomic_table.specs.declared.badge.Badge.{Badge}
use Rattle.atomic_table.specs.Seated.{TableId}
use Rattle.cdc_links.specs.declared.rule.Parcel.{Parcel}

-- what distinguishes one link from another: the table that the channel works on, and the one with its slots
pub record LinkId (M : Type 0) : Type 0 where
  pub table : TableId
  pub slots : Badge (Key (Parcel M))

-- a sender's endpoint: its link, its number there, and what it has sent so far
pub record Outgoing (M N : Type 0) : Type 0 where
  pub link : LinkId M
  pub number : ℕ
  pub sent : List (M × N)

-- the receiver's endpoint: its link, how many senders that has, and what was received so far
pub record Incoming (M N : Type 0) : Type 0 where
  pub link : LinkId M
  pub senders : ℕ
  pub received : List (ℕ × (M × N))

module _ {M N : Type 0} where
  -- cut down to one sender: the messages that are its own, in their order
  abbrev pub of_sender : ℕ → List (ℕ × (M × N)) → List (M × N)
  of_sender j entries = map (λ e. e.1) (filter (λ e. e.0 == j) entries)

  -- an endpoint that has sent nothing
  abbrev pub fresh_endpoint : LinkId M → ℕ → Outgoing M N
  fresh_endpoint link number = record { link = link; number = number; sent = [] }

  -- the senders' endpoints of a new link, numbered from 0
  abbrev pub fresh_endpoints : LinkId M → ℕ → List (Outgoing M N)
  fresh_endpoints link zero = []
  fresh_endpoints link (suc n) = fresh_endpoints link n ++ fresh_endpoint link n ∷ []

  -- the endpoint after it has sent one more message
  abbrev pub with_sent : Outgoing M N → M × N → Outgoing M N
  with_sent end message = record end { sent = end.sent ++ message ∷ [] }

  -- the endpoint after it has received one more message
  abbrev pub with_received : Incoming M N → ℕ × (M × N) → Incoming M N
  with_received end entry = record end { received = end.received ++ entry ∷ [] }

  -- the receiver's endpoint after the link has got one more sender
  abbrev pub with_sender : Incoming M N → Incoming M N
  with_sender end = record end { senders = end.senders + 1 }

  module _ (may_follow : ℕ → List (M × N) → M × N → Type 0) where
    -- each of the messages could follow those before it, the first of which are given separately
    abbrev pub FollowFrom : ℕ → List (M × N) → List (M × N) → Type 0
    FollowFrom j before [] = Unit {0}
    FollowFrom j before (message ∷ rest) = may_follow j before message × FollowFrom j (before ++ message ∷ []) rest

    -- a list of messages that this sender could send, one after another
    abbrev pub CanSend : ℕ → List (M × N) → Type 0
    CanSend j messages = FollowFrom j [] messages

    -- the receiver's endpoint before and after a receive: some sender of the link has sent the message, under some
    -- name; it could follow what was received of that sender before; and it is what was received last
    abbrev pub Takes : Incoming M N → M → Incoming M N → Type 0
    Takes before value after =
        (j : ℕ)
        × (name : N)
        × (j < before.senders)
        × may_follow j (of_sender j before.received) (value, name)
        × (after ≡ with_received before (j, (value, name)))

    -- the same of a receive that may find no message: then nothing has changed
    abbrev pub TakesIfSome : Incoming M N → Option M → Incoming M N → Type 0
    TakesIfSome before None after = after ≡ before
    TakesIfSome before (Some value) after = Takes before value after

    -- so many messages were received, one after another
    abbrev pub TakesMany : ℕ → Incoming M N → Incoming M N → Type 0
    TakesMany zero before after = after ≡ before
    TakesMany (suc n) before after =
        (value : M) × (mid : Incoming M N) × Takes before value mid × TakesMany n mid after

  -- what holds after all senders have returned their endpoints: what was received, together with what was left in the
  -- link, is what each of them has sent, in its order; each of them is there; and there is nothing of anyone else
  abbrev pub IsAccount : Incoming M N → List (Outgoing M N) → List (ℕ × (M × N)) → Type 0
  IsAccount into handed left =
      All (λ end. of_sender end.number (into.received ++ left) ≡ end.sent) handed
      × ((j : ℕ) → j < into.senders → Contains (map (λ end. end.number) handed) j)
      × (length (into.received ++ left) ≡ sum_by (λ end. length end.sent) handed)
