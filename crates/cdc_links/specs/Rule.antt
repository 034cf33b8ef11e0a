-- The rule of a link. Private contracts and proofs alone cite this file.
-- There is a log of all that was received, and under their names what the link holds: of each sender the two together
-- have what it has sent.
use Rattle.std.specs.Prelude.{◌≡◌, ◌<◌, ◌≤◌, ℕ, Bool, true, false, List, [], ◌∷◌, ◌++◌, map, length}
use mathlib.Core.Option.{some}
use lib.ListN.{get_elem?}
use Rattle.crossbeam_channel.specs.declared.flavors.array.Rows.{Rows}
use Rattle.crossbeam_channel.specs.declared.flavors.array.Key.{Key}
use Rattle.crossbeam_channel.specs.declared.flavors.array.Doing.{Doing}
use Rattle.crossbeam_channel.specs.declared.flavors.array.ruled.Sending.{Sending}
use Rattle.crossbeam_channel.specs.declared.flavors.array.ruled.Receiving.{Receiving}
use Rattle.crossbeam_channel.specs.Ends.{sends_on, receives_on}
use Rattle.crossbeam_channel.specs.Claims.{Pass, view, IsKeyed, IsSeatAt}
use Rattle.atomic_table.specs.declared.badge.Badge.{Badge}
use Rattle.cdc_links.specs.declared.rule.Parcel.{Parcel}
use Rattle.cdc_links.specs.declared.rule.Parcel.TheVariants.{Message, Halt}
use Rattle.cdc_links.specs.declared.rule.Knowledge.{Knowledge}
use Rattle.cdc_links.specs.Links.{LinkId, Outgoing, Incoming, of_sender, CanSend}

-- the channel of a link
abbrev pub LinkChannel : Type 0 → Type 0 → Type 0 → Type 0 → Type 0 → Type 0 → Type 0
LinkChannel M V Q K L A = Rows (Badge (Key (Parcel M))) (Doing (Parcel M) V) Q K (Key (Parcel M)) L A

-- the messages that travel in these parcels, with their senders' numbers; that a sender was aborted is none
abbrev pub carried : {M : Type 0} → List (Parcel M) → List (ℕ × M)
carried [] = []
carried (Message sender value ∷ rest) = (sender, value) ∷ carried rest
carried (Halt ∷ rest) = carried rest

module _ {M N : Type 0} where
  -- what a sender's pass knows: its number, what it has sent, and whether it was handed back
  abbrev pub sending : ℕ → List (M × N) → Bool → Knowledge M N
  sending number sent closed =
      record {
        sends = true;
        closed = closed;
        number = number;
        sent = sent;
        receives = false;
        received = [];
        given = 0;
        joined = [];
      }

  -- what the receiver's pass knows: what it has received, how many senders there are, and what the ones taken in have
  -- sent
  abbrev pub receiving : List (ℕ × (M × N)) → ℕ → List (ℕ × List (M × N)) → Knowledge M N
  receiving received given joined =
      record {
        sends = false;
        closed = false;
        number = 0;
        sent = [];
        receives = true;
        received = received;
        given = given;
        joined = joined;
      }

  -- what a spent pass knows
  abbrev pub nobody : Knowledge M N
  nobody =
      record {
        sends = false;
        closed = false;
        number = 0;
        sent = [];
        receives = false;
        received = [];
        given = 0;
        joined = [];
      }

  -- a message as it travels, with its sender's number and without its name
  abbrev pub carried_of : ℕ × (M × N) → ℕ × M
  carried_of e = (e.0, e.1.0)

  -- what is known after the send of a parcel: a message was sent, under this name
  abbrev pub Sent : N → Knowledge M N → Parcel M → Knowledge M N → Type 0
  Sent name v (Message sender value) w = w ≡ sending v.number (v.sent ++ (value, name) ∷ []) false
  Sent name v Halt w = w ≡ v

  -- the number of each endpoint that was returned, and what it has sent
  abbrev pub joined_of : List (Outgoing M N) → List (ℕ × List (M × N))
  joined_of ends = map (λ end. (end.number, end.sent)) ends

  -- a number that occurs at none of the places
  abbrev pub IsApart : ℕ → List (ℕ × List (M × N)) → Type 0
  IsApart j [] = Unit {0}
  IsApart j (x ∷ xs) = ¬ (x.0 ≡ j) × IsApart j xs

  -- each number occurs once
  abbrev pub AreApart : List (ℕ × List (M × N)) → Type 0
  AreApart [] = Unit {0}
  AreApart (x ∷ xs) = IsApart x.0 xs × AreApart xs

  -- each is paired with what its sender has sent, and is below the number of senders
  abbrev pub AreWhole : List (ℕ × (M × N)) → ℕ → List (ℕ × List (M × N)) → Type 0
  AreWhole entries given [] = Unit {0}
  AreWhole entries given (x ∷ xs) = (of_sender x.0 entries ≡ x.1) × (x.0 < given) × AreWhole entries given xs

  -- what the pass of this number knows is so: a sender's has its own number, and what it has sent; the receiver's is
  -- the only one, and knows what was received, how many senders there are, and which of them were taken in
  abbrev pub Fits : List (ℕ × (M × N)) → List (ℕ × (M × N)) → ℕ → List (ℕ × List (M × N)) → ℕ → (ℕ → ℕ) → ℕ
      → Knowledge M N → Type 0
  Fits all log given joined reader seat pass v =
      (v.sends ≡ true → (pass ≡ seat v.number) × (v.number < given) × IsApart v.number joined
      × (v.sent ≡ of_sender v.number all))
      × (v.receives ≡ true → (pass ≡ reader) × (v.received ≡ log) × (v.given ≡ given) × (v.joined ≡ joined))

  -- what the rule shows of the receiver's view, once it was learned: what the link still holds, and that after what was
  -- received it makes up what each sender that was taken in has sent
  pub record IsSettled (v : Knowledge M N) : Type 0 where
    pub left : List (ℕ × (M × N))
    pub whole : AreWhole (v.received ++ left) v.given v.joined
    pub once : AreApart v.joined
    pub fresh : (j : ℕ) → v.given ≤ j → of_sender j (v.received ++ left) ≡ []

  module _ (may_follow : ℕ → List (M × N) → M × N → Type 0) where
    -- the rule, over the parcels that the link holds and what the passes know. All that was ever sent is what was
    -- received and what the link holds; the pass of each sender is known by its number
    pub record IsRuled (items : List (Parcel M)) (views : List (Knowledge M N)) : Type 0 where
      pub all : List (ℕ × (M × N))
      pub log : List (ℕ × (M × N))
      pub held : List (ℕ × (M × N))
      pub given : ℕ
      pub joined : List (ℕ × List (M × N))
      pub reader : ℕ
      pub seat : ℕ → ℕ
      pub parts : all ≡ log ++ held
      pub content : map carried_of held ≡ carried items
      pub lawful : (j : ℕ) → CanSend may_follow j (of_sender j all)
      pub fresh : (j : ℕ) → given ≤ j → of_sender j all ≡ []
      pub whole : AreWhole all given joined
      pub once : AreApart joined
      pub known : (pass : ℕ) (v : Knowledge M N) → get_elem? views pass ≡ some v
          → Fits all log given joined reader seat pass v

    -- what is known after the receive of a message: some sender has sent it, under some name, and it could follow
    -- what was received of that sender before
    abbrev pub Took : Knowledge M N → ℕ × M → Knowledge M N → Type 0
    Took v x w =
        (name : N)
        × (x.0 < v.given)
        × may_follow x.0 (of_sender x.0 v.received) (x.1, name)
        × (w ≡ receiving (v.received ++ (x.0, (x.1, name)) ∷ []) v.given v.joined)

    -- what is known after the receive of a parcel: if it is no message, nothing has changed
    abbrev pub Received : Knowledge M N → Parcel M → Knowledge M N → Type 0
    Received v (Message sender value) w = Took v (sender, value) w
    Received v Halt w = w ≡ v

-- the link works on this channel
abbrev pub IsLinkOf : {M V Q K L A : Type 0} → LinkId M → LinkChannel M V Q K L A → Type 0
IsLinkOf link channel =
    (link.table ≡ channel.stamps.shared.table_id) × (link.slots ≡ channel.stamps.shared.key) × IsKeyed channel

-- the pass is of this link, and free to step
abbrev pub IsPassOf : {M V : Type 0} → LinkId M → Pass (Parcel M) V → Type 0
IsPassOf link pass = (pass.table_id ≡ link.table) × (pass.me.0.of ≡ link.slots) × (pass.me.1 ≡ [])

-- the link that a pass is of
abbrev pub link_of : {M V : Type 0} → Pass (Parcel M) V → LinkId M
link_of pass = record { table = pass.table_id; slots = pass.me.0.of }

module _ {M N : Type 0} where
  -- what contracts see of a sender's endpoint
  abbrev pub shown_out : ℕ → Pass (Parcel M) (Knowledge M N) → Outgoing M N
  shown_out number pass = record { link = link_of pass; number = number; sent = (view pass).sent }

  -- what contracts see of the receiver's endpoint
  abbrev pub shown_in : Pass (Parcel M) (Knowledge M N) → Incoming M N
  shown_in pass = record { link = link_of pass; senders = (view pass).given; received = (view pass).received }

  -- the view is a receiver's
  abbrev pub IsReceiver : Knowledge M N → Type 0
  IsReceiver v = v ≡ receiving v.received v.given v.joined

  -- the view is of a receiver that has taken no sender in
  abbrev pub HasTakenNone : Knowledge M N → Type 0
  HasTakenNone v = v ≡ receiving v.received v.given []

  -- the view after one more endpoint was joined
  abbrev pub with_joined : Knowledge M N → Outgoing M N → Knowledge M N
  with_joined v end = receiving v.received v.given (v.joined ++ (end.number, end.sent) ∷ [])

  -- the view after these endpoints were joined
  abbrev pub with_all_joined : Knowledge M N → List (Outgoing M N) → Knowledge M N
  with_all_joined v ends = receiving v.received v.given (joined_of ends)

  module _ (may_follow : ℕ → List (M × N) → M × N → Type 0) where
    -- the invariant of a sender's endpoint: its pass is of its channel, and knows its number and what it has sent,
    -- which is counted, and could be sent
    abbrev pub KeepsOut : {Q K L A B : Type 0} → Bool → Sending (LinkChannel M (Knowledge M N) Q K L A) B
        → Pass (Parcel M) (Knowledge M N) → ℕ → ℕ → Type 0
    KeepsOut closed sender pass number count =
        IsSeatAt (sends_on sender) pass
        × (view pass ≡ sending number (view pass).sent closed)
        × (count ≡ length (view pass).sent)
        × CanSend may_follow number (view pass).sent

    -- the invariant of the receiver's endpoint: its pass is of its channel, has joined no sender, and knows what was
    -- received, which is counted, and could be sent by each sender
    abbrev pub KeepsIn : {Q K L A B : Type 0} → Receiving (LinkChannel M (Knowledge M N) Q K L A) B
        → Pass (Parcel M) (Knowledge M N) → ℕ → Type 0
    KeepsIn receiver pass count =
        IsSeatAt (receives_on receiver) pass
        × HasTakenNone (view pass)
        × (count ≡ length (view pass).received)
        × ((j : ℕ) → CanSend may_follow j (of_sender j (view pass).received))
