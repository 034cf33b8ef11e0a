-- What one more message adds to what the ledger actor has received: to the order of batches and the senders done.
use Rattle.std.proofs.Common.{◌≡◌, ◌≢◌, ◌==◌, ℕ, zero, suc, ◌+◌, ◌<◌, ◌≤◌, Bool, true, false, List, [], ◌∷◌, ◌++◌, refl, sym, ap, ap₂, ◌∙◌, subst, length, append_assoc, append-nil, arith}
use Rattle.std.specs.Prelude.{◌||◌, if◌then◌else◌}
use Rattle.std.proofs.lemmas.Bool.{eqb-true, eqb-false}
use Rattle.cdc_ledger_actors.specs.Ledger.{batch_in, clients_left, is_done, order_of}
use Rattle.cdc_ledger_actors.specs.Orders.{batches_by}
use Rattle.cdc_ledger_actors.proofs.ClientReplies.{own_batches}
use Rattle.cdc_links.specs.Links.{CanSend, FollowFrom, of_sender}
use Rattle.cdc_links.proofs.Entries.{of_sender-other, of_sender-own, of_sender-snoc_other, of_sender-snoc_own}
use Rattle.cdc_traffic.specs.Following.{FollowsToLedger, ends_to_ledger, has_ended}
use Rattle.cdc_traffic.specs.declared.messages.ToLedger.{ToLedger}
use Rattle.cdc_traffic.specs.declared.messages.ToLedger.TheVariants as to_ledger
use Rattle.cdc_types.specs.declared.batches.Batch.{Batch}

-- what the ledger actor receives, and what it receives from one sender
abbrev pub Received : Type 0
Received = List (ℕ × (ToLedger × Unit {0}))

abbrev pub Sent : Type 0
Sent = List (ToLedger × Unit {0})

-- with one message more
abbrev pub with_message : Received → ℕ → ToLedger → Received
with_message received sender message = received ++ (sender, (message, tt)) ∷ []

-- ---- the order

-- the message adds its batch
pub order_push : (received : Received) (sender : ℕ) (message : ToLedger)
    → order_of (with_message received sender message) ≡ order_of received ++ batch_in sender message
order_push [] sender message = append-nil (batch_in sender message)
order_push (e ∷ received) sender message =
    ap (λ (l : List (ℕ × Batch)). batch_in e.0 e.1.0 ++ l) (order_push received sender message)
    ∙ sym (append_assoc (batch_in e.0 e.1.0) (order_of received) (batch_in sender message))

-- the batches of requests
abbrev pub batch_of : ToLedger → List Batch
batch_of (to_ledger.Request request) = request.batch ∷ []
batch_of (to_ledger.Done number) = []
batch_of (to_ledger.Poll poll) = []
batch_of to_ledger.Finish = []

abbrev pub batches_dispatched : Sent → List Batch
batches_dispatched [] = []
batches_dispatched (m ∷ sent) = batch_of m.0 ++ batches_dispatched sent

-- those of one client, in the order of all, are those that it has sent
own_step : (client sender : ℕ) (message : ToLedger) (received : Received) (b : Bool) → (sender == client) ≡ b
    → batches_by client (order_of received) ≡ batches_dispatched (of_sender client received)
    → batches_by client (batch_in sender message ++ order_of received)
    ≡ batches_dispatched (if b then (message, tt) ∷ of_sender client received else of_sender client received)
own_step client sender (to_ledger.Request request) received true is rest =
    own_batches client (sender, request.batch) (order_of received) true is
    ∙ ap (λ (l : List Batch). request.batch ∷ l) rest
own_step client sender (to_ledger.Request request) received false is rest =
    own_batches client (sender, request.batch) (order_of received) false is ∙ rest
own_step client sender (to_ledger.Done number) received true is rest = rest
own_step client sender (to_ledger.Done number) received false is rest = rest
own_step client sender (to_ledger.Poll poll) received true is rest = rest
own_step client sender (to_ledger.Poll poll) received false is rest = rest
own_step client sender to_ledger.Finish received true is rest = rest
own_step client sender to_ledger.Finish received false is rest = rest

pub own_order : (client : ℕ) (received : Received)
    → batches_by client (order_of received) ≡ batches_dispatched (of_sender client received)
own_order client [] = refl
own_order client (e ∷ received) =
    own_step client e.0 e.1.0 received (e.0 == client) refl (own_order client received)
    ∙ ap batches_dispatched (own (e.0 == client) refl)
  where
    own : (b : Bool) → (e.0 == client) ≡ b
        → (if b then e.1 ∷ of_sender client received else of_sender client received) ≡ of_sender client (e ∷ received)
    own true is =
        subst (λ (j : ℕ). e.1 ∷ of_sender j received ≡ of_sender j (e ∷ received)) (eqb-true e.0 client is)
        (sym (of_sender-own e received))
    own false is = sym (of_sender-other client e received (eqb-false e.0 client is))

-- a client that isn't done has sent requests alone
pub sent_requests : (client : ℕ) (before sent : Sent) → 0 < client → FollowFrom FollowsToLedger client before sent
    → has_ended ends_to_ledger sent ≡ false → length (batches_dispatched sent) ≡ length sent
sent_requests client before [] first chain goes_on = refl
sent_requests client before ((to_ledger.Request request, u) ∷ sent) first chain goes_on =
    ap suc (sent_requests client (before ++ (to_ledger.Request request, u) ∷ []) sent first chain.1 goes_on)
sent_requests client before ((to_ledger.Done number, u) ∷ sent) first chain goes_on = cc
sent_requests client before ((to_ledger.Poll poll, u) ∷ sent) first chain goes_on =
    let zero_sender : client ≡ 0 = chain.0.may in absurd (omega arith)
sent_requests client before ((to_ledger.Finish, u) ∷ sent) first chain goes_on = cc

-- so it has sent as many messages as it has batches in the order
pub as_many_batches : (client : ℕ) (received : Received) → 0 < client
    → CanSend FollowsToLedger client (of_sender client received) → is_done client received ≡ false
    → length (batches_by client (order_of received)) ≡ length (of_sender client received)
as_many_batches client received first chain goes_on =
    ap (λ (l : List Batch). length l) (own_order client received)
    ∙ sent_requests client [] (of_sender client received) first chain goes_on

-- ---- which senders are done

or_true : (b : Bool) → (b || true) ≡ true
or_true true = refl
or_true false = refl

-- a message that isn't a sender's last one ends nothing
still : (sent : Sent) (m : ToLedger × Unit {0}) → ends_to_ledger m.0 ≡ false
    → has_ended ends_to_ledger (sent ++ m ∷ []) ≡ has_ended ends_to_ledger sent
still [] m goes_on = ap (λ (b : Bool). b || false) goes_on
still (x ∷ sent) m goes_on = ap (λ (b : Bool). ends_to_ledger x.0 || b) (still sent m goes_on)

-- after a last message its sender has ended
ended_by : (sent : Sent) (m : ToLedger × Unit {0}) → ends_to_ledger m.0 ≡ true
    → has_ended ends_to_ledger (sent ++ m ∷ []) ≡ true
ended_by [] m ends = ap (λ (b : Bool). b || false) ends
ended_by (x ∷ sent) m ends =
    ap (λ (b : Bool). ends_to_ledger x.0 || b) (ended_by sent m ends) ∙ or_true (ends_to_ledger x.0)

one_later : (a b : ℕ) → a + 1 + b ≡ a + b + 1
one_later a b = omega arith

module _ (received : Received) (sender : ℕ) (message : ToLedger) where
  -- no other sender is done by it
  pub done_other : (j : ℕ) → sender ≢ j → is_done j (with_message received sender message) ≡ is_done j received
  done_other j apart =
      ap (has_ended ends_to_ledger) (of_sender-snoc_other j (sender, (message, tt)) received apart)

  pub done_own : is_done sender (with_message received sender message)
      ≡ has_ended ends_to_ledger (of_sender sender received ++ (message, tt) ∷ [])
  done_own = ap (has_ended ends_to_ledger) (of_sender-snoc_own (sender, (message, tt)) received)

  -- no sender becomes done, if it isn't a last one
  pub done_same : (j : ℕ) → ends_to_ledger message ≡ false
      → is_done j (with_message received sender message) ≡ is_done j received
  done_same j goes_on = cases (sender == j) refl
    where
      cases : (b : Bool) → (sender == j) ≡ b
          → is_done j (with_message received sender message) ≡ is_done j received
      cases true is =
          subst (λ (k : ℕ). is_done k (with_message received sender message) ≡ is_done k received)
          (eqb-true sender j is) (done_own ∙ still (of_sender sender received) (message, tt) goes_on)
      cases false is = done_other j (eqb-false sender j is)

  -- its sender is done, if it is a last one
  pub done_now : ends_to_ledger message ≡ true → is_done sender (with_message received sender message) ≡ true
  done_now ends = done_own ∙ ended_by (of_sender sender received) (message, tt) ends

  -- ---- how many clients are left

  -- as many as before, if it isn't a last one, or is the connector's, or that of a client beyond these
  pub left_same : (n : ℕ) → ends_to_ledger message ≡ false
      → clients_left n (with_message received sender message) ≡ clients_left n received
  left_same zero goes_on = refl
  left_same (suc n) goes_on =
      ap₂ (λ (k : ℕ) (b : Bool). k + (if b then 0 else 1)) (left_same n goes_on) (done_same (suc n) goes_on)

  pub left_other : (n : ℕ) → sender ≡ 0
      → clients_left n (with_message received sender message) ≡ clients_left n received
  left_other zero connector = refl
  left_other (suc n) connector =
      let apart : sender ≢ suc n = omega arith in
      ap₂ (λ (k : ℕ) (b : Bool). k + (if b then 0 else 1)) (left_other n connector) (done_other (suc n) apart)

  left_beyond : (n : ℕ) → n < sender
      → clients_left n (with_message received sender message) ≡ clients_left n received
  left_beyond zero beyond = refl
  left_beyond (suc n) beyond =
      let apart : sender ≢ suc n = omega arith in
      let less : n < sender = omega arith in
      ap₂ (λ (k : ℕ) (b : Bool). k + (if b then 0 else 1)) (left_beyond n less) (done_other (suc n) apart)

  -- one fewer, if it is the last one of a client that wasn't done
  pub left_fewer : (n : ℕ) → 0 < sender → sender ≤ n → is_done sender received ≡ false
      → ends_to_ledger message ≡ true
      → clients_left n received ≡ clients_left n (with_message received sender message) + 1
  left_fewer zero first last open_one ends = absurd (omega arith)
  left_fewer (suc n) first last open_one ends =
      cases (λ within. left_fewer n first within open_one ends) (sender == suc n) refl
    where
      cases : (sender ≤ n → clients_left n received ≡ clients_left n (with_message received sender message) + 1)
          → (b : Bool) → (sender == suc n) ≡ b
          → clients_left (suc n) received ≡ clients_left (suc n) (with_message received sender message) + 1
      cases earlier true is =
          let this : sender ≡ suc n = eqb-true sender (suc n) is in
          let beyond : n < sender = omega arith in
          let before : is_done (suc n) received ≡ false =
          subst (λ (k : ℕ). is_done k received ≡ false) this open_one in
          let after : is_done (suc n) (with_message received sender message) ≡ true =
          subst (λ (k : ℕ). is_done k (with_message received sender message) ≡ true) this (done_now ends) in
          let one : clients_left (suc n) received ≡ clients_left n received + 1 =
          ap (λ (b : Bool). clients_left n received + (if b then 0 else 1)) before in
          let none : clients_left (suc n) (with_message received sender message)
          ≡ clients_left n (with_message received sender message) + 0 =
          ap (λ (b : Bool). clients_left n (with_message received sender message) + (if b then 0 else 1)) after in
          let same : clients_left n (with_message received sender message) ≡ clients_left n received =
          left_beyond n beyond in
          omega (arith, one, none, same)
      cases earlier false is =
          let apart : sender ≢ suc n = eqb-false sender (suc n) is in
          let within : sender ≤ n = omega arith in
          let same : is_done (suc n) (with_message received sender message) ≡ is_done (suc n) received =
          done_other (suc n) apart in
          ap₂ (λ (k : ℕ) (b : Bool). k + (if b then 0 else 1)) (earlier within) (sym same)
          ∙ one_later (clients_left n (with_message received sender message))
          (if is_done (suc n) (with_message received sender message) then 0 else 1)

-- a client that isn't done is left
pub left_some : (n client : ℕ) (received : Received) → 0 < client → client ≤ n → is_done client received ≡ false
    → 0 < clients_left n received
left_some n client received first last open_one =
    let fewer : clients_left n received
    ≡ clients_left n (with_message received client (to_ledger.Done client)) + 1 =
    left_fewer received client (to_ledger.Done client) n first last open_one refl in
    omega (arith, fewer)
