-- The replies to a client, once it and the ledger actor have finished.
use Rattle.cdc_run.proofs.Words.{All-head, Batch, Bool, CanSend, ClientsAreReplied, EndsAreLast, FollowsToLedger, Incoming, IsAccount, LedgerMail, List, Outgoing, Past, RepliesHaveTheirBatches, Reply, ToLedger, [], ap, append-nil, arith, batch_in, batches_by, cond, done_if, ends_to_ledger, eq-eqb, eqb_tells, false, filter, inl, inr, is_done, length, length-append, length-map, map, map-append, map-map, named_replies_to, ne_eqb, not, of_sender, of_sender-append, of_sender-other, of_sender-own, order_of, refl, requests_from, subst, suc, sum_by, sum_by-cons, sym, true, ℕ, ◌++◌, ◌+◌, ◌==◌, ◌||◌, ◌∙◌, ◌∷◌, ◌≡◌, ◌≢◌, ◌≤◌}
use Rattle.std.proofs.Common.{append_assoc}
use Rattle.std.proofs.lemmas.List.Filters.{length-filter_both}
use Rattle.cdc_traffic.specs.Following.{has_ended}
use Rattle.cdc_traffic.specs.declared.messages.ToLedger.TheVariants as to_ledger

-- ---- the last message

-- messages among which there is a last one, taken apart at it
record IsCutAt {M N : Type 0} (is_last : M → Bool) (sent : List (M × N)) : Type 0 where
  before : List (M × N)
  last : M × N
  rest : List (M × N)
  ends : is_last last.0 ≡ true
  whole : sent ≡ before ++ last ∷ rest

cut_by : {M N : Type 0} (is_last : M → Bool) (first : M × N) (sent : List (M × N)) (b : Bool)
    → is_last first.0 ≡ b → (b || has_ended is_last sent) ≡ true
    → (has_ended is_last sent ≡ true → IsCutAt is_last sent) → IsCutAt is_last (first ∷ sent)
cut_by is_last first sent true is some later =
    record { before = []; last = first; rest = sent; ends = is; whole = refl }
cut_by is_last first sent false is some later =
    let cut = later some in
    record {
      before = first ∷ cut.before;
      last = cut.last;
      rest = cut.rest;
      ends = cut.ends;
      whole = ap (λ l. first ∷ l) cut.whole;
    }

cut_at : {M N : Type 0} (is_last : M → Bool) (sent : List (M × N)) → has_ended is_last sent ≡ true
    → IsCutAt is_last sent
cut_at is_last [] some = let no : false ≡ true = some in cc
cut_at is_last (first ∷ sent) some =
    cut_by is_last first sent (is_last first.0) refl some (cut_at is_last sent)

-- of two lists that make up none each is none
none_left : {X : Type 0} (xs ys : List X) → xs ++ ys ≡ [] → ys ≡ []
none_left [] ys none = none
none_left (x ∷ xs) ys none = cc

-- whoever's last message was received has nothing left in the link
all_received : EndsAreLast (FollowsToLedger {N = Unit {0}}) ends_to_ledger
    → (mail : LedgerMail) (number : ℕ) (sent : List (ToLedger × Unit {0}))
    → is_done number mail.received ≡ true → of_sender number (mail.received ++ mail.left) ≡ sent
    → CanSend FollowsToLedger number sent → of_sender number mail.received ≡ sent
all_received law mail number sent done whole lawful =
    let mine : List (ToLedger × Unit {0}) = of_sender number mail.received in
    let late : List (ToLedger × Unit {0}) = of_sender number mail.left in
    let parts : mine ++ late ≡ sent = sym (of_sender-append number mail.received mail.left) ∙ whole in
    let cut : IsCutAt ends_to_ledger mine = cut_at ends_to_ledger mine done in
    let as_cut : sent ≡ cut.before ++ cut.last ∷ (cut.rest ++ late) =
    sym parts ∙ ap (λ (l : List (ToLedger × Unit {0})). l ++ late) cut.whole
    ∙ append_assoc cut.before (cut.last ∷ cut.rest) late in
    let none : cut.rest ++ late ≡ [] =
    law number cut.before (cut.rest ++ late) cut.last
    (subst (CanSend FollowsToLedger number) as_cut lawful) cut.ends in
    sym (append-nil mine)
    ∙ ap (λ (l : List (ToLedger × Unit {0})). mine ++ l) (sym (none_left cut.rest late none))
    ∙ parts

-- ---- batches

-- the batch of a request
abbrev pub asked_in : ToLedger → List Batch
asked_in (to_ledger.Request request) = request.batch ∷ []
asked_in (to_ledger.Done number) = []
asked_in (to_ledger.Poll poll) = []
asked_in to_ledger.Finish = []

-- those of all requests
abbrev pub asked : List ToLedger → List Batch
asked [] = []
asked (message ∷ messages) = asked_in message ++ asked messages

-- one message of the client, or of another
one_asked : (number : ℕ) (message : ToLedger) (order : List (ℕ × Batch))
    → batches_by number (batch_in number message ++ order) ≡ asked_in message ++ batches_by number order
one_asked number (to_ledger.Request request) order =
    ap (λ (b : Bool). map (λ (p : ℕ × Batch). p.1)
    (cond b ((number, request.batch) ∷ filter (λ p. p.0 == number) order) (filter (λ p. p.0 == number) order)))
    (eq-eqb number number refl)
one_asked number (to_ledger.Done client) order = refl
one_asked number (to_ledger.Poll poll) order = refl
one_asked number to_ledger.Finish order = refl

another_asked : (number sender : ℕ) (message : ToLedger) (order : List (ℕ × Batch)) → sender ≢ number
    → batches_by number (batch_in sender message ++ order) ≡ batches_by number order
another_asked number sender (to_ledger.Request request) order apart =
    ap (λ (b : Bool). map (λ (p : ℕ × Batch). p.1)
    (cond b ((sender, request.batch) ∷ filter (λ p. p.0 == number) order) (filter (λ p. p.0 == number) order)))
    (ne_eqb sender number apart)
another_asked number sender (to_ledger.Done client) order apart = refl
another_asked number sender (to_ledger.Poll poll) order apart = refl
another_asked number sender to_ledger.Finish order apart = refl

-- a client's batches in the order of all are those of its own requests
pub batches_asked : (number : ℕ) (received : List (ℕ × (ToLedger × Unit {0})))
    → batches_by number (order_of received) ≡ asked (map (λ m. m.0) (of_sender number received))
batches_asked number [] = refl
batches_asked number (e ∷ received) =
    let later = batches_asked number received in
    let messages : List (ToLedger × Unit {0}) → List ToLedger = map (λ m. m.0) in
    elim (eqb_tells e.0 number) [
      | inl decides ↦
          let same : e.0 ≡ number = decides.1 in
          let own : of_sender number (e ∷ received) ≡ e.1 ∷ of_sender number received =
          subst (λ (j : ℕ). of_sender j (e ∷ received) ≡ e.1 ∷ of_sender j received) same (of_sender-own e received) in
          ap (λ (j : ℕ). batches_by number (batch_in j e.1.0 ++ order_of received)) same
          ∙ one_asked number e.1.0 (order_of received)
          ∙ ap (λ (l : List Batch). asked_in e.1.0 ++ l) later
          ∙ ap (λ (l : List (ToLedger × Unit {0})). asked (messages l)) (sym own)
      | inr decides ↦
          let apart : e.0 ≢ number = decides.1 in
          another_asked number e.0 e.1.0 (order_of received) apart
          ∙ later
          ∙ ap (λ (l : List (ToLedger × Unit {0})). asked (messages l)) (sym (of_sender-other number e received apart))
    ]

-- a client asks for the batches that it is replied to
asked_replies : (client number : ℕ) (replies : List Reply) (b : Bool)
    → asked (requests_from client number replies ++ done_if b client) ≡ map (λ r. r.batch) replies
asked_replies client number [] true = refl
asked_replies client number [] false = refl
asked_replies client number (reply ∷ replies) b =
    ap (λ (l : List Batch). reply.batch ∷ l) (asked_replies client (number + 1) replies b)

-- ---- replies

-- no more are kept than there are
pub kept_most : {X : Type 0} (test : X → Bool) (xs : List X) → length (filter test xs) ≤ length xs
kept_most test xs =
    let both : length (filter test xs) + length (filter (λ x. not (test x)) xs) ≡ length xs =
    length-filter_both test (λ x. not (test x)) (λ x. refl) xs in
    omega arith

-- if as many are kept as there are, all are
kept_with : {X : Type 0} (x : X) (kept xs : List X) (b : Bool) → (length xs ≤ length kept → kept ≡ xs)
    → length kept ≤ length xs → suc (length xs) ≤ length (cond b (x ∷ kept) kept) → cond b (x ∷ kept) kept ≡ x ∷ xs
kept_with x kept xs true later most many = ap (λ l. x ∷ l) (later (omega arith))
kept_with x kept xs false later most many = absurd (omega arith)

pub all_kept : {X : Type 0} (test : X → Bool) (xs : List X) → length xs ≤ length (filter test xs) → filter test xs ≡ xs
all_kept test [] many = refl
all_kept test (x ∷ xs) many =
    kept_with x (filter test xs) xs (test x) (all_kept test xs) (kept_most test xs) many

-- over a link with one sender, that sender's messages are all there are
pub alone_sent : {M N : Type 0} (into : Incoming M N) (out : Outgoing M N) (left : List (ℕ × (M × N)))
    → IsAccount into (out ∷ []) left → map (λ e. e.1) (into.received ++ left) ≡ out.sent
alone_sent {M} {N} into out left account =
    let entries : List (ℕ × (M × N)) = into.received ++ left in
    let own : List (ℕ × (M × N)) = filter (λ e. e.0 == out.number) entries in
    let its : map (λ (e : ℕ × (M × N)). e.1) own ≡ out.sent =
    All-head (λ (end : Outgoing M N). of_sender end.number entries ≡ end.sent) out [] account.0 in
    let count : length own ≡ length out.sent =
    sym (length-map own (λ (e : ℕ × (M × N)). e.1)) ∙ ap (λ (l : List (M × N)). length l) its in
    let all : length entries ≡ sum_by (λ (end : Outgoing M N). length end.sent) (out ∷ []) = account.2 in
    let sum : sum_by (λ (end : Outgoing M N). length end.sent) (out ∷ []) ≡ length out.sent + 0 =
    sum_by-cons (λ (end : Outgoing M N). length end.sent) out [] in
    let many : length entries ≤ length own = omega arith in
    ap (map (λ (e : ℕ × (M × N)). e.1)) (sym (all_kept (λ (e : ℕ × (M × N)). e.0 == out.number) entries many)) ∙ its

-- a prefix of a list that is as long as the list is the list
front_is_all : {X : Type 0} (xs ys zs : List X) → xs ++ ys ≡ zs → length xs ≡ length zs → xs ≡ zs
front_is_all xs [] zs whole long = sym (append-nil xs) ∙ whole
front_is_all xs (y ∷ ys) zs whole long =
    let sum : length (xs ++ y ∷ ys) ≡ length xs + length (y ∷ ys) = length-append xs (y ∷ ys) in
    let same : length (xs ++ y ∷ ys) ≡ length zs = ap (λ l. length l) whole in
    absurd (omega arith)

-- so each client was replied to its own batches
pub clients_are_replied : EndsAreLast (FollowsToLedger {N = Unit {0}}) ends_to_ledger → RepliesHaveTheirBatches
    → ClientsAreReplied
clients_are_replied ends have mail c settled =
    let number : ℕ = c.number in
    let order : List (ℕ × Batch) = order_of mail.received in
    let dispatched : List (Reply × Past) = named_replies_to number order in
    let messages : List (ToLedger × Unit {0}) → List ToLedger = map (λ m. m.0) in
    let batches : List Reply → List Batch = map (λ r. r.batch) in
    let mine : of_sender number mail.received ≡ c.requests.sent =
    all_received ends mail number c.requests.sent settled.done settled.sent settled.lawful in
    let own : batches_by number order ≡ batches c.replies =
    batches_asked number mail.received
    ∙ ap (λ (l : List (ToLedger × Unit {0})). asked (messages l)) mine
    ∙ ap asked settled.is.dispatched
    ∙ asked_replies number 1 c.replies c.finished in
    let whole : map (λ (e : ℕ × (Reply × Past)). e.1) (c.answers.received ++ settled.answers_left) ≡ dispatched =
    alone_sent c.answers settled.link settled.answers_left settled.account ∙ settled.emitted in
    let received : List (Reply × Past) = map (λ (e : ℕ × (Reply × Past)). e.1) c.answers.received in
    let parts : received ++ map (λ (e : ℕ × (Reply × Past)). e.1) settled.answers_left ≡ dispatched =
    sym (map-append (λ (e : ℕ × (Reply × Past)). e.1) c.answers.received settled.answers_left) ∙ whole in
    let reception : map (λ (m : Reply × Past). m.0) received ≡ c.replies =
    map-map (λ (m : Reply × Past). m.0) (λ (e : ℕ × (Reply × Past)). e.1) c.answers.received ∙ settled.is.reception in
    let as_many : length received ≡ length dispatched =
    sym (length-map received (λ (m : Reply × Past). m.0))
    ∙ ap (λ (l : List Reply). length l) reception
    ∙ sym (length-map c.replies (λ (r : Reply). r.batch))
    ∙ ap (λ (l : List Batch). length l) (sym own ∙ sym (have number order))
    ∙ length-map dispatched (λ (m : Reply × Past). m.0.batch) in
    record {
      answers =
          sym reception
          ∙ ap (map (λ (m : Reply × Past). m.0))
          (front_is_all received (map (λ (e : ℕ × (Reply × Past)). e.1) settled.answers_left) dispatched parts as_many);
      batches = own;
    }
