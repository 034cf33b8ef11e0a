-- The transfers that are due: how many there are, which is the first, and that the others are due once it expired.
use Rattle.cdc_ledger.proofs.Words.{[], ◌&&◌, ◌++◌, ◌<◌, ◌==◌, ◌||◌, ◌∙◌, ◌∷◌, ◌≡◌, AllByRecursion, Bool, Entry, History, IsSound, List, Transfer, Triple, ap, ap₂, due, expires_at, expiry, false, filter, holds, if◌then◌else◌, in_order_of_end, is_due, is_open, is_sooner, length, map, nat_le, not, open_triples, pushed, refl, resolved, stores, sym, triples_from, true, ℕ}
use Rattle.std.proofs.lemmas.Bool.{eq-eqb, ne_eqb}
use Rattle.std.proofs.lemmas.List.{append-nil, length-map, map-append}
use Rattle.std.proofs.lemmas.List.Elements.{filter-append, filter_agree}
use Rattle.cdc_ledger.proofs.BalanceLaws.{resolved_then, stores-holds}
use Rattle.cdc_ledger.proofs.DueOrder.{IsSoonest, in_order-soonest, length-in_order}
use Rattle.cdc_ledger.proofs.IndexTriples.{filter-triples_from, length-triples_from}
use Rattle.cdc_ledger.proofs.Pending.{Around, Around-weaker, IsAmong, IsOther, IsOther-around}

-- tests that agree on each entry pick the same entries
filter_same : (p q : Entry → Bool) (es : List Entry) → AllByRecursion (λ e. p e ≡ q e) es → filter p es ≡ filter q es
filter_same p q [] agree = refl
filter_same p q (e ∷ es) agree = ap₂ (λ b more. if b then e ∷ more else more) agree.0 (filter_same p q es agree.1)

-- the entry has a triple, and its expiry time has come
abbrev pub is_ready : History → ℕ → Entry → Bool
is_ready h now e = is_open h e && nat_le (expires_at e.transfer) now

-- the order of the tests doesn't matter: the expiry time can be tested last
ends_last : (held timed ended done : Bool)
    → (held && timed && ended && not done) ≡ ((held && timed && not done) && ended)
ends_last true true true true = refl
ends_last true true false true = refl
ends_last held timed ended done = refl

-- a transfer is due if and only if it has a triple whose expiry time has come
pub is_due-ready : (h : History) (now : ℕ) (e : Entry) → is_due h now e ≡ is_ready h now e
is_due-ready h now e =
    ends_last (holds e.kind) (not (e.transfer.timeout == 0)) (nat_le (expires_at e.transfer) now)
    (resolved h e.transfer h.last)

-- so the same entries are due by the history and by its triples
filter-ready : (h : History) (now : ℕ) (es : List Entry) → filter (is_due h now) es ≡ filter (is_ready h now) es
filter-ready h now es = filter_agree (is_due h now) (is_ready h now) (is_due-ready h now) es

-- the triples whose expiry time has come
abbrev pub ready_triples : History → ℕ → List Triple
ready_triples h now = triples_from (is_ready h now) 0 h.entries

-- the triples that the index counts as due are those of the entries that are due
pub ready_triples-filter : (h : History) (now : ℕ)
    → filter (λ t. nat_le t.expires_at now) (open_triples h) ≡ ready_triples h now
ready_triples-filter h now =
    filter-triples_from (λ t. nat_le t.expires_at now) (is_open h) (λ e. nat_le (expires_at e.transfer) now)
    (λ n e. refl) 0 h.entries

-- the number of due transfers is the number of triples whose expiry time has come
pub length-due : (h : History) (now : ℕ)
    → length (due h now) ≡ length (filter (λ t. nat_le t.expires_at now) (open_triples h))
length-due h now =
    length-in_order (map (λ e. e.transfer) (filter (is_due h now) h.entries))
    ∙ (length-map (filter (is_due h now) h.entries) (λ e. e.transfer)
    ∙ (ap length (filter-ready h now h.entries)
    ∙ (sym (length-triples_from (is_ready h now) 0 h.entries)
    ∙ ap length (sym (ready_triples-filter h now)))))

-- the transfers of those of the entries that pass
abbrev passing : (Entry → Bool) → List Entry → List Transfer
passing test es = map (λ e. e.transfer) (filter test es)

-- transfers are picked from two parts of the entries as from the whole
passing-append : (test : Entry → Bool) (xs ys : List Entry)
    → passing test (xs ++ ys) ≡ passing test xs ++ passing test ys
passing-append test xs ys =
    ap (map (λ e. e.transfer)) (filter-append test xs ys)
    ∙ map-append (λ e. e.transfer) (filter test xs) (filter test ys)

-- tests that agree on each entry pick the same transfers
passing-same : (p q : Entry → Bool) (es : List Entry) → AllByRecursion (λ e. p e ≡ q e) es → passing p es ≡ passing q es
passing-same p q es agree = ap (map (λ e. e.transfer)) (filter_same p q es agree)

-- a transfer that expires before each one that passes is the soonest of them all
soonest_passing : (p : Transfer) (test : Entry → Bool) (es : List Entry)
    → AllByRecursion (λ y. test y ≡ true → is_sooner p y.transfer ≡ true) es → IsSoonest p (passing test es)
soonest_passing p test [] all = tt
soonest_passing p test (y ∷ es) all = either (test y) refl (soonest_passing p test es all.1)
  where
    either : (b : Bool) → test y ≡ b → IsSoonest p (passing test es)
        → IsSoonest p (map (λ e. e.transfer) (if b then y ∷ filter test es else filter test es))
    either true passes more = (all.0 passes, more)
    either false passes more = more

-- the one that is due and soonest comes first, and then the others
module _ (h : History) (now : ℕ) (e : Entry) (among : IsAmong h.entries e) where
  -- the others that are due, in the order of their expiry times
  abbrev pub others : List Transfer
  others = in_order_of_end (passing (is_due h now) among.front ++ passing (is_due h now) among.back)

  -- so a pulse starts with the transfer that expires first
  pub due-first : is_due h now e ≡ true
      → Around (λ y. is_due h now y ≡ true → is_sooner e.transfer y.transfer ≡ true) among.front among.back
      → due h now ≡ e.transfer ∷ others
  due-first ends sooner =
      ap (λ es. in_order_of_end (passing (is_due h now) es)) among.split
      ∙ (ap in_order_of_end (passing-append (is_due h now) among.front (e ∷ among.back)
      ∙ ap (λ b. passing (is_due h now) among.front ++ map (λ y. y.transfer)
      (if b then e ∷ filter (is_due h now) among.back else filter (is_due h now) among.back)) ends)
      ∙ in_order-soonest e.transfer (passing (is_due h now) among.front) (passing (is_due h now) among.back)
      (soonest_passing e.transfer (is_due h now) among.front sooner.before)
      (soonest_passing e.transfer (is_due h now) among.back sooner.after))

  -- once it expired the others are due
  module _ (sound : IsSound h) (held : holds e.kind ≡ true) (t : ℕ) (after : h.last < t) where
    -- the history in which it has expired
    abbrev later : History
    later = pushed h (expiry e.transfer t)

    -- whether an entry is due, by whether it is resolved
    abbrev due_by : Bool → Entry → Bool
    due_by done y = holds y.kind && not (y.transfer.timeout == 0) && nat_le (expires_at y.transfer) now && not done

    -- in that history an entry is resolved if it was before or is the one that expired
    is_due-then : (y : Entry)
        → is_due later now y ≡ due_by (resolved h y.transfer h.last || (e.transfer.id == y.transfer.id)) y
    is_due-then y = ap (λ b. due_by b y) (resolved_then h (expiry e.transfer t) y.transfer sound.past after)

    -- an expiry of another transfer makes no difference
    unchanged : (held timed ended done now : Bool) → (held ≡ true → now ≡ false)
        → (held && timed && ended && not (done || now)) ≡ (held && timed && ended && not done)
    unchanged true timed ended false now same = ap (λ b. timed && ended && not b) (same refl)
    unchanged held timed ended done now same = refl

    -- an entry that stored another id is due as before
    still : (y : Entry) → (stores y.kind ≡ true → IsOther e y) → is_due later now y ≡ is_due h now y
    still y other =
        is_due-then y
        ∙ unchanged (holds y.kind) (not (y.transfer.timeout == 0)) (nat_le (expires_at y.transfer) now)
        (resolved h y.transfer h.last) (e.transfer.id == y.transfer.id)
        (λ is. ne_eqb e.transfer.id y.transfer.id (λ same. (other (stores-holds y.kind is)).id (sym same)))

    -- so all others are
    all_still : Around (λ y. is_due later now y ≡ is_due h now y) among.front among.back
    all_still = Around-weaker (λ y. stores y.kind ≡ true → IsOther e y) (λ y. is_due later now y ≡ is_due h now y) still
        among.front among.back (IsOther-around h e among sound (stores-holds e.kind held))

    -- what is resolved isn't due
    over : (held timed ended done now : Bool) → now ≡ true → (held && timed && ended && not (done || now)) ≡ false
    over true true true false now is = ap not is
    over held timed ended done now is = refl

    -- the one that expired isn't due any more
    itself_over : is_due later now e ≡ false
    itself_over =
        is_due-then e
        ∙ over (holds e.kind) (not (e.transfer.timeout == 0)) (nat_le (expires_at e.transfer) now)
        (resolved h e.transfer h.last) (e.transfer.id == e.transfer.id)
        (eq-eqb e.transfer.id e.transfer.id refl)

    -- so what is due after the expiry are the others, in the same order
    pub due-rest : due (pushed h (expiry e.transfer t)) now ≡ others
    due-rest =
        ap in_order_of_end
        (passing-append (is_due later now) h.entries (expiry e.transfer t ∷ [])
        ∙ (append-nil (passing (is_due later now) h.entries)
        ∙ (ap (passing (is_due later now)) among.split
        ∙ (passing-append (is_due later now) among.front (e ∷ among.back)
        ∙ (ap (λ b. passing (is_due later now) among.front ++ map (λ y. y.transfer)
        (if b then e ∷ filter (is_due later now) among.back else filter (is_due later now) among.back)) itself_over
        ∙ ap₂ (λ xs ys. xs ++ ys) (passing-same (is_due later now) (is_due h now) among.front all_still.before)
        (passing-same (is_due later now) (is_due h now) among.back all_still.after))))))
