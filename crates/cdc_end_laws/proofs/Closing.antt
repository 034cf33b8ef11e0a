-- A subscriber's close decides what it keeps, and its book has the ledger's balances.
use Rattle.cdc_end_laws.proofs.Words.{All, All-filter, All-head, All-tail, Bool, History, List, None, Option, Reception, Some, [], ap, ap₂, arith, cases_Bool, cond, false, feed_after, filter, has_ended, inl, inr, leb-false, leb-true, length, min, nat_le, nat_lt, not, refl, subst, suc, sym, take, take-append_seam, takes_event, true, zero, ℕ, ◌++◌, ◌∙◌, ◌∷◌, ◌≡◌}
use Rattle.cdc_types.specs.declared.events.Event.{Event}
use Rattle.cdc_types.specs.Timestamps.{last_timestamp}
use Rattle.cdc_types.specs.Widths.{max_64}
use Rattle.cdc_laws.specs.Events.{events}
use Rattle.cdc_laws.specs.Log.{events_after}
use Rattle.cdc_laws.specs.Arguments.{Arguments}
use Rattle.cdc_laws.specs.Book.{book_of}
use Rattle.cdc_laws.specs.SubscriberState.{SubscriberState}
use Rattle.cdc_laws.specs.Faithful.{IsFaithful, applied, kept_from}
use Rattle.cdc_run.specs.Subscribing.{ClosesWith, EndsOpen, HasCome}
use Rattle.cdc_end_laws.specs.Subscribers.{AllClosesDecide, BooksAreTheLedgers, ClosesDecide, HasLedgersBalances, ReportedBooksAreTheLedgers, state_due, state_with}

-- ---- closes

-- a subscriber keeps what the events that it has applied make
state_is : (reception : Reception) (es : List Event) (closed : Bool) → applied reception ≡ es
    → has_ended reception ≡ not closed → reception.closed ≡ closed → kept_from reception ≡ state_with es closed
state_is reception es closed took ended shut =
    let kept : List Event → Bool → Bool → SubscriberState =
    λ l e c. record {
      book = book_of l;
      last = last_timestamp l;
      applied = min (length l) max_64;
      ended = e;
      closed = c;
    } in
    ap (λ (l : List Event). kept l (has_ended reception) reception.closed) took ∙ ap₂ (kept es) ended shut

-- the events applied, if they are so many of the feed's first
first_applied : (some feed : List Event) (n : ℕ) → (rest : List Event) → some ++ rest ≡ feed → length some ≡ n
    → some ≡ take n feed
first_applied some feed n rest whole count =
    sym (take-append_seam some rest) ∙ ap₂ (λ (m : ℕ) (l : List Event). take m l) count whole

module _ (h : History) (start : ℕ) (binding : Arguments) (reception : Reception) where
  -- one that isn't closed has applied its whole feed
  open_state : IsFaithful h start binding reception → EndsOpen reception
      → kept_from reception ≡ state_with (feed_after h start binding) false
  open_state faithful stays =
      state_is reception (feed_after h start binding) false (faithful.whole stays.ended).1 stays.ended stays.not_closed

  -- one that is closed has applied the first events of it
  closed_state : (n : ℕ) → IsFaithful h start binding reception → ClosesWith n reception
      → kept_from reception ≡ state_with (take n (feed_after h start binding)) true
  closed_state n faithful closes =
      state_is reception (take n (feed_after h start binding)) true
      (first_applied (applied reception) (feed_after h start binding) n faithful.prefix.rest faithful.prefix.whole
      closes.count)
      closes.not_ended closes.shut

  come_state : (close : Option ℕ) → HasCome h start binding close reception
      → kept_from reception ≡ state_due h start binding close
  come_state None come = open_state come.faithful (come.unasked refl)
  come_state (Some zero) come = open_state come.faithful (come.unasked refl)
  come_state (Some (suc n)) come =
      let feed : List Event = feed_after h start binding in
      let Due : Bool → Type 0 = λ b. kept_from reception ≡ state_with (cond b (take (suc n) feed) feed) b in
      elim (cases_Bool (nat_le (suc n) (length feed))) [
        | inl has ↦
            subst Due (sym has)
            (closed_state (suc n) come.faithful
            (come.enough (suc n) refl (omega arith) (leb-true (suc n) (length feed) has)))
        | inr lacks ↦
            subst Due (sym lacks)
            (open_state come.faithful
            (come.too_few (suc n) refl (omega arith) (leb-false (suc n) (length feed) lacks)))
      ]

pub closes_decide : ClosesDecide
closes_decide h start binding close subscriber is =
    is.keeps ∙ come_state h start binding is.reception close is.come

pub all_closes_decide : AllClosesDecide
all_closes_decide h start [] [] [] are = refl
all_closes_decide h start [] [] (subscriber ∷ subscribers) are = absurd are
all_closes_decide h start [] (close ∷ closes) subscribers are = absurd are
all_closes_decide h start (binding ∷ bindings) [] subscribers are = absurd are
all_closes_decide h start (binding ∷ bindings) (close ∷ closes) [] are = absurd are
all_closes_decide h start (binding ∷ bindings) (close ∷ closes) (subscriber ∷ subscribers) are =
    ap₂ (λ (k : SubscriberState) (ks : List SubscriberState). k ∷ ks)
    (closes_decide h start binding close subscriber are.0) (all_closes_decide h start bindings closes subscribers are.1)

-- ---- books

-- a test that all pass leaves out none
all_pass : {X : Type 0} (test : X → Bool) (xs : List X) → All (λ x. test x ≡ true) xs → filter test xs ≡ xs
all_pass test [] all = refl
all_pass {X} test (x ∷ xs) all =
    ap (λ (b : Bool). cond b (x ∷ filter test xs) (filter test xs)) (All-head (λ y. test y ≡ true) x xs all)
    ∙ ap (λ (rest : List X). x ∷ rest) (all_pass test xs (All-tail (λ y. test y ≡ true) x xs all))

pub books_are : BooksAreTheLedgers
books_are h binding reception all faithful =
    faithful.every refl
    (all_pass (takes_event binding) (events_after 0 (events h))
    (All-filter (λ e. nat_lt 0 e.timestamp) (λ e. takes_event binding e ≡ true) (events h) all))

pub reported_books_are : ReportedBooksAreTheLedgers
reported_books_are h binding close subscriber all is =
    subst (HasLedgersBalances h) (sym is.keeps) (books_are h binding is.reception all is.come.faithful)
