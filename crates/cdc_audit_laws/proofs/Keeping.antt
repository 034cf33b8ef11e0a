-- What each request that is accepted and each expiry keeps holds of every legal history.
use Rattle.std.proofs.Common.{ℕ, ◌+◌, ◌<◌, ◌≤◌, Bool, true, false, map, None, List, [], ◌∷◌, ◌++◌, ◌≡◌, ◌≢◌, Option, Some, ap, Result, Ok, Err, ◌||◌, refl, sym, ap₂, ◌∙◌, subst, arith, length, ◌==◌, ◌&&◌, ◌-◌, filter, if◌then◌else◌, IfSome}
use Rattle.cdc_audit_laws.proofs.OfStd.{unwrap_or, AllByRecursion, false≢true, ltb-false, ne_eqb}
use Rattle.cdc_audit_laws.proofs.OfTypes.{NewAccount, Batch, BatchResults, Entry, TransferResult, has_flag, is_linked_transfer, NewTransfer, Transfer, BATCH_ITEMS}
use Rattle.cdc_audit_laws.proofs.OfLedger.{BatchError, expiry, pushed, timed, with_account, due, is_due, before_others, chains_from, chains_of, history_after, in_front, is_none_left, played, refused_in_chain, expires_at, filled, stores, History, empty_history, IsSound, IsLegal, account_rules, accounts_from, after_batches, base, entry_of, expiries_from, kind_of, history_or, is_past_the_end, opened_by, submit, taken, transfer_rules, transfers_from, closed_if, is_too_large, account_refused, max_timestamp, transfer_refused, Follows-accepted, accepted_account, resolved_then, items_from-keeps, All-in_order, AllByRecursion-both, AllByRecursion-weaker, after_last, submit_parts, within_end, Follows-open, HaveOwnIds, IsOpen, due_ids, due_open, IsSound-empty, IsSound-pushed, IsSound-timed, IsSound-with_account, stored-pushed_kept, AllByRecursion-every}
use Rattle.cdc_types.specs.declared.transfers.TheConstants.TransferFlags.{LINKED}
use Rattle.cdc_types.specs.declared.batches.Batch.TheVariants as batch
use Rattle.cdc_audit_laws.proofs.Pulses.{Clear, IsPulsing, clear-stored, clear_later, pulsing-due, pulsing-next, passing_each}

-- the expiry of one transfer leaves another one open
open_after : (h : History) (p q : Transfer) (t : ℕ) → IsSound h → h.last < t → p.id ≢ q.id → IsOpen h q
    → IsOpen (pushed h (expiry p t)) q
open_after h p q t sound later other open_one = record {
  pending = open_one.pending;
  there = stored-pushed_kept h (expiry p t) open_one.pending q.id open_one.there;
  same = open_one.same;
  holding = open_one.holding;
  unsettled = resolved_then h (expiry p t) q sound.past later
      ∙ ap₂ (λ b c. b || c) open_one.unsettled (ne_eqb p.id q.id other);
}

-- a pending transfer's time is up
pub record IsUp (p : Transfer) (t : ℕ) : Type 0 where
  pub timed : (p.timeout == 0) ≡ false
  pub ended : expires_at p ≤ t

-- the time of each transfer that is due is up
pub due_up : (h : History) (now : ℕ) → AllByRecursion (λ p. IsUp p now) (due h now)
due_up h now =
    All-in_order (λ p. IsUp p now) (map (λ e. e.transfer) (filter (is_due h now) h.entries))
    (passing_each (is_due h now) (λ p. IsUp p now) h.entries (AllByRecursion-every _ (λ e is. grind arith) h.entries))

-- and stays so
up_later : (s t : ℕ) (ps : List Transfer) → s ≤ t → AllByRecursion (λ p. IsUp p s) ps
    → AllByRecursion (λ p. IsUp p t) ps
up_later s t ps later all =
    AllByRecursion-weaker _ _ (λ p is. record { timed = is.timed; ended = let before = is.ended in omega arith }) ps all

-- an entry stored a transfer that is linked to the next one
abbrev pub links : Entry → Bool
links e = stores e.kind && has_flag e.transfer.flags LINKED

-- the last of these entries did; this value if there is none
abbrev pub links_from : Bool → List Entry → Bool
links_from linked [] = linked
links_from linked (e ∷ es) = links_from (links e) es

-- the history ends within a chain
abbrev pub is_in_chain : History → Bool
is_in_chain h = links_from false h.entries

-- how many linked transfers these entries end with, after this number of them
abbrev pub run_from : ℕ → List Entry → ℕ
run_from n [] = n
run_from n (e ∷ es) = run_from (if links e then n + 1 else 0) es

abbrev pub run_of : History → ℕ
run_of h = run_from 0 h.entries

run_from-push : (n : ℕ) (es : List Entry) (e : Entry)
    → run_from n (es ++ e ∷ []) ≡ (if links e then run_from n es + 1 else 0)
run_from-push n [] e = refl
run_from-push n (x ∷ es) e = run_from-push (if links x then n + 1 else 0) es e

-- one more entry makes it one longer at most
run-pushed : (h : History) (e : Entry) → run_of (pushed h e) ≤ run_of h + 1
run-pushed h e = let is = run_from-push 0 h.entries e in by (links e) is
  where
    by : (b : Bool) → run_of (pushed h e) ≡ (if b then run_of h + 1 else 0) → run_of (pushed h e) ≤ run_of h + 1
    by true is = omega (arith, is)
    by false is = omega (arith, is)

-- and outside of a chain it is 0
pub run-none : (n : ℕ) (linked : Bool) (es : List Entry) → (linked ≡ false → n ≡ 0) → links_from linked es ≡ false
    → run_from n es ≡ 0
run-none n linked [] none is = none is
run-none n linked (e ∷ es) none is = run-none (if links e then n + 1 else 0) (links e) es (by (links e)) is
  where
    by : (b : Bool) → b ≡ false → (if b then n + 1 else 0) ≡ 0
    by true no_link = absurd (false≢true (sym no_link))
    by false no_link = refl

-- the timestamp of the last of these entries; t if there is none
abbrev pub end_from : ℕ → List Entry → ℕ
end_from t [] = t
end_from t (e ∷ es) = end_from e.timestamp es

links_from-push : (b : Bool) (es : List Entry) (e : Entry) → links_from b (es ++ e ∷ []) ≡ links e
links_from-push b [] e = refl
links_from-push b (x ∷ es) e = links_from-push (links x) es e

end_from-push : (t : ℕ) (es : List Entry) (e : Entry) → end_from t (es ++ e ∷ []) ≡ e.timestamp
end_from-push t [] e = refl
end_from-push t (x ∷ es) e = end_from-push x.timestamp es e

-- a request has its flags once it is filled in, and is stored
same_flags : (h : History) (r : NewTransfer) (t : ℕ) → (filled h r t).flags ≡ r.flags
same_flags h r t = grind arith

pub stores_asked : (r : NewTransfer) → stores (kind_of r) ≡ true
stores_asked r = grind arith

-- so it links if it is linked
links_asked : (h : History) (r : NewTransfer) (t : ℕ) → links (entry_of h r t) ≡ is_linked_transfer r
links_asked h r t = ap₂ (λ b n. b && has_flag n LINKED) (stores_asked r) (same_flags h r t)

-- a request that is filled in has this timestamp
at_its_time : (h : History) (r : NewTransfer) (t : ℕ) → (filled h r t).timestamp ≡ t
at_its_time h r t = grind arith

-- how many items there are in these chains
abbrev pub total : {A : Type 0} → List (List A) → ℕ
total [] = 0
total (chain ∷ chains) = length chain + total chains

total-in_front : {A : Type 0} (b : Bool) (a : A) (chains : List (List A))
    → total (in_front b a chains) ≡ 1 + total chains
total-in_front b a chains = grind arith

-- the chains of a batch have its items
pub total-chains_of : {A : Type 0} (linked : A → Bool) (items : List A) → total (chains_of linked items) ≡ length items
total-chains_of linked [] = refl
total-chains_of linked (a ∷ rest) =
    let more = total-in_front (linked a) a (chains_of linked rest) in
    let others = total-chains_of linked rest in
    omega (arith, more, others)

-- a batch that is answered isn't too large
pub not_large : (h : History) (b : Batch) (answer : BatchResults × History) → submit h b ≡ Ok answer
    → is_too_large b ≡ false
not_large h b answer e = grind arith

-- the property holds of a new ledger, and each of these keeps it: a transfer that is accepted, the expiry of an open
-- one, an account that is accepted, a timestamp that is taken, and closing the ledger
module _ (P : History → Type 0) (on_empty : P empty_history)
    (on_request : (h : History) (r : NewTransfer) (t : ℕ) → IsSound h → h.last < t → Clear h []
    → run_of h < BATCH_ITEMS → (is_in_chain h ≡ true → t ≡ end_from 0 h.entries + 1) → transfer_refused h r t ≡ None
    → IsSound (pushed h (entry_of h r t)) → P h → P (pushed h (entry_of h r t)))
    (on_expiry : (h : History) (now t : ℕ) (p : Transfer) (ps : List Transfer) → IsSound h → h.last < t
    → AllByRecursion (IsOpen h) (p ∷ ps) → IsUp p t → is_in_chain h ≡ false → IsPulsing h now t (p ∷ ps)
    → IsSound (pushed h (expiry p t)) → P h
    → P (pushed h (expiry p t)))
    (on_account : (h : History) (a : NewAccount) (t : ℕ) → IsSound h → h.last < t → account_refused h a ≡ None → P h
    → P (with_account h (opened_by a t)))
    (on_timed : (h : History) (t : ℕ) → IsSound h → h.last ≤ t → P h → P (timed h t))
    (on_closed : (h : History) (closed : Bool) → P h → P (record h { closed = closed })) where
  -- the history is sound, has the property, and no pulse left a transfer behind
  abbrev Inner : History → Type 0
  Inner h = IsSound h × P h × Clear h []

  -- and it doesn't end within a chain
  abbrev Keeps : History → Type 0
  Keeps h = IsSound h × P h × (is_in_chain h ≡ false) × Clear h []

  -- requests for accounts
  keeps-accounts : (h : History) (t : ℕ) (rs : List NewAccount) → Keeps h → h.last < t
      → (0 < length rs → t + length rs ≤ max_timestamp + 1) → Keeps (accounts_from h t rs).1
  keeps-accounts h t rs keeps later fits =
      items_from-keeps account_rules Keeps (λ n. n ≤ max_timestamp)
      (λ g a n so_far later' within none. (
        IsSound-with_account g (opened_by a n) so_far.0 (accepted_account g a none).1 (omega arith) within,
        on_account g a n so_far.0 later' none so_far.1,
        so_far.2,
        clear_later g (with_account g (opened_by a n)) [] so_far.0 refl (omega arith) so_far.3,
      ))
      (λ g n so_far later' within. (
        IsSound-timed g n so_far.0 (omega arith) within,
        on_timed g n so_far.0 (omega arith) so_far.1,
        so_far.2,
        clear_later g (timed g n) [] so_far.0 refl (omega arith) so_far.3,
      ))
      (λ g a n. refl) h t rs keeps later
      (λ n from below. let whole : t + length rs ≤ max_timestamp + 1 = fits (omega arith) in omega arith)

  -- an accepted request
  keeps-request : (h : History) (r : NewTransfer) (t : ℕ) → Inner h → h.last < t → t ≤ max_timestamp
      → run_of h < BATCH_ITEMS → (is_in_chain h ≡ true → t ≡ end_from 0 h.entries + 1) → transfer_refused h r t ≡ None
      → Inner (pushed h (entry_of h r t))
  keeps-request h r t inner later within room next none =
      let sound : IsSound (pushed h (entry_of h r t)) =
      IsSound-pushed h (entry_of h r t) inner.0 (Follows-accepted h r t inner.0 later none) later within in
      let at : (filled h r t).timestamp ≡ t = at_its_time h r t in (
        sound,
        on_request h r t inner.0 later inner.2 room next none sound inner.1,
        clear-stored h (entry_of h r t) inner.0 later (stores_asked r) (omega arith) inner.2,
      )

  -- a history after a chain, before this timestamp
  record Past (t : ℕ) (g : History) : Type 0 where
    pub keeps : Keeps g
    pub before : g.last < t

  past_later : (s t : ℕ) (o : Option History) → s ≤ t → IfSome o (Past s) → IfSome o (Past t)
  past_later s t None later is = tt
  past_later s t (Some g) later is = record { keeps = is.keeps; before = let b = is.before in omega arith }

  -- a chain of requests for transfers that is taken: after each linked one the next one follows at once
  keeps-played : (h : History) (t : ℕ) (chain : List NewTransfer) → Inner h → h.last < t
      → (is_in_chain h ≡ true → t ≡ end_from 0 h.entries + 1)
      → (is_none_left chain ≡ true → is_in_chain h ≡ false) → run_of h + length chain ≤ BATCH_ITEMS
      → ((n : ℕ) → t ≤ n → n < t + length chain → n ≤ max_timestamp)
      → IfSome (played transfer_rules h t chain).1 (Past (t + length chain))
  keeps-played h t [] inner later next ends room fits =
      record { keeps = (inner.0, inner.1, ends refl, inner.2); before = omega arith }
  keeps-played h t (r ∷ rest) inner later next ends room fits =
      by (refused_in_chain transfer_rules h r (is_none_left rest) t) refl (λ own none.
      keeps-played (pushed h (entry_of h r t)) (t + 1) rest
      (keeps-request h r t inner later (fits t (omega arith) (omega arith)) (omega arith) next none) (omega arith)
      (λ is. ap (λ n. n + 1) (sym (end_from-push 0 h.entries (entry_of h r t))))
      (λ last. links_from-push false h.entries (entry_of h r t) ∙ links_asked h r t
      ∙ sym (and_true_right (is_linked_transfer r)) ∙ ap (λ b. is_linked_transfer r && b) (sym last) ∙ own)
      (let longer = run-pushed h (entry_of h r t) in omega arith)
      (λ n from below. fits n (omega arith) (omega arith)))
    where
      and_true_right : (b : Bool) → (b && true) ≡ b
      and_true_right true = refl
      and_true_right false = refl

      parts : (b : Bool) (u : TransferResult) (o : Option TransferResult) → (if b then Some u else o) ≡ None
          → (b ≡ false) × (o ≡ None)
      parts true u o none = cc
      parts false u o none = (refl, none)

      by : (o : Option TransferResult) → refused_in_chain transfer_rules h r (is_none_left rest) t ≡ o
          → ((is_linked_transfer r && is_none_left rest) ≡ false → transfer_refused h r t ≡ None
          → IfSome (played transfer_rules (pushed h (entry_of h r t)) (t + 1) rest).1 (Past (t + 1 + length rest)))
          → IfSome
          (before_others transfer_rules o rest (played transfer_rules (pushed h (entry_of h r t)) (t + 1) rest)).1
          (Past (t + length (r ∷ rest)))
      by (Some why) is more = tt
      by None is more =
          let none = parts (is_linked_transfer r && is_none_left rest) _ (transfer_refused h r t) is in
          past_later (t + 1 + length rest) (t + length (r ∷ rest))
          (played transfer_rules (pushed h (entry_of h r t)) (t + 1) rest).1 (omega arith) (more none.0 none.1)

  -- a chain, taken or not
  keeps-chain : (h : History) (t : ℕ) (chain : List NewTransfer) → Keeps h → h.last < t
      → length chain ≤ BATCH_ITEMS
      → ((n : ℕ) → t ≤ n → n < t + length chain → n ≤ max_timestamp)
      → Past (t + length chain) (history_after transfer_rules h t chain)
  keeps-chain h t [] keeps later room fits = record { keeps = keeps; before = omega arith }
  keeps-chain h t (r ∷ rest) keeps later room fits =
      by (played transfer_rules h t (r ∷ rest)).1
      (keeps-played h t (r ∷ rest) (keeps.0, keeps.1, keeps.3) later (λ is. absurd (false≢true (sym keeps.2 ∙ is)))
      (λ none. absurd (false≢true none))
      (let run = run-none 0 false h.entries (λ is. refl) keeps.2 in omega arith) fits)
    where
      by : (o : Option History) → IfSome o (Past (t + length (r ∷ rest)))
          → Past (t + length (r ∷ rest)) (unwrap_or o (timed h (t + length (r ∷ rest) - 1)))
      by None past =
          let end : ℕ = t + length (r ∷ rest) - 1 in
          let within : end ≤ max_timestamp = fits end (omega arith) (omega arith) in
          record {
            keeps = (
              IsSound-timed h end keeps.0 (omega arith) within,
              on_timed h end keeps.0 (omega arith) keeps.1,
              keeps.2,
              clear_later h (timed h end) [] keeps.0 refl (omega arith) keeps.3,
            );
            before = omega arith;
          }
      by (Some g) past = past

  -- chains, one after another
  keeps-chains : (h : History) (t : ℕ) (chains : List (List NewTransfer)) → Keeps h → h.last < t
      → total chains ≤ BATCH_ITEMS
      → ((n : ℕ) → t ≤ n → n < t + total chains → n ≤ max_timestamp)
      → Keeps (chains_from transfer_rules h t chains).1
  keeps-chains h t [] keeps later room fits = keeps
  keeps-chains h t (chain ∷ chains) keeps later room fits =
      let first = keeps-chain h t chain keeps later (omega arith) (λ n from below. fits n from (omega arith)) in
      keeps-chains (history_after transfer_rules h t chain) (t + length chain) chains first.keeps first.before
      (omega arith)
      (λ n from below. fits n (omega arith) (omega arith))

  -- requests for transfers
  keeps-transfers : (h : History) (t : ℕ) (rs : List NewTransfer) → Keeps h → h.last < t
      → length rs ≤ BATCH_ITEMS
      → (0 < length rs → t + length rs ≤ max_timestamp + 1) → Keeps (transfers_from h t rs).1
  keeps-transfers h t rs keeps later room fits =
      keeps-chains h t (chains_of is_linked_transfer rs) keeps later
      (let all = total-chains_of is_linked_transfer rs in omega arith)
      (λ n from below.
      let all = total-chains_of is_linked_transfer rs in
      let whole : t + length rs ≤ max_timestamp + 1 = fits (omega arith) in omega arith)

  -- open transfers that a pulse lets expire, one after another
  keeps-expiries : (h : History) (now t : ℕ) (ps : List Transfer) → IsSound h → P h → is_in_chain h ≡ false
      → IsPulsing h now t ps → AllByRecursion (IsOpen h) ps → AllByRecursion (λ p. IsUp p t) ps → HaveOwnIds ps
      → h.last < t → (0 < length ps → t + length ps ≤ max_timestamp + 1) → Keeps (expiries_from h t ps)
  keeps-expiries h now t [] sound has unchained pulsing all up own later fits = (sound, has, unchained, pulsing.clear)
  keeps-expiries h now t (p ∷ ps) sound has unchained pulsing all up own later fits =
      let whole : t + length (p ∷ ps) ≤ max_timestamp + 1 = fits (omega arith) in
      let next : IsSound (pushed h (expiry p t)) =
      IsSound-pushed h (expiry p t) sound (Follows-open h p t sound all.0) later (omega arith) in
      keeps-expiries (pushed h (expiry p t)) now (t + 1) ps next
      (on_expiry h now t p ps sound later all up.0 unchained pulsing next has)
      (links_from-push false h.entries (expiry p t))
      (pulsing-next h now t p ps sound later up.0.ended pulsing)
      (AllByRecursion-weaker _ _ (λ q at. open_after h p q t sound later at.0 at.1) ps
      (AllByRecursion-both _ _ ps own.0 all.1)) (up_later t (t + 1) ps (omega arith) up.1)
      own.1 (omega arith) (λ some. omega arith)

  -- a batch that is answered
  keeps-submit : (h : History) (b : Batch) (answer : BatchResults × History) → Keeps h → submit h b ≡ Ok answer
      → Keeps answer.1
  keeps-submit h (batch.Accounts now items) answer keeps e =
      let parts : (is_past_the_end h now (length items) ≡ false) ×
      (taken h (batch.Accounts now items) ≡ answer) = submit_parts h (batch.Accounts now items) answer e in
      subst (λ (a : BatchResults × History). Keeps a.1) parts.1
      (keeps-accounts h (base h now) items keeps (after_last h now) (within_end h now (length items) parts.0))
  keeps-submit h (batch.Transfers now items) answer keeps e =
      let parts : (is_past_the_end h now (length items) ≡ false) ×
      (taken h (batch.Transfers now items) ≡ answer) = submit_parts h (batch.Transfers now items) answer e in
      subst (λ (a : BatchResults × History). Keeps a.1) parts.1
      (keeps-transfers h (base h now) items keeps (after_last h now)
      (ltb-false _ _ (not_large h (batch.Transfers now items) answer e)) (within_end h now (length items) parts.0))
  keeps-submit h (batch.Pulse now) answer keeps e =
      let parts : (is_past_the_end h now (length (due h now)) ≡ false) × (taken h (batch.Pulse now) ≡ answer) =
      submit_parts h (batch.Pulse now) answer e in
      subst (λ (a : BatchResults × History). Keeps a.1) parts.1
      (keeps-expiries h now (base h now) (due h now) keeps.0 keeps.1 keeps.2
      (pulsing-due h now (base h now) keeps.3
      (AllByRecursion-weaker _ _ (λ p up. up.ended) (due h now) (due_up h now))) (due_open h now keeps.0)
      (up_later now (base h now) (due h now) (omega arith) (due_up h now)) (due_ids h now keeps.0)
      (after_last h now) (within_end h now (length (due h now)) parts.0))

  -- any batch, answered or refused
  keeps-or : (h : History) (b : Batch) (r : Result (BatchResults × History) BatchError) → submit h b ≡ r → Keeps h
      → Keeps (history_or h r)
  keeps-or h b (Ok answer) e keeps = keeps-submit h b answer keeps e
  keeps-or h b (Err error) e keeps = keeps

  -- and any number of batches
  keeps-after_batches : (h : History) (bs : List Batch) → Keeps h → Keeps (after_batches h bs)
  keeps-after_batches h [] keeps = keeps
  keeps-after_batches h (b ∷ bs) keeps =
      keeps-after_batches (history_or h (submit h b)) bs (keeps-or h b (submit h b) refl keeps)

  -- so every history that batches make has the property
  pub kept_by_legal : (h : History) → IsLegal h → P h
  kept_by_legal h legal =
      let before : History = after_batches empty_history legal.batches in
      subst P (sym legal.made)
      (on_closed before (legal.close || before.closed)
      (keeps-after_batches empty_history legal.batches (IsSound-empty, on_empty, refl, tt)).1)

  -- and ends neither within a chain nor within a pulse
  pub ended_by_legal : (h : History) → IsLegal h → (is_in_chain h ≡ false) × Clear h []
  ended_by_legal h legal =
      let before : History = after_batches empty_history legal.batches in
      let keeps = keeps-after_batches empty_history legal.batches (IsSound-empty, on_empty, refl, tt) in
      let shut : History = closed_if legal.close before in
      subst (λ g. (is_in_chain g ≡ false) × Clear g []) (sym legal.made)
      (keeps.2, clear_later before shut [] keeps.0 refl (omega arith) keeps.3)
