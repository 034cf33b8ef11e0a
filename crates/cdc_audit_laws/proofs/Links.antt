-- A ledger's linked accounts: no entry comes right after one, and a batch has room for each chain of them.
use Rattle.std.proofs.Common.{◌≡◌, ◌≢◌, ℕ, ◌+◌, ◌-◌, ◌<◌, ◌≤◌, Bool, true, false, List, [], ◌∷◌, Option, Some, None, Result, Ok, Err, if◌then◌else◌, length, map, refl, sym, ◌∙◌, subst, arith, ◌&&◌, ◌||◌, nat_lt, IfSome, IsSome}
use Rattle.cdc_audit_laws.proofs.OfStd.{unwrap_or, AllByRecursion, flat_map, false≢true, ltb-false, ltb-true}
use Rattle.cdc_audit_laws.proofs.OfTypes.{Balances, NewAccount, Batch, BatchResults, BATCH_ITEMS, Entry, Transfer, is_linked_account}
use Rattle.cdc_audit_laws.proofs.OfLedger.{BatchError, balances, before_others, chains_from, chains_of, history_after, is_none_left, played, refused_in_chain, expiry, pushed, timed, with_account, due, event_of, events, shown_account, History, Opened, empty_history, opened, HasAccounts, IsSound, IsLegal, account_rules, after_batches, base, entry_of, expiries_from, history_or, opened_by, submit, time, transfer_rules, history_after-later, items_from-keeps, AllByRecursion-weaker, AllByRecursion_push, after_last, submit_parts, find_all}
use Rattle.cdc_audit_laws.proofs.OfAudit.{accounts_of, fixed_fields, FixedFields}
use Rattle.cdc_types.specs.declared.results.AccountResult.{AccountResult}
use Rattle.cdc_types.specs.declared.batches.Batch.TheVariants as batch
use Rattle.cdc_audit_laws.proofs.Premises.{AccountsHaveRoom, IsUnlinked, NextIsFree, accounts_in}
use Rattle.cdc_audit_laws.proofs.Keeping.{not_large, total, total-chains_of}
use Rattle.cdc_audit_laws.proofs.Requests.{account_of, account_is}
use Rattle.cdc_audit_laws.proofs.Ledgers.{all_images}

-- no entry has the timestamp after the account
abbrev IsFreeAfter : List Entry → Opened → Type 0
IsFreeAfter es o = AllByRecursion (λ e. e.timestamp ≢ o.timestamp + 1) es

-- an account isn't linked, if it has this timestamp
abbrev IsEndAt : ℕ → Opened → Type 0
IsEndAt t o = o.timestamp ≡ t → is_linked_account o.request ≡ false

-- between batches: the timestamp after each linked account is past, and no entry has it; of as many timestamps as a
-- batch has room for, one isn't that of a linked account
pub record AreLinked (h : History) : Type 0 where
  past : AllByRecursion (λ e. e.timestamp ≤ h.last) h.entries
  links : AllByRecursion
      (λ o. is_linked_account o.request ≡ true → (o.timestamp < h.last) × IsFreeAfter h.entries o) h.accounts
  few : (t : ℕ) → (k : ℕ) × (k < BATCH_ITEMS) × AllByRecursion (IsEndAt (t + k)) h.accounts

linked-pushed : (h : History) (e : Entry) → h.last < e.timestamp → AreLinked h → AreLinked (pushed h e)
linked-pushed h e later linked = record {
  past =
      AllByRecursion_push _ h.entries e
      (AllByRecursion-weaker _ _ (λ x is. omega (arith, is, later)) h.entries linked.past) (omega arith);
  links =
      AllByRecursion-weaker _ _ (λ o is link.
      let early = (is link).0 in (
        omega (arith, early, later),
        AllByRecursion_push _ h.entries e (is link).1 (λ same. omega (arith, same, early, later)),
      )) h.accounts linked.links;
  few = linked.few;
}

linked-timed : (h : History) (t : ℕ) → h.last ≤ t → AreLinked h → AreLinked (timed h t)
linked-timed h t later linked = record {
  past = AllByRecursion-weaker _ _ (λ x is. omega (arith, is, later)) h.entries linked.past;
  links =
      AllByRecursion-weaker _ _
      (λ o is link. let early = (is link).0 in (omega (arith, early, later), (is link).1)) h.accounts linked.links;
  few = linked.few;
}

-- ---- a chain of accounts, which began at this timestamp

-- a linked account of the history, before the timestamp t, may be the last one only within a chain
record IsLink (s t : ℕ) (within : Bool) (es : List Entry) (o : Opened) : Type 0 where
  early : o.timestamp < t
  other : o.timestamp + 1 ≢ s
  free : IsFreeAfter es o
  done : within ≡ false → o.timestamp + 1 < t

record IsChained (s t : ℕ) (within : Bool) (g : History) : Type 0 where
  entries : AllByRecursion (λ e. e.timestamp < s) g.entries
  links : AllByRecursion (λ o. is_linked_account o.request ≡ true → IsLink s t within g.entries o) g.accounts
  few : (u : ℕ) → (k : ℕ) × (k < BATCH_ITEMS) × AllByRecursion (λ o. o.timestamp < s → IsEndAt (u + k) o) g.accounts
  last : s < t → g.last + 1 ≡ t

chained-start : (h : History) (s : ℕ) → h.last < s → AreLinked h → IsChained s s false h
chained-start h s later linked = record {
  entries = AllByRecursion-weaker _ _ (λ x is. omega (arith, is, later)) h.entries linked.past;
  links =
      AllByRecursion-weaker _ _ (λ o is link.
      let early = (is link).0 in
      record {
        early = omega (arith, early, later);
        other = λ same. omega (arith, same, early, later);
        free = (is link).1;
        done = λ no. omega (arith, early, later);
      }) h.accounts linked.links;
  few = λ u.
      let one = linked.few u in (
        one.0,
        one.1,
        AllByRecursion-weaker _ _ (λ o is before. is) h.accounts one.2,
      );
  last = λ no. absurd (let none : ⊥ = omega (arith, no) in none);
}

chained-taken : (s t : ℕ) (within : Bool) (g : History) (a : NewAccount) → s ≤ t → IsChained s t within g
    → IsChained s (t + 1) (is_linked_account a) (with_account g (opened_by a t))
chained-taken s t within g a from chained = record {
  entries = chained.entries;
  links =
      AllByRecursion_push _ g.accounts (opened_by a t) (AllByRecursion-weaker _ _ (λ o is link.
      let early = (is link).early in
      record {
        early = omega (arith, early);
        other = (is link).other;
        free = (is link).free;
        done = λ no. omega (arith, early);
      }) g.accounts chained.links)
      (λ link. record {
        early = omega arith;
        other = λ same. omega (arith, same, from);
        free = AllByRecursion-weaker _ _ (λ e before same. omega (arith, before, same, from)) g.entries chained.entries;
        done = λ no. absurd (false≢true (sym no ∙ link));
      });
  few = λ u.
      let one = chained.few u in (
        one.0,
        one.1,
        AllByRecursion_push _ g.accounts (opened_by a t) one.2
            (λ before. absurd (let no : ⊥ = omega (arith, before, from) in no)),
      );
  last = λ later. refl;
}

-- a chain that is taken
chained-played : (s t : ℕ) (within : Bool) (g : History) (chain : List NewAccount) → s ≤ t → IsChained s t within g
    → (is_none_left chain ≡ true → within ≡ false)
    → IfSome (played account_rules g t chain).1 (IsChained s (t + length chain) false)
chained-played s t within g [] from chained ends =
    subst (λ n. IsChained s n false g) (let same : t ≡ t + 0 = omega arith in same)
    (subst (λ b. IsChained s t b g) (ends refl) chained)
chained-played s t within g (a ∷ rest) from chained ends =
    by (refused_in_chain account_rules g a (is_none_left rest) t) refl
    (λ own. chained-played s (t + 1) (is_linked_account a) (with_account g (opened_by a t)) rest (omega (arith, from))
    (chained-taken s t within g a from chained) own)
  where
    parts : (b c : Bool) (u : AccountResult) (o : Option AccountResult) → (if b && c then Some u else o) ≡ None
        → c ≡ true → b ≡ false
    parts b c u o none is = grind arith

    by : (o : Option AccountResult) → refused_in_chain account_rules g a (is_none_left rest) t ≡ o
        → ((is_none_left rest ≡ true → is_linked_account a ≡ false)
        → IfSome (played account_rules (with_account g (opened_by a t)) (t + 1) rest).1
        (IsChained s (t + 1 + length rest) false))
        → IfSome
        (before_others account_rules o rest
        (played account_rules (with_account g (opened_by a t)) (t + 1) rest)).1
        (IsChained s (t + length (a ∷ rest)) false)
    by o is more = grind arith

-- a chain is done
chained-done : (s n : ℕ) (g : History) → 0 < n → n ≤ BATCH_ITEMS → IsChained s (s + n) false g → AreLinked g
chained-done s n g some most chained =
    let at_end : g.last + 1 ≡ s + n = chained.last (omega (arith, some)) in
    record {
      past = AllByRecursion-weaker _ _ (λ e is. omega (arith, is, at_end, some)) g.entries chained.entries;
      links =
          AllByRecursion-weaker _ _ (λ o is link.
          let done = (is link).done refl in (omega (arith, done, at_end), (is link).free)) g.accounts chained.links;
      few = λ t. room t (nat_lt t s) refl (nat_lt t (s + n)) refl;
    }
  where
    -- no linked account has such a timestamp
    none_at : (t : ℕ) → ((o : Opened) → IsLink s (s + n) false g.entries o → o.timestamp ≢ t)
        → AllByRecursion (IsEndAt t) g.accounts
    none_at t never =
        AllByRecursion-weaker _ _
        (λ o is time. by o is time (is_linked_account o.request) refl) g.accounts chained.links
      where
        by : (o : Opened) → (is_linked_account o.request ≡ true → IsLink s (s + n) false g.entries o)
            → o.timestamp ≡ t → (b : Bool) → is_linked_account o.request ≡ b → is_linked_account o.request ≡ false
        by o is time true link = absurd (never o (is link) time)
        by o is time false link = link

    before : (t k : ℕ) → k < BATCH_ITEMS → t < s
        → AllByRecursion (λ o. o.timestamp < s → IsEndAt (t + k) o) g.accounts
        → (b : Bool) → nat_lt (t + k) s ≡ b
        → (k : ℕ) × (k < BATCH_ITEMS) × AllByRecursion (IsEndAt (t + k)) g.accounts
    before t k less early ones true is =
        let it = ltb-true _ _ is in (
          k,
          less,
          AllByRecursion-weaker _ _ (λ o is_end time. is_end (omega (arith, time, it)) time) g.accounts ones,
        )
    before t k less early ones false is =
        let it = ltb-false _ _ is in (
          s - 1 - t,
          omega (arith, it, less, early),
          none_at (t + (s - 1 - t)) (λ o link time. link.other (omega (arith, time, early))),
        )

    room : (t : ℕ) → (b : Bool) → nat_lt t s ≡ b → (c : Bool) → nat_lt t (s + n) ≡ c
        → (k : ℕ) × (k < BATCH_ITEMS) × AllByRecursion (IsEndAt (t + k)) g.accounts
    room t true is c also =
        let one = chained.few t in
        before t one.0 one.1 (ltb-true t s is) one.2 (nat_lt (t + one.0) s) refl
    room t false is true also =
        let from = ltb-false _ _ is in
        let to = ltb-true _ _ also in (
          s + n - 1 - t,
          omega (arith, from, to, most),
          none_at (t + (s + n - 1 - t)) (λ o link time. let done = link.done refl in omega (arith, time, done, to)),
        )
    room t false is false also =
        let to = ltb-false t (s + n) also in
        (0, omega arith, none_at (t + 0) (λ o link time. let early = link.early in omega (arith, time, early, to)))

linked-chain : (h : History) (t : ℕ) (chain : List NewAccount) → AreLinked h → h.last < t
    → length chain ≤ BATCH_ITEMS → AreLinked (history_after account_rules h t chain)
linked-chain h t [] linked later most = linked
linked-chain h t (a ∷ rest) linked later most =
    by (played account_rules h t (a ∷ rest)).1
    (chained-played t t false h (a ∷ rest) (omega arith) (chained-start h t later linked) (λ is. refl))
  where
    by : (o : Option History) → IfSome o (IsChained t (t + length (a ∷ rest)) false)
        → AreLinked (unwrap_or o (timed h (t + length (a ∷ rest) - 1)))
    by None is = linked-timed h (t + length (a ∷ rest) - 1) (omega (arith, later)) linked
    by (Some g) is = chained-done t (length (a ∷ rest)) g (omega arith) most is

linked-chains : (h : History) (t : ℕ) (chains : List (List NewAccount)) → AreLinked h → h.last < t
    → total chains ≤ BATCH_ITEMS → AreLinked (chains_from account_rules h t chains).1
linked-chains h t [] linked later most = linked
linked-chains h t (chain ∷ chains) linked later most =
    linked-chains (history_after account_rules h t chain) (t + length chain) chains
    (linked-chain h t chain linked later (omega (arith, most)))
    (history_after-later account_rules (λ g a n. refl) h t chain later) (omega (arith, most))

-- ---- batches

linked-expiries : (h : History) (t : ℕ) (ps : List Transfer) → AreLinked h → h.last < t
    → AreLinked (expiries_from h t ps)
linked-expiries h t [] linked later = linked
linked-expiries h t (p ∷ ps) linked later =
    linked-expiries (pushed h (expiry p t)) (t + 1) ps (linked-pushed h (expiry p t) later linked) (omega arith)

linked-submit : (h : History) (b : Batch) (answer : BatchResults × History) → AreLinked h → submit h b ≡ Ok answer
    → AreLinked answer.1
linked-submit h (batch.Accounts now items) answer linked e =
    let parts = submit_parts h (batch.Accounts now items) answer e in
    let all = total-chains_of is_linked_account items in
    let most = ltb-false BATCH_ITEMS (length items) (not_large h (batch.Accounts now items) answer e) in
    subst (λ (a : BatchResults × History). AreLinked a.1) parts.1
    (linked-chains h (base h now) (chains_of is_linked_account items) linked (after_last h now)
    (omega (arith, all, most)))
linked-submit h (batch.Transfers now items) answer linked e =
    let parts = submit_parts h (batch.Transfers now items) answer e in
    subst (λ (a : BatchResults × History). AreLinked a.1) parts.1
    (items_from-keeps transfer_rules AreLinked (λ n. Unit {0})
    (λ g r n so_far later within none. linked-pushed g (entry_of g r n) later so_far)
    (λ g n so_far later within. linked-timed g n (omega (arith, later)) so_far) (λ g r n. refl) h (base h now) items
    linked (after_last h now) (λ n from below. tt))
linked-submit h (batch.Pulse now) answer linked e =
    let parts = submit_parts h (batch.Pulse now) answer e in
    subst (λ (a : BatchResults × History). AreLinked a.1) parts.1
    (linked-expiries h (base h now) (due h now) linked (after_last h now))

linked-or : (h : History) (b : Batch) (r : Result (BatchResults × History) BatchError) → submit h b ≡ r → AreLinked h
    → AreLinked (history_or h r)
linked-or h b (Ok answer) e linked = linked-submit h b answer linked e
linked-or h b (Err error) e linked = linked

linked-batches : (h : History) (bs : List Batch) → AreLinked h → AreLinked (after_batches h bs)
linked-batches h [] linked = linked
linked-batches h (b ∷ bs) linked =
    linked-batches (history_or h (submit h b)) bs (linked-or h b (submit h b) refl linked)

linked-closed : (h : History) (closed : Bool) → AreLinked h → AreLinked (record h { closed = closed })
linked-closed h closed linked = record { past = linked.past; links = linked.links; few = linked.few }

pub linked_by_legal : (h : History) → IsLegal h → AreLinked h
linked_by_legal h legal =
    let before : History = after_batches empty_history legal.batches in
    subst AreLinked (sym legal.made)
    (linked-closed before (legal.close || before.closed)
    (linked-batches empty_history legal.batches (record {
      past = tt;
      links = tt;
      few = λ t. (0, omega arith, tt);
    })))

-- ---- what events show

-- what holds of each account holds of one that is there
opened_has : (h : History) (P : Opened → Type 0) (id : ℕ) → AllByRecursion P h.accounts → IsSome (opened h id)
    → P (account_of h id)
opened_has h P id all there = (find_all _ _ _ _ all (account_is h id there)).1

-- and so of each one that is shown
shown_have : (h : History) (P : Opened → Type 0) (R : ℕ × FixedFields → Type 0)
    → ((o : Opened) (ledger : ℕ) (sums : Balances) → P o → R (o.request.id, fixed_fields ledger (shown_account o sums)))
    → AllByRecursion P h.accounts → (es : List Entry) → AllByRecursion (HasAccounts h) es
    → AllByRecursion R (flat_map accounts_of (map (event_of h) es))
shown_have h P R gives all [] known = tt
shown_have h P R gives all (e ∷ es) known = (
  gives (account_of h e.transfer.debit_account_id) e.transfer.ledger
      (balances h e.transfer.debit_account_id e.timestamp)
      (opened_has h P e.transfer.debit_account_id all known.0.0),
  (
    gives (account_of h e.transfer.credit_account_id) e.transfer.ledger
        (balances h e.transfer.credit_account_id e.timestamp)
        (opened_has h P e.transfer.credit_account_id all known.0.1),
    shown_have h P R gives all es known.1,
  ),
)

-- no event comes right after a linked account
pub next_free : (h : History) → IsSound h → AreLinked h
    → AllByRecursion (NextIsFree (events h)) (accounts_in (events h))
next_free h sound linked =
    shown_have h (λ o. is_linked_account o.request ≡ true → (o.timestamp < h.last) × IsFreeAfter h.entries o)
    (NextIsFree (events h)) (λ o ledger sums is link. all_images h _ h.entries (is link).1) linked.links
    h.entries sound.known

-- and a batch has room for each chain of accounts
pub accounts_room : (h : History) → IsSound h → AreLinked h → AccountsHaveRoom (events h)
accounts_room h sound linked t =
    let one = linked.few t in (
      one.0,
      one.1,
      shown_have h (IsEndAt (t + one.0)) (λ a. a.1.timestamp ≡ t + one.0 → IsUnlinked a) (λ o ledger sums is. is) one.2
          h.entries sound.known,
    )
