-- The events of a ledger are accepted: each chain that one of them is in can have its next item.
use Rattle.std.proofs.Common.{◌≡◌, ◌≢◌, inl, inr, ℕ, ◌+◌, ◌-◌, ◌<◌, ◌≤◌, Bool, true, false, not, List, [], ◌∷◌, ◌++◌, Option, None, is_none, is_some, fold, if◌then◌else◌, refl, sym, ap, ◌∙◌, subst, append_assoc, arith, ◌==◌, ◌&&◌, ◌||◌, nat_le, nat_lt}
use Rattle.cdc_audit_laws.proofs.OfStd.{AllByRecursion, and_parts, eqb-true, false≢true, le-ltb, lt-ltb, ltb-false, ltb-true, ne_eqb, nat_tests, not_from_true}
use Rattle.cdc_audit_laws.proofs.OfTypes.{BATCH_ITEMS, TIMESTAMP, Event, EventAccount, has_flag, last_timestamp_from-push}
use Rattle.cdc_audit_laws.proofs.OfLedger.{AllByRecursion-weaker, History, IsLegal, IsSound-from_legal, events}
use Rattle.cdc_audit_laws.proofs.OfAudit.{FixedFields, account_at, accounts_before, can_link, chain_length, ends_in_chain, fields_before, fixed_fields, has_time, is_accepted, is_link_at, is_linked, links_known, links_of, linked_from, run_down, run_up, shows_link, times_of, with_shown}
use Rattle.cdc_types.specs.declared.accounts.TheConstants.AccountFlags.{LINKED}
use Rattle.cdc_audit_laws.specs.Laws.{LedgersAreAccepted}
use Rattle.cdc_audit_laws.proofs.Premises.{AccountsHaveRoom, HaveRoom, NextIsFree, accounts_in}
use Rattle.cdc_audit_laws.proofs.Cases.{and_unless, either}
use Rattle.cdc_audit_laws.proofs.Following.{CanFollow}
use Rattle.cdc_audit_laws.proofs.Known.{accounts_parts}
use Rattle.cdc_audit_laws.proofs.Ledgers.{auditable}
use Rattle.cdc_audit_laws.proofs.Links.{accounts_room, linked_by_legal, next_free}
use Rattle.cdc_audit_laws.proofs.Modes.{chain-push, run_from-push}
use Rattle.cdc_audit_laws.proofs.Openings.{AreCreated, are_created}
use Rattle.cdc_audit_laws.proofs.Rooms.{IsElsewhere, LinksFit, none_elsewhere, shown_all}
use Rattle.cdc_audit_laws.proofs.Runs.{run_down-true, run_up-true}
use Rattle.cdc_audit_laws.proofs.Streams.{FollowAll, HaveRoomAll, follow_all, prefixes_are_accepted}
use Rattle.cdc_audit_laws.proofs.Whole.{ledgers_events_are_whole, room_by_legal}

-- ---- accounts that events show

-- what holds of all accounts that events show holds of those that are kept
kept_all : (P : ℕ × FixedFields → Type 0) (those more : List (ℕ × FixedFields)) → AllByRecursion P those
    → AllByRecursion P more → AllByRecursion P (fold with_shown those more)
kept_all P those [] all others = all
kept_all P those (a ∷ more) all others =
    kept_all P (with_shown those a) more (shown_all P those a all others.0) others.1

before_all : (P : ℕ × FixedFields → Type 0) (past : List Event) → AllByRecursion P (accounts_in past)
    → AllByRecursion P (accounts_before past)
before_all P past all = kept_all P [] (accounts_in past) tt all

-- an event among others
events_parts : (P : Event → Type 0) (past : List Event) (e : Event) (rest : List Event)
    → AllByRecursion P (past ++ e ∷ rest) → AllByRecursion P past × P e
events_parts P [] e rest all = (tt, all.0)
events_parts P (x ∷ past) e rest all = let more = events_parts P past e rest all.1 in ((all.0, more.0), more.1)

no_time : (t : ℕ) (es : List Event) → AllByRecursion (λ x. x.timestamp ≢ t) es → has_time (times_of es) t ≡ false
no_time t [] none = refl
no_time t (x ∷ es) none =
    ap (λ b. b || has_time (times_of es) t) (ne_eqb x.timestamp t none.0) ∙ no_time t es none.1

-- ---- what all events of a ledger have

-- no event comes right after a linked account, a batch has room for linked accounts in a row, and each was created
-- after 0
record AreSpaced (events : List Event) : Type 0 where
  free : AllByRecursion (NextIsFree events) (accounts_in events)
  room : AccountsHaveRoom events
  some : AllByRecursion (λ a. 0 < a.1.timestamp) (accounts_in events)

-- so the rules hold of each of them
module _ (past : List Event) (e : Event) (rest : List Event) (spaced : AreSpaced (past ++ e ∷ rest))
    (can : CanFollow past e) where
  abbrev all : List Event
  all = past ++ e ∷ rest

  abbrev test : ℕ → Bool
  test = is_link_at (accounts_before past) e

  created : AreCreated e
  created = are_created past e can

  frees : AllByRecursion (NextIsFree all) (accounts_in past)
      × NextIsFree all (e.debit_account.id, fixed_fields e.ledger e.debit_account)
      × NextIsFree all (e.credit_account.id, fixed_fields e.ledger e.credit_account)
  frees = accounts_parts (NextIsFree all) past e rest spaced.free

  -- no linked account is right before the event
  no_after : account_at (links_of (accounts_before past)) (e.timestamp - 1) ≡ None
  no_after =
      none_elsewhere (e.timestamp - 1) (accounts_before past) (before_all _ past (AllByRecursion-weaker _ _
      (λ a free linked same.
      let later = can.later in
      (events_parts (λ x. x.timestamp ≢ a.1.timestamp + 1) past e rest (free linked)).1 (omega (arith, same, later)))
      (accounts_in past) frees.0))

  -- a timestamp that has no linked account doesn't pass
  fails : (t : ℕ) → AllByRecursion (IsElsewhere t) (accounts_in all) → test t ≡ true → ⊥
  fails t elsewhere passes =
      let parts = accounts_parts (IsElsewhere t) past e rest elsewhere in
      let none = none_elsewhere t (accounts_before past) (before_all _ past parts.0) in
      elim (either _ _ (sym (ap (λ (o : Option ℕ). is_some o
      || (shows_link e.debit_account t || shows_link e.credit_account t))
      none) ∙ passes)) [
        | inl one ↦ let both = and_parts _ _ one in parts.1 both.0 (eqb-true _ _ both.1)
        | inr other ↦ let both = and_parts _ _ other in parts.2 both.0 (eqb-true _ _ both.1)
      ]

  -- 0 has none
  not_zero : test 0 ≡ true → ⊥
  not_zero passes =
      fails 0 (AllByRecursion-weaker _ _ (λ a is linked same. omega (arith, is, same)) (accounts_in all) spaced.some)
      passes

  -- the linked accounts in a row that end with a timestamp, and those after it
  abbrev down : ℕ → ℕ
  down s = run_down test BATCH_ITEMS s

  abbrev up : ℕ → ℕ
  up s = run_up test BATCH_ITEMS (s + 1)

  -- the run down ends above 0
  above : (s : ℕ) → down s ≤ s
  above s = by (nat_lt s (down s)) refl
    where
      by : (b : Bool) → nat_lt s (down s) ≡ b → down s ≤ s
      by true is =
          absurd (not_zero (subst (λ n. test n ≡ true) (let same : s - s ≡ 0 = omega arith in same)
          (run_down-true test BATCH_ITEMS s s (ltb-true s (down s) is))))
      by false is = ltb-false s (down s) is

  -- each timestamp of both passes
  passes : (s k : ℕ) → k < BATCH_ITEMS → BATCH_ITEMS ≤ down s + up s → test (s + 1 - down s + k) ≡ true
  passes s k less most = by (nat_lt k (down s)) refl
    where
      by : (b : Bool) → nat_lt k (down s) ≡ b → test (s + 1 - down s + k) ≡ true
      by true is =
          let before = ltb-true k (down s) is in
          let low = above s in
          subst (λ n. test n ≡ true)
          (let same : s - (down s - 1 - k) ≡ s + 1 - down s + k = omega (arith, before, low) in same)
          (run_down-true test BATCH_ITEMS s (down s - 1 - k) (omega (arith, before)))
      by false is =
          let after = ltb-false k (down s) is in
          let low = above s in
          subst (λ n. test n ≡ true)
          (let same : s + 1 + (k - down s) ≡ s + 1 - down s + k = omega (arith, after, low) in same)
          (run_up-true test BATCH_ITEMS (s + 1) (k - down s) (omega (arith, after, less, most)))

  -- so they are fewer than a batch may have items
  few_around : (s : ℕ) → down s + up s < BATCH_ITEMS
  few_around s = by (nat_lt (down s + up s) BATCH_ITEMS) refl
    where
      by : (b : Bool) → nat_lt (down s + up s) BATCH_ITEMS ≡ b → down s + up s < BATCH_ITEMS
      by true is = ltb-true (down s + up s) BATCH_ITEMS is
      by false is =
          let most = ltb-false (down s + up s) BATCH_ITEMS is in
          let one = spaced.room (s + 1 - down s) in
          absurd (fails (s + 1 - down s + one.0) (AllByRecursion-weaker _ _ (λ a is linked time.
          false≢true (sym (is time) ∙ linked)) (accounts_in all) one.2) (passes s one.0 one.1 most))

  -- an account of the event keeps the rules
  links_fit : (x : EventAccount) → NextIsFree all (x.id, fixed_fields e.ledger x) → LinksFit past e x
  links_fit x free = by (can_link x e.timestamp && is_none (fields_before past x.id)) refl
    where
      -- this event isn't right after it
      not_this : (has_flag x.flags LINKED && (e.timestamp == x.timestamp + 1)) ≡ false
      not_this = of (has_flag x.flags LINKED) refl
        where
          of : (b : Bool) → has_flag x.flags LINKED ≡ b → (b && (e.timestamp == x.timestamp + 1)) ≡ false
          of true is = ne_eqb e.timestamp (x.timestamp + 1)
              (events_parts (λ y. y.timestamp ≢ x.timestamp + 1) past e rest (free is)).1
          of false is = refl

      by : (b : Bool) → (can_link x e.timestamp && is_none (fields_before past x.id)) ≡ b → LinksFit past e x
      by true is =
          let linked = (and_parts _ _ (and_parts _ _ is).0).0 in
          record {
            free =
                ap (λ b. (links_known b (times_of past) test x.timestamp).to_event
                || (has_flag x.flags LINKED && (e.timestamp == x.timestamp + 1))) is
                ∙ ap (λ b. b || (has_flag x.flags LINKED && (e.timestamp == x.timestamp + 1)))
                (no_time (x.timestamp + 1) past
                (events_parts (λ y. y.timestamp ≢ x.timestamp + 1) past e rest (free linked)).0) ∙ not_this;
            few = ap (λ b. not (nat_lt (links_known b (times_of past) test x.timestamp).length BATCH_ITEMS)) is
                ∙ not_from_true _ (lt-ltb _ _ (few_around x.timestamp));
          }
      by false is = record {
        free = ap (λ b. (links_known b (times_of past) test x.timestamp).to_event
            || (has_flag x.flags LINKED && (e.timestamp == x.timestamp + 1))) is ∙ not_this;
        few = ap (λ b. not (nat_lt (links_known b (times_of past) test x.timestamp).length BATCH_ITEMS)) is;
      }

-- an event that stores a linked transfer isn't the last one: a batch has room for the next one, which is in time
next_fits : (past : List Event) (e : Event) (rest : List Event) → HaveRoom (chain_length past) (e ∷ rest)
    → FollowAll past (e ∷ rest) → linked_from (is_linked e) rest ≡ false → is_linked e ≡ true
    → (chain_length past + 2 ≤ BATCH_ITEMS) × (e.timestamp < TIMESTAMP)
next_fits past e [] room follow ends linked = absurd (false≢true (sym ends ∙ linked))
next_fits past e (x ∷ rest) room follow ends linked =
    let next : HaveRoom (chain_length past + 1) (x ∷ rest) =
    subst (λ b. HaveRoom (if b then chain_length past + 1 else 0) (x ∷ rest)) linked room.1 in
    let fits = next.0 in
    let later = follow.1.0.later in
    let at = last_timestamp_from-push 0 past e in
    let within = ltb-false TIMESTAMP x.timestamp follow.1.0.within in
    (omega (arith, fits), omega (arith, later, at, within))

-- so the rules on it hold
own_fits : (past : List Event) (e : Event) (rest : List Event) → HaveRoom (chain_length past) (e ∷ rest)
    → FollowAll past (e ∷ rest) → linked_from (is_linked e) rest ≡ false
    → ((is_linked e && nat_lt BATCH_ITEMS (chain_length past + 2)) ≡ false)
    × ((is_linked e && nat_le TIMESTAMP e.timestamp) ≡ false)
own_fits past e rest room follow ends = (
  and_unless _ _ (λ is. le-ltb BATCH_ITEMS (chain_length past + 2) (next_fits past e rest room follow ends is).0),
  and_unless _ _ (λ is. lt-leb TIMESTAMP e.timestamp (next_fits past e rest room follow ends is).1),
)
  where
    lt-leb : (a b : ℕ) → b < a → nat_le a b ≡ false
    lt-leb a b less = grind (arith, nat_tests)

-- and so they hold of all events
roomy_events : (past rest : List Event) → AreSpaced (past ++ rest) → FollowAll past rest
    → HaveRoom (chain_length past) rest → linked_from (ends_in_chain past) rest ≡ false → HaveRoomAll past rest
roomy_events past [] spaced follow room ends = tt
roomy_events past (e ∷ rest) spaced follow room ends =
    let own = own_fits past e rest room follow ends in
    let can = follow.0 in
    let free = frees past e rest spaced can in (
      record {
        after = no_after past e rest spaced can;
        debit = links_fit past e rest spaced can e.debit_account free.1;
        credit = links_fit past e rest spaced can e.credit_account free.2;
        long = own.0;
        last = own.1;
      },
      roomy_events (past ++ e ∷ []) rest (subst AreSpaced (sym (append_assoc past (e ∷ []) rest)) spaced) follow.1
          (subst (λ n. HaveRoom n rest) (sym (run_from-push 0 past e)) room.1)
          (ap (λ b. linked_from b rest) (chain-push past e) ∙ ends),
    )

-- each account was created after 0
all_some : (past rest : List Event) → FollowAll past rest → AllByRecursion (λ a. 0 < a.1.timestamp) (accounts_in rest)
all_some past [] follow = tt
all_some past (e ∷ rest) follow =
    let created = are_created past e follow.0 in
    (created.debit_some, (created.credit_some, all_some (past ++ e ∷ []) rest follow.1))

-- ---- the law

accepted : (h : History) → IsLegal h → is_accepted (events h) ≡ true
accepted h legal =
    let follow = (auditable h legal).1.follow in
    let sound = IsSound-from_legal h legal in
    let linked = linked_by_legal h legal in
    follow_all [] (events h) follow (roomy_events [] (events h) (record {
      free = next_free h sound linked;
      room = accounts_room h sound linked;
      some = all_some [] (events h) follow;
    }) follow (room_by_legal h legal) (ledgers_events_are_whole h legal).chain)

-- so is each prefix of them
pub ledgers_are_accepted : LedgersAreAccepted
ledgers_are_accepted h count legal = prefixes_are_accepted (events h) count (accepted h legal)
