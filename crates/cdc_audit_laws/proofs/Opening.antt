-- A ledger that opens accounts in the order of their timestamps, as a plan has them: each by itself, or in a chain.
use Rattle.std.proofs.Common.{◌≡◌, ◌⊎◌, inl, inr, ℕ, ◌+◌, ◌-◌, ◌<◌, ◌≤◌, Bool, true, false, List, ◌∷◌, Option, Some, None, is_some, refl, sym, ap, ap₂, ◌∙◌, subst, arith, ◌==◌, nat_eq, nat_lt, if◌then◌else◌}
use Rattle.cdc_audit_laws.proofs.OfStd.{AllByRecursion, lookup, option_or, eq-eqb, eqb-false, eqb-true, false≢true, ltb-false, ltb-true}
use Rattle.cdc_audit_laws.proofs.OfTypes.{BATCH_ITEMS, Event, is_linked_account, first_line, account_shape_lines, EventFits}
use Rattle.cdc_audit_laws.proofs.OfLedger.{balances, with_account, events, NewAccountFits, History, Opened, opened, IsSound, IsLegal, account_rules, account_refused, known_account_lines, balances_later, AllByRecursion-weaker, AllByRecursion_push, events-with_account, first_line-append_none, opened-with_account, opened-with_account_same, opened_id, IsSound-with_account, find_all}
use Rattle.cdc_audit_laws.proofs.OfAudit.{FixedFields, follows_on, balances_after, chain_length}
use Rattle.cdc_audit_laws.proofs.Premises.{HaveRoom, accounts_in}
use Rattle.cdc_audit_laws.proofs.Following.{CanFollow}
use Rattle.cdc_audit_laws.proofs.Ledgers.{fixed_of}
use Rattle.cdc_audit_laws.proofs.Modes.{IsInChain, IsInPulse, Mode, goes_on}
use Rattle.cdc_audit_laws.proofs.Openings.{IsOpenable, opening_of}
use Rattle.cdc_audit_laws.proofs.Running.{AccountsRunOn, accounts-legal, runs-done, runs-more, runs-taken}
use Rattle.cdc_audit_laws.proofs.Streams.{first_follows}
use Rattle.cdc_audit_laws.proofs.Plan.{Opens, Rises, Planned, events_in, events_later, opens_later}

module _ (all : List (ℕ × FixedFields)) where
  -- the account is the one that these show
  abbrev pub IsShown : Opened → Type 0
  IsShown o = lookup (nat_eq o.request.id) all ≡ Some (fixed_of o)

  -- of two such accounts of one id each is the other
  same_shown : (o p : Opened) → IsShown o → IsShown p → o.request.id ≡ p.request.id → o ≡ p
  same_shown o p o_is p_is same = grind arith

  -- what can be made: an account that is openable and known, or an event
  abbrev pub CanMake : Planned → Type 0
  CanMake (inl o) = IsOpenable o × IsShown o
  CanMake (inr e) = EventFits e

  -- an account of a history, up to this timestamp
  abbrev pub IsPast : ℕ → Opened → Type 0
  IsPast t o = IsShown o × (o.timestamp ≤ t)

  pub past_later : (s t : ℕ) (os : List Opened) → s ≤ t → AllByRecursion (IsPast s) os → AllByRecursion (IsPast t) os
  past_later s t os later past = AllByRecursion-weaker _ _ (λ o is. (is.0, omega (arith, is.1, later))) os past

  -- an account is opened, or will be
  abbrev pub IsReady : History → List Planned → ℕ × FixedFields → Type 0
  IsReady h rest a = (opened h a.0 ≡ Some (opening_of a)) ⊎ Opens (opening_of a) rest

  -- one of these accounts was created at this timestamp
  pub record IsThere (t : ℕ) : Type 0 where
    pub account : ℕ × FixedFields
    pub known : lookup (nat_eq account.0) all ≡ Some account.1
    pub time : account.1.timestamp ≡ t

  -- and it is linked to the next one
  pub record IsLinkedAt (t : ℕ) : Type 0 where
    pub is_there : IsThere t
    pub linked : is_linked_account (opening_of is_there.account).request ≡ true

  -- after each linked account the next one is there
  abbrev pub AreFollowed : Type 0
  AreFollowed = (a : ℕ × FixedFields) → lookup (nat_eq a.0) all ≡ Some a.1
      → is_linked_account (opening_of a).request ≡ true
      → IsThere (a.1.timestamp + 1)

  -- of as many timestamps as a batch has room for, one isn't that of a linked account
  abbrev pub AreFew : Type 0
  AreFew = (t : ℕ) → (k : ℕ) × (k < BATCH_ITEMS)
      × ((a : ℕ × FixedFields) → lookup (nat_eq a.0) all ≡ Some a.1 → a.1.timestamp ≡ t + k
      → is_linked_account (opening_of a).request ≡ false)

  -- before this timestamp a chain of accounts began, or none did: all accounts since then are linked
  pub record IsBegun (h : History) (t : ℕ) : Type 0 where
    pub start : ℕ
    pub before : start ≤ t
    pub runs : AccountsRunOn h t (t - start)
    pub linked : (u : ℕ) → start ≤ u → u < t → IsLinkedAt u

  -- within a chain of accounts
  pub record IsOpening (h : History) : Type 0 where
    pub begun : IsBegun h (h.last + 1)
    pub next : IsThere (h.last + 1)

  -- a batch has room for one more
  begun-room : (h : History) (t : ℕ) → AreFew → (begun : IsBegun h t) → t - begun.start < BATCH_ITEMS
  begun-room h t few begun =
      let one = few begun.start in
      by one.0 one.1 one.2 (nat_lt (begun.start + one.0) t) refl
    where
      by : (k : ℕ) → k < BATCH_ITEMS
          → ((a : ℕ × FixedFields) → lookup (nat_eq a.0) all ≡ Some a.1 → a.1.timestamp ≡ begun.start + k
          → is_linked_account (opening_of a).request ≡ false)
          → (b : Bool) → nat_lt (begun.start + k) t ≡ b → t - begun.start < BATCH_ITEMS
      by k few_one unlinked true is =
          let it = begun.linked (begun.start + k) (omega arith) (ltb-true (begun.start + k) t is) in
          absurd (false≢true (sym (unlinked it.is_there.account it.is_there.known it.is_there.time) ∙ it.linked))
      by k few_one unlinked false is =
          let most = ltb-false (begun.start + k) t is in omega (arith, most, few_one)

  -- what is known of a history, and of the rest of the plan
  pub record Goes (h : History) (rest : List Planned) : Type 0 where
    pub followed : AreFollowed
    pub few : AreFew
    pub all_ready : (a : ℕ × FixedFields) → lookup (nat_eq a.0) all ≡ Some a.1 → IsReady h rest a
    pub sound : IsSound h
    pub shown : (id : ℕ) → balances_after (events h) id ≡ balances h id h.last
    pub is_open : h.closed ≡ false
    pub rises : Rises h.last rest
    pub can : AllByRecursion CanMake rest
    pub past : AllByRecursion (IsPast h.last) h.accounts
    pub ready : AllByRecursion (IsReady h rest) (accounts_in (events_in rest))
    pub follow : follows_on (events h) (events_in rest) ≡ true
    pub room : HaveRoom (chain_length (events h)) (events_in rest)
    pub mode : Mode h ⊎ IsOpening h

  -- within a chain of accounts the next one is to come
  pub to_come : (h : History) (rest : List Planned) → Goes h rest → (opening : IsOpening h)
      → Opens (opening_of opening.next.account) rest
  to_come h rest goes opening = by (goes.all_ready opening.next.account opening.next.known)
    where
      by : IsReady h rest opening.next.account → Opens (opening_of opening.next.account) rest
      by (inl there) =
          let it = opening.next.account in
          let past : IsPast h.last (opening_of it) = (find_all _ _ _ _ goes.past there).1 in
          let time = opening.next.time in
          absurd (let no : ⊥ = omega (arith, past.1, time) in no)
      by (inr later) = later

  -- ---- an account is opened
  module _ (h : History) (o : Opened) (rest : List Planned) (goes : Goes h (inl o ∷ rest)) where
    abbrev pub with_one : History
    with_one = with_account h o

    is_new : opened h o.request.id ≡ None
    is_new = by (opened h o.request.id) refl
      where
        by : (found : Option Opened) → opened h o.request.id ≡ found → opened h o.request.id ≡ None
        by None is = is
        by (Some x) is =
            let has : IsPast h.last x =
            (find_all (λ (y : Opened). y.request.id == o.request.id) (IsPast h.last) h.accounts x goes.past is).1 in
            let same : x ≡ o = same_shown x o has.0 goes.can.0.1 (opened_id h x o.request.id is) in
            let time : x.timestamp ≡ o.timestamp = ap (λ (y : Opened). y.timestamp) same in
            let later : h.last < o.timestamp = goes.rises.0 in
            absurd (let no : ⊥ = omega (arith, time, has.1, later) in no)

    unrefused_one : account_refused h o.request ≡ None
    unrefused_one =
        first_line-append_none (account_shape_lines o.request) (known_account_lines (opened h o.request.id) o.request)
        goes.can.0.0.fields
        ∙ ap (λ x. first_line (known_account_lines x o.request)) is_new

    -- no chain and no pulse is on its way, if an event comes: it would be before the account is opened
    pub too_late : (e : Event) (es : List Event) → events_in rest ≡ e ∷ es → (IsInChain h ⊎ IsInPulse h) → ⊥
    too_late e es is on =
        let after : o.timestamp < e.timestamp = events_later o.timestamp rest e es goes.rises.1 is in
        let before : h.last < o.timestamp = goes.rises.0 in
        let can : CanFollow (events h) e =
        (first_follows (events h) e es (ap (follows_on (events h)) (sym is) ∙ goes.follow)).0 in
        let next = goes_on h e goes.sound on can in
        omega (arith, after, before, next)

    -- a chain of accounts is on its way, or begins
    pub begun_new : IsLegal h → IsBegun h o.timestamp
    begun_new legal = record {
      start = o.timestamp;
      before = omega arith;
      runs =
          runs-more account_rules NewAccountFits h o.timestamp (o.timestamp - o.timestamp)
          (accounts-legal h o.timestamp legal goes.is_open goes.rises.0);
      linked = λ u from to. absurd (let no : ⊥ = omega (arith, from, to) in no);
    }

    -- within one this account is the next one
    its_turn : IsOpening h → o.timestamp ≡ h.last + 1
    its_turn opening = by (to_come h (inl o ∷ rest) goes opening)
      where
        by : Opens (opening_of opening.next.account) (inl o ∷ rest) → o.timestamp ≡ h.last + 1
        by (inl same) = ap (λ (x : Opened). x.timestamp) same ∙ opening.next.time
        by (inr later) =
            let after : o.timestamp < opening.next.account.1.timestamp =
            opens_later o.timestamp (opening_of opening.next.account) rest goes.rises.1 later in
            let before : h.last < o.timestamp = goes.rises.0 in
            let time = opening.next.time in
            absurd (let no : ⊥ = omega (arith, after, before, time) in no)

    pub begun_before : IsOpening h → IsBegun h o.timestamp
    begun_before opening = subst (IsBegun h) (sym (its_turn opening)) opening.begun

    -- it ends the chain, or goes on with it
    mode_then : IsBegun h o.timestamp → Mode with_one ⊎ IsOpening with_one
    mode_then begun = by (is_linked_account o.request) refl
      where
        by : (b : Bool) → is_linked_account o.request ≡ b → Mode with_one ⊎ IsOpening with_one
        by false is =
            inl (inl (runs-done account_rules NewAccountFits h o.timestamp (o.timestamp - begun.start) o.request
            begun.runs (begun-room h o.timestamp goes.few begun) goes.can.0.0.within is unrefused_one
            goes.can.0.0.fits))
        by true is =
            let before = begun.before in
            let taken : AccountsRunOn with_one (o.timestamp + 1) (o.timestamp - begun.start + 1) =
            runs-taken account_rules NewAccountFits h o.timestamp (o.timestamp - begun.start) o.request begun.runs is
            unrefused_one goes.can.0.0.fits in
            inr (record {
              begun = record {
                start = begun.start;
                before = omega (arith, before);
                runs =
                    subst (AccountsRunOn with_one (o.timestamp + 1))
                    (let same : o.timestamp - begun.start + 1 ≡ o.timestamp + 1 - begun.start = omega (arith, before) in
                    same) taken;
                linked = λ u from to. since u from to is (u == o.timestamp) refl;
              };
              next = goes.followed (o.request.id, fixed_of o) goes.can.0.1 is;
            })
          where
            since : (u : ℕ) → begun.start ≤ u → u < o.timestamp + 1 → is_linked_account o.request ≡ true
                → (b : Bool) → (u == o.timestamp) ≡ b → IsLinkedAt u
            since u from to linked true same =
                record {
                  is_there = record {
                    account = (o.request.id, fixed_of o);
                    known = goes.can.0.1;
                    time = sym (eqb-true u o.timestamp same);
                  };
                  linked = linked;
                }
            since u from to linked false same =
                let other = eqb-false u o.timestamp same in
                begun.linked u from (omega (arith, other, to))

    -- it is found
    found_then : opened with_one o.request.id ≡ Some o
    found_then =
        opened-with_account h o o.request.id
        ∙ ap₂ (λ x b. option_or x (if b then Some o else None)) is_new (eq-eqb o.request.id o.request.id refl)

    ready_then : (a : ℕ × FixedFields) → IsReady h (inl o ∷ rest) a → IsReady with_one rest a
    ready_then a (inl there) =
        inl (opened-with_account_same h o a.0 (ap is_some there) ∙ there)
    ready_then a (inr (inl same)) =
        inl (ap (λ (x : Opened). opened with_one x.request.id) (sym same) ∙ found_then ∙ ap Some same)
    ready_then a (inr (inr later)) = inr later

    pub same_events : events with_one ≡ events h
    same_events = events-with_account h o goes.sound.known

    pub goes_then : IsBegun h o.timestamp → Goes with_one rest
    goes_then begun = record {
      followed = goes.followed;
      few = goes.few;
      all_ready = λ a known. ready_then a (goes.all_ready a known);
      sound =
          let later : h.last < o.timestamp = goes.rises.0 in
          IsSound-with_account h o goes.sound is_new (omega (arith, later)) goes.can.0.0.within;
      shown = λ id.
          let later : h.last < o.timestamp = goes.rises.0 in
          ap (λ es. balances_after es id) same_events ∙ goes.shown id
          ∙ sym (balances_later h id h.last o.timestamp goes.sound.past (omega (arith, later)));
      mode = mode_then begun;
      is_open = goes.is_open;
      rises = goes.rises.1;
      can = goes.can.1;
      past =
          let later : h.last < o.timestamp = goes.rises.0 in
          AllByRecursion_push _ h.accounts o (past_later h.last o.timestamp h.accounts (omega (arith, later)) goes.past)
          (goes.can.0.1, omega arith);
      ready = AllByRecursion-weaker _ _ ready_then (accounts_in (events_in rest)) goes.ready;
      follow = subst (λ es. follows_on es (events_in rest) ≡ true) (sym same_events) goes.follow;
      room = subst (λ es. HaveRoom (chain_length es) (events_in rest)) (sym same_events) goes.room;
    }
