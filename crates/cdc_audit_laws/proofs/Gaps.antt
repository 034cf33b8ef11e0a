-- Accepted events come right after no linked account, and a batch has room for each chain of them and of accounts.
use Rattle.std.proofs.Common.{◌≡◌, inl, inr, ℕ, ◌+◌, ◌-◌, ◌<◌, ◌≤◌, Bool, true, false, List, [], ◌∷◌, ◌++◌, Option, Some, None, is_none, is_some, if◌then◌else◌, refl, sym, ap, ◌∙◌, subst, append_assoc, append-nil, arith, ◌==◌, ◌&&◌, ◌||◌, nat_eq, nat_lt}
use Rattle.cdc_audit_laws.proofs.OfStd.{AllByRecursion, and_from, and_parts, eqb-false, eqb-true, ltb-false, ltb-true, lt-ltb, not-false, option_or, or_parts}
use Rattle.std.proofs.lemmas.Bool.{le-leb}
use Rattle.cdc_audit_laws.proofs.OfTypes.{BATCH_ITEMS, TIMESTAMP, Event, EventAccount, has_flag, EventFits}
use Rattle.cdc_audit_laws.proofs.OfLedger.{AllByRecursion-weaker, AllByRecursion_push}
use Rattle.cdc_audit_laws.proofs.OfAudit.{FixedFields, account_at, accounts_before, accounts_before-fields, accounts_before-push, can_link, chain_length, fields_before, fields_lines, fixed_fields, follows_on, has_time, is_accepted, is_link, is_link_at, is_linked, links_before, links_known, links_of, run_down, run_up, shows_link, times_of}
use Rattle.cdc_types.specs.declared.accounts.TheConstants.AccountFlags.{LINKED}
use Rattle.cdc_audit_laws.proofs.Premises.{CanBeMade, HaveRoom, IsUnlinked, NextIsFree, accounts_in}
use Rattle.cdc_audit_laws.proofs.Alone.{none_at}
use Rattle.cdc_audit_laws.proofs.Cases.{either}
use Rattle.cdc_audit_laws.proofs.Following.{CanFollow, FixedParts, NoneApplies, fixed_parts}
use Rattle.cdc_audit_laws.proofs.Known.{IsKnown, all_known, found_has, none_differs, then_known}
use Rattle.cdc_audit_laws.proofs.Modes.{run_from-push}
use Rattle.cdc_audit_laws.proofs.Openings.{AreCreated, are_created}
use Rattle.cdc_audit_laws.proofs.Rooms.{HasRoomAt, IsElsewhere, LinksFit, all_elsewhere, none_elsewhere, shown_all}
use Rattle.cdc_audit_laws.proofs.Runs.{run_down-least, run_up-least, run_up-stop, run_up-true}
use Rattle.cdc_audit_laws.proofs.Streams.{first_follows, first_room}

-- no event comes right after a linked account that the events show
abbrev AreFree : List Event → Type 0
AreFree past = (a : ℕ × FixedFields) → IsKnown past a → NextIsFree past a

-- of as many timestamps as a batch has room for, one isn't that of a linked account that the events show
abbrev HaveGaps : List Event → Type 0
HaveGaps past = (t : ℕ) → (k : ℕ) × (k < BATCH_ITEMS) × (account_at (links_of (accounts_before past)) (t + k) ≡ None)

-- what holds of each account that events show holds of one that is known
known_has : (P : ℕ × FixedFields → Type 0) (past : List Event) (a : ℕ × FixedFields)
    → AllByRecursion P (accounts_before past) → IsKnown past a → P a
known_has P past a all known = found_has P (accounts_before past) a all (accounts_before-fields past a.0 ∙ known)

-- ---- one more event
module _ (past : List Event) (e : Event) (can : CanFollow past e) (room : HasRoomAt past e) where
  parts : FixedParts past e
  parts = fixed_parts past e can.fixed

  created : AreCreated e
  created = are_created past e can

  within : e.timestamp ≤ TIMESTAMP
  within = ltb-false TIMESTAMP e.timestamp can.within

  -- a known account of the event has the fields that it had before
  same_before : (x : EventAccount) (f : FixedFields)
      → NoneApplies (fields_lines (fields_before past x.id) e.ledger x) → fields_before past x.id ≡ Some f
      → IsKnown past (x.id, fixed_fields e.ledger x)
  same_before x f none found = found ∙ ap Some (sym (by (fields_before past x.id) found none))
    where
      by : (o : Option FixedFields) → o ≡ Some f → NoneApplies (fields_lines o e.ledger x)
          → fixed_fields e.ledger x ≡ f
      by None is none = cc
      by (Some g) is none =
          let same : g ≡ f = cc in none_differs x.id (fixed_fields e.ledger x) g none ∙ same

  -- an account that no event before shows is checked
  is_checked : (x : EventAccount) → fields_before past x.id ≡ None → has_flag x.flags LINKED ≡ true
      → x.timestamp < e.timestamp → (can_link x e.timestamp && is_none (fields_before past x.id)) ≡ true
  is_checked x unknown linked earlier =
      and_from _ _ (and_from _ _ linked (and_from _ _ (lt-ltb x.timestamp e.timestamp earlier)
      (le-leb e.timestamp TIMESTAMP within))) (ap is_none unknown)

  -- ---- no event comes right after a linked account
  after_none : AllByRecursion (IsElsewhere (e.timestamp - 1)) (accounts_before past)
  after_none = all_elsewhere (e.timestamp - 1) (accounts_before past) room.after

  new_free : (x : EventAccount) → LinksFit past e x → fields_before past x.id ≡ None → x.timestamp < e.timestamp
      → NextIsFree (past ++ e ∷ []) (x.id, fixed_fields e.ledger x)
  new_free x fit unknown earlier linked =
      let tests = or_parts _ _ fit.free in
      let none : has_time (times_of past) (x.timestamp + 1) ≡ false =
      subst (λ b. (links_known b (times_of past) (is_link_at (accounts_before past) e) x.timestamp).to_event ≡ false)
      (is_checked x unknown linked earlier) tests.0 in
      AllByRecursion_push _ past e (none_at (x.timestamp + 1) past none)
      (eqb-false e.timestamp (x.timestamp + 1) (sym (ap (λ b. b && (e.timestamp == x.timestamp + 1)) linked) ∙ tests.1))

  old_free : AreFree past → (a : ℕ × FixedFields) → IsKnown past a → NextIsFree (past ++ e ∷ []) a
  old_free free a known linked =
      let elsewhere = known_has (IsElsewhere (e.timestamp - 1)) past a after_none known linked in
      AllByRecursion_push _ past e (free a known linked) (λ same. elsewhere (omega (arith, same)))

  one_free : AreFree past → (x : EventAccount) → LinksFit past e x → x.timestamp < e.timestamp
      → NoneApplies (fields_lines (fields_before past x.id) e.ledger x)
      → NextIsFree (past ++ e ∷ []) (x.id, fixed_fields e.ledger x)
  one_free free x fit earlier none = by (fields_before past x.id) refl
    where
      by : (o : Option FixedFields) → fields_before past x.id ≡ o
          → NextIsFree (past ++ e ∷ []) (x.id, fixed_fields e.ledger x)
      by None is = new_free x fit is earlier
      by (Some f) is = old_free free (x.id, fixed_fields e.ledger x) (same_before x f none is)

  free_then : AreFree past → AreFree (past ++ e ∷ [])
  free_then free a found =
      by (fields_before past a.0) refl (nat_eq a.0 e.debit_account.id) refl (nat_eq a.0 e.credit_account.id) refl
      (sym (then_known past e can a.0) ∙ found)
    where
      by : (o : Option FixedFields) → fields_before past a.0 ≡ o → (one : Bool)
          → nat_eq a.0 e.debit_account.id ≡ one → (other : Bool) → nat_eq a.0 e.credit_account.id ≡ other
          → option_or o (if one then Some (fixed_fields e.ledger e.debit_account)
          else if other then Some (fixed_fields e.ledger e.credit_account) else None) ≡ Some a.1
          → NextIsFree (past ++ e ∷ []) a
      by (Some x) known one one_is other other_is found = old_free free a (known ∙ found)
      by None unknown true one_is other other_is found =
          let id = eqb-true a.0 e.debit_account.id one_is in
          let is : fixed_fields e.ledger e.debit_account ≡ a.1 = cc in
          subst (λ f. NextIsFree (past ++ e ∷ []) (a.0, f)) is
          (subst (λ n. NextIsFree (past ++ e ∷ []) (n, fixed_fields e.ledger e.debit_account)) (sym id)
          (one_free free e.debit_account room.debit created.debit parts.debit))
      by None unknown false one_is true other_is found =
          let id = eqb-true a.0 e.credit_account.id other_is in
          let is : fixed_fields e.ledger e.credit_account ≡ a.1 = cc in
          subst (λ f. NextIsFree (past ++ e ∷ []) (a.0, f)) is
          (subst (λ n. NextIsFree (past ++ e ∷ []) (n, fixed_fields e.ledger e.credit_account)) (sym id)
          (one_free free e.credit_account room.credit created.credit parts.credit))
      by None unknown false one_is false other_is found = cc

  -- ---- a batch has room for linked accounts in a row
  abbrev test : ℕ → Bool
  test = is_link_at (accounts_before past) e

  -- a timestamp that doesn't pass is that of no linked account
  unseen_then : (t : ℕ) → test t ≡ false
      → account_at (links_of (accounts_before (past ++ e ∷ []))) t ≡ None
  unseen_then t fails =
      let first = or_parts _ _ fails in
      let second = or_parts _ _ first.1 in
      ap (λ those. account_at (links_of those) t) (accounts_before-push past e)
      ∙ none_elsewhere t _ (shown_all (IsElsewhere t) _ (e.credit_account.id, fixed_fields e.ledger e.credit_account)
      (shown_all (IsElsewhere t) (accounts_before past) (e.debit_account.id, fixed_fields e.ledger e.debit_account)
      (all_elsewhere t (accounts_before past) (no_account _ first.0)) (apart e.debit_account second.0))
      (apart e.credit_account second.1))
    where
      no_account : (o : Option ℕ) → is_some o ≡ false → o ≡ None
      no_account None is = refl
      no_account (Some id) is = cc

      apart : (x : EventAccount) → shows_link x t ≡ false → IsElsewhere t (x.id, fixed_fields e.ledger x)
      apart x none linked =
          eqb-false x.timestamp t (sym (ap (λ b. b && (x.timestamp == t)) linked) ∙ none)

  -- as many timestamps in a row can't all pass: one of them is new
  too_many : (t k : ℕ) → k < BATCH_ITEMS → ((j : ℕ) → j < BATCH_ITEMS → test (t + j) ≡ true)
      → (x : EventAccount) → LinksFit past e x → fields_before past x.id ≡ None → x.timestamp < e.timestamp
      → shows_link x (t + k) ≡ true → ⊥
  too_many t k less all x fit unknown earlier shows =
      let both = and_parts (has_flag x.flags LINKED) (x.timestamp == t + k) shows in
      let at : x.timestamp ≡ t + k = eqb-true x.timestamp (t + k) both.1 in
      let down : k + 1 ≤ run_down test BATCH_ITEMS x.timestamp = run_down-least test BATCH_ITEMS x.timestamp (k + 1)
      (λ j before. subst (λ n. test n ≡ true)
      (let same : t + (k - j) ≡ x.timestamp - j = omega (arith, at, before) in same)
      (all (k - j) (omega (arith, less)))) (omega (arith, less)) in
      let up : BATCH_ITEMS - (k + 1) ≤ run_up test BATCH_ITEMS (x.timestamp + 1) =
      run_up-least test BATCH_ITEMS (x.timestamp + 1) (BATCH_ITEMS - (k + 1))
      (λ j before. subst (λ n. test n ≡ true)
      (let same : t + (k + 1 + j) ≡ x.timestamp + 1 + j = omega (arith, at) in same)
      (all (k + 1 + j) (omega (arith, before, less)))) (omega arith) in
      let length_is : (links_before past e x).length
      ≡ run_down test BATCH_ITEMS x.timestamp + run_up test BATCH_ITEMS (x.timestamp + 1) =
      ap (λ b. (links_known b (times_of past) test x.timestamp).length) (is_checked x unknown both.0 earlier) in
      let few : (links_before past e x).length < BATCH_ITEMS = ltb-true _ _ (not-false _ fit.few) in
      omega (arith, down, up, length_is, few, less)

  -- so neither account of the event is at this timestamp
  not_shown : (t k : ℕ) → k < BATCH_ITEMS → account_at (links_of (accounts_before past)) (t + k) ≡ None
      → ((j : ℕ) → j < BATCH_ITEMS → test (t + j) ≡ true) → (x : EventAccount) → LinksFit past e x
      → NoneApplies (fields_lines (fields_before past x.id) e.ledger x) → x.timestamp < e.timestamp
      → shows_link x (t + k) ≡ true → ⊥
  not_shown t k less gap all x fit none earlier shows = by (fields_before past x.id) refl
    where
      by : (o : Option FixedFields) → fields_before past x.id ≡ o → ⊥
      by None is = too_many t k less all x fit is earlier shows
      by (Some f) is =
          let both = and_parts _ _ shows in
          known_has (IsElsewhere (t + k)) past (x.id, fixed_fields e.ledger x)
          (all_elsewhere (t + k) (accounts_before past) gap) (same_before x f none is) both.0
          (eqb-true x.timestamp (t + k) both.1)

  not_all : HaveGaps past → (t : ℕ) → ((j : ℕ) → j < BATCH_ITEMS → test (t + j) ≡ true) → ⊥
  not_all gaps t all =
      let gap = gaps t in
      elim (either _ _ (sym (ap (λ (o : Option ℕ). is_some o || (shows_link e.debit_account (t + gap.0)
      || shows_link e.credit_account (t + gap.0))) gap.2) ∙ all gap.0 gap.1)) [
        | inl one ↦ not_shown t gap.0 gap.1 gap.2 all e.debit_account room.debit parts.debit created.debit one
        | inr other ↦ not_shown t gap.0 gap.1 gap.2 all e.credit_account room.credit parts.credit created.credit other
      ]

  gaps_then : HaveGaps past → HaveGaps (past ++ e ∷ [])
  gaps_then gaps t = by (nat_lt (run_up test BATCH_ITEMS t) BATCH_ITEMS) refl
    where
      by : (b : Bool) → nat_lt (run_up test BATCH_ITEMS t) BATCH_ITEMS ≡ b
          → (k : ℕ) × (k < BATCH_ITEMS)
          × (account_at (links_of (accounts_before (past ++ e ∷ []))) (t + k) ≡ None)
      by true is =
          let less = ltb-true _ _ is in
          (run_up test BATCH_ITEMS t, less, unseen_then _ (run_up-stop test BATCH_ITEMS t less))
      by false is =
          let most = ltb-false _ _ is in
          absurd (not_all gaps t (λ j less. run_up-true test BATCH_ITEMS t j (omega (arith, most, less))))

  -- ---- a batch has room for linked transfers in a row
  room_here : chain_length past < BATCH_ITEMS → chain_length (past ++ e ∷ []) < BATCH_ITEMS
  room_here few = by (is_linked e) refl
    where
      by : (b : Bool) → is_linked e ≡ b → chain_length (past ++ e ∷ []) < BATCH_ITEMS
      by true is =
          let long = ltb-false BATCH_ITEMS (chain_length past + 2)
          (sym (ap (λ b. b && nat_lt BATCH_ITEMS (chain_length past + 2)) is) ∙ room.long) in
          let same : chain_length (past ++ e ∷ []) ≡ chain_length past + 1 =
          run_from-push 0 past e ∙ ap (λ b. if b then chain_length past + 1 else 0) is in
          omega (arith, long, same)
      by false is =
          let same : chain_length (past ++ e ∷ []) ≡ 0 =
          run_from-push 0 past e ∙ ap (λ b. if b then chain_length past + 1 else 0) is in
          omega (arith, same)

-- ---- so it is after all that follow
record AreRoomy (past : List Event) : Type 0 where
  free : AreFree past
  gaps : HaveGaps past

all_roomy : (past rest : List Event) → follows_on past rest ≡ true → AreRoomy past → AreRoomy (past ++ rest)
all_roomy past [] follow roomy = subst AreRoomy (sym (append-nil past)) roomy
all_roomy past (e ∷ rest) follow roomy =
    let first = first_follows past e rest follow in
    let room = first_room past e rest follow in
    subst AreRoomy (append_assoc past (e ∷ []) rest)
    (all_roomy (past ++ e ∷ []) rest first.1 (record {
      free = free_then past e first.0 room roomy.free;
      gaps = gaps_then past e first.0 room roomy.gaps;
    }))

chains_have_room : (past rest : List Event) → follows_on past rest ≡ true → chain_length past < BATCH_ITEMS
    → HaveRoom (chain_length past) rest
chains_have_room past [] follow few = tt
chains_have_room past (e ∷ rest) follow few =
    let first = first_follows past e rest follow in
    let room = first_room past e rest follow in (
      few,
      subst (λ n. HaveRoom n rest) (run_from-push 0 past e)
          (chains_have_room (past ++ e ∷ []) rest first.1 (room_here past e first.0 room few)),
    )

-- so a ledger can make accepted events whose numbers fit
pub can_be_made : (events : List Event) → AllByRecursion EventFits events → is_accepted events ≡ true
    → CanBeMade events
can_be_made events fit accepted =
    let known = all_known [] events accepted tt in
    let roomy = all_roomy [] events accepted (record {
      free = λ a is. cc;
      gaps = λ t. (0, omega arith, refl);
    }) in
    record {
      fit = fit;
      next_free = AllByRecursion-weaker _ _ (λ a is. roomy.free a is) (accounts_in events) known;
      accounts_room = λ t.
          let gap = roomy.gaps t in (
            gap.0,
            gap.1,
            AllByRecursion-weaker _ _ (λ a is time. unlinked (t + gap.0) a
                (known_has (IsElsewhere (t + gap.0)) events a
                (all_elsewhere (t + gap.0) (accounts_before events) gap.2) is) time) (accounts_in events) known,
          );
      room = chains_have_room [] events accepted (omega arith);
    }
  where
    unlinked : (t : ℕ) (a : ℕ × FixedFields) → IsElsewhere t a → a.1.timestamp ≡ t → IsUnlinked a
    unlinked t a elsewhere time = by (is_link a) refl
      where
        by : (b : Bool) → is_link a ≡ b → is_link a ≡ false
        by true is = absurd (elsewhere is time)
        by false is = is
