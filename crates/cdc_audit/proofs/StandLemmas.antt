-- An auditor's answer to an event, and what it stands for after it.
use Rattle.cdc_audit.proofs.Words.{AfterEnd, AreInOrder, AuditState, AuditorState, Bool, Err, Event, EventAccount, Facts, FixedFields, IfOk, IsFirst, IsKnownOf, KnownId, List, None, NotPending, Ok, OnErr, OnOk, Option, Refusal, Result, Settled, Some, StandsFor, Stored, [], account_lines, accounts_before, amount_in, ap, apart_lines, ap₂, arith, audited_event, balances_after, balances_lines, can_link, chain_length, chain_lines, cond, created_lines, ends_in_chain, entry_refusal, event_lines, event_refusal, expiry_lines, expiry_or, facts_of, false, fields_lines, fields_under, first_due, first_line, fixed_lines, held, holds, is_err, is_link_at, is_linked, is_none, is_settled, is_some, is_stored, kept_after, last_expiry, last_timestamp, length, length-append, limits_lines, lines, links_before, links_known, links_of_account, ltb-true, max_64, min, nat_le, nat_lt, nat_tests, next_audit, next_chain, next_state, not, nothing, open_under, option_or, order_lines, pending_amount, posted, refl, released, room_before, room_lines, room_of, settled_event, settled_id, settles, settling_lines, shape_lines, stored_under, stores, subst, sym, times_before, times_known, times_of_account, transfer_lines, true, unwrap_or, was_settled, with_accounts, with_event, with_held, with_own, with_settled, without_settled, ℕ, ◌&&◌, ◌++◌, ◌+◌, ◌==◌, ◌∙◌, ◌∷◌, ◌≡◌, ◌≤◌, ◌-◌, account_at, has_time, links_of, ltb-false, run_down, run_up}
use Rattle.cdc_audit.specs.Rules.{refusal_of}
use Rattle.cdc_audit.specs.declared.rooms.Links.{Links}
use Rattle.cdc_audit.specs.declared.rooms.Room.{Room}
use Rattle.cdc_types.specs.declared.accounts.Balances.{Balances}
use Rattle.cdc_types.specs.declared.bounds.TheConstants.Limits.{BATCH_ITEMS, TIMESTAMP}
use Rattle.cdc_types.proofs.Rising.{RiseFrom-push, last_timestamp_from-push}
use Rattle.cdc_ledger.specs.Accounts.{no_balances}
use Rattle.cdc_ledger.proofs.LineLaws.{first_line-append, first_line_append_none_parts}
use Rattle.cdc_message.specs.declared.items.Item.TheVariants as item
use Rattle.cdc_subscriber.specs.declared.book.BookEntry.{BookEntry}
use Rattle.cdc_subscriber.specs.Book.{balances_in}
use Rattle.cdc_subscriber.specs.SubscriberState.{SubscriberState}
use Rattle.cdc_subscriber.proofs.BookFinds.{balances_in-book_of}
use Rattle.cdc_subscriber.proofs.BookLemmas.{book_of-push}
use Rattle.cdc_follow.specs.declared.entries.Content.{Content}
use Rattle.cdc_follow.specs.declared.entries.Content.TheVariants as content
use Rattle.cdc_audit.specs.declared.apart.Times.{Times}
use Rattle.cdc_audit.specs.Rules as rules
use Rattle.cdc_audit.proofs.ApartLemmas.{accounts_before-fields, accounts_before-push, rising_in_order, times_of-push}
use Rattle.cdc_audit.proofs.FirstLemmas.{first_is}
use Rattle.cdc_audit.proofs.KnownLemmas.{chain_length-most, chain_length-push, chain_length-some, known-step, last_expiry_from-push, once-step, open_one-step}

-- the refusal by two parts of the lines
pub either_is : (both one other : Option Refusal) (first second : List (Bool × Refusal)) → both ≡ option_or one other
    → one ≡ first_line first → other ≡ first_line second → both ≡ first_line (first ++ second)
either_is both one other first second is one_is other_is =
    is ∙ ap (λ o. option_or o other) one_is ∙ ap (option_or (first_line first)) other_is
    ∙ sym (first_line-append first second)

-- seven parts of lines
abbrev seven : List (Bool × Refusal) → List (Bool × Refusal) → List (Bool × Refusal) → List (Bool × Refusal)
    → List (Bool × Refusal) → List (Bool × Refusal) → List (Bool × Refusal) → List (Bool × Refusal)
seven order shape fixed transfer settling limits balances =
    order ++ shape ++ fixed ++ transfer ++ settling ++ limits ++ balances

seven-same : (order order2 shape fixed fixed2 transfer transfer2 settling settling2 limits limits2 balances balances2
    : List (Bool × Refusal)) → order ≡ order2 → fixed ≡ fixed2 → transfer ≡ transfer2 → settling ≡ settling2
    → limits ≡ limits2 → balances ≡ balances2
    → seven order shape fixed transfer settling limits balances
    ≡ seven order2 shape fixed2 transfer2 settling2 limits2 balances2
seven-same order order2 shape fixed fixed2 transfer transfer2 settling settling2 limits limits2 balances balances2 p q r
    s t u = cc

-- if none of them applies, none of the first and of the fourth part does
two_of_seven : (order shape fixed transfer settling limits balances : List (Bool × Refusal))
    → first_line (seven order shape fixed transfer settling limits balances) ≡ None
    → (first_line order ≡ None) × (first_line transfer ≡ None)
two_of_seven order shape fixed transfer settling limits balances none =
    let six = first_line_append_none_parts (order ++ shape ++ fixed ++ transfer ++ settling ++ limits) balances none in
    let five = first_line_append_none_parts (order ++ shape ++ fixed ++ transfer ++ settling) limits six.0 in
    let four = first_line_append_none_parts (order ++ shape ++ fixed ++ transfer) settling five.0 in
    let three = first_line_append_none_parts (order ++ shape ++ fixed) transfer four.0 in
    let two = first_line_append_none_parts (order ++ shape) fixed three.0 in
    ((first_line_append_none_parts order shape two.0).0, three.1)

-- an event that no line on its order refuses is later than the last one, and has two accounts
in_order : (last : ℕ) (e : Event) → first_line (order_lines last e) ≡ None
    → (nat_lt last e.timestamp ≡ true) × ((e.debit_account.id == e.credit_account.id) ≡ false)
in_order last e =
    by (nat_lt last e.timestamp) (e.debit_account.id == e.credit_account.id) (nat_lt TIMESTAMP e.timestamp) _ _ _
  where
    by : (later one high : Bool) (r s t : Refusal)
        → cond (not later) (Some r) (cond one (Some s) (cond high (Some t) None)) ≡ None
        → (later ≡ true) × (one ≡ false)
    by true false high r s t is = (refl, refl)
    by true true high r s t is = cc
    by false one high r s t is = cc

-- and its timestamp is no greater than the greatest one
in_bounds : (last : ℕ) (e : Event) → first_line (order_lines last e) ≡ None → e.timestamp ≤ TIMESTAMP
in_bounds last e none =
    ltb-false TIMESTAMP e.timestamp
    (by (nat_lt last e.timestamp) (e.debit_account.id == e.credit_account.id) (nat_lt TIMESTAMP e.timestamp) _ _ _ none)
  where
    by : (later one high : Bool) (r s t : Refusal)
        → cond (not later) (Some r) (cond one (Some s) (cond high (Some t) None)) ≡ None → high ≡ false
    by true false false r s t is = refl
    by true false true r s t is = cc
    by true true high r s t is = cc
    by false one high r s t is = cc

-- and each test on its transfers fails if none of those lines refuses it
may_be_stored : (facts : Facts) (e : Event) → first_line (transfer_lines facts e) ≡ None
    → ((stores e.kind && is_some facts.own) ≡ false) × ((settles e.kind && is_none (amount_in facts.settled)) ≡ false)
    × ((settles e.kind && was_settled facts.settled) ≡ false)
may_be_stored facts e =
    by (stores e.kind && is_some facts.own) (settles e.kind && is_none (amount_in facts.settled))
    (settles e.kind && was_settled facts.settled) _ _ _
  where
    by : (known none was : Bool) (r s t : Refusal)
        → cond known (Some r) (cond none (Some s) (cond was (Some t) None)) ≡ None
        → (known ≡ false) × (none ≡ false) × (was ≡ false)
    by false false false r s t is = (refl, refl, refl)
    by false false true r s t is = cc
    by false true was r s t is = cc
    by true none was r s t is = cc

-- a test that doesn't count needs no look-up
guarded : (counts : Bool) (test : Option Stored → Bool) (known : Option Stored) (shown : Bool) → shown ≡ test known
    → (counts && test (cond counts known None)) ≡ (counts && shown)
guarded true test known shown is = sym is
guarded false test known shown is = refl

guarded_amount : (counts : Bool) (known : Option Stored) (shown : Option ℕ) → shown ≡ amount_in known
    → cond counts (unwrap_or (amount_in (cond counts known None)) 0) 0 ≡ cond counts (unwrap_or shown 0) 0
guarded_amount true known shown is = ap (λ o. unwrap_or o 0) (sym is)
guarded_amount false known shown is = refl

-- the balances that an auditor has of an account are those that the events show last
balances_known : (auditor : AuditorState) (state : AuditState) (id : ℕ) → StandsFor auditor state
    → unwrap_or (balances_in auditor.kept.book id) no_balances ≡ balances_after state.past id
balances_known auditor state id stands =
    ap (λ o. unwrap_or o no_balances)
    (ap (λ (kept : SubscriberState). balances_in kept.book id) stands.kept ∙ balances_in-book_of state.past id)

-- the lines on the transfers, by what the tests on them are
transfer-same : (e : Event) (known known2 none none2 was was2 : Bool) → known ≡ known2 → none ≡ none2 → was ≡ was2
    → (let lines : List (Bool × Refusal) =
    (known, KnownId e.transfer.id) ∷ (none, NotPending (settled_id e)) ∷ (was, Settled (settled_id e)) ∷ [] in lines)
    ≡ (known2, KnownId e.transfer.id) ∷ (none2, NotPending (settled_id e)) ∷ (was2, Settled (settled_id e)) ∷ []
transfer-same e known known2 none none2 was was2 p q r = cc

-- the lines on the balances, by what an event releases and by the balances before it
balances_at : Event → ℕ → Balances → Balances → List (Bool × Refusal)
balances_at e less debited credited =
    account_lines e.debit_account debited (record { posted = posted e; held = held e; released = less }) nothing
    ++ account_lines e.credit_account credited nothing
    (record { posted = posted e; held = held e; released = less })

balances_lines-at : (facts : Facts) (e : Event)
    → balances_lines facts e ≡ balances_at e (released facts e) facts.debited facts.credited
unfolding balances_at
balances_lines-at facts e = refl

rules-balances_lines-at : (past : List Event) (e : Event)
    → rules.balances_lines past e
    ≡ balances_at e (rules.released past e) (balances_after past e.debit_account.id)
    (balances_after past e.credit_account.id)
unfolding balances_at
rules-balances_lines-at past e = refl

balances_at-same : (e : Event) (less less2 : ℕ) (debited debited2 credited credited2 : Balances) → less ≡ less2
    → debited ≡ debited2 → credited ≡ credited2
    → balances_at e less debited credited ≡ balances_at e less2 debited2 credited2
balances_at-same e less less2 debited debited2 credited credited2 p q r = cc

-- what is known of an account's timestamp, by equal facts
known_same : (known known2 : Bool) (times times2 : List ℕ) (fields fields2 : List (ℕ × FixedFields)) (t : ℕ)
    → known ≡ known2 → times ≡ times2 → fields ≡ fields2
    → times_known known times fields t ≡ times_known known2 times2 fields2 t
known_same known known2 times times2 fields fields2 t p q r = cc

-- what an auditor knows of an account's timestamp is what the events show of it
times_same : (auditor : AuditorState) (state : AuditState) (a : EventAccount) → StandsFor auditor state
    → times_of_account auditor a ≡ times_before state.past a
times_same auditor state a stands =
    known_same _ _ _ _ _ _ a.timestamp (ap is_some (stands.fields a.id)) stands.times stands.shown

-- the timestamps that it has are in order
pub times_ordered : (auditor : AuditorState) (state : AuditState) → StandsFor auditor state
    → AreInOrder auditor.times
times_ordered auditor state stands =
    subst AreInOrder (sym stands.times) (rising_in_order 0 state.past stands.rising)

-- the lines on the accounts, by equal facts
fixed-same : (e : Event) (d d2 c c2 : Option FixedFields) (dt dt2 ct ct2 : Times) → d ≡ d2 → c ≡ c2 → dt ≡ dt2
    → ct ≡ ct2
    → fields_lines d e.ledger e.debit_account ++ fields_lines c e.ledger e.credit_account ++ created_lines e
    ++ apart_lines dt ct e
    ≡ fields_lines d2 e.ledger e.debit_account ++ fields_lines c2 e.ledger e.credit_account ++ created_lines e
    ++ apart_lines dt2 ct2 e
fixed-same e d d2 c c2 dt dt2 ct ct2 p q r s = cc

-- what is known of an account's links, by equal facts
links_same : (counts counts2 : Bool) (times times2 : List ℕ) (fields fields2 : List (ℕ × FixedFields)) (e : Event)
    (t : ℕ) → counts ≡ counts2 → times ≡ times2 → fields ≡ fields2
    → links_known counts times (is_link_at fields e) t ≡ links_known counts2 times2 (is_link_at fields2 e) t
links_same counts counts2 times times2 fields fields2 e t p q r = cc

-- what an auditor knows of an account's links is what the events show of them
links_are : (auditor : AuditorState) (state : AuditState) (e : Event) (a : EventAccount) → StandsFor auditor state
    → links_of_account auditor e a ≡ links_before state.past e a
links_are auditor state e a stands =
    links_same _ _ _ _ _ _ e a.timestamp
    (ap (λ o. can_link a e.timestamp && is_none o) (stands.fields a.id)) stands.times stands.shown

pub room_same : (foreign foreign2 : Bool) (after after2 : Option ℕ) (debit debit2 credit credit2 : Links)
    (chain chain2 : ℕ) → foreign ≡ foreign2 → after ≡ after2 → debit ≡ debit2 → credit ≡ credit2 → chain ≡ chain2
    → (let one : Option Room = cond foreign None
    (Some (record { after = after; debit = debit; credit = credit; chain = chain })) in one)
    ≡ cond foreign2 None (Some (record { after = after2; debit = debit2; credit = credit2; chain = chain2 }))
room_same foreign foreign2 after after2 debit debit2 credit credit2 chain chain2 p q r s t = cc

-- and so it is of the chains that an event is in
room_is : (auditor : AuditorState) (state : AuditState) (e : Event) → StandsFor auditor state
    → room_of auditor e ≡ room_before state.foreign state.past e
room_is auditor state e stands =
    room_same _ _ _ _ _ _ _ _ _ _ stands.foreign (ap (λ fs. account_at (links_of fs) (e.timestamp - 1)) stands.shown)
    (links_are auditor state e e.debit_account stands) (links_are auditor state e e.credit_account stands)
    stands.chain

-- the lines by what an auditor knows are those by the events for which it stands
same_lines : (auditor : AuditorState) (state : AuditState) (first : Option Event) (e : Event) → StandsFor auditor state
    → IsFirst (open_under auditor.open_ones) first → lines (facts_of auditor first e) e
    ≡ event_lines state.foreign state.past e
same_lines auditor state first e stands goes =
    let facts = facts_of auditor first e in
    let past = state.past in
    let own = stands.transfers e.transfer.id in
    let other = stands.transfers (settled_id e) in
    seven-same (order_lines facts.last e) (order_lines (last_timestamp past) e) (shape_lines e)
    (fixed_lines facts e) (rules.fixed_lines past e) (transfer_lines facts e) (rules.transfer_lines past e)
    (settling_lines facts.open_one e ++ expiry_lines facts.first facts.expired e)
    (settling_lines (settled_event past e) e ++ expiry_lines (first_due past) (last_expiry past) e)
    (chain_lines facts.linked facts.last e ++ limits_lines e)
    (chain_lines (ends_in_chain past) (last_timestamp past) e ++ limits_lines e)
    (balances_lines facts e ++ room_lines facts.room e)
    (rules.balances_lines past e ++ room_lines (room_before state.foreign past e) e)
    (ap (λ (kept : SubscriberState). order_lines kept.last e) stands.kept)
    (fixed-same e _ _ _ _ _ _ _ _ (stands.fields e.debit_account.id) (stands.fields e.credit_account.id)
    (times_same auditor state e.debit_account stands) (times_same auditor state e.credit_account stands))
    (transfer-same e _ _ _ _ _ _
    (guarded (stores e.kind) is_some (stored_under auditor.transfers e.transfer.id) (is_stored past e.transfer.id)
    own.stored)
    (guarded (settles e.kind) (λ known. is_none (amount_in known)) (stored_under auditor.transfers (settled_id e))
    (is_none (pending_amount past (settled_id e))) (ap is_none other.amount))
    (guarded (settles e.kind) was_settled (stored_under auditor.transfers (settled_id e))
    (is_settled past (settled_id e)) other.settled))
    (ap₂ (λ o lines. settling_lines (cond (settles e.kind) o None) e ++ lines) (stands.open_ones (settled_id e))
    (ap₂ (λ one last. expiry_lines one last e)
    (first_is auditor.open_ones past stands.open_ones stands.once first goes) stands.expired))
    (ap₂ (λ linked last. chain_lines linked last e ++ limits_lines e)
    (ap (nat_lt 0) stands.chain ∙ sym (chain_length-some state.past))
    (ap (λ (kept : SubscriberState). kept.last) stands.kept))
    (ap₂ (λ ls more. ls ++ more) (balances_lines-at facts e
    ∙ balances_at-same e _ _ _ _ _ _
    (guarded_amount (settles e.kind) (stored_under auditor.transfers (settled_id e))
    (pending_amount past (settled_id e)) other.amount)
    (balances_known auditor state e.debit_account.id stands)
    (balances_known auditor state e.credit_account.id stands)
    ∙ sym (rules-balances_lines-at past e)) (ap (λ room. room_lines room e) (room_is auditor state e stands)))

refusal-lines : (foreign : Bool) (past : List Event) (e : Event)
    → refusal_of foreign past e ≡ first_line (event_lines foreign past e)
unfolding refusal_of
refusal-lines foreign past e = refl

-- an open auditor refuses an event for the reason that the audit gives
pub answers : (auditor : AuditorState) (state : AuditState) (first : Option Event) (e : Event) (answer : Option Refusal)
    → auditor.kept.ended ≡ false → answer ≡ first_line (lines (facts_of auditor first e) e)
    → IsFirst (open_under auditor.open_ones) first → StandsFor auditor state → answer ≡ event_refusal state e
answers auditor state first e answer open_yet is goes stands =
    let going : state.ended ≡ false = sym (ap (λ (kept : SubscriberState). kept.ended) stands.kept) ∙ open_yet in
    is ∙ ap first_line (same_lines auditor state first e stands goes) ∙ sym (refusal-lines state.foreign state.past e)
    ∙ sym (ap (λ ended. cond ended (Some (AfterEnd e.timestamp)) (refusal_of state.foreign state.past e)) going)

-- and an auditor that received the end refuses each event
pub answers_ended : (auditor : AuditorState) (state : AuditState) (e : Event) → auditor.kept.ended ≡ true
    → StandsFor auditor state → Some (AfterEnd e.timestamp) ≡ event_refusal state e
answers_ended auditor state e ended stands =
    let over : state.ended ≡ true = sym (ap (λ (kept : SubscriberState). kept.ended) stands.kept) ∙ ended in
    sym (ap (λ ended. cond ended (Some (AfterEnd e.timestamp)) (refusal_of state.foreign state.past e)) over)

kept_same : (book book2 : List BookEntry) (last last2 applied applied2 : ℕ) → book ≡ book2 → last ≡ last2
    → applied ≡ applied2 → (let one : SubscriberState = record {
      book = book;
      last = last;
      applied = applied;
      ended = false;
      closed = false;
    } in one)
    ≡ record { book = book2; last = last2; applied = applied2; ended = false; closed = false }
kept_same book book2 last last2 applied applied2 p q r = cc

-- what a subscriber keeps after a later event
kept-next : (state : AuditState) (e : Event) → state.ended ≡ false
    → nat_lt (last_timestamp state.past) e.timestamp ≡ true
    → next_state (kept_after state) (item.Event e) ≡ kept_after (with_event state e)
kept-next state e going later =
    let new : nat_le e.timestamp (last_timestamp state.past) ≡ false = grind (arith, nat_tests) in
    rw (going, new) (kept_same _ _ _ _ _ _
    (sym (book_of-push state.past e))
    (sym (last_timestamp_from-push 0 state.past e))
    (counted (length state.past) max_64 ∙ sym (ap (λ n. min n max_64) (length-append state.past (e ∷ [])))))
  where
    counted : (n most : ℕ) → min (min n most + 1) most ≡ min (n + 1) most
    counted n most = omega arith

-- after an event that it accepts, an auditor stands for the audit with this event
pub accepts : (auditor after : AuditorState) (state : AuditState) (first : Option Event) (e : Event)
    → auditor.kept.ended ≡ false → first_line (lines (facts_of auditor first e) e) ≡ None
    → after.kept ≡ next_state auditor.kept (item.Event e)
    → after.transfers ≡ with_settled (with_own auditor.transfers e) e (released (facts_of auditor first e) e)
    → ((id : ℕ) → open_under after.open_ones id ≡ without_settled (with_held auditor.open_ones e) e id)
    → after.fields ≡ with_accounts auditor.fields e → after.times ≡ auditor.times ++ e.timestamp ∷ []
    → after.chain ≡ next_chain auditor.chain e
    → after.expired ≡ expiry_or auditor.expired e → after.foreign ≡ auditor.foreign
    → StandsFor auditor state → StandsFor after (with_event state e)
accepts auditor after state first e open_yet none kept transfers opened fields times chain expired foreign stands =
    let going : state.ended ≡ false = sym (ap (λ (kept : SubscriberState). kept.ended) stands.kept) ∙ open_yet in
    let facts = facts_of auditor first e in
    let parts = two_of_seven (order_lines facts.last e) (shape_lines e) (fixed_lines facts e) (transfer_lines facts e)
    (settling_lines facts.open_one e ++ expiry_lines facts.first facts.expired e)
    (chain_lines facts.linked facts.last e ++ limits_lines e)
    (balances_lines facts e ++ room_lines facts.room e) none in
    let order = in_order facts.last e parts.0 in
    let free = may_be_stored facts e parts.1 in
    let later : nat_lt (last_timestamp state.past) e.timestamp ≡ true =
    sym (ap (λ (kept : SubscriberState). nat_lt kept.last e.timestamp) stands.kept) ∙ order.0 in
    let shown : after.fields ≡ accounts_before (state.past ++ e ∷ []) =
    fields ∙ ap (λ fs. with_accounts fs e) stands.shown ∙ sym (accounts_before-push state.past e) in
    record {
      foreign = foreign ∙ stands.foreign;
      kept = kept ∙ ap (λ kept. next_state kept (item.Event e)) stands.kept ∙ kept-next state e going later;
      transfers = λ id. subst (λ known. IsKnownOf (stored_under known id) (state.past ++ e ∷ []) id) (sym transfers)
          (known-step auditor.transfers state.past e stands.transfers free.0 free.1 free.2 id);
      open_ones = λ id. opened id
          ∙ open_one-step auditor.transfers auditor.open_ones state.past e stands.transfers stands.open_ones free.0 id;
      fields = λ id. ap (λ fs. fields_under fs id) shown ∙ accounts_before-fields (state.past ++ e ∷ []) id;
      shown = shown;
      times = times ∙ ap (λ ts. ts ++ e.timestamp ∷ []) stands.times ∙ sym (times_of-push state.past e);
      rising = RiseFrom-push 0 state.past e stands.rising (ltb-true (last_timestamp state.past) e.timestamp later);
      chain = chain ∙ ap (λ n. next_chain n e) stands.chain
          ∙ chain_length-most state.past e stands.rising (ltb-true (last_timestamp state.past) e.timestamp later)
          (in_bounds facts.last e parts.0)
          ∙ sym (chain_length-push state.past e);
      expired = expired ∙ ap (λ last. expiry_or last e) stands.expired ∙ sym (last_expiry_from-push None state.past e);
      once = once-step auditor.transfers state.past e stands.transfers free.0 stands.once;
    }

-- what holds of a result that is no error
pub unless_error : {T E : Type 0} (result : Result T E) (P : Type 0) → is_err result ≡ false → OnOk result P → P
unless_error (Ok value) P is holds = holds
unless_error (Err error) P is holds = cc

-- an auditor's answer to an entry is that to what is audited of its event
pub taken_answer : {E : Type 0} (result : Result (Option Refusal) E) (old : AuditorState) (entry : Content)
    (e own : Event)
    → entry ≡ content.Event e → own ≡ audited_event old.foreign e
    → IfOk result (λ answer. (state : AuditState) → StandsFor old state → answer ≡ event_refusal state own)
    → IfOk result (λ answer. (state : AuditState) → StandsFor old state → answer ≡ entry_refusal state entry)
taken_answer (Ok answer) old entry e own is own_is answers = λ state stands.
    answers state stands ∙ ap (event_refusal state) (own_is ∙ ap (λ foreign. audited_event foreign e) stands.foreign)
    ∙ sym (ap (entry_refusal state) is)
taken_answer (Err error) old entry e own is own_is answers = tt

-- and so is what it stands for after it
pub taken_accepted : {E : Type 0} (result : Result (Option Refusal) E) (old new : AuditorState) (entry : Content)
    (e own : Event) → entry ≡ content.Event e → own ≡ audited_event old.foreign e
    → IfOk result (λ answer. (state : AuditState) → StandsFor old state → answer ≡ None
    → StandsFor new (with_event state own))
    → IfOk result (λ answer. (state : AuditState) → StandsFor old state → answer ≡ None
    → StandsFor new (next_audit state entry))
taken_accepted (Ok answer) old new entry e own is own_is goes = λ state stands none.
    subst (StandsFor new)
    (ap (with_event state) (own_is ∙ ap (λ foreign. audited_event foreign e) stands.foreign)
    ∙ sym (ap (next_audit state) is))
    (goes state stands none)
taken_accepted (Err error) old new entry e own is own_is goes = tt

-- ---- what an auditor knows of an event, put together

-- an account is checked, or isn't
pub links_made : (counts : Bool) (times : List ℕ) (test : ℕ → Bool) (t : ℕ) (found : Bool) (down up : ℕ)
    → counts ≡ true → found ≡ has_time times (t + 1) → down ≡ run_down test BATCH_ITEMS t
    → up ≡ run_up test BATCH_ITEMS (t + 1)
    → (let one : Links = record { to_event = found; length = down + up } in one) ≡ links_known counts times test t
links_made true times test t found down up is p q r = cc
links_made false times test t found down up is p q r = cc

pub links_none : (counts : Bool) (times : List ℕ) (test : ℕ → Bool) (t : ℕ) → counts ≡ false
    → (let one : Links = record { to_event = false; length = 0 } in one) ≡ links_known counts times test t
links_none true times test t is = cc
links_none false times test t is = refl

-- facts that are equal one by one
pub facts_same : (last last2 : ℕ) (linked linked2 : Bool) (first : Option Event) (expired expired2 : Option Event)
    (own own2 settled settled2 : Option Stored) (open_one open_one2 : Option Event)
    (d d2 c c2 : Option FixedFields) (dt dt2 ct ct2 : Times) (debited debited2 credited credited2 : Balances)
    (room room2 : Option Room) → last ≡ last2 → linked ≡ linked2 → expired ≡ expired2 → own ≡ own2
    → settled ≡ settled2 → open_one ≡ open_one2 → d ≡ d2 → c ≡ c2 → dt ≡ dt2 → ct ≡ ct2 → debited ≡ debited2
    → credited ≡ credited2 → room ≡ room2
    → (let one : Facts = record {
      last = last;
      linked = linked;
      first = first;
      expired = expired;
      own = own;
      settled = settled;
      open_one = open_one;
      debit_fields = d;
      credit_fields = c;
      debit_times = dt;
      credit_times = ct;
      debited = debited;
      credited = credited;
      room = room;
    } in one)
    ≡ record {
      last = last2;
      linked = linked2;
      first = first;
      expired = expired2;
      own = own2;
      settled = settled2;
      open_one = open_one2;
      debit_fields = d2;
      credit_fields = c2;
      debit_times = dt2;
      credit_times = ct2;
      debited = debited2;
      credited = credited2;
      room = room2;
    }
facts_same last last2 linked linked2 first expired expired2 own own2 settled settled2 open_one open_one2 d d2 c c2 dt
    dt2 ct ct2 debited debited2 credited credited2 room room2 p q r s t u v w x y z a b = λ i. record {
      last = p i;
      linked = q i;
      first = first;
      expired = r i;
      own = s i;
      settled = t i;
      open_one = u i;
      debit_fields = v i;
      credit_fields = w i;
      debit_times = x i;
      credit_times = y i;
      debited = z i;
      credited = a i;
      room = b i;
    }

-- accounts that are known stay as they are
pub known_stay : (fields : List (ℕ × FixedFields)) (e : Event)
    → is_some (fields_under fields e.debit_account.id) ≡ true
    → is_some (fields_under fields e.credit_account.id) ≡ true → with_accounts fields e ≡ fields
known_stay fields e debit credit = rw (debit, credit)

-- ---- an auditor of which nothing changed

-- what holds of an error
pub if_error : {T E : Type 0} (result : Result T E) (P : Type 0) → is_err result ≡ true → OnErr result P → P
if_error (Ok value) P is holds = cc
if_error (Err error) P is holds = holds

pub auditor_same : (foreign : Bool) (kept kept2 : SubscriberState) (transfers transfers2 : List (ℕ × Stored))
    (open_ones open_ones2 : List (ℕ × Event)) (fields fields2 : List (ℕ × FixedFields)) (times times2 : List ℕ)
    (chain : ℕ) (expired : Option Event) → kept ≡ kept2 → transfers ≡ transfers2 → open_ones ≡ open_ones2
    → fields ≡ fields2 → times ≡ times2
    → (let one : AuditorState = record {
      foreign = foreign;
      kept = kept;
      transfers = transfers;
      open_ones = open_ones;
      fields = fields;
      times = times;
      chain = chain;
      expired = expired;
    } in one)
    ≡ record {
      foreign = foreign;
      kept = kept2;
      transfers = transfers2;
      open_ones = open_ones2;
      fields = fields2;
      times = times2;
      chain = chain;
      expired = expired;
    }
auditor_same foreign kept kept2 transfers transfers2 open_ones open_ones2 fields fields2 times times2 chain expired p q
    r s t = λ i. record {
      foreign = foreign;
      kept = p i;
      transfers = q i;
      open_ones = r i;
      fields = s i;
      times = t i;
      chain = chain;
      expired = expired;
    }
