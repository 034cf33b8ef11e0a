-- The rules on the next items of chains, in equations: for one event, and for each event of a stream.
use Rattle.std.proofs.Common.{◌≡◌, ◌≢◌, ℕ, ◌+◌, ◌-◌, Bool, true, false, not, List, [], ◌∷◌, ◌++◌, Option, Some, None, find, option_map, is_some, if◌then◌else◌, refl, sym, ap, ◌∙◌, ◌==◌, ◌&&◌, ◌||◌, nat_eq, nat_lt, nat_le}
use Rattle.cdc_audit_laws.proofs.OfStd.{AllByRecursion, eqb-false, false≢true, lookup, ne_eqb, true≢false}
use Rattle.cdc_audit_laws.proofs.OfTypes.{BATCH_ITEMS, TIMESTAMP, Event, EventAccount, has_flag}
use Rattle.cdc_audit_laws.proofs.OfAudit.{FixedFields, account_at, accounts_before, chain_length, is_linked, links_before, links_of, is_link, own_chain_lines, links_lines, after_lines, room_before, room_lines, with_shown}
use Rattle.cdc_types.specs.declared.accounts.TheConstants.AccountFlags.{LINKED}
use Rattle.cdc_audit_laws.proofs.Following.{NoneApplies}

-- an account of an event isn't linked to an event, and a batch has room for the linked ones in a row
pub record LinksFit (past : List Event) (e : Event) (a : EventAccount) : Type 0 where
  pub free : ((links_before past e a).to_event
      || (has_flag a.flags LINKED && (e.timestamp == a.timestamp + 1))) ≡ false
  pub few : not (nat_lt (links_before past e a).length BATCH_ITEMS) ≡ false

-- no rule on the next items of chains refuses the event
pub record HasRoomAt (past : List Event) (e : Event) : Type 0 where
  pub after : account_at (links_of (accounts_before past)) (e.timestamp - 1) ≡ None
  pub debit : LinksFit past e e.debit_account
  pub credit : LinksFit past e e.credit_account
  pub long : (is_linked e && nat_lt BATCH_ITEMS (chain_length past + 2)) ≡ false
  pub last : (is_linked e && nat_le TIMESTAMP e.timestamp) ≡ false

pub from_lines : (past : List Event) (e : Event) → NoneApplies (room_lines (room_before false past e) e)
    → HasRoomAt past e
from_lines past e none = by (account_at (links_of (accounts_before past)) (e.timestamp - 1)) refl none
  where
    by : (o : Option ℕ) → account_at (links_of (accounts_before past)) (e.timestamp - 1) ≡ o
        → NoneApplies (after_lines o e ++ links_lines (links_before past e e.debit_account) e.debit_account e.timestamp
        ++ links_lines (links_before past e e.credit_account) e.credit_account e.timestamp
        ++ own_chain_lines (chain_length past) e) → HasRoomAt past e
    by (Some id) is none = absurd (true≢false none.0)
    by None is none = record {
      after = is;
      debit = record { free = none.0; few = none.1.0 };
      credit = record { free = none.1.1.0; few = none.1.1.1.0 };
      long = none.1.1.1.1.0;
      last = none.1.1.1.1.1.0;
    }

-- and the other way round
pub to_lines : (past : List Event) (e : Event) → HasRoomAt past e
    → NoneApplies (room_lines (room_before false past e) e)
to_lines past e has = by (account_at (links_of (accounts_before past)) (e.timestamp - 1)) has.after
  where
    by : (o : Option ℕ) → o ≡ None
        → NoneApplies (after_lines o e ++ links_lines (links_before past e e.debit_account) e.debit_account e.timestamp
        ++ links_lines (links_before past e e.credit_account) e.credit_account e.timestamp
        ++ own_chain_lines (chain_length past) e)
    by (Some id) is = cc
    by None is =
        (has.debit.free, (has.debit.few, (has.credit.free, (has.credit.few, (has.long, (has.last, tt))))))

-- ---- linked accounts at a timestamp

-- a linked account has another timestamp
abbrev pub IsElsewhere : ℕ → ℕ × FixedFields → Type 0
IsElsewhere t a = is_link a ≡ true → a.1.timestamp ≢ t

-- if none is found at a timestamp, each has another one
pub all_elsewhere : (t : ℕ) (those : List (ℕ × FixedFields)) → account_at (links_of those) t ≡ None
    → AllByRecursion (IsElsewhere t) those
all_elsewhere t [] none = tt
all_elsewhere t (a ∷ those) none = by (is_link a) refl none (all_elsewhere t those)
  where
    found : (c : Bool) → (a.1.timestamp == t) ≡ c
        → option_map (λ (x : ℕ × FixedFields). x.0)
        (if c then Some a else find (λ (x : ℕ × FixedFields). x.1.timestamp == t) (links_of those)) ≡ None
        → (account_at (links_of those) t ≡ None → AllByRecursion (IsElsewhere t) those)
        → AllByRecursion (IsElsewhere t) (a ∷ those)
    found true is none more = cc
    found false is none more = ((λ linked. eqb-false a.1.timestamp t is), more none)

    by : (b : Bool) → is_link a ≡ b → account_at (if b then a ∷ links_of those else links_of those) t ≡ None
        → (account_at (links_of those) t ≡ None → AllByRecursion (IsElsewhere t) those)
        → AllByRecursion (IsElsewhere t) (a ∷ those)
    by true is none more = found (a.1.timestamp == t) refl none more
    by false is none more = ((λ linked. absurd (false≢true (sym is ∙ linked))), more none)

-- and the other way round
pub none_elsewhere : (t : ℕ) (those : List (ℕ × FixedFields)) → AllByRecursion (IsElsewhere t) those
    → account_at (links_of those) t ≡ None
none_elsewhere t [] all = refl
none_elsewhere t (a ∷ those) all = by (is_link a) refl (none_elsewhere t those all.1)
  where
    by : (b : Bool) → is_link a ≡ b → account_at (links_of those) t ≡ None
        → account_at (if b then a ∷ links_of those else links_of those) t ≡ None
    by true is more =
        ap (λ c. option_map (λ (x : ℕ × FixedFields). x.0)
        (if c then Some a else find (λ (x : ℕ × FixedFields). x.1.timestamp == t) (links_of those)))
        (ne_eqb a.1.timestamp t (all.0 is)) ∙ more
    by false is more = more

-- ---- the accounts that events show

-- what holds of accounts and of one more holds of them together
pub shown_all : (P : ℕ × FixedFields → Type 0) (those : List (ℕ × FixedFields)) (a : ℕ × FixedFields)
    → AllByRecursion P those → P a → AllByRecursion P (with_shown those a)
shown_all P those a all is = by (is_some (lookup (nat_eq a.0) those))
  where
    push : (xs : List (ℕ × FixedFields)) → AllByRecursion P xs → AllByRecursion P (xs ++ a ∷ [])
    push [] all = (is, tt)
    push (x ∷ xs) all = (all.0, push xs all.1)

    by : (b : Bool) → AllByRecursion P (if b then those else (those ++ a ∷ []))
    by true = all
    by false = push those all
