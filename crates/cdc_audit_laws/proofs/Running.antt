-- Batches that a ledger takes one item at a time: chains of accounts, chains of transfers, pulses.
use Rattle.std.proofs.Common.{◌≡◌, ℕ, ◌+◌, ◌-◌, ◌<◌, ◌≤◌, false, true, List, [], ◌∷◌, ◌++◌, Some, None, Ok, length, refl, ap, ap₂, ◌∙◌, subst, arith, ◌==◌, Bool, if◌then◌else◌, nat_lt}
use Rattle.cdc_audit_laws.proofs.OfStd.{unwrap_or, AllByRecursion, and_right, eqb-false, eqb-true, le-ltb}
use Rattle.cdc_audit_laws.proofs.OfTypes.{BATCH_ITEMS, TIMESTAMP, NewAccount, TransferResult, NewTransfer, Transfer, is_linked_account, is_linked_transfer}
use Rattle.cdc_audit_laws.proofs.OfLedger.{expiry, pushed, timed, Rules, before_others, chains_from, chains_of, in_front, played, due, NewAccountFits, NewTransferFits, History, IsLegal, answered, base, expiries_from, refusal_at, taken, transfer_rules, transfers_from, account_rules, accounts_from, IsLegal-submit}
use Rattle.std.proofs.Math.Nat.{max-eq_left}
use Rattle.cdc_ledger.proofs.BatchLaws.{alone_accepted}
use Rattle.cdc_ledger.proofs.Unlinked.{items_from-unlinked}
use Rattle.cdc_types.specs.declared.batches.Batch.TheVariants as batch
use Rattle.cdc_types.specs.declared.batches.BatchResults.TheVariants as results
use Rattle.cdc_types.specs.declared.results.TransferResult.TheVariants as transfer

-- a batch that isn't too large isn't refused, if there are timestamps for it
unrefused : (h : History) (now t n : ℕ) (large : Bool) → h.closed ≡ false → large ≡ false → base h now ≡ t
    → t + n ≤ TIMESTAMP + 1 → refusal_at h large now n ≡ None
unrefused h now t n large is_open small first within = grind arith

-- a later timestamp is the first one of its batch
own_time : (h : History) (t : ℕ) → h.last < t → base h t ≡ t
own_time h t later = max-eq_left (let next : h.last + 1 ≤ t = omega (arith, later) in next)

-- ---- chains

-- each of these items but the last is linked to the next one
abbrev pub IsChain : {A : Type 0} → (A → Bool) → A → List A → Type 0
IsChain linked r [] = linked r ≡ false
IsChain linked r (next ∷ rest) = (linked r ≡ true) × IsChain linked next rest

-- such a batch is one chain
one_chain : {A : Type 0} (linked : A → Bool) (r : A) (rest : List A) → IsChain linked r rest
    → chains_of linked (r ∷ rest) ≡ (r ∷ rest) ∷ []
one_chain linked r [] last = ap (λ b. in_front b r []) last
one_chain linked r (next ∷ rest) chain =
    ap₂ (λ b chains. in_front b r chains) chain.0 (one_chain linked next rest chain.1)

module _ {A R : Type 0} (rules : Rules A R) (Fits : A → Type 0) where
  -- the history is one within a chain of which this number of items were taken: if the rest of it is taken, from this
  -- timestamp on, the ledger's history is what that makes
  abbrev pub RunsBy : History → ℕ → ℕ → Type 0
  RunsBy h t n =
      (r : A) (rest : List A) (g : History) → length rest + 1 + n ≤ BATCH_ITEMS → IsChain rules.linked r rest
      → AllByRecursion Fits (r ∷ rest) → t + length (r ∷ rest) ≤ TIMESTAMP + 1
      → (played rules h t (r ∷ rest)).1 ≡ Some g → IsLegal g

  -- with more items taken, fewer may come
  pub runs-more : (h : History) (t n : ℕ) → RunsBy h t 0 → RunsBy h t n
  runs-more h t n runs r rest g long chain fits within is = runs r rest g (omega (arith, long)) chain fits within is

  -- one item of it is taken
  pub runs-taken : (h : History) (t n : ℕ) (r : A) → RunsBy h t n → rules.linked r ≡ true
      → rules.refused h r t ≡ None → Fits r → RunsBy (rules.taken h r t) (t + 1) (n + 1)
  runs-taken h t n r runs linked none fit next rest g long chain fits within is =
      let later = played rules (rules.taken h r t) (t + 1) (next ∷ rest) in
      runs r (next ∷ rest) g (omega (arith, long)) (linked, chain) (fit, fits) (omega (arith, within))
      (ap₂ (λ b o. (before_others rules (if b then Some rules.unfinished else o) (next ∷ rest) later).1)
      (and_right _ _ refl) none ∙ is)

  -- and the last one
  pub runs-done : (h : History) (t n : ℕ) (r : A) → RunsBy h t n → n < BATCH_ITEMS → t ≤ TIMESTAMP
      → rules.linked r ≡ false → rules.refused h r t ≡ None → Fits r → IsLegal (rules.taken h r t)
  runs-done h t n r runs room within unlinked none fit =
      runs r [] (rules.taken h r t) (omega (arith, room)) unlinked (fit, tt) (omega (arith, within))
      (ap (λ q. q.1) (alone_accepted rules h t r unlinked none))

-- of transfers, and of accounts
abbrev pub RunsOn : History → ℕ → ℕ → Type 0
RunsOn = RunsBy transfer_rules NewTransferFits

abbrev pub AccountsRunOn : History → ℕ → ℕ → Type 0
AccountsRunOn = RunsBy account_rules NewAccountFits

-- a chain begins
pub runs-legal : (h : History) (t : ℕ) → IsLegal h → h.closed ≡ false → h.last < t → RunsOn h t 0
runs-legal h t legal is_open later r rest g long chain fits within is =
    let items : List NewTransfer = r ∷ rest in
    let first : base h t ≡ t = own_time h t later in
    let all : transfers_from h (base h t) items ≡ ((played transfer_rules h t items).0 ++ [], g) =
    ap (λ n. transfers_from h n items) first
    ∙ ap (chains_from transfer_rules h t) (one_chain is_linked_transfer r rest chain)
    ∙ ap (λ o. ((played transfer_rules h t items).0 ++ [], unwrap_or o (timed h (t + length items - 1)))) is in
    IsLegal-submit h g (batch.Transfers t items) (results.Transfers ((played transfer_rules h t items).0 ++ []))
    (omega (arith, within), fits) legal
    (ap (λ o. answered o (taken h (batch.Transfers t items)))
    (unrefused h t t (length items) (nat_lt BATCH_ITEMS (length items)) is_open
    (le-ltb _ _ (omega (arith, long))) first within) ∙ ap (λ q. Ok (results.Transfers q.0, q.1)) all)

-- a chain of accounts begins
pub accounts-legal : (h : History) (t : ℕ) → IsLegal h → h.closed ≡ false → h.last < t → AccountsRunOn h t 0
accounts-legal h t legal is_open later a rest g long chain fits within is =
    let items : List NewAccount = a ∷ rest in
    let first : base h t ≡ t = own_time h t later in
    let all : accounts_from h (base h t) items ≡ ((played account_rules h t items).0 ++ [], g) =
    ap (λ n. accounts_from h n items) first
    ∙ ap (chains_from account_rules h t) (one_chain is_linked_account a rest chain)
    ∙ ap (λ o. ((played account_rules h t items).0 ++ [], unwrap_or o (timed h (t + length items - 1)))) is in
    IsLegal-submit h g (batch.Accounts t items) (results.Accounts ((played account_rules h t items).0 ++ []))
    (omega (arith, within), fits) legal
    (ap (λ o. answered o (taken h (batch.Accounts t items)))
    (unrefused h t t (length items) (nat_lt BATCH_ITEMS (length items)) is_open
    (le-ltb _ _ (omega (arith, long))) first within) ∙ ap (λ q. Ok (results.Accounts q.0, q.1)) all)

-- ---- a timestamp that nothing came of

-- a request that is refused at once
abbrev nothing : NewTransfer
nothing = record {
  id = 0;
  debit_account_id = 0;
  credit_account_id = 0;
  amount = 0;
  pending_id = 0;
  user_data_128 = 0;
  user_data_64 = 0;
  user_data_32 = 0;
  timeout = 0;
  ledger = 0;
  code = 0;
  flags = 0;
}

nothing_fits : NewTransferFits nothing
nothing_fits = grind arith

-- it takes its timestamp, and nothing else
timed_later : (h : History) (t : ℕ) → IsLegal h → h.closed ≡ false → h.last < t → t ≤ TIMESTAMP → IsLegal (timed h t)
timed_later h t legal is_open later within =
    let first : base h t ≡ t = own_time h t later in
    let why : TransferResult = transfer.IdMustNotBeZero in
    let all : transfers_from h (base h t) (nothing ∷ []) ≡ (why ∷ [], timed h t) =
    ap (λ n. transfers_from h n (nothing ∷ [])) first
    ∙ items_from-unlinked transfer_rules h t (nothing ∷ []) (refl, tt) in
    IsLegal-submit h (timed h t) (batch.Transfers t (nothing ∷ [])) (results.Transfers (why ∷ []))
    (omega (arith, within), (nothing_fits, tt)) legal
    (ap (λ o. answered o (taken h (batch.Transfers t (nothing ∷ []))))
    (unrefused h t t 1 false is_open refl first (omega (arith, within)))
    ∙ ap (λ q. Ok (results.Transfers q.0, q.1)) all)

-- so the timestamp before this one can be the last one
pub timed_before : (h : History) (t : ℕ) → IsLegal h → h.closed ≡ false → h.last < t → t ≤ TIMESTAMP
    → IsLegal (timed h (t - 1))
timed_before h t legal is_open later within = by (t == h.last + 1) refl
  where
    by : (b : Bool) → (t == h.last + 1) ≡ b → IsLegal (timed h (t - 1))
    by true is =
        let next = eqb-true t (h.last + 1) is in
        subst (λ n. IsLegal (timed h n)) (let same : h.last ≡ t - 1 = omega (arith, next) in same) legal
    by false is =
        let other = eqb-false t (h.last + 1) is in
        timed_later h (t - 1) legal is_open (omega (arith, other, later)) (omega (arith, within))

-- ---- pulses

-- the history is one within a pulse at this time: if there are timestamps for the transfers that are still due, the
-- ledger's history is that after them
abbrev pub Pulses : History → ℕ → Type 0
Pulses h now = h.last + length (due h now) ≤ TIMESTAMP → IsLegal (expiries_from h (h.last + 1) (due h now))

-- a pulse begins
pub pulses-legal : (h : History) (now : ℕ) → IsLegal h → h.closed ≡ false → now ≤ h.last + 1 → now ≤ TIMESTAMP
    → Pulses h now
pulses-legal h now legal is_open before bound within =
    let n = length (due h now) in
    let first : base h now ≡ h.last + 1 = omega (arith, before) in
    IsLegal-submit h (expiries_from h (h.last + 1) (due h now)) (batch.Pulse now) (results.Pulsed n)
    (omega (arith, bound)) legal
    (ap (λ o. answered o (taken h (batch.Pulse now)))
    (unrefused h now (h.last + 1) n false is_open refl first (omega (arith, within)))
    ∙ ap (λ m. Ok (results.Pulsed n, expiries_from h m (due h now))) first)

-- the first of them expires
pub pulses-expired : (h : History) (now t : ℕ) (p : Transfer) → Pulses h now → t ≡ h.last + 1
    → due h now ≡ p ∷ due (pushed h (expiry p t)) now → Pulses (pushed h (expiry p t)) now
pulses-expired h now t p pulses next first within = grind arith

-- and no more are due
pub pulses-done : (h : History) (now : ℕ) → Pulses h now → due h now ≡ [] → h.last ≤ TIMESTAMP → IsLegal h
pulses-done h now pulses none within = grind arith
