-- What the answer to a batch keeps of the ledger's history.
use Rattle.cdc_ledger.proofs.Words.{◌+◌, ◌≡◌, ◌≤◌, Account, Answers, Balances, Batch, BatchError, BatchFits, BatchResults, Err, History, IfSome, IsBounded, IsLegal, None, Ok, OnOk, Opened, Option, OutOfMemory, Result, Some, account_now, ap, balances, max_128, opened, option_map, refl, subst, sym, ℕ}
use Rattle.cdc_ledger.proofs.LegalLaws.{IsLegal-submit}
use Rattle.cdc_ledger.proofs.OpenedLaws.{opened_id}

-- what holds unconditionally also holds if the answer isn't a refusal
pub on_ok : {A E : Type 0} (P : Type 0) (r : Result A E) → P → OnOk r P
on_ok P (Ok x) holds = holds
on_ok P (Err e) holds = tt

module _ {A : Type 0} (shown : A → BatchResults) (h g : History) (b : Batch) where
  -- it stays legal, whatever the answer
  pub IsLegal-answered : (r : Result A BatchError) → IsLegal h → OnOk r (BatchFits b) → Answers shown h b r g
      → IsLegal g
  IsLegal-answered (Ok results) legal fit answers = IsLegal-submit h g b (shown results) fit legal answers
  IsLegal-answered (Err OutOfMemory) legal fit answers = subst IsLegal (sym answers.1) legal
  IsLegal-answered (Err e) legal fit answers = subst IsLegal (sym answers.1) legal

-- an account that was found by an id shows the balances of that id
balances_found : (h : History) (id : ℕ) (found : Option Opened) → opened h id ≡ found
    → option_map (λ (a : Account). a.balances) (option_map (account_now h) found)
    ≡ option_map (λ (o : Opened). balances h id h.last) found
balances_found h id None is = refl
balances_found h id (Some o) is = ap (λ i. Some (balances h i h.last)) (opened_id h o id is)

-- the balances of the account that is found
pub balances-account_now : (h : History) (id : ℕ)
    → option_map (λ (a : Account). a.balances) (option_map (account_now h) (opened h id))
    ≡ option_map (λ (o : Opened). balances h id h.last) (opened h id)
balances-account_now h id = balances_found h id (opened h id) refl

-- whichever account is found, its pending and posted sums fit 128 bits together on each side
some_bounded : (h : History) (id : ℕ) (found : Option Opened) → IsBounded h
    → IfSome (option_map (λ (o : Opened). balances h id h.last) found)
    (λ b. b.debits_pending + b.debits_posted ≤ max_128)
    × IfSome (option_map (λ (o : Opened). balances h id h.last) found)
    (λ b. b.credits_pending + b.credits_posted ≤ max_128)
some_bounded h id None bounded = (tt, tt)
some_bounded h id (Some o) bounded = bounded id

-- so the pending and the posted debits of a balance query can be added without overflow
pub debits_bounded : (h : History) (id : ℕ) (r : Option Balances) → IsBounded h
    → r ≡ option_map (λ (o : Opened). balances h id h.last) (opened h id)
    → IfSome r (λ b. b.debits_pending + b.debits_posted ≤ max_128)
debits_bounded h id r bounded is =
    let P : Option Balances → Type 0 = λ found. IfSome found (λ b. b.debits_pending + b.debits_posted ≤ max_128) in
    subst P (sym is) (some_bounded h id (opened h id) bounded).0

-- the same of credits
pub credits_bounded : (h : History) (id : ℕ) (r : Option Balances) → IsBounded h
    → r ≡ option_map (λ (o : Opened). balances h id h.last) (opened h id)
    → IfSome r (λ b. b.credits_pending + b.credits_posted ≤ max_128)
credits_bounded h id r bounded is =
    let P : Option Balances → Type 0 = λ found. IfSome found (λ b. b.credits_pending + b.credits_posted ≤ max_128) in
    subst P (sym is) (some_bounded h id (opened h id) bounded).1
