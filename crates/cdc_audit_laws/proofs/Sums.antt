-- The posted sums that accepted events show are the sums of all that these moved.
use Rattle.std.proofs.Common.{◌≡◌, ◌≢◌, ℕ, ◌+◌, true, false, List, [], ◌∷◌, ◌++◌, refl, sym, ap, ◌∙◌, subst, inl, inr, arith, append_assoc, append-nil, ◌==◌, if◌then◌else◌}
use Rattle.cdc_audit_laws.proofs.OfStd.{eqb_tells}
use Rattle.cdc_audit_laws.proofs.OfTypes.{Balances, Event}
use Rattle.cdc_audit_laws.proofs.OfAudit.{follows_on, balances_after, posted}
use Rattle.std.proofs.lemmas.List.Sums.{sum_by_push}
use Rattle.cdc_audit_laws.specs.Laws.{BalancesAreSums, PostedSumsAdd, Shows, WhatIsLeftOutMovedNothing, credits_posted_by, debits_posted_by}
use Rattle.cdc_audit_laws.proofs.Following.{CanFollow, IsCredited, IsDebited}
use Rattle.cdc_audit_laws.proofs.Shown.{balances_after-credited, balances_after-debited, balances_after-other, balances_of}
use Rattle.cdc_audit_laws.proofs.Streams.{first_follows, last_follows}

-- what one event adds to the sums of an account
abbrev debited_by : Event → ℕ → ℕ
debited_by e id = if e.debit_account.id == id then posted e else 0

abbrev credited_by : Event → ℕ → ℕ
credited_by e id = if e.credit_account.id == id then posted e else 0

-- one more event adds that
debits-push : (events : List Event) (e : Event) (id : ℕ)
    → debits_posted_by (events ++ e ∷ []) id ≡ debits_posted_by events id + debited_by e id
debits-push events e id = sum_by_push (λ x. debited_by x id) events e

credits-push : (events : List Event) (e : Event) (id : ℕ)
    → credits_posted_by (events ++ e ∷ []) id ≡ credits_posted_by events id + credited_by e id
credits-push events e id = sum_by_push (λ x. credited_by x id) events e

-- and the posted sums that are shown rise by as much
pub record Adds (past : List Event) (e : Event) (id : ℕ) : Type 0 where
  pub debits : (balances_after (past ++ e ∷ []) id).debits_posted
      ≡ (balances_after past id).debits_posted + debited_by e id
  pub credits : (balances_after (past ++ e ∷ []) id).credits_posted
      ≡ (balances_after past id).credits_posted + credited_by e id

-- if the event follows
adds : (past : List Event) (e : Event) (id : ℕ) → CanFollow past e → Adds past e id
adds past e id can =
    elim (eqb_tells e.credit_account.id id) [
      | inl credit ↦
          let not_debit : e.debit_account.id ≢ id = λ same. can.apart (same ∙ sym credit.1) in
          elim (eqb_tells e.debit_account.id id) [
            | inl debit ↦ absurd (not_debit debit.1)
            | inr debit ↦ credited credit.0 debit.0 credit.1
          ]
      | inr credit ↦ elim (eqb_tells e.debit_account.id id) [
        | inl debit ↦ debited credit.0 debit.0 debit.1 credit.1
        | inr debit ↦ neither credit.0 debit.0 debit.1 credit.1
      ]
    ]
  where
    credited : (e.credit_account.id == id) ≡ true → (e.debit_account.id == id) ≡ false → e.credit_account.id ≡ id
        → Adds past e id
    credited c d is =
        let now : balances_after (past ++ e ∷ []) id ≡ balances_of e.credit_account =
        balances_after-credited past e id is in
        let follows = subst (λ (n : ℕ). IsCredited past e (balances_after past n)) is can.credited in
        record {
          debits = rw (now, d) (let same = follows.debits_posted in omega arith);
          credits = rw (now, c) (let same = follows.credits_posted in omega arith);
        }

    debited : (e.credit_account.id == id) ≡ false → (e.debit_account.id == id) ≡ true → e.debit_account.id ≡ id
        → e.credit_account.id ≢ id → Adds past e id
    debited c d is not =
        let now : balances_after (past ++ e ∷ []) id ≡ balances_of e.debit_account =
        balances_after-debited past e id is not in
        let follows = subst (λ (n : ℕ). IsDebited past e (balances_after past n)) is can.debited in
        record {
          debits = rw (now, d) (let same = follows.debits_posted in omega arith);
          credits = rw (now, c) (let same = follows.credits_posted in omega arith);
        }

    neither : (e.credit_account.id == id) ≡ false → (e.debit_account.id == id) ≡ false → e.debit_account.id ≢ id
        → e.credit_account.id ≢ id → Adds past e id
    neither c d not_debited not_credited =
        let now : balances_after (past ++ e ∷ []) id ≡ balances_after past id =
        balances_after-other past e id not_debited not_credited in
        record {
          debits = rw (now, d) (omega arith);
          credits = rw (now, c) (omega arith);
        }

-- so the sums stay those of all that was moved, one event after another
sums_follow : (past rest : List Event) (id : ℕ) → PostedSumsAdd past id → follows_on past rest ≡ true
    → PostedSumsAdd (past ++ rest) id
sums_follow past [] id sums all = rw append-nil sums
sums_follow past (e ∷ rest) id sums all =
    let first = first_follows past e rest all in
    let more : Adds past e id = adds past e id first.0 in
    let next : PostedSumsAdd (past ++ e ∷ []) id = record {
      debits = more.debits ∙ ap (λ n. n + debited_by e id) sums.debits ∙ sym (debits-push past e id);
      credits = more.credits ∙ ap (λ n. n + credited_by e id) sums.credits ∙ sym (credits-push past e id);
    } in
    rw append_assoc at (sums_follow (past ++ e ∷ []) rest id next first.1)

-- the balances shown last are the sums of all that was moved
pub balances_are_sums : BalancesAreSums
balances_are_sums events id all = sums_follow [] events id (record { debits = refl; credits = refl }) all

-- an event shows the same of an account whatever comes before it
shown_alike : (whole rest : List Event) (last : Event) (id : ℕ) → last.debit_account.id ≢ last.credit_account.id
    → Shows id last → balances_after (whole ++ last ∷ []) id ≡ balances_after (rest ++ last ∷ []) id
shown_alike whole rest last id apart (inl is) =
    let not : last.credit_account.id ≢ id = λ same. apart (is ∙ sym same) in
    balances_after-debited whole last id is not ∙ sym (balances_after-debited rest last id is not)
shown_alike whole rest last id apart (inr is) =
    balances_after-credited whole last id is ∙ sym (balances_after-credited rest last id is)

-- so of two accepted streams that end with one event the others moved the same of its accounts
pub what_is_left_out_moved_nothing : WhatIsLeftOutMovedNothing
what_is_left_out_moved_nothing whole rest last id all some shows =
    let apart = (last_follows whole last all).1.apart in
    let one = balances_are_sums (whole ++ last ∷ []) id all in
    let other = balances_are_sums (rest ++ last ∷ []) id some in
    let same = shown_alike whole rest last id apart shows in
    let debits : debits_posted_by whole id + debited_by last id ≡ debits_posted_by rest id + debited_by last id =
    sym (debits-push whole last id) ∙ sym one.debits ∙ ap (λ (b : Balances). b.debits_posted) same ∙ other.debits
    ∙ debits-push rest last id in
    let credits : credits_posted_by whole id + credited_by last id ≡ credits_posted_by rest id + credited_by last id =
    sym (credits-push whole last id) ∙ sym one.credits ∙ ap (λ (b : Balances). b.credits_posted) same ∙ other.credits
    ∙ credits-push rest last id in
    (omega arith, omega arith)
