-- The bounds of an account's sums: 128 bits, and the limits that its flags set.
use Rattle.std.specs.Prelude.{ℕ, ◌+◌, Bool, ◌&&◌, nat_lt, List, [], ◌∷◌, ◌++◌}
use Rattle.cdc_types.specs.declared.accounts.TheConstants.AccountFlags.{CREDITS_MUST_NOT_EXCEED_DEBITS, DEBITS_MUST_NOT_EXCEED_CREDITS}
use Rattle.cdc_types.specs.declared.events.Event.{Event}
use Rattle.cdc_types.specs.declared.events.EventAccount.{EventAccount}
use Rattle.cdc_types.specs.Flags.{has_flag}
use Rattle.cdc_types.specs.Widths.{max_128}
use Rattle.cdc_audit.specs.declared.refusals.Refusal.{Refusal}
use Rattle.cdc_audit.specs.declared.refusals.Refusal.TheVariants.{TooLarge, Limit}
use Rattle.cdc_audit.specs.declared.refusals.Side.TheVariants.{Debits, Credits}

-- all debits of an account, pending and posted, and all its credits
abbrev pub all_debits : EventAccount → ℕ
all_debits a = a.debits_pending + a.debits_posted

abbrev pub all_credits : EventAccount → ℕ
all_credits a = a.credits_pending + a.credits_posted

-- the lines on an account after an event
abbrev pub limit_lines : EventAccount → List (Bool × Refusal)
limit_lines a =
    (nat_lt max_128 (all_debits a), TooLarge a.id Debits) ∷
    (nat_lt max_128 (all_credits a), TooLarge a.id Credits) ∷ (
      has_flag a.flags DEBITS_MUST_NOT_EXCEED_CREDITS && nat_lt a.credits_posted (all_debits a),
      Limit (record { account = a.id; side = Debits; sum = all_debits a; limit = a.credits_posted }),
    ) ∷ (
      has_flag a.flags CREDITS_MUST_NOT_EXCEED_DEBITS && nat_lt a.debits_posted (all_credits a),
      Limit (record { account = a.id; side = Credits; sum = all_credits a; limit = a.debits_posted }),
    ) ∷
    []

-- the lines on both accounts of an event
abbrev pub limits_lines : Event → List (Bool × Refusal)
limits_lines e = limit_lines e.debit_account ++ limit_lines e.credit_account
