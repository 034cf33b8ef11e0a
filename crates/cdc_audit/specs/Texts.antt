-- The text of a refusal: the name of the rule that the event breaks, and the numbers.
use Rattle.std.specs.Prelude.{ℕ, List, [], ◌++◌, ◌==◌, codes, decimal, if◌then◌else◌}
use Rattle.cdc_types.specs.Results.{account_name, transfer_name}
use Rattle.cdc_audit.specs.declared.refusals.BalanceField.{BalanceField}
use Rattle.cdc_audit.specs.declared.refusals.BalanceField.TheVariants.{DebitsPending, DebitsPosted, CreditsPending, CreditsPosted}
use Rattle.cdc_audit.specs.declared.refusals.Excess.{Excess}
use Rattle.cdc_audit.specs.declared.refusals.FieldMismatch.{FieldMismatch}
use Rattle.cdc_audit.specs.declared.refusals.FixedField.{FixedField}
use Rattle.cdc_audit.specs.declared.refusals.FixedField.TheVariants.{UserData128, UserData64, UserData32, Ledger, Code, Flags, Timestamp}
use Rattle.cdc_audit.specs.declared.refusals.Mismatch.{Mismatch}
use Rattle.cdc_audit.specs.declared.refusals.Refusal.{Refusal}
use Rattle.cdc_audit.specs.declared.refusals.Refusal.TheVariants.{AfterEnd, NotLater, TooHigh, OneAccount, TransferShape, OtherKind, OtherTimestamp, AccountShape, AccountField, CreatedLater, CreatedAtEvent, CreatedTogether}
use Rattle.cdc_audit.specs.declared.refusals.Refusal.TheVariants.{LongAccountChain, LongChain, NextIsEvent, NoNext}
use Rattle.cdc_audit.specs.declared.refusals.Refusal.TheVariants.{KnownId, NotPending, Settled, OtherFields, Amount, NoTimeout, TooSoon, TooLate, ExpiresLate, ExpiresApart, BrokenChain, TooLarge, Limit, Balance}
use Rattle.cdc_audit.specs.declared.refusals.Side.{Side}
use Rattle.cdc_audit.specs.declared.refusals.Side.TheVariants.{Debits, Credits}

-- the name of the rule that the event breaks
abbrev pub refusal_name : Refusal → List ℕ
refusal_name (AfterEnd timestamp) = codes "end"
refusal_name (NotLater timestamp last) = codes "timestamps"
refusal_name (TooHigh timestamp) = codes "timestamps"
refusal_name (OneAccount id) = codes "accounts"
refusal_name (TransferShape id result) = codes "shape"
refusal_name (OtherKind id) = codes "shape"
refusal_name (OtherTimestamp id shown timestamp) = codes "shape"
refusal_name (AccountShape id result) = codes "shape"
refusal_name (AccountField mismatch) = codes "fields"
refusal_name (CreatedLater id created timestamp) = codes "created"
refusal_name (CreatedAtEvent id timestamp) = codes "created"
refusal_name (CreatedTogether id timestamp other) = codes "created"
refusal_name (KnownId id) = codes "id"
refusal_name (NotPending id) = codes "pending"
refusal_name (Settled id) = codes "ended"
refusal_name (OtherFields id) = codes "settles"
refusal_name (Amount amount id held) = codes "amount"
refusal_name (NoTimeout id) = codes "timeouts"
refusal_name (TooSoon id timestamp end) = codes "timeouts"
refusal_name (TooLate id timestamp end) = codes "timeouts"
refusal_name (ExpiresLate id other) = codes "expiries"
refusal_name (ExpiresApart id other) = codes "expiries"
refusal_name (BrokenChain timestamp last) = codes "chains"
refusal_name (TooLarge id side) = codes "limits"
refusal_name (Limit excess) = codes "limits"
refusal_name (Balance mismatch) = codes "balances"
refusal_name (NextIsEvent id created) = codes "links"
refusal_name (LongAccountChain id created) = codes "links"
refusal_name (LongChain timestamp) = codes "links"
refusal_name (NoNext timestamp) = codes "links"

-- the name of a balance
abbrev pub field_name : BalanceField → List ℕ
field_name DebitsPending = codes "debits_pending"
field_name DebitsPosted = codes "debits_posted"
field_name CreditsPending = codes "credits_pending"
field_name CreditsPosted = codes "credits_posted"

-- the name of a field of an account
abbrev pub fixed_name : FixedField → List ℕ
fixed_name UserData128 = codes "user_data_128"
fixed_name UserData64 = codes "user_data_64"
fixed_name UserData32 = codes "user_data_32"
fixed_name Ledger = codes "ledger"
fixed_name Code = codes "code"
fixed_name Flags = codes "flags"
fixed_name Timestamp = codes "timestamp"

-- the name of a side, and of the other one
abbrev pub side_name : Side → List ℕ
side_name Debits = codes "debits"
side_name Credits = codes "credits"

abbrev pub other_side_name : Side → List ℕ
other_side_name Debits = codes "credits"
other_side_name Credits = codes "debits"

-- a number between two texts
abbrev pub around : List ℕ → ℕ → List ℕ → List ℕ
around before number after = before ++ (decimal number ++ after)

-- a text and a number; nothing if the number is 0
abbrev pub unless_zero : List ℕ → ℕ → List ℕ
unless_zero before number = if number == 0 then [] else (before ++ decimal number)

-- a balance that doesn't follow, and what it would follow from
abbrev pub mismatch_text : Mismatch → List ℕ
mismatch_text m =
    around (codes "account ") m.account (codes " has ") ++ (field_name m.field
    ++ (around (codes " ") m.shown (codes ", after ") ++ (decimal m.before
    ++ (unless_zero (codes " and this transfer's ") m.added
    ++ unless_zero (codes " less the pending transfer's ") m.released))))

-- an id with a timestamp, in an event with another one
abbrev pub at_times : List ℕ → ℕ → List ℕ → ℕ → ℕ → List ℕ
at_times before id between one other =
    around before id between ++ (decimal one ++ (codes ", in an event at " ++ decimal other))

-- an account's timestamp, which another thing has
abbrev pub shared_text : ℕ → ℕ → List ℕ
shared_text id timestamp = around (codes "account ") id (codes " at ") ++ decimal timestamp

-- a pending transfer that is settled too soon or too late, and when it expires
abbrev pub time_text : ℕ → List ℕ → ℕ → ℕ → List ℕ
time_text id between timestamp end =
    around (codes "pending transfer ") id between
    ++ (decimal timestamp ++ (codes ", and its time is up at " ++ decimal end))

-- a pending transfer that expires after another one
abbrev pub expiry_text : ℕ → List ℕ → ℕ → List ℕ → List ℕ
expiry_text id between other after = around (codes "pending transfer ") id between ++ (decimal other ++ after)

-- a field of an account that isn't as its first event showed it
abbrev pub field_text : FieldMismatch → List ℕ
field_text m =
    around (codes "account ") m.account (codes " has ") ++ (fixed_name m.field
    ++ (around (codes " ") m.shown (codes ", after ") ++ decimal m.before))

-- a sum that exceeds its limit
abbrev pub excess_text : Excess → List ℕ
excess_text x =
    around (codes "account ") x.account (codes " has ") ++ (side_name x.side
    ++ (around (codes " of ") x.sum (codes ", above its ") ++ (other_side_name x.side ++ (codes " of "
    ++ decimal x.limit))))

-- why the event is refused, with the numbers
abbrev pub reason_text : Refusal → List ℕ
reason_text (AfterEnd timestamp) = around (codes "event ") timestamp (codes " came after the end")
reason_text (NotLater timestamp last) = around [] timestamp (codes ", after ") ++ decimal last
reason_text (TooHigh timestamp) = around [] timestamp (codes " is above the greatest timestamp")
reason_text (OneAccount id) = around (codes "account ") id (codes " is debited and credited")
reason_text (TransferShape id result) = around (codes "transfer ") id (codes " is invalid: ") ++ transfer_name result
reason_text (OtherKind id) = around (codes "transfer ") id (codes " has the flags of another kind")
reason_text (OtherTimestamp id shown timestamp) =
    at_times (codes "transfer ") id (codes " has timestamp ") shown timestamp
reason_text (AccountShape id result) = around (codes "account ") id (codes " is invalid: ") ++ account_name result
reason_text (AccountField mismatch) = field_text mismatch
reason_text (CreatedLater id created timestamp) = at_times (codes "account ") id (codes " at ") created timestamp
reason_text (CreatedAtEvent id timestamp) = shared_text id timestamp ++ codes ", as an event"
reason_text (CreatedTogether id timestamp other) =
    shared_text id timestamp ++ (codes ", as account " ++ decimal other)
reason_text (KnownId id) = around (codes "transfer ") id (codes " came before")
reason_text (NotPending id) = around (codes "no pending transfer ") id (codes " came before")
reason_text (Settled id) = around (codes "pending transfer ") id (codes " ended before")
reason_text (OtherFields id) =
    around (codes "pending transfer ") id (codes " has other accounts, another ledger, code or user data")
reason_text (Amount amount id held) =
    around [] amount (codes " of pending transfer ") ++ (decimal id ++ (codes ", which holds " ++ decimal held))
reason_text (NoTimeout id) = around (codes "pending transfer ") id (codes " has no timeout")
reason_text (TooSoon id timestamp end) = time_text id (codes " expires at ") timestamp end
reason_text (TooLate id timestamp end) = time_text id (codes " is settled at ") timestamp end
reason_text (ExpiresLate id other) =
    expiry_text id (codes " expires before pending transfer ") other (codes ", which is first to expire")
reason_text (ExpiresApart id other) =
    expiry_text id (codes " expires with pending transfer ") other (codes ", and not right after it")
reason_text (BrokenChain timestamp last) =
    around (codes "event ") timestamp (codes " isn't the next of the chain at ") ++ decimal last
reason_text (TooLarge id side) =
    around (codes "account ") id (codes " has ") ++ (side_name side ++ codes " above 128 bits")
reason_text (Limit excess) = excess_text excess
reason_text (Balance mismatch) = mismatch_text mismatch
reason_text (NextIsEvent id created) = shared_text id created ++ codes ", linked, right before an event"
reason_text (LongAccountChain id created) = shared_text id created ++ codes ", in a chain longer than a batch"
reason_text (LongChain timestamp) = around (codes "event ") timestamp (codes " is in a chain longer than a batch")
reason_text (NoNext timestamp) =
    around (codes "event ") timestamp (codes " is linked, at the greatest timestamp")

-- the rule's name and the reason
unfoldable pub refusal_text : Refusal → List ℕ
refusal_text why = refusal_name why ++ (codes ": " ++ reason_text why)
