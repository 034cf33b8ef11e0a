-- The text of an event's JSON value is its body.
use Rattle.std.proofs.Common.{◌≡◌, ℕ, zero, suc, ◌+◌, ◌-◌, ◌<◌, ◌^◌, List, [], ◌∷◌, ◌++◌, drop, decimal, codes, true, refl, sym, ap, subst, ◌∙◌, arith, append_assoc}
use Rattle.std.proofs.lemmas.Fmt.{decimal_is_IsNumeral_wide}
use Rattle.std.proofs.lemmas.Str.Parse.{digit_from_value}
use Rattle.std.specs.Prelude.{⊤}
use Rattle.std.specs.List.{join_with_byte}
use Rattle.std.specs.Str.Parse.{AllDigits}
use Rattle.serde_json.specs.Data.{Data, string, object, Members, no_members, member}
use Rattle.serde_json.specs.Written.{compact_text, members_text}
use Rattle.serde_json.proofs.OnLiterals.{serde_json_on_literals}
use Rattle.cdc_types.specs.declared.events.EventAccount.{EventAccount}
use Rattle.cdc_types.specs.declared.events.EventTransfer.{EventTransfer}
use Rattle.cdc_types.specs.declared.events.Event.{Event}
use Rattle.cdc_types.specs.declared.events.EventKind.{EventKind}
use Rattle.cdc_types.specs.declared.events.EventKind.TheVariants.{SinglePhase, TwoPhasePending, TwoPhasePosted, TwoPhaseVoided, TwoPhaseExpired}
use Rattle.cdc_message.specs.Bodies.{in_quotes, member_text, object_text, narrow_member, wide_member, account_text, transfer_text, body}
use Rattle.cdc_message.specs.Kinds.{kind_text}
use Rattle.cdc_message.specs.Values.{account_members, account_value, transfer_members, transfer_value, event_members, event_value}
use Rattle.cdc_message.specs.Widths.{AccountFits, TransferFits, EventFits}

-- ---- strings that need no escape

-- a string's text, without the first quote
abbrev pub after_quote : List ℕ → List ℕ
after_quote s = drop 1 (compact_text (string s))

-- this byte represents itself
abbrev IsPlainByte : ℕ → Type 0
IsPlainByte d = (ds : List ℕ) → after_quote (d ∷ ds) ≡ d ∷ after_quote ds

-- each of the ten digits represents itself in a JSON string
plain_digit : (k : ℕ) → k < 10 → IsPlainByte (48 + k)
unfolding serde_json_on_literals
plain_digit zero h ds = refl
plain_digit (suc zero) h ds = refl
plain_digit (suc (suc zero)) h ds = refl
plain_digit (suc (suc (suc zero))) h ds = refl
plain_digit (suc (suc (suc (suc zero)))) h ds = refl
plain_digit (suc (suc (suc (suc (suc zero))))) h ds = refl
plain_digit (suc (suc (suc (suc (suc (suc zero)))))) h ds = refl
plain_digit (suc (suc (suc (suc (suc (suc (suc zero))))))) h ds = refl
plain_digit (suc (suc (suc (suc (suc (suc (suc (suc zero)))))))) h ds = refl
plain_digit (suc (suc (suc (suc (suc (suc (suc (suc (suc zero))))))))) h ds = refl
plain_digit (suc (suc (suc (suc (suc (suc (suc (suc (suc (suc k)))))))))) h ds = absurd (omega arith)

-- so does every row of digits
plain_digits : (ds : List ℕ) → AllDigits 10 ds → after_quote ds ≡ ds ++ 34 ∷ []
plain_digits [] h = refl
plain_digits (d ∷ ds) h =
    let range = digit_from_value d h.0 in
    let is : 48 + (d - 48) ≡ d = omega arith in
    let small : d - 48 < 10 = omega arith in
    subst IsPlainByte is (plain_digit (d - 48) small) ds ∙ ap (λ s. d ∷ s) (plain_digits ds h.1)

-- a number's digits need no escape
pub plain_decimal : (n : ℕ) → n < 10 ^ 64 → after_quote (decimal n) ≡ decimal n ++ 34 ∷ []
plain_decimal n h = plain_digits (decimal n) (decimal_is_IsNumeral_wide n h).0.1

-- ---- objects

-- each member's text
abbrev pub texts : Members → List (List ℕ)
texts no_members = []
texts (member k d ms) = member_text k (compact_text d) ∷ texts ms

-- no name needs an escape
abbrev pub HasPlainKeys : Members → Type 0
HasPlainKeys no_members = ⊤
HasPlainKeys (member k d ms) = (compact_text (string k) ≡ in_quotes k) × HasPlainKeys ms

-- a member whose name needs no escape is written as the definitions write one
one_member : (k v rest : List ℕ) → compact_text (string k) ≡ in_quotes k
    → compact_text (string k) ++ 58 ∷ (v ++ rest) ≡ member_text k v ++ rest
one_member k v rest h = ap (λ s. s ++ 58 ∷ (v ++ rest)) h ∙ simp append_assoc

-- so are the members that follow, each after a comma
rest_text : (t : List ℕ) (ms : Members) → HasPlainKeys ms
    → t ++ members_text true ms ≡ join_with_byte 44 (t ∷ texts ms) ++ 125 ∷ []
rest_text t no_members h = refl
rest_text t (member k d ms) h =
    ap (λ s. t ++ 44 ∷ s)
    (one_member k (compact_text d) (members_text true ms) h.0 ∙ rest_text (member_text k (compact_text d)) ms h.1)
    ∙ sym (append_assoc t (44 ∷ join_with_byte 44 (texts (member k d ms))) (125 ∷ []))

-- so is a whole object whose names need no escape
pub compact_text-object : (ms : Members) → HasPlainKeys ms → compact_text (object ms) ≡ object_text (texts ms)
compact_text-object no_members h = refl
compact_text-object (member k d ms) h =
    ap (λ s. 123 ∷ s)
    (one_member k (compact_text d) (members_text true ms) h.0 ∙ rest_text (member_text k (compact_text d)) ms h.1)

-- ---- the parts of an event

-- no name of an account's members needs an escape
account_keys : (account : EventAccount) → HasPlainKeys (account_members account)
unfolding serde_json_on_literals
account_keys account = (refl, (refl, (refl, (refl, (refl, (refl, (refl, (refl, (refl, (refl, (refl, tt)))))))))))

-- none of a transfer's does
transfer_keys : (transfer : EventTransfer) → HasPlainKeys (transfer_members transfer)
unfolding serde_json_on_literals
transfer_keys transfer = (refl, (refl, (refl, (refl, (refl, (refl, (refl, (refl, (refl, (refl, tt))))))))))

-- none of an event's does
event_keys : (credit debit transfer : Data) (event : Event) → HasPlainKeys (event_members credit debit transfer event)
unfolding serde_json_on_literals
event_keys credit debit transfer event = (refl, (refl, (refl, (refl, (refl, (refl, tt))))))

-- the case of ids, amounts and balances
plain_128 : (n : ℕ) → n < 2 ^ 128 → after_quote (decimal n) ≡ decimal n ++ 34 ∷ []
plain_128 n h = plain_decimal n (omega arith)

-- the case of timestamps and of the 64 bits of user data
plain_64 : (n : ℕ) → n < 2 ^ 64 → after_quote (decimal n) ≡ decimal n ++ 34 ∷ []
plain_64 n h = plain_decimal n (omega arith)

-- the JSON crate writes an account as the definitions do
pub compact_text-account : (account : EventAccount) → AccountFits account
    → compact_text (account_value account) ≡ account_text account
compact_text-account account fits =
    compact_text-object (account_members account) (account_keys account)
    ∙ rw (
      plain_128 account.credits_pending fits.credits_pending,
      plain_128 account.credits_posted fits.credits_posted,
      plain_128 account.debits_pending fits.debits_pending,
      plain_128 account.debits_posted fits.debits_posted,
      plain_128 account.id fits.id,
      plain_64 account.timestamp fits.timestamp,
      plain_128 account.user_data_128 fits.user_data_128,
      plain_64 account.user_data_64 fits.user_data_64,
    )

-- so it writes a transfer
pub compact_text-transfer : (transfer : EventTransfer) → TransferFits transfer
    → compact_text (transfer_value transfer) ≡ transfer_text transfer
compact_text-transfer transfer fits =
    compact_text-object (transfer_members transfer) (transfer_keys transfer)
    ∙ rw (
      plain_128 transfer.amount fits.amount,
      plain_128 transfer.id fits.id,
      plain_128 transfer.pending_id fits.pending_id,
      plain_64 transfer.timestamp fits.timestamp,
      plain_128 transfer.user_data_128 fits.user_data_128,
      plain_64 transfer.user_data_64 fits.user_data_64,
    )

-- the name of no kind needs an escape
pub plain_kind : (kind : EventKind) → after_quote (kind_text kind) ≡ kind_text kind ++ 34 ∷ []
unfolding serde_json_on_literals
plain_kind SinglePhase = refl
plain_kind TwoPhasePending = refl
plain_kind TwoPhasePosted = refl
plain_kind TwoPhaseVoided = refl
plain_kind TwoPhaseExpired = refl

-- an event, by the texts of its parts
by_parts : (event : Event) (credit debit transfer : Data) (credit_text debit_text of_transfer : List ℕ)
    → event.timestamp < 2 ^ 64
    → compact_text credit ≡ credit_text → compact_text debit ≡ debit_text → compact_text transfer ≡ of_transfer
    → compact_text (object (event_members credit debit transfer event)) ≡ object_text (
    member_text (codes "credit_account") credit_text ∷
    member_text (codes "debit_account") debit_text ∷
    narrow_member (codes "ledger") event.ledger ∷
    wide_member (codes "timestamp") event.timestamp ∷
    member_text (codes "transfer") of_transfer ∷
    member_text (codes "type") (in_quotes (kind_text event.kind)) ∷
    [])
by_parts event credit debit transfer credit_text debit_text of_transfer fits is_credit is_debit is_transfer =
    compact_text-object (event_members credit debit transfer event) (event_keys credit debit transfer event)
    ∙ rw (is_credit, is_debit, is_transfer, plain_64 event.timestamp fits, plain_kind event.kind)

-- what the JSON crate writes for an event is the event's body
pub compact_text-event : (event : Event) → EventFits event → compact_text (event_value event) ≡ body event
unfolding body
compact_text-event event fits =
    by_parts event (account_value event.credit_account) (account_value event.debit_account)
    (transfer_value event.transfer) _ _ _ fits.timestamp
    (compact_text-account event.credit_account fits.credit_account)
    (compact_text-account event.debit_account fits.debit_account)
    (compact_text-transfer event.transfer fits.transfer)
