-- The texts of an event and its parts, as the readers of own bodies take them: from one number to the next.
use Rattle.std.proofs.Common.{◌≡◌, ℕ, ◌<◌, List, [], ◌∷◌, ◌++◌, ◌∙◌, Option, Some, None, length, codes, decimal, sym, append_assoc, append-nil, arith}
use Rattle.cdc_types.specs.declared.events.Event.{Event}
use Rattle.cdc_types.specs.declared.events.EventAccount.{EventAccount}
use Rattle.cdc_types.specs.declared.events.EventTransfer.{EventTransfer}
use Rattle.cdc_message.specs.Bodies.{account_members_text, account_text, body, event_members_text, transfer_members_text, transfer_text}
use Rattle.cdc_message.specs.Kinds.{kind_text}
use Rattle.cdc_message.proofs.Members.{object_text-append}

-- a rest that begins with a byte isn't empty
pub some_rest : {rest more : List ℕ} {byte : ℕ} → rest ≡ byte ∷ more → 0 < length rest
some_rest {more = more} {byte = byte} is = rw is (omega arith)

-- what is there isn't missing
pub not_none : {A : Type 0} {answer : Option A} {value : A} {P : Type 0} → answer ≡ None → answer ≡ Some value → P
not_none {A = A} {value = value} none some =
    let differ : ◌≡◌ {A = Option A} None (Some value) = sym none ∙ some in
    absurd (cc)

-- the quote after a number goes to the text that follows
quote_follows : (n : ℕ) (rest : List ℕ) → (decimal n ++ 34 ∷ []) ++ rest ≡ decimal n ++ 34 ∷ rest
quote_follows n rest = append_assoc (decimal n) (34 ∷ []) rest

-- an account, and what follows it
abbrev pub account_parts : EventAccount → List ℕ → List ℕ
account_parts account rest =
    codes "{\"code\":" ++ (decimal account.code ++ (
    codes ",\"credits_pending\":\"" ++ (decimal account.credits_pending ++ (
    codes "\",\"credits_posted\":\"" ++ (decimal account.credits_posted ++ (
    codes "\",\"debits_pending\":\"" ++ (decimal account.debits_pending ++ (
    codes "\",\"debits_posted\":\"" ++ (decimal account.debits_posted ++ (
    codes "\",\"flags\":" ++ (decimal account.flags ++ (
    codes ",\"id\":\"" ++ (decimal account.id ++ (
    codes "\",\"timestamp\":\"" ++ (decimal account.timestamp ++ (
    codes "\",\"user_data_128\":\"" ++ (decimal account.user_data_128 ++ (
    codes "\",\"user_data_32\":" ++ (decimal account.user_data_32 ++ (
    codes ",\"user_data_64\":\"" ++ (decimal account.user_data_64 ++ (
    codes "\"}" ++ rest))))))))))))))))))))))

pub account_text-parts : (account : EventAccount) (rest : List ℕ)
    → account_text account ++ rest ≡ account_parts account rest
account_text-parts account rest = object_text-append (account_members_text account) rest ∙ simp quote_follows

-- a transfer, and what follows it
abbrev pub transfer_parts : EventTransfer → List ℕ → List ℕ
transfer_parts transfer rest =
    codes "{\"amount\":\"" ++ (decimal transfer.amount ++ (
    codes "\",\"code\":" ++ (decimal transfer.code ++ (
    codes ",\"flags\":" ++ (decimal transfer.flags ++ (
    codes ",\"id\":\"" ++ (decimal transfer.id ++ (
    codes "\",\"pending_id\":\"" ++ (decimal transfer.pending_id ++ (
    codes "\",\"timeout\":" ++ (decimal transfer.timeout ++ (
    codes ",\"timestamp\":\"" ++ (decimal transfer.timestamp ++ (
    codes "\",\"user_data_128\":\"" ++ (decimal transfer.user_data_128 ++ (
    codes "\",\"user_data_32\":" ++ (decimal transfer.user_data_32 ++ (
    codes ",\"user_data_64\":\"" ++ (decimal transfer.user_data_64 ++ (
    codes "\"}" ++ rest))))))))))))))))))))

pub transfer_text-parts : (transfer : EventTransfer) (rest : List ℕ)
    → transfer_text transfer ++ rest ≡ transfer_parts transfer rest
transfer_text-parts transfer rest = object_text-append (transfer_members_text transfer) rest ∙ simp quote_follows

-- an event
abbrev pub body_parts : Event → List ℕ
body_parts event =
    codes "{\"credit_account\":" ++ (account_text event.credit_account ++ (
    codes ",\"debit_account\":" ++ (account_text event.debit_account ++ (
    codes ",\"ledger\":" ++ (decimal event.ledger ++ (
    codes ",\"timestamp\":\"" ++ (decimal event.timestamp ++ (
    codes "\",\"transfer\":" ++ (transfer_text event.transfer ++ (
    codes ",\"type\":\"" ++ (kind_text event.kind ++ codes "\"}")))))))))))

pub body-parts : (event : Event) → body event ≡ body_parts event
unfolding body
body-parts event =
    sym (append-nil (body event)) ∙ object_text-append (event_members_text event) []
    ∙ rw (
      append_assoc (decimal event.timestamp) (34 ∷ []),
      append_assoc (kind_text event.kind) (34 ∷ []) (125 ∷ []),
    )
