-- The text of a value without floats is read as its tokens, whatever follows it.
use Rattle.std.proofs.Common.{◌≡◌, ℕ, ◌<◌, ◌^◌, List, [], ◌∷◌, ◌++◌, Bool, true, false, cond, Some, Ok, decimal, codes, refl, sym, ap, ap₂, ◌∙◌, arith, append_assoc}
use Rattle.std.specs.Prelude.{⊤}
use Rattle.json.specs.Json as json
use Rattle.json.specs.Lex.{token, colon, string_token, begins_colon, lex, between, fresh, after_value, after_comma, punctuate}
use Rattle.json.specs.Print.{escape, quoted}
use Rattle.json.specs.Token.{begin_object, key, string}
use Rattle.json.specs.Tree.{depth, json_tokens, members_tokens}
use Rattle.json.specs.Word.{ends_word}
use Rattle.json.proofs.Printed.Decimals.{IsNumber-decimal}
use Rattle.json.proofs.Printed.Numbers.{lex-number}
use Rattle.json.proofs.Printed.Strings.{content-escape, lex-escape}
use Rattle.serde_json.specs.Data as value
use Rattle.serde_json.specs.Data.{Num, unsigned, negative, float, Data, Members, no_members, member, object, put}
use Rattle.serde_json.specs.Written.{compact_text, members_text, outline, members_outline}
use Rattle.serde_json.proofs.Numbers.{number_of-decimal}
use Rattle.serde_json.proofs.OnLiterals.{serde_json_on_literals}
use Rattle.cdc_types.specs.declared.events.EventAccount.{EventAccount}
use Rattle.cdc_types.specs.declared.events.EventTransfer.{EventTransfer}
use Rattle.cdc_types.specs.declared.events.Event.{Event}
use Rattle.cdc_types.specs.declared.events.Headers.{Headers}
use Rattle.cdc_message.specs.Bodies.{body}
use Rattle.cdc_message.specs.Kinds.{kind_text}
use Rattle.cdc_message.specs.Reading.{event_of}
use Rattle.cdc_message.specs.Unordered.{Gives, GivesEvent, tokens_at}
use Rattle.cdc_message.specs.Values.{narrow, account_value, event_members, event_value, transfer_value}
use Rattle.cdc_message.specs.Widths.{AccountFits, EventFits, TransferFits}
use Rattle.cdc_message.proofs.Back.{event_of-event_value}
use Rattle.cdc_message.proofs.Law.{event_back}
use Rattle.cdc_message.proofs.Texts.{HasPlainKeys, compact_text-event, compact_text-object, plain_kind}
use Rattle.cdc_queue_lines.specs.Lines.{headers_text}
use Rattle.cdc_envelopes.specs.Private.Headers.{HeadersFit}

-- a number without a sign that fits 64 bits
abbrev IsShort : Num → Type 0
IsShort (unsigned n) = n < 2 ^ 64
IsShort (negative z) = ⊥
IsShort (float x) = ⊥

-- a value of strings, objects and such numbers
abbrev mutual
  IsPlain : Data → Type 0
  IsPlain value.null = ⊥
  IsPlain (value.boolean b) = ⊥
  IsPlain (value.number n) = IsShort n
  IsPlain (value.string s) = ⊤
  IsPlain (value.array ds) = ⊥
  IsPlain (value.object ms) = ArePlain ms

  ArePlain : Members → Type 0
  ArePlain no_members = ⊤
  ArePlain (member k d ms) = IsPlain d × ArePlain ms

-- a string, and what follows it
lex_quoted : (s rest : List ℕ) → lex between (quoted s ++ rest) ≡ token (string s) ∷ lex between rest
unfolding lex
lex_quoted s rest =
    ap (λ l. lex between (34 ∷ l)) (append_assoc (escape s) (34 ∷ []) rest)
    ∙ ap₂ (λ o l. token (string_token o) ∷ l) (content-escape s rest) (lex-escape s rest)

-- after a member comes a comma or a brace, which ends a number
ended : (ms : Members) (rest : List ℕ) → ends_word (members_text true ms ++ rest) ≡ true
ended no_members rest = refl
ended (member k d ms) rest = refl

-- and which is unnamed colon
no_colon : (ms : Members) (rest : List ℕ) → begins_colon (lex between (members_text true ms ++ rest)) ≡ false
unfolding lex
no_colon no_members rest = refl
no_colon (member k d ms) rest = refl

-- the text of a member without its comma, and what follows it
member_then : (k t more rest : List ℕ) → (quoted k ++ 58 ∷ (t ++ more)) ++ rest ≡ quoted k ++ 58 ∷ (t ++ (more ++ rest))
member_then k t more rest =
    append_assoc (quoted k) (58 ∷ (t ++ more)) rest ∙ ap (λ l. quoted k ++ 58 ∷ l) (append_assoc t more rest)

-- a key, its colon, and what follows them
key_lexes : (k more : List ℕ) → lex between (quoted k ++ 58 ∷ more) ≡ token (string k) ∷ colon ∷ lex between more
unfolding lex
key_lexes k more = lex_quoted k (58 ∷ more)

-- the value of a member, and the members after it
value_then : (d : Data) (ms : Members) (rest : List ℕ)
    → tokens_at fresh (compact_text d ++ (members_text true ms ++ rest))
    ≡ json_tokens (outline d) ++ tokens_at after_value (members_text true ms ++ rest)
    → tokens_at after_value (members_text true ms ++ rest)
    ≡ members_tokens (members_outline ms) ++ tokens_at after_value rest
    → tokens_at fresh (compact_text d ++ (members_text true ms ++ rest))
    ≡ (json_tokens (outline d) ++ members_tokens (members_outline ms)) ++ tokens_at after_value rest
value_then d ms rest first later =
    first ∙ ap (λ ts. json_tokens (outline d) ++ ts) later
    ∙ sym (append_assoc (json_tokens (outline d)) (members_tokens (members_outline ms)) (tokens_at after_value rest))

mutual
  unfolding lex punctuate

  -- a value
  value_tokens : (d : Data) → IsPlain d → (rest : List ℕ) → ends_word rest ≡ true
      → begins_colon (lex between rest) ≡ false
      → tokens_at fresh (compact_text d ++ rest) ≡ json_tokens (outline d) ++ tokens_at after_value rest
  value_tokens value.null h rest ends unnamed = absurd h
  value_tokens (value.boolean b) h rest ends unnamed = absurd h
  value_tokens (value.number (unsigned n)) h rest ends unnamed =
      ap (punctuate fresh) (lex-number (decimal n) rest (IsNumber-decimal n h) ends)
  value_tokens (value.number (negative z)) h rest ends unnamed = absurd h
  value_tokens (value.number (float x)) h rest ends unnamed = absurd h
  value_tokens (value.string s) h rest ends unnamed = ap (punctuate fresh) (lex_quoted s rest) ∙ rw unnamed
  value_tokens (value.array ds) h rest ends unnamed = absurd h
  value_tokens (value.object ms) h rest ends unnamed = ap (λ ts. begin_object ∷ ts) (first_tokens ms h rest)

  -- the members of an object, from the first one on
  first_tokens : (ms : Members) → ArePlain ms → (rest : List ℕ)
      → tokens_at fresh (members_text false ms ++ rest)
      ≡ members_tokens (members_outline ms) ++ tokens_at after_value rest
  first_tokens no_members h rest = refl
  first_tokens (member k d ms) h rest =
      ap (tokens_at fresh) (member_then k (compact_text d) (members_text true ms) rest)
      ∙ ap (punctuate fresh) (key_lexes k (compact_text d ++ (members_text true ms ++ rest)))
      ∙ ap (λ ts. key k ∷ ts) (value_then d ms rest
      (value_tokens d h.0 (members_text true ms ++ rest) (ended ms rest) (no_colon ms rest))
      (later_tokens ms h.1 rest))

  -- and from a later one on
  later_tokens : (ms : Members) → ArePlain ms → (rest : List ℕ)
      → tokens_at after_value (members_text true ms ++ rest)
      ≡ members_tokens (members_outline ms) ++ tokens_at after_value rest
  later_tokens no_members h rest = refl
  later_tokens (member k d ms) h rest =
      ap (λ l. punctuate after_comma (lex between l)) (member_then k (compact_text d) (members_text true ms) rest)
      ∙ ap (punctuate after_comma) (key_lexes k (compact_text d ++ (members_text true ms ++ rest)))
      ∙ ap (λ ts. key k ∷ ts) (value_then d ms rest
      (value_tokens d h.0 (members_text true ms ++ rest) (ended ms rest) (no_colon ms rest))
      (later_tokens ms h.1 rest))

-- an object, whatever follows it
object_tokens : (ms : Members) → ArePlain ms → (rest : List ℕ)
    → tokens_at fresh (compact_text (object ms) ++ rest)
    ≡ json_tokens (outline (object ms)) ++ tokens_at after_value rest
unfolding lex punctuate
object_tokens ms h rest = ap (λ ts. begin_object ∷ ts) (first_tokens ms h rest)

-- ---- bodies

account_plain : (account : EventAccount) → AccountFits account → IsPlain (account_value account)
account_plain account fits =
    let code : account.code < 2 ^ 64 = omega (arith, fits.code) in
    let flags : account.flags < 2 ^ 64 = omega (arith, fits.flags) in
    let own : account.user_data_32 < 2 ^ 64 = omega (arith, fits.user_data_32) in
    (code, (tt, (tt, (tt, (tt, (flags, (tt, (tt, (tt, (own, (tt, tt)))))))))))

transfer_plain : (transfer : EventTransfer) → TransferFits transfer → IsPlain (transfer_value transfer)
transfer_plain transfer fits =
    let code : transfer.code < 2 ^ 64 = omega (arith, fits.code) in
    let flags : transfer.flags < 2 ^ 64 = omega (arith, fits.flags) in
    let timeout : transfer.timeout < 2 ^ 64 = omega (arith, fits.timeout) in
    let own : transfer.user_data_32 < 2 ^ 64 = omega (arith, fits.user_data_32) in
    (tt, (code, (flags, (tt, (tt, (timeout, (tt, (tt, (own, (tt, tt))))))))))

event_plain : (event : Event) → EventFits event → IsPlain (event_value event)
event_plain event fits =
    let ledger : event.ledger < 2 ^ 64 = omega (arith, fits.ledger) in (
      account_plain event.credit_account fits.credit_account,
      (
        account_plain event.debit_account fits.debit_account,
        (ledger, (tt, (transfer_plain event.transfer fits.transfer, (tt, tt)))),
      ),
    )

-- the body of an event is this event, whatever follows it
pub own_gives : (event : Event) (rest : List ℕ) → EventFits event → GivesEvent (body event ++ rest) event rest
own_gives event rest fits = record {
  json = outline (event_value event);
  value = event_value event;
  shallow = omega arith;
  converts = event_back event fits;
  tokens = λ unnamed.
      ap (λ t. tokens_at fresh (t ++ rest)) (sym (compact_text-event event fits))
      ∙ object_tokens (event_members (account_value event.credit_account) (account_value event.debit_account)
      (transfer_value event.transfer) event) (event_plain event fits) rest;
  holds = event_of-event_value event fits;
}

-- ---- headers

abbrev headers_members : Headers → Members
headers_members headers =
    member (codes "event_type") (value.string (kind_text headers.kind)) (
    member (codes "ledger") (narrow headers.ledger) (
    member (codes "transfer_code") (narrow headers.transfer_code) (
    member (codes "debit_account_code") (narrow headers.debit_account_code) (
    member (codes "credit_account_code") (narrow headers.credit_account_code)
    no_members))))

headers_keys : (headers : Headers) → HasPlainKeys (headers_members headers)
unfolding serde_json_on_literals
headers_keys headers = (refl, (refl, (refl, (refl, (refl, tt)))))

headers_written : (headers : Headers) → compact_text (object (headers_members headers)) ≡ headers_text headers
headers_written headers =
    compact_text-object (headers_members headers) (headers_keys headers) ∙ rw (plain_kind headers.kind)

-- headers are some object, whatever follows them
pub headers_give : (headers : Headers) (rest : List ℕ) → HeadersFit headers
    → Gives 1 (headers_text headers ++ rest) (λ value. ⊤) rest
headers_give headers rest fits = record {
  json = outline (object (headers_members headers));
  value = object (
      put (codes "credit_account_code") (narrow headers.credit_account_code) (
      put (codes "debit_account_code") (narrow headers.debit_account_code) (
      put (codes "transfer_code") (narrow headers.transfer_code) (
      put (codes "ledger") (narrow headers.ledger) (
      put (codes "event_type") (value.string (kind_text headers.kind)) no_members)))));
  shallow = omega arith;
  converts = rw (
    number_of-decimal headers.ledger fits.ledger,
    number_of-decimal headers.transfer_code fits.transfer_code,
    number_of-decimal headers.debit_account_code fits.debit_account_code,
    number_of-decimal headers.credit_account_code fits.credit_account_code,
  );
  tokens = λ unnamed.
      ap (λ t. tokens_at fresh (t ++ rest)) (sym (headers_written headers))
      ∙ object_tokens (headers_members headers)
      (tt, (fits.ledger, (fits.transfer_code, (fits.debit_account_code, (fits.credit_account_code, tt))))) rest;
  holds = tt;
}
