-- The lines of a queue are the texts of JSON values, and read back as these values.
use Rattle.std.proofs.Common.{◌≡◌, ℕ, ◌-◌, ◌<◌, ◌≤◌, ◌^◌, ◌==◌, Bool, true, false, not, ◌&&◌, ◌||◌, nat_le, List, [], ◌∷◌, ◌++◌, Some, Err, codes, decimal, length, option_and_then, refl, sym, ap, subst, ◌∙◌, arith, append-nil, le-leb}
use Rattle.std.proofs.lemmas.Bool.{and_parts, leb-true}
use Rattle.std.proofs.lemmas.Fmt.{decimal_is_IsNumeral_wide}
use Rattle.std.proofs.lemmas.Str.{is_utf8-from_IsUtf8}
use Rattle.std.proofs.lemmas.Str.Parse.{digit_from_value}
use Rattle.std.specs.Prelude.{IsUtf8}
use Rattle.std.specs.Char.{is_ascii_digit}
use Rattle.std.specs.List.{join_with_byte, list_all}
use Rattle.std.specs.Str.Parse.{AllDigits}
use Rattle.json.specs.Json as json
use Rattle.json.specs.Lex.{tokens}
use Rattle.json.specs.Print.{escape}
use Rattle.json.specs.Tree as tree
use Rattle.json.specs.Tree.{json_tokens, HasNumbers}
use Rattle.json.proofs.Printed.Decimals.{IsNumber-decimal}
use Rattle.json.proofs.Printed.Strings.{escape_byte_plain}
use Rattle.json.proofs.Printed.Tokens.{tokens-print}
use Rattle.json.proofs.Printed.Trees.{value-json_tokens, ArePrintable-json_tokens}
use Rattle.serde_json.specs.Data.{Data, boolean, string, object, Members, no_members, member}
use Rattle.serde_json.specs.Read.{of_json, max_depth}
use Rattle.serde_json.specs.Read as values
use Rattle.serde_json.specs.Written.{compact_text, outline}
use Rattle.serde_json.proofs.Numbers.{number_of-decimal}
use Rattle.serde_json.proofs.Texts.{print-outline}
use Rattle.cdc_types.specs.declared.events.EventAccount.{EventAccount}
use Rattle.cdc_types.specs.declared.events.EventTransfer.{EventTransfer}
use Rattle.cdc_types.specs.declared.events.Event.{Event}
use Rattle.cdc_types.specs.declared.events.EventKind.{EventKind}
use Rattle.cdc_types.specs.declared.events.EventKind.TheVariants.{SinglePhase, TwoPhasePending, TwoPhasePosted, TwoPhaseVoided, TwoPhaseExpired}
use Rattle.cdc_types.specs.declared.events.Headers.{Headers}
use Rattle.cdc_message.specs.declared.errors.DecodeError.TheVariants.{Missing}
use Rattle.cdc_message.specs.declared.fields.Part.TheVariants.{Top}
use Rattle.cdc_message.specs.declared.fields.FieldName.TheVariants as name
use Rattle.cdc_message.specs.Bodies.{in_quotes, member_text, object_text, body}
use Rattle.cdc_message.specs.Decimals.{is_decimal}
use Rattle.cdc_message.specs.Fields.{field}
use Rattle.cdc_message.specs.Headers.{headers_of_event}
use Rattle.cdc_message.specs.Kinds.{kind_text}
use Rattle.cdc_message.specs.Reading.{event_of, value_of, whole_number}
use Rattle.cdc_message.specs.Values.{narrow, wide, account_value, transfer_value, event_members, event_value}
use Rattle.cdc_message.specs.Widths.{AccountFits, TransferFits, EventFits}
use Rattle.cdc_message.proofs.Back.{event_of-event_value}
use Rattle.cdc_message.proofs.DecimalTexts.{own_digits}
use Rattle.cdc_message.proofs.Texts.{HasPlainKeys, compact_text-event, compact_text-object}
use Rattle.cdc_queue_lines.specs.Lines as lines
use Rattle.cdc_queue_lines.specs.Lines.{end_line, headers_text, message_line, seconds_of}
use Rattle.cdc_queue_lines.specs.Reading.{EndsRead, MessagesRead}
use Rattle.cdc_queue_lines.proofs.Neat.{neat_clean, neat_end, neat_message, neat_utf8, seconds_fit}

-- ---- strings that need no escape

-- a byte that stands for itself in a JSON string
abbrev is_bare : ℕ → Bool
is_bare x = nat_le 35 x && (nat_le x 91 || nat_le 93 x)

no_quote : (x : ℕ) → is_bare x ≡ true → x ≡ 34 → ⊥
no_quote x bare is = let never : false ≡ true = subst (λ y. is_bare y ≡ true) is bare in cc

no_backslash : (x : ℕ) → is_bare x ≡ true → x ≡ 92 → ⊥
no_backslash x bare is = let never : false ≡ true = subst (λ y. is_bare y ≡ true) is bare in cc

escape_bare : (s : List ℕ) → list_all is_bare s ≡ true → escape s ≡ s
escape_bare [] bare = refl
escape_bare (x ∷ s) bare =
    let parts = and_parts _ _ bare in
    let low = leb-true 35 x (and_parts _ _ parts.0).0 in
    ap (λ (t : List ℕ). t ++ escape s)
    (escape_byte_plain x (no_quote x parts.0) (no_backslash x parts.0) (omega (arith, low)))
    ∙ ap (λ (t : List ℕ). x ∷ t) (escape_bare s parts.1)

quoted_bare : (s : List ℕ) → list_all is_bare s ≡ true → compact_text (string s) ≡ in_quotes s
quoted_bare s bare = ap (λ (t : List ℕ). 34 ∷ (t ++ 34 ∷ [])) (escape_bare s bare)

both : (a b : Bool) → a ≡ true → b ≡ true → (a && b) ≡ true
both a b p q = rw (p, q) refl

either : (a b : Bool) → a ≡ true → (a || b) ≡ true
either a b p = rw p refl

digits_bare : (ds : List ℕ) → AllDigits 10 ds → list_all is_bare ds ≡ true
digits_bare [] h = refl
digits_bare (d ∷ ds) h =
    let range = digit_from_value d h.0 in
    both _ _
    (both _ _ (le-leb 35 d (omega arith)) (either _ (nat_le 93 d) (le-leb d 91 (omega arith))))
    (digits_bare ds h.1)

quoted_decimal : (n : ℕ) → n < 2 ^ 64 → compact_text (wide n) ≡ in_quotes (decimal n)
quoted_decimal n fits =
    quoted_bare (decimal n) (digits_bare (decimal n) (decimal_is_IsNumeral_wide n (omega arith)).0.1)

quoted_kind : (kind : EventKind) → compact_text (string (kind_text kind)) ≡ in_quotes (kind_text kind)
quoted_kind SinglePhase = quoted_bare (codes "single_phase") refl
quoted_kind TwoPhasePending = quoted_bare (codes "two_phase_pending") refl
quoted_kind TwoPhasePosted = quoted_bare (codes "two_phase_posted") refl
quoted_kind TwoPhaseVoided = quoted_bare (codes "two_phase_voided") refl
quoted_kind TwoPhaseExpired = quoted_bare (codes "two_phase_expired") refl

-- ---- the values that lines are written as

abbrev headers_members : Headers → Members
headers_members headers =
    member (codes "event_type") (string (kind_text headers.kind)) (
    member (codes "ledger") (narrow headers.ledger) (
    member (codes "transfer_code") (narrow headers.transfer_code) (
    member (codes "debit_account_code") (narrow headers.debit_account_code) (
    member (codes "credit_account_code") (narrow headers.credit_account_code)
    no_members))))

abbrev headers_value : Headers → Data
headers_value headers = object (headers_members headers)

abbrev message_members : ℕ → ℕ → Data → Data → Members
message_members previous seconds headers body =
    member (codes "kind") (string (codes "message")) (
    member (codes "previous") (wide previous) (
    member (codes "headers") headers (
    member (codes "timestamp") (narrow seconds) (
    member (codes "body") body
    no_members))))

abbrev end_members : ℕ → Members
end_members previous =
    member (codes "kind") (string (codes "end")) (
    member (codes "previous") (wide previous) (
    member (codes "end") (boolean true)
    no_members))

abbrev message_value : ℕ → Event → Data
message_value previous event =
    object (message_members previous (seconds_of event) (headers_value (headers_of_event event)) (event_value event))

-- no name needs an escape
headers_keys : (headers : Headers) → HasPlainKeys (headers_members headers)
headers_keys headers = (
  quoted_bare (codes "event_type") refl,
  (
    quoted_bare (codes "ledger") refl,
    (
      quoted_bare (codes "transfer_code") refl,
      (quoted_bare (codes "debit_account_code") refl, (quoted_bare (codes "credit_account_code") refl, tt)),
    ),
  ),
)

message_keys : (previous seconds : ℕ) (headers body : Data)
    → HasPlainKeys (message_members previous seconds headers body)
message_keys previous seconds headers body = (
  quoted_bare (codes "kind") refl,
  (
    quoted_bare (codes "previous") refl,
    (
      quoted_bare (codes "headers") refl,
      (quoted_bare (codes "timestamp") refl, (quoted_bare (codes "body") refl, tt)),
    ),
  ),
)

end_keys : (previous : ℕ) → HasPlainKeys (end_members previous)
end_keys previous =
    (quoted_bare (codes "kind") refl, (quoted_bare (codes "previous") refl, (quoted_bare (codes "end") refl, tt)))

-- the texts of these values
headers_written : (headers : Headers) → compact_text (headers_value headers) ≡ headers_text headers
headers_written headers =
    compact_text-object (headers_members headers) (headers_keys headers)
    ∙ ap (λ (kind : List ℕ). object_text (
    member_text (codes "event_type") kind ∷
    member_text (codes "ledger") (decimal headers.ledger) ∷
    member_text (codes "transfer_code") (decimal headers.transfer_code) ∷
    member_text (codes "debit_account_code") (decimal headers.debit_account_code) ∷
    member_text (codes "credit_account_code") (decimal headers.credit_account_code) ∷
    [])) (quoted_kind headers.kind)

message_written : (previous : ℕ) (event : Event) → previous < 2 ^ 64 → EventFits event
    → message_line previous event ≡ compact_text (message_value previous event)
unfolding message_line
message_written previous event before fits =
    let headers = headers_value (headers_of_event event) in
    let texts_of : List ℕ → List ℕ → List ℕ → List ℕ → List ℕ = λ kind number headers body. object_text (
    member_text (codes "kind") kind ∷
    member_text (codes "previous") number ∷
    member_text (codes "headers") headers ∷
    member_text (codes "timestamp") (decimal (seconds_of event)) ∷
    member_text (codes "body") body ∷
    []) in
    sym (compact_text-object (message_members previous (seconds_of event) headers (event_value event))
    (message_keys previous (seconds_of event) headers (event_value event))
    ∙ ap (λ (t : List ℕ). texts_of t (compact_text (wide previous)) (compact_text headers)
    (compact_text (event_value event))) (quoted_bare (codes "message") refl)
    ∙ ap (λ (t : List ℕ). texts_of (in_quotes (codes "message")) t (compact_text headers)
    (compact_text (event_value event))) (quoted_decimal previous before)
    ∙ ap (λ (t : List ℕ). texts_of (in_quotes (codes "message")) (in_quotes (decimal previous)) t
    (compact_text (event_value event))) (headers_written (headers_of_event event))
    ∙ ap (texts_of (in_quotes (codes "message")) (in_quotes (decimal previous)) (headers_text (headers_of_event event)))
    (compact_text-event event fits))

end_written : (previous : ℕ) → previous < 2 ^ 64 → end_line previous ≡ compact_text (object (end_members previous))
unfolding end_line
end_written previous before =
    let texts_of : List ℕ → List ℕ → List ℕ = λ kind number. object_text (
    member_text (codes "kind") kind ∷
    member_text (codes "previous") number ∷
    member_text (codes "end") (codes "true") ∷
    []) in
    sym (compact_text-object (end_members previous) (end_keys previous)
    ∙ ap (λ (t : List ℕ). texts_of t (compact_text (wide previous))) (quoted_bare (codes "end") refl)
    ∙ ap (texts_of (in_quotes (codes "end"))) (quoted_decimal previous before))

-- ---- reading a text back

-- the JSON crate reads the text of a value as the value that its JSON stands for
read_text : (d found : Data) → HasNumbers (outline d) → of_json (outline d) ≡ Some found
    → tree.depth (outline d) ≤ max_depth → values.read (compact_text d) ≡ Some found
read_text d found numbers back shallow =
    let j = outline d in
    let same : tokens (compact_text d) ≡ json_tokens j ++ [] =
    ap tokens (sym (print-outline d)) ∙ tokens-print (json_tokens j) (ArePrintable-json_tokens j numbers)
    ∙ sym (append-nil (json_tokens j)) in
    ap (λ r. option_and_then of_json (option_and_then (λ p. json.if_last p.0 p.1) r))
    (ap (json.value max_depth) same ∙ value-json_tokens j max_depth [] shallow) ∙ back

line_value : (line : List ℕ) (d found : Data) → line ≡ compact_text d → IsUtf8 line → HasNumbers (outline d)
    → of_json (outline d) ≡ Some found → tree.depth (outline d) ≤ max_depth → value_of line ≡ Some found
line_value line d found is text numbers back shallow =
    let read : values.read line ≡ Some found = ap values.read is ∙ read_text d found numbers back shallow in
    rw (is_utf8-from_IsUtf8 line text, read)

-- ---- the numbers of an event

account_numbers : (account : EventAccount) → AccountFits account → HasNumbers (outline (account_value account))
account_numbers account fits =
    let code = IsNumber-decimal account.code (omega (arith, fits.code)) in
    let flags = IsNumber-decimal account.flags (omega (arith, fits.flags)) in
    let own = IsNumber-decimal account.user_data_32 (omega (arith, fits.user_data_32)) in
    (code, (tt, (tt, (tt, (tt, (flags, (tt, (tt, (tt, (own, (tt, tt)))))))))))

transfer_numbers : (transfer : EventTransfer) → TransferFits transfer → HasNumbers (outline (transfer_value transfer))
transfer_numbers transfer fits =
    let code = IsNumber-decimal transfer.code (omega (arith, fits.code)) in
    let flags = IsNumber-decimal transfer.flags (omega (arith, fits.flags)) in
    let timeout = IsNumber-decimal transfer.timeout (omega (arith, fits.timeout)) in
    let own = IsNumber-decimal transfer.user_data_32 (omega (arith, fits.user_data_32)) in
    (tt, (code, (flags, (tt, (tt, (timeout, (tt, (tt, (own, (tt, tt))))))))))

event_numbers : (event : Event) → EventFits event → HasNumbers (outline (event_value event))
event_numbers event fits =
    let ledger = IsNumber-decimal event.ledger (omega (arith, fits.ledger)) in (
      account_numbers event.credit_account fits.credit_account,
      (
        account_numbers event.debit_account fits.debit_account,
        (ledger, (tt, (transfer_numbers event.transfer fits.transfer, (tt, tt)))),
      ),
    )

headers_numbers : (event : Event) → EventFits event → HasNumbers (outline (headers_value (headers_of_event event)))
headers_numbers event fits = (
  tt,
  (
    IsNumber-decimal event.ledger (omega (arith, fits.ledger)),
    (
      IsNumber-decimal event.transfer.code (omega (arith, fits.transfer.code)),
      (
        IsNumber-decimal event.debit_account.code (omega (arith, fits.debit_account.code)),
        (IsNumber-decimal event.credit_account.code (omega (arith, fits.credit_account.code)), tt),
      ),
    ),
  ),
)

message_numbers : (previous : ℕ) (event : Event) → EventFits event → HasNumbers (outline (message_value previous event))
message_numbers previous event fits = (
  tt,
  (
    tt,
    (
      headers_numbers event fits,
      (IsNumber-decimal (seconds_of event) (seconds_fit event fits), (event_numbers event fits, tt)),
    ),
  ),
)

-- ---- the values that lines are read as, each with its members in the order of their names

account_back : (account : EventAccount) → AccountFits account
    → of_json (outline (account_value account)) ≡ Some (account_value account)
account_back account fits =
    let code : account.code < 2 ^ 64 = omega (arith, fits.code) in
    let flags : account.flags < 2 ^ 64 = omega (arith, fits.flags) in
    let own : account.user_data_32 < 2 ^ 64 = omega (arith, fits.user_data_32) in
    rw (
      number_of-decimal account.code code,
      number_of-decimal account.flags flags,
      number_of-decimal account.user_data_32 own,
    )

transfer_back : (transfer : EventTransfer) → TransferFits transfer
    → of_json (outline (transfer_value transfer)) ≡ Some (transfer_value transfer)
transfer_back transfer fits =
    let code : transfer.code < 2 ^ 64 = omega (arith, fits.code) in
    let flags : transfer.flags < 2 ^ 64 = omega (arith, fits.flags) in
    let timeout : transfer.timeout < 2 ^ 64 = omega (arith, fits.timeout) in
    let own : transfer.user_data_32 < 2 ^ 64 = omega (arith, fits.user_data_32) in
    rw (
      number_of-decimal transfer.code code,
      number_of-decimal transfer.flags flags,
      number_of-decimal transfer.timeout timeout,
      number_of-decimal transfer.user_data_32 own,
    )

event_back_by_parts : (event : Event) (credit debit transfer : Data) → event.ledger < 2 ^ 64
    → of_json (outline credit) ≡ Some credit → of_json (outline debit) ≡ Some debit
    → of_json (outline transfer) ≡ Some transfer
    → of_json (outline (object (event_members credit debit transfer event)))
    ≡ Some (object (event_members credit debit transfer event))
event_back_by_parts event credit debit transfer ledger is_credit is_debit is_transfer =
    rw (is_credit, is_debit, number_of-decimal event.ledger ledger, is_transfer)

event_back : (event : Event) → EventFits event → of_json (outline (event_value event)) ≡ Some (event_value event)
event_back event fits =
    event_back_by_parts event (account_value event.credit_account) (account_value event.debit_account)
    (transfer_value event.transfer) (omega (arith, fits.ledger))
    (account_back event.credit_account fits.credit_account)
    (account_back event.debit_account fits.debit_account)
    (transfer_back event.transfer fits.transfer)

abbrev headers_found : Headers → Data
headers_found headers = object (
    member (codes "credit_account_code") (narrow headers.credit_account_code) (
    member (codes "debit_account_code") (narrow headers.debit_account_code) (
    member (codes "event_type") (string (kind_text headers.kind)) (
    member (codes "ledger") (narrow headers.ledger) (
    member (codes "transfer_code") (narrow headers.transfer_code)
    no_members)))))

headers_back : (event : Event) → EventFits event
    → of_json (outline (headers_value (headers_of_event event))) ≡ Some (headers_found (headers_of_event event))
headers_back event fits =
    let ledger : event.ledger < 2 ^ 64 = omega (arith, fits.ledger) in
    let code : event.transfer.code < 2 ^ 64 = omega (arith, fits.transfer.code) in
    let debit : event.debit_account.code < 2 ^ 64 = omega (arith, fits.debit_account.code) in
    let credit : event.credit_account.code < 2 ^ 64 = omega (arith, fits.credit_account.code) in
    rw (
      number_of-decimal event.ledger ledger,
      number_of-decimal event.transfer.code code,
      number_of-decimal event.debit_account.code debit,
      number_of-decimal event.credit_account.code credit,
    )

abbrev message_found : ℕ → ℕ → Data → Data → Data
message_found previous seconds headers body = object (
    member (codes "body") body (
    member (codes "headers") headers (
    member (codes "kind") (string (codes "message")) (
    member (codes "previous") (wide previous) (
    member (codes "timestamp") (narrow seconds)
    no_members)))))

message_back : (previous seconds : ℕ) (headers read body : Data) → seconds < 2 ^ 64
    → of_json (outline headers) ≡ Some read → of_json (outline body) ≡ Some body
    → of_json (outline (object (message_members previous seconds headers body)))
    ≡ Some (message_found previous seconds read body)
message_back previous seconds headers read body fits is_headers is_body =
    rw (is_headers, number_of-decimal seconds fits, is_body)

abbrev end_found : ℕ → Data
end_found previous = object (
    member (codes "end") (boolean true) (
    member (codes "kind") (string (codes "end")) (
    member (codes "previous") (wide previous)
    no_members)))

-- ---- what is found in them

no_zero : (n : ℕ) → 0 < n → not (n == 0) ≡ true
no_zero n h = grind arith

-- a decimal string is read as its number
whole_number-wide : (n : ℕ) → n < 2 ^ 64 → whole_number (wide n) ≡ Some n
whole_number-wide n fits =
    let numeral = decimal_is_IsNumeral_wide n (omega arith) in
    let digits : list_all is_ascii_digit (decimal n) ≡ true = own_digits.from (decimal n) numeral.0.1 in
    let one : is_decimal (decimal n) ≡ true = rw (no_zero (length (decimal n)) numeral.0.0, digits) in
    rw (one, numeral.1)

-- the line of a message is no event: it has no kind
message_no_event : (previous seconds : ℕ) (headers body : Data) → seconds < 2 ^ 64
    → event_of (message_found previous seconds headers body) ≡ Err (Missing (field Top name.Kind))
message_no_event previous seconds headers body fits =
    let within : seconds ≤ 2 ^ 64 - 1 = omega arith in
    rw (le-leb seconds (2 ^ 64 - 1) within)

-- an object begins with a brace
object_begins : (members : List (List ℕ)) → (rest : List ℕ) × (object_text members ≡ 123 ∷ rest)
object_begins members = (join_with_byte 44 members ++ codes "}", refl)

message_begins : (previous : ℕ) (event : Event) → (rest : List ℕ) × (message_line previous event ≡ 123 ∷ rest)
unfolding message_line
message_begins previous event = object_begins (lines.message_members previous event)

end_begins : (previous : ℕ) → (rest : List ℕ) × (end_line previous ≡ 123 ∷ rest)
unfolding end_line
end_begins previous = object_begins (lines.end_members previous)

-- the line of each event reads as its message
pub messages_read : MessagesRead
messages_read previous event before fits =
    let neat = neat_message previous event before fits in
    let headers = headers_found (headers_of_event event) in
    let seconds = seconds_of event in
    record {
      value = message_found previous seconds headers (event_value event);
      is_line = record {
        rest = (message_begins previous event).0;
        begins = (message_begins previous event).1;
        clean = neat_clean 65536 (message_line previous event) neat;
        short = neat.short;
        read = line_value (message_line previous event) (message_value previous event) _
            (message_written previous event before fits) (neat_utf8 65536 _ neat)
            (message_numbers previous event fits)
            (message_back previous seconds (headers_value (headers_of_event event)) headers (event_value event)
            (seconds_fit event fits) (headers_back event fits) (event_back event fits))
            (omega arith);
        why = Missing (field Top name.Kind);
        no_event = message_no_event previous seconds headers (event_value event) (seconds_fit event fits);
        predecessor = wide previous;
        has_predecessor = refl;
        predecessor_is = whole_number-wide previous before;
      };
      body = event_value event;
      has_body = refl;
      body_is = event_of-event_value event fits;
    }

-- the line of each end reads as the end
pub ends_read : EndsRead
ends_read previous before =
    let neat = neat_end previous before in
    record {
      value = end_found previous;
      is_line = record {
        rest = (end_begins previous).0;
        begins = (end_begins previous).1;
        clean = neat_clean 65536 (end_line previous) neat;
        short = neat.short;
        read = line_value (end_line previous) (object (end_members previous)) _ (end_written previous before)
            (neat_utf8 65536 _ neat) (tt, (tt, (tt, tt))) refl (omega arith);
        why = Missing (field Top name.Timestamp);
        no_event = refl;
        predecessor = wide previous;
        has_predecessor = refl;
        predecessor_is = whole_number-wide previous before;
      };
      has_no_body = refl;
      ends = refl;
    }
