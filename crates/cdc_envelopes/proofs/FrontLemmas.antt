-- The texts of the members of an envelope, as members of its object.
use Rattle.std.proofs.Common.{◌≡◌, ℕ, ◌≤◌, ◌<◌, ◌^◌, List, [], ◌∷◌, ◌++◌, true, false, Option, Some, None, decimal, codes, refl, sym, ap, subst, ◌∙◌, arith, append_assoc}
use Rattle.std.proofs.lemmas.Fmt.{IsAscii-decimal_wide}
use Rattle.std.proofs.lemmas.Str.{IsUtf8-append, IsUtf8-from_ascii, IsUtf8-from_is_utf8}
use Rattle.std.specs.Prelude.{⊤, OnSome}
use Rattle.std.specs.Char.{encode_utf8}
use Rattle.std.specs.Str.{IsUtf8, chars, is_utf8}
use Rattle.json.specs.Json as json
use Rattle.json.specs.Lex.{token, colon, lex, between, fresh, punctuate}
use Rattle.json.specs.Token.{string}
use Rattle.json.specs.Word.{word}
use Rattle.serde_json.specs.Data as value
use Rattle.serde_json.specs.Data.{Data}
use Rattle.serde_json.proofs.OnLiterals.{serde_json_on_literals}
use Rattle.cdc_types.specs.declared.events.Headers.{Headers}
use Rattle.cdc_types.specs.declared.events.EventKind.{EventKind}
use Rattle.cdc_types.specs.declared.events.EventKind.TheVariants.{SinglePhase, TwoPhasePending, TwoPhasePosted, TwoPhaseVoided, TwoPhaseExpired}
use Rattle.cdc_message.specs.Bodies.{in_quotes}
use Rattle.cdc_message.specs.Kinds.{kind_text}
use Rattle.cdc_message.specs.Reading.{whole_number}
use Rattle.cdc_message.specs.Unordered.{Gives}
use Rattle.cdc_message.proofs.Members.{object_text-append}
use Rattle.cdc_message.proofs.Texts.{after_quote}
use Rattle.cdc_message.proofs.Unordered.{bare_gives, lex-plain, quoted_gives, string_gives}
use Rattle.cdc_queue_lines.specs.Lines.{header_members, headers_text}
use Rattle.cdc_envelopes.specs.Private.Members.{Begins, GivesPrevious, ReadsHeaders, Skips, SoFar}
use Rattle.cdc_envelopes.specs.Private.Headers.{headers_then, HeadersFit}
use Rattle.cdc_envelopes.proofs.Members.{apart, begins, one_other, one_previous}
use Rattle.cdc_envelopes.proofs.Written.{headers_give}

-- ---- text

-- a text before another one
then : (l rest : List ℕ) → IsUtf8 l → IsUtf8 rest → IsUtf8 (l ++ rest)
then l rest = IsUtf8-append l rest

-- the digits of a number
digits_text : (n : ℕ) → n < 2 ^ 64 → IsUtf8 (decimal n)
digits_text n fits = IsUtf8-from_ascii (decimal n) (IsAscii-decimal_wide n (omega (arith, fits)))

-- the name of a kind
kind_is_text : (kind : EventKind) → IsUtf8 (kind_text kind)
unfolding is_utf8 chars encode_utf8
kind_is_text SinglePhase = IsUtf8-from_is_utf8 _ refl
kind_is_text TwoPhasePending = IsUtf8-from_is_utf8 _ refl
kind_is_text TwoPhasePosted = IsUtf8-from_is_utf8 _ refl
kind_is_text TwoPhaseVoided = IsUtf8-from_is_utf8 _ refl
kind_is_text TwoPhaseExpired = IsUtf8-from_is_utf8 _ refl

-- ---- members

-- a name in quotes and its colon
pub named : (k rest : List ℕ) → after_quote k ≡ k ++ 34 ∷ []
    → lex between (in_quotes k ++ 58 ∷ rest) ≡ token (string k) ∷ colon ∷ lex between rest
unfolding lex
named k rest plain = lex-plain k (58 ∷ rest) plain

-- a member that isn't looked for, and the comma after it
skip : (most : ℕ) (Is : Data → Type 0) (k v here next : List ℕ) → most ≤ 2 → after_quote k ≡ k ++ 34 ∷ []
    → (codes "type" ≡ k → ⊥) → (codes "previous" ≡ k → ⊥) → Gives most (v ++ 44 ∷ next) Is (44 ∷ next)
    → here ≡ in_quotes k ++ 58 ∷ (v ++ 44 ∷ next) → (IsUtf8 next → IsUtf8 here) → Skips here next
unfolding lex
skip most Is k v here next few plain typed other given is utf8 text previous before =
    one_other text previous most Is k here (v ++ 44 ∷ next) (44 ∷ next) next few before
    (ap (lex between) is ∙ named k (v ++ 44 ∷ next) plain) given refl utf8 typed other

-- a bare number
skip_number : (k : List ℕ) (n : ℕ) (here next : List ℕ) → n < 2 ^ 64 → after_quote k ≡ k ++ 34 ∷ []
    → (codes "type" ≡ k → ⊥) → (codes "previous" ≡ k → ⊥)
    → here ≡ in_quotes k ++ 58 ∷ (decimal n ++ 44 ∷ next) → (IsUtf8 next → IsUtf8 here) → Skips here next
skip_number k n here next fits plain typed other is utf8 =
    skip 0 _ k (decimal n) here next (omega arith) plain typed other (bare_gives n (44 ∷ next) fits refl) is utf8

-- a string that needs no escape
skip_string : (k s here next : List ℕ) → after_quote k ≡ k ++ 34 ∷ [] → after_quote s ≡ s ++ 34 ∷ []
    → (codes "type" ≡ k → ⊥) → (codes "previous" ≡ k → ⊥)
    → here ≡ in_quotes k ++ 58 ∷ (in_quotes s ++ 44 ∷ next) → (IsUtf8 next → IsUtf8 here) → Skips here next
skip_string k s here next plain plain_value typed other is utf8 =
    skip 0 (λ value. ⊤) k (in_quotes s) here next (omega arith) plain typed other
    (string_gives (λ value. ⊤) s (44 ∷ next) plain_value tt) is utf8

-- ---- fronts

-- the kind of a message
message_kind : (next : List ℕ) → Skips (codes "\"kind\":\"message\"," ++ next) next
unfolding serde_json_on_literals is_utf8 chars encode_utf8
message_kind next =
    skip_string (codes "kind") (codes "message") _ next refl refl
    (apart (codes "type") (codes "kind") refl) (apart (codes "previous") (codes "kind") refl) refl
    (then (codes "\"kind\":\"message\",") next (IsUtf8-from_is_utf8 _ refl))

-- and of a delivery
delivery_kind : (next : List ℕ) → Skips (codes "\"kind\":\"delivery\"," ++ next) next
unfolding serde_json_on_literals is_utf8 chars encode_utf8
delivery_kind next =
    skip_string (codes "kind") (codes "delivery") _ next refl refl
    (apart (codes "type") (codes "kind") refl) (apart (codes "previous") (codes "kind") refl) refl
    (then (codes "\"kind\":\"delivery\",") next (IsUtf8-from_is_utf8 _ refl))

-- the number of a delivery
delivery_number : (n : ℕ) (next : List ℕ) → n < 2 ^ 64
    → Skips (codes "\"delivery\":" ++ (decimal n ++ (codes "," ++ next))) next
unfolding serde_json_on_literals is_utf8 chars encode_utf8
delivery_number n next fits =
    skip_number (codes "delivery") n _ next fits refl
    (apart (codes "type") (codes "delivery") refl) (apart (codes "previous") (codes "delivery") refl) refl
    (λ rest. then (codes "\"delivery\":") _ (IsUtf8-from_is_utf8 _ refl)
    (then (decimal n) _ (digits_text n fits) (then (codes ",") next (IsUtf8-from_is_utf8 _ refl) rest)))

-- its position
delivery_position : (n : ℕ) (next : List ℕ) → n < 2 ^ 64
    → Skips (codes "\"position\":" ++ (decimal n ++ (codes "," ++ next))) next
unfolding serde_json_on_literals is_utf8 chars encode_utf8
delivery_position n next fits =
    skip_number (codes "position") n _ next fits refl
    (apart (codes "type") (codes "position") refl) (apart (codes "previous") (codes "position") refl) refl
    (λ rest. then (codes "\"position\":") _ (IsUtf8-from_is_utf8 _ refl)
    (then (decimal n) _ (digits_text n fits) (then (codes ",") next (IsUtf8-from_is_utf8 _ refl) rest)))

-- the number of a queue
queue_number : (n : ℕ) (next : List ℕ) → n < 2 ^ 64
    → Skips (codes "\"queue\":" ++ (decimal n ++ (codes "," ++ next))) next
unfolding serde_json_on_literals is_utf8 chars encode_utf8
queue_number n next fits =
    skip_number (codes "queue") n _ next fits refl
    (apart (codes "type") (codes "queue") refl) (apart (codes "previous") (codes "queue") refl) refl
    (λ rest. then (codes "\"queue\":") _ (IsUtf8-from_is_utf8 _ refl)
    (then (decimal n) _ (digits_text n fits) (then (codes ",") next (IsUtf8-from_is_utf8 _ refl) rest)))

-- seconds
seconds_number : (n : ℕ) (next : List ℕ) → n < 2 ^ 64
    → Skips (codes "\"timestamp\":" ++ (decimal n ++ (codes "," ++ next))) next
unfolding serde_json_on_literals is_utf8 chars encode_utf8
seconds_number n next fits =
    skip_number (codes "timestamp") n _ next fits refl
    (apart (codes "type") (codes "timestamp") refl) (apart (codes "previous") (codes "timestamp") refl) refl
    (λ rest. then (codes "\"timestamp\":") _ (IsUtf8-from_is_utf8 _ refl)
    (then (decimal n) _ (digits_text n fits) (then (codes ",") next (IsUtf8-from_is_utf8 _ refl) rest)))

-- whether a message is redelivered
true_gives : (next : List ℕ) → Gives 0 (codes "true" ++ 44 ∷ next) (λ value. ⊤) (44 ∷ next)
unfolding lex word punctuate
true_gives next = record {
  json = json.boolean true;
  value = value.boolean true;
  shallow = omega arith;
  converts = refl;
  tokens = λ unnamed. refl;
  holds = tt;
}

false_gives : (next : List ℕ) → Gives 0 (codes "false" ++ 44 ∷ next) (λ value. ⊤) (44 ∷ next)
unfolding lex word punctuate
false_gives next = record {
  json = json.boolean false;
  value = value.boolean false;
  shallow = omega arith;
  converts = refl;
  tokens = λ unnamed. refl;
  holds = tt;
}

pub redelivered : (here next : List ℕ) → here ≡ codes "true," ++ next → Skips (codes "\"redelivered\":" ++ here) next
unfolding serde_json_on_literals is_utf8 chars encode_utf8
redelivered here next is =
    skip 0 (λ value. ⊤) (codes "redelivered") (codes "true") _ next (omega arith) refl
    (apart (codes "type") (codes "redelivered") refl) (apart (codes "previous") (codes "redelivered") refl)
    (true_gives next) (ap (λ t. codes "\"redelivered\":" ++ t) is)
    (λ rest. then (codes "\"redelivered\":") here (IsUtf8-from_is_utf8 _ refl)
    (subst IsUtf8 (sym is) (then (codes "true,") next (IsUtf8-from_is_utf8 _ refl) rest)))

pub not_redelivered : (here next : List ℕ) → here ≡ codes "false," ++ next
    → Skips (codes "\"redelivered\":" ++ here) next
unfolding serde_json_on_literals is_utf8 chars encode_utf8
not_redelivered here next is =
    skip 0 (λ value. ⊤) (codes "redelivered") (codes "false") _ next (omega arith) refl
    (apart (codes "type") (codes "redelivered") refl) (apart (codes "previous") (codes "redelivered") refl)
    (false_gives next) (ap (λ t. codes "\"redelivered\":" ++ t) is)
    (λ rest. then (codes "\"redelivered\":") here (IsUtf8-from_is_utf8 _ refl)
    (subst IsUtf8 (sym is) (then (codes "false,") next (IsUtf8-from_is_utf8 _ refl) rest)))

-- the brace
pub brace : (text next : List ℕ) → text ≡ codes "{" ++ next → Begins text next
unfolding is_utf8 chars encode_utf8
brace text next is =
    begins text next is (λ rest. subst IsUtf8 (sym is) (then (codes "{") next (IsUtf8-from_is_utf8 _ refl) rest))

-- the same of a reader that may fail
pub brace_if : {A : Type 0} (answer : Option A) (text next : List ℕ) → OnSome answer (text ≡ codes "{" ++ next)
    → OnSome answer (Begins text next)
brace_if None text next is = tt
brace_if (Some x) text next is = brace text next is

-- the front of a message
pub message_front : (text next : List ℕ) → text ≡ codes "{\"kind\":\"message\"," ++ next → Begins text next
message_front text next is = message_kind next text None (brace text (codes "\"kind\":\"message\"," ++ next) is)

-- with the number of its queue
pub queue_front : (n : ℕ) (text next : List ℕ) → n < 2 ^ 64
    → text ≡ codes "{\"queue\":" ++ (decimal n ++ (codes ",\"kind\":\"message\"," ++ next)) → Begins text next
queue_front n text next fits is =
    let after = codes "\"kind\":\"message\"," ++ next in
    message_kind next text None
    (queue_number n after fits text None
    (brace text (codes "\"queue\":" ++ (decimal n ++ (codes "," ++ after))) is))

-- the front of a delivery
pub delivery_front : (n position : ℕ) (text flag next : List ℕ) → n < 2 ^ 64 → position < 2 ^ 64
    → text ≡ codes "{\"kind\":\"delivery\",\"delivery\":" ++ (decimal n ++ (codes ",\"position\":" ++ (decimal position
    ++ (codes ",\"redelivered\":" ++ flag))))
    → Skips (codes "\"redelivered\":" ++ flag) next → Begins text next
delivery_front n position text flag next fits position_fits is last =
    let after = codes "\"redelivered\":" ++ flag in
    let placed = codes "\"position\":" ++ (decimal position ++ (codes "," ++ after)) in
    let numbered = codes "\"delivery\":" ++ (decimal n ++ (codes "," ++ placed)) in
    last text None
    (delivery_position position after position_fits text None
    (delivery_number n placed fits text None
    (delivery_kind numbered text None (brace text (codes "\"kind\":\"delivery\"," ++ numbered) is))))

-- ---- the predecessor

-- in quotes
pub previous_quoted : (n : ℕ) (here next : List ℕ) → n < 2 ^ 64
    → here ≡ codes "\"previous\":\"" ++ (decimal n ++ (codes "\"," ++ next)) → GivesPrevious here n next
unfolding lex serde_json_on_literals is_utf8 chars encode_utf8
previous_quoted n here next fits is =
    let given = quoted_gives n (44 ∷ next) (omega (arith, fits)) in
    let joined : in_quotes (decimal n) ++ 44 ∷ next ≡ 34 ∷ (decimal n ++ 34 ∷ 44 ∷ next) =
    ap (λ t. 34 ∷ t) (append_assoc (decimal n) (34 ∷ []) (44 ∷ next)) in
    let same : here ≡ in_quotes (codes "previous") ++ 58 ∷ (in_quotes (decimal n) ++ 44 ∷ next) =
    is ∙ sym (ap (λ t. codes "\"previous\":" ++ t) joined) in (
      given.value,
      given.holds,
      fits,
      λ text previous before.
          one_previous text previous 0 _ here (in_quotes (decimal n) ++ 44 ∷ next) (44 ∷ next) next (omega arith) before
          (ap (lex between) same ∙ named (codes "previous") (in_quotes (decimal n) ++ 44 ∷ next) refl) given refl
          (λ rest. subst IsUtf8 (sym is) (then (codes "\"previous\":\"") _ (IsUtf8-from_is_utf8 _ refl)
          (then (decimal n) _ (digits_text n fits) (then (codes "\",") next (IsUtf8-from_is_utf8 _ refl) rest)))),
    )

-- bare
pub previous_bare : (n : ℕ) (here next : List ℕ) → n < 2 ^ 64
    → here ≡ codes "\"previous\":" ++ (decimal n ++ (codes "," ++ next)) → GivesPrevious here n next
unfolding lex serde_json_on_literals is_utf8 chars encode_utf8
previous_bare n here next fits is =
    let given = bare_gives n (44 ∷ next) fits refl in (
      given.value,
      given.holds,
      fits,
      λ text previous before.
          one_previous text previous 0 _ here (decimal n ++ 44 ∷ next) (44 ∷ next) next (omega arith) before
          (ap (lex between) is ∙ named (codes "previous") (decimal n ++ 44 ∷ next) refl) given refl
          (λ rest. subst IsUtf8 (sym is) (then (codes "\"previous\":") _ (IsUtf8-from_is_utf8 _ refl)
          (then (decimal n) _ (digits_text n fits) (then (codes ",") next (IsUtf8-from_is_utf8 _ refl) rest)))),
    )

-- ---- headers

-- the text of headers, and what follows it
headers_text-parts : (headers : Headers) (rest : List ℕ) → headers_text headers ++ rest
    ≡ codes "{\"event_type\":\"" ++ (kind_text headers.kind ++ (
    codes "\",\"ledger\":" ++ (decimal headers.ledger ++ (
    codes ",\"transfer_code\":" ++ (decimal headers.transfer_code ++ (
    codes ",\"debit_account_code\":" ++ (decimal headers.debit_account_code ++ (
    codes ",\"credit_account_code\":" ++ (decimal headers.credit_account_code ++ (codes "}" ++ rest))))))))))
headers_text-parts headers rest =
    object_text-append (header_members headers) rest ∙ rw (append_assoc (kind_text headers.kind) (34 ∷ []))

-- headers and seconds, as two members
pub headers_members : (headers : Headers) (seconds : ℕ) (rest : List ℕ) → headers_then headers seconds rest
    ≡ codes "\"headers\":" ++ (headers_text headers
    ++ (codes ",\"timestamp\":" ++ (decimal seconds ++ (codes "," ++ rest))))
headers_members headers seconds rest =
    sym (ap (λ t. codes "\"headers\":" ++ t)
    (headers_text-parts headers (codes ",\"timestamp\":" ++ (decimal seconds ++ (codes "," ++ rest)))))

-- the text of headers is text
headers_are_text : (headers : Headers) (rest : List ℕ) → HeadersFit headers → IsUtf8 rest
    → IsUtf8 (headers_text headers ++ rest)
unfolding is_utf8 chars encode_utf8
headers_are_text headers rest fits after =
    subst IsUtf8 (sym (headers_text-parts headers rest))
    (then (codes "{\"event_type\":\"") _ (IsUtf8-from_is_utf8 _ refl) (then (kind_text headers.kind) _
    (kind_is_text headers.kind) (then (codes "\",\"ledger\":") _ (IsUtf8-from_is_utf8 _ refl) (then
    (decimal headers.ledger) _ (digits_text headers.ledger fits.ledger) (then (codes ",\"transfer_code\":") _
    (IsUtf8-from_is_utf8 _ refl) (then (decimal headers.transfer_code) _
    (digits_text headers.transfer_code fits.transfer_code) (then (codes ",\"debit_account_code\":") _
    (IsUtf8-from_is_utf8 _ refl) (then (decimal headers.debit_account_code) _
    (digits_text headers.debit_account_code fits.debit_account_code) (then (codes ",\"credit_account_code\":") _
    (IsUtf8-from_is_utf8 _ refl) (then (decimal headers.credit_account_code) _
    (digits_text headers.credit_account_code fits.credit_account_code)
    (then (codes "}") rest (IsUtf8-from_is_utf8 _ refl) after)))))))))))

-- the member of the headers
headers_skipped : (headers : Headers) (next : List ℕ) → HeadersFit headers
    → Skips (codes "\"headers\":" ++ (headers_text headers ++ (codes "," ++ next))) next
unfolding serde_json_on_literals is_utf8 chars encode_utf8
headers_skipped headers next fits =
    skip 1 (λ value. ⊤) (codes "headers") (headers_text headers) _ next (omega arith) refl
    (apart (codes "type") (codes "headers") refl) (apart (codes "previous") (codes "headers") refl)
    (headers_give headers (44 ∷ next) fits) refl
    (λ rest. then (codes "\"headers\":") _ (IsUtf8-from_is_utf8 _ refl)
    (headers_are_text headers _ fits (then (codes ",") next (IsUtf8-from_is_utf8 _ refl) rest)))

-- what was read between the predecessor and the body
pub middle_skipped : (here next : List ℕ) → ReadsHeaders here next → Skips here next
middle_skipped here next given text previous before =
    let after = codes "\"timestamp\":" ++ (decimal given.seconds ++ (codes "," ++ next)) in
    let same : here ≡ codes "\"headers\":" ++ (headers_text given.headers ++ (codes "," ++ after)) =
    given.text ∙ headers_members given.headers given.seconds next in
    seconds_number given.seconds next given.seconds_fit text previous
    (headers_skipped given.headers after given.fits text previous (subst (SoFar text previous) same before))
