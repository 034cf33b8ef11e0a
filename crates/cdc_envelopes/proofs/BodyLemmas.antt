-- The body, with which an envelope ends, and the envelope.
use Rattle.std.proofs.Common.{◌≡◌, ℕ, ◌<◌, ◌^◌, List, ◌++◌, Option, Some, None, codes, refl, sym, ap, subst, ◌∙◌, arith}
use Rattle.std.proofs.lemmas.Str.{IsUtf8-append, IsUtf8-from_is_utf8}
use Rattle.std.specs.Prelude.{IfSome}
use Rattle.std.specs.Char.{encode_utf8}
use Rattle.std.specs.Str.{IsUtf8, chars, is_utf8}
use Rattle.json.specs.Lex.{lex, between}
use Rattle.serde_json.specs.Data.{Data}
use Rattle.serde_json.proofs.OnLiterals.{serde_json_on_literals}
use Rattle.cdc_types.specs.declared.events.Event.{Event}
use Rattle.cdc_message.specs.Bodies.{body}
use Rattle.cdc_message.specs.Headers.{headers_of_event}
use Rattle.cdc_message.specs.OwnBodies.{IsOwnBody}
use Rattle.cdc_message.specs.Unordered.{GivesEvent}
use Rattle.cdc_message.specs.Widths.{EventFits}
use Rattle.cdc_message.proofs.Utf8.{IsUtf8-body}
use Rattle.cdc_queue_lines.specs.Lines.{seconds_of}
use Rattle.cdc_envelopes.specs.Envelopes.{IsEnvelope}
use Rattle.cdc_envelopes.specs.Private.Members.{Begins, EndsWithBody, GivesPrevious, Skips}
use Rattle.cdc_envelopes.specs.Private.Headers.{HeadersFit}
use Rattle.cdc_envelopes.proofs.FrontLemmas.{named}
use Rattle.cdc_envelopes.proofs.Members.{whole_envelope}
use Rattle.cdc_envelopes.proofs.Written.{own_gives}

-- a brace is text
brace_text : IsUtf8 (codes "}")
unfolding is_utf8 chars encode_utf8
brace_text = IsUtf8-from_is_utf8 _ refl

-- the name of the body is text
name_text : IsUtf8 (codes "\"body\":")
unfolding is_utf8 chars encode_utf8
name_text = IsUtf8-from_is_utf8 _ refl

-- an own body, and the end of the envelope
pub own_end : (text : List ℕ) (event : Event) → text ≡ body event ++ codes "}" → EventFits event
    → EndsWithBody text event
own_end text event is fits = record {
  utf8 = subst IsUtf8 (sym is) (IsUtf8-append (body event) (codes "}") (IsUtf8-body event fits) brace_text);
  gives = subst (λ t. GivesEvent t event (codes "}")) (sym is) (own_gives event (codes "}") fits);
}

-- the body without the end of the envelope
pub own_before : (answer : Option Event) (front text : List ℕ) → IfSome answer (IsOwnBody front)
    → text ≡ front ++ codes "}" → IfSome answer (λ event. (text ≡ body event ++ codes "}") × EventFits event)
own_before None front text own is = tt
own_before (Some event) front text own is = (is ∙ ap (λ t. t ++ codes "}") own.0, own.1)

-- the whole envelope, part by part
pub envelope_read : (line a b c d : List ℕ) (previous : ℕ) (event : Event) → Begins line a → GivesPrevious a previous b
    → Skips b c → c ≡ codes "\"body\":" ++ d → EndsWithBody d event → IsEnvelope line event previous
unfolding serde_json_on_literals
envelope_read line a b c d previous event front given skipped is last =
    whole_envelope line c d previous given.0 event (skipped _ _ (given.3 _ _ front)) given.1 given.2
    (ap (lex between) is ∙ named (codes "body") d refl)
    (λ rest. subst IsUtf8 (sym is) (IsUtf8-append (codes "\"body\":") d name_text rest)) last.utf8 last.gives

-- the headers of an event that fits
pub headers_fit : (event : Event) → EventFits event → HeadersFit (headers_of_event event)
headers_fit event fits = record {
  ledger = omega (arith, fits.ledger);
  transfer_code = omega (arith, fits.transfer.code);
  debit_account_code = omega (arith, fits.debit_account.code);
  credit_account_code = omega (arith, fits.credit_account.code);
}

-- and its seconds
pub seconds_fit : (event : Event) → EventFits event → seconds_of event < 2 ^ 64
seconds_fit event fits = omega (arith, fits.timestamp)
