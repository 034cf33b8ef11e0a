-- What an event that is sent to the JSON crate's writer is written as.
use Rattle.std.proofs.Common.{◌≡◌, ◌∷◌, ◌++◌, [], List, Ok, Err, ap, ◌∙◌, append_assoc}
use Rattle.std.specs.Prelude.{Result, IfOk, OnOk}
use Rattle.std.specs.Result.{result_or}
use Rattle.json.specs.Print.{print}
use Rattle.json.specs.Token.{Token}
use Rattle.json.specs.Written.{Written, Writes}
use Rattle.serde_json.proofs.Texts.{print-outline}
use Rattle.cdc_types.specs.declared.events.Event.{Event}
use Rattle.cdc_message.specs.Bodies.{body}
use Rattle.cdc_message.specs.Sending.{Sends, value_tokens}
use Rattle.cdc_message.specs.Values.{event_value}
use Rattle.cdc_message.specs.Widths.{EventFits}
use Rattle.cdc_message.proofs.Texts.{compact_text-event}

-- a token that was written
pub one : {E : Type 0} {done : Unit {0}} {old new : Written} {t : Token} → Writes {E = E} (Ok done) old new t
    → Sends old new (t ∷ [])
one written = record { tokens_are = written.ok; before_is = written.room.0 }

-- some tokens, and then others
pub then : {a b c : Written} {s t : List Token} → Sends a b s → Sends b c t → Sends a c (s ++ t)
then {a = a} {s = s} {t = t} first second = record {
  tokens_are = second.tokens_are ∙ ap (λ tokens. tokens ++ t) first.tokens_are ∙ append_assoc a.tokens s t;
  before_is = second.before_is ∙ first.before_is;
}

-- the text of an event that was sent is its body
pub body_text : (event : Event) (old new : Written) → old.before ≡ [] → old.tokens ≡ [] → EventFits event
    → Sends old new (value_tokens (event_value event)) → new.before ++ print new.tokens ≡ body event
body_text event old new no_before no_tokens fits sent =
    ap (λ before. before ++ print new.tokens) (sent.before_is ∙ no_before)
    ∙ ap print (sent.tokens_are ∙ ap (λ tokens. tokens ++ value_tokens (event_value event)) no_tokens)
    ∙ print-outline (event_value event)
    ∙ compact_text-event event fits

-- replacing an error by another one preserves what holds of a value
pub IfOk-or_err : {T D E : Type 0} (r : Result T E) (error : D) (P : T → Type 0) → IfOk r P
    → IfOk (result_or r (Err error)) P
IfOk-or_err (Ok value) error P h = h
IfOk-or_err (Err other) error P h = tt

-- what holds anyway holds of a success
pub OnOk-from : {T E : Type 0} (r : Result T E) (P : Type 0) → P → OnOk r P
OnOk-from (Ok value) P h = h
OnOk-from (Err error) P h = tt
