-- A text that was read whole is read as that event.
use Rattle.std.proofs.Common.{◌≡◌, ℕ, List, [], ◌∷◌, ◌++◌, length, Some, Ok, IsUtf8, refl, ap, ◌∙◌, arith}
use Rattle.std.specs.Option.{option_and_then}
use Rattle.json.specs.Json as json
use Rattle.json.specs.Lex.{lex, between, begins_colon, after_value, punctuate, tokens}
use Rattle.json.specs.Tree.{json_tokens}
use Rattle.json.proofs.Printed.Trees.{value-json_tokens}
use Rattle.serde_json.specs.Read.{of_json, max_depth}
use Rattle.serde_json.specs.Read as values
use Rattle.cdc_types.specs.declared.events.Event.{Event}
use Rattle.cdc_message.specs.Reading.{read, event_of}
use Rattle.cdc_message.specs.Unordered.{Gives}
use Rattle.cdc_message.proofs.Bytes.{read_some}

-- nothing is left
pub lex_nothing : (rest : List ℕ) → length rest ≡ 0 → lex between rest ≡ []
unfolding lex
lex_nothing [] none = refl
lex_nothing (byte ∷ rest) none = absurd (omega arith)

-- the event of the whole text
pub read_given : (event : Event) (bytes rest : List ℕ) → IsUtf8 bytes
    → Gives 2 bytes (λ value. event_of value ≡ Ok event) rest → lex between rest ≡ [] → read bytes ≡ Ok event
unfolding punctuate
read_given event bytes rest text given end =
    let few = given.shallow in
    let same : tokens bytes ≡ json_tokens given.json ++ [] =
    given.tokens (ap begins_colon end) ∙ ap (λ ls. json_tokens given.json ++ punctuate after_value ls) end in
    let parsed : values.read bytes ≡ Some given.value =
    ap (λ r. option_and_then of_json (option_and_then (λ p. json.if_last p.0 p.1) r))
    (ap (json.value max_depth) same ∙ value-json_tokens given.json max_depth [] (omega (arith, few)))
    ∙ given.converts in
    read_some bytes given.value text parsed ∙ given.holds
