-- What the reader of envelopes has read, in the tokens of JSON. Only private contracts cite it.
use Rattle.std.specs.Prelude.{◌≡◌, ◌≤◌, ◌<◌, ◌^◌, ℕ, List, [], ◌∷◌, ◌++◌, true, Option, Some, None, Ok, codes}
use Rattle.std.specs.Str.{IsUtf8}
use Rattle.json.specs.Json as json
use Rattle.json.specs.Lex.{Place, fresh, after_value, may_begin}
use Rattle.json.specs.Tree.{json_tokens, members_depth, members_tokens}
use Rattle.serde_json.specs.Data.{Data, Members, no_members}
use Rattle.serde_json.specs.Find.{get_member}
use Rattle.serde_json.specs.Read.{of_members}
use Rattle.cdc_types.specs.declared.events.Event.{Event}
use Rattle.cdc_types.specs.declared.events.Headers.{Headers}
use Rattle.cdc_message.specs.Reading.{event_of, whole_number}
use Rattle.cdc_message.specs.Unordered.{GivesEvent, tokens_at}
use Rattle.cdc_envelopes.specs.Private.Headers.{headers_then, HeadersFit}

-- from this place on come these members, the end of their object and the rest
abbrev pub Ends : Place → List ℕ → json.Members → List ℕ → Type 0
Ends place text ms rest = tokens_at place text ≡ members_tokens ms ++ tokens_at after_value rest

-- a text is an object and the rest. Its members are what was found, and then these.
pub record Whole (text : List ℕ) (found : Members) (ms : json.Members) (rest : List ℕ) : Type 0 where
  pub all : json.Members
  pub tokens : tokens_at fresh text ≡ json_tokens (json.object all) ++ tokens_at after_value rest
  pub shallow : members_depth all ≤ 2
  pub converts : of_members all no_members ≡ of_members ms found

-- an object was read up to here. It has no member `type` so far, and this member `previous`, if any.
pub record SoFar (text : List ℕ) (previous : Option Data) (here : List ℕ) : Type 0 where
  pub found : Members
  pub untyped : get_member (codes "type") found ≡ None
  pub has : get_member (codes "previous") found ≡ previous
  pub utf8 : IsUtf8 here → IsUtf8 text
  pub place : Place
  pub may : may_begin place ≡ true
  pub going : (ms : json.Members) (rest : List ℕ) → members_depth ms ≤ 2 → Ends place here ms rest
      → Whole text found ms rest

-- a text begins as an object, up to here
abbrev pub Begins : List ℕ → List ℕ → Type 0
Begins text here = SoFar text None here

-- members other than `type` and `previous`, from one place of an object up to another one
abbrev pub Skips : List ℕ → List ℕ → Type 0
Skips here next = (text : List ℕ) (previous : Option Data) → SoFar text previous here → SoFar text previous next

-- the member `previous`, which is this number of 64 bits
abbrev pub GivesPrevious : List ℕ → ℕ → List ℕ → Type 0
GivesPrevious here n next = (value : Data) × (whole_number value ≡ Some n) × (n < 2 ^ 64)
    × ((text : List ℕ) (previous : Option Data) → SoFar text previous here → SoFar text (Some value) next)

-- headers and a timestamp that fit
pub record ReadsHeaders (here next : List ℕ) : Type 0 where
  pub headers : Headers
  pub seconds : ℕ
  pub fits : HeadersFit headers
  pub seconds_fit : seconds < 2 ^ 64
  pub text : here ≡ headers_then headers seconds next

-- a text is the body of this event, and the end of an object
pub record EndsWithBody (text : List ℕ) (event : Event) : Type 0 where
  pub utf8 : IsUtf8 text
  pub gives : GivesEvent text event (codes "}")
