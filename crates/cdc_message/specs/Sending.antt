-- What is written for an event, as tokens of the JSON crate's writer. Cited by private contracts alone.
use Rattle.std.specs.Prelude.{◌≡◌, ℕ, List, ◌∷◌, ◌++◌}
use Rattle.json.specs.Token.{Token, key}
use Rattle.json.specs.Tree.{json_tokens}
use Rattle.json.specs.Written.{Written}
use Rattle.serde_json.specs.Data.{Data}
use Rattle.serde_json.specs.Written.{outline}

-- the tokens of a value
abbrev pub value_tokens : Data → List Token
value_tokens value = json_tokens (outline value)

-- the tokens of a member of an object: its name, and then its value
abbrev pub member_tokens : List ℕ → Data → List Token
member_tokens name value = key name ∷ value_tokens value

-- the writer has these tokens after its earlier ones, in the same buffer
pub record Sends (old new : Written) (sent : List Token) : Type 0 where
  pub tokens_are : new.tokens ≡ old.tokens ++ sent
  pub before_is : new.before ≡ old.before
