-- What is sent to the JSON crate's writer for a line.
use Rattle.std.specs.Prelude.{◌≡◌, ℕ, List, [], ◌∷◌, ◌++◌, codes, map, Some}
use Rattle.serde.specs.Event.{Log}
use Rattle.serde_json.specs.Data.{Data, null, boolean, string, array, Members, no_members, member}
use Rattle.serde_json.specs.Sent.{IsTextOf}
use Rattle.serde_json.specs.View.{items_of}
use Rattle.cdc_message.specs.Values.{narrow, wide}
use Rattle.cdc_output.specs.Lines.{named_value}
use Rattle.cdc_output.specs.declared.lines.Named.{Named}
use Rattle.cdc_output.specs.declared.lines.Member.{Member}
use Rattle.cdc_output.specs.declared.lines.Field.{Field}
use Rattle.cdc_output.specs.declared.lines.Field.TheVariants as field

-- the value of an entry of a table
abbrev pub entry_value : Named → Data
entry_value entry = named_value entry.number entry.name.now

-- the value of a member
abbrev pub field_value : Field → Data
field_value (field.Number n) = narrow n
field_value (field.Wide n) = wide n
field_value (field.Text text) = string text.now
field_value (field.Flag flag) = boolean flag
field_value (field.Table entries) = array (items_of (map entry_value entries.now))
field_value field.Null = null

-- the members of an object
abbrev pub members_of : List Member → Members
members_of [] = no_members
members_of (m ∷ rest) = member m.0.now (field_value m.1) (members_of rest)

-- the text of one value is added, and a line feed; this is what the value sends
pub record AddsLine (writes : Log → Log → Type 0) (old new : List ℕ) : Type 0 where
  pub log : Log
  pub line : List ℕ
  pub sent : writes (Some []) log
  pub text : IsTextOf log line
  pub new_is : new ≡ old ++ (line ++ codes "\n")
