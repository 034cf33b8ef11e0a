-- What is sent for a line, and its text.
use Rattle.std.proofs.Common.{◌≡◌, ℕ, ◌+◌, ◌≤◌, suc, List, [], ◌∷◌, ◌++◌, false, Some, refl, sym, ap, subst, ◌∙◌, codes, length, drop, map, arith}
use Rattle.std.specs.List.{slice_get}
use Rattle.std.proofs.lemmas.List.{drop_all}
use Rattle.serde.specs.Event.{Log, Logs, WritesEach, WritesSeq, field_key, map_begins, map_ends, seq_begins, seq_ends, text}
use Rattle.serde.specs.declared.name.Case.TheVariants.{AsIs}
use Rattle.serde_json.specs.Data.{Data, array}
use Rattle.serde_json.specs.Events.{SendsItems, SendsMembers, SendsValue, items_len, members_len}
use Rattle.serde_json.specs.View.{items_of}
use Rattle.serde_json.specs.Written.{has_float, items_have_float, members_have_float}
use Rattle.serde_json.proofs.FreeTexts.{text_of_value}
use Rattle.cdc_output.proofs.FoundElements.{drop_found}
use Rattle.cdc_output.specs.Lines.{json_line, line_of}
use Rattle.cdc_output.specs.Private.Sending.{AddsLine, entry_value, field_value, members_of}
use Rattle.cdc_output.specs.declared.lines.Field.{Field}
use Rattle.cdc_output.specs.declared.lines.Field.TheVariants as field
use Rattle.cdc_output.specs.declared.lines.Member.{Member}
use Rattle.cdc_output.specs.declared.lines.Named.{Named}

-- ---- an array

-- it has as many items as there are values
items_counted : {X : Type 0} (f : X → Data) (xs : List X) → items_len (items_of (map f xs)) ≡ length xs
items_counted f [] = refl
items_counted f (x ∷ xs) = ap suc (items_counted f xs)

-- each value is sent in its turn, and then the end of the array
each_sent : {X : Type 0} (f : X → Data) (xs : List X) (old last new : Log)
    → WritesEach (λ x. SendsValue (f x)) xs old last → Logs last new seq_ends → SendsItems (items_of (map f xs)) old new
each_sent f [] old last new each end = subst (λ (l : Log). Logs l new seq_ends) each end
each_sent f (x ∷ xs) old last new each end = (each.0, each.1, each_sent f xs each.0 last new each.2 end)

-- so the values of a list are sent as an array
pub array_sent : {X : Type 0} (f : X → Data) (xs : List X) (old new : Log)
    → WritesSeq (λ x. SendsValue (f x)) xs old new → SendsValue (array (items_of (map f xs))) old new
array_sent f xs old new all = (
  all.0,
  subst (λ (n : ℕ). Logs old all.0 (seq_begins (Some n))) (sym (items_counted f xs)) all.2,
  each_sent f xs all.0 all.1 new all.3 all.4,
)

-- ---- an object

-- what is sent after the first i members, and the end, makes the object whole
abbrev pub SendsBehind : ℕ → List Member → Log → Log → Type 0
SendsBehind i ms first now =
    (new : Log) → SendsMembers (members_of (drop i ms)) now new → SendsMembers (members_of ms) first new

-- one member more
pub behind_next : (i : ℕ) (ms : List Member) (m : Member) (first now named next : Log) → slice_get ms i ≡ Some m
    → Logs now named (field_key m.0.now AsIs) → SendsValue (field_value m.1) named next
    → SendsBehind i ms first now → SendsBehind (i + 1) ms first next
behind_next i ms m first now named next found key value behind = λ new rest.
    behind new
    (subst (λ (left : List Member). SendsMembers (members_of left) now new) (sym (drop_found ms i m found))
    (named, next, key, value, rest))

-- it has as many members as were listed
members_counted : (ms : List Member) → members_len (members_of ms) ≡ length ms
members_counted [] = refl
members_counted (m ∷ ms) = ap suc (members_counted ms)

-- once all are sent, the end makes the line whole
pub line_sent : (kind : List ℕ) (ms : List Member) (i : ℕ) (old begun named first now new : Log) → length ms ≤ i
    → Logs old begun (map_begins (Some (length ms + 1))) → Logs begun named (field_key (codes "kind") AsIs)
    → Logs named first (text kind) → SendsBehind i ms first now → Logs now new map_ends
    → SendsValue (line_of kind (members_of ms)) old new
line_sent kind ms i old begun named first now new all begins key is behind end =
    let count : length ms + 1 ≡ suc (members_len (members_of ms)) = omega (arith, members_counted ms) in (
      begun,
      subst (λ (n : ℕ). Logs old begun (map_begins (Some n))) count begins,
      (
        named,
        first,
        key,
        is,
        behind new
            (subst (λ (left : List Member). SendsMembers (members_of left) now new) (sym (drop_all i ms all)) end),
      ),
    )

-- ---- its text

-- no entry of a table has a float
entries_whole : (entries : List Named) → items_have_float (items_of (map entry_value entries)) ≡ false
entries_whole [] = refl
entries_whole (entry ∷ entries) = entries_whole entries

-- no value of a member has one
field_whole : (f : Field) → has_float (field_value f) ≡ false
field_whole (field.Number n) = refl
field_whole (field.Wide n) = refl
field_whole (field.Text s) = refl
field_whole (field.Flag flag) = refl
field_whole (field.Table entries) = entries_whole entries.now
field_whole field.Null = refl

-- no member has one
members_whole : (ms : List Member) → members_have_float (members_of ms) ≡ false
members_whole [] = refl
members_whole (m ∷ ms) = rw (field_whole m.1) (members_whole ms)

-- so what is added for a line is its text
pub line_added : (kind : List ℕ) (ms : List Member) (old new : List ℕ)
    → AddsLine (SendsValue (line_of kind (members_of ms))) old new
    → new ≡ old ++ json_line (line_of kind (members_of ms))
unfolding json_line
line_added kind ms old new added =
    added.new_is
    ∙ ap (λ (line : List ℕ). old ++ (line ++ codes "\n"))
    (text_of_value (line_of kind (members_of ms)) added.log added.line added.sent added.text (members_whole ms))
