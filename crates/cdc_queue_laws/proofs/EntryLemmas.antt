-- The entries of the lines of a queue.
use Rattle.std.proofs.Common.{◌≡◌, ℕ, ◌<◌, ◌≤◌, ◌^◌, Bool, true, false, cond, List, ◌∷◌, Some, Ok, Err, codes, refl, ap, ◌∙◌, arith, le-leb}
use Rattle.std.specs.Prelude.{Option, Result}
use Rattle.serde_json.specs.Data.{Data}
use Rattle.serde_json.specs.Find.{get}
use Rattle.cdc_types.specs.declared.events.Event.{Event}
use Rattle.cdc_types.specs.Widths.{max_64}
use Rattle.cdc_message.specs.declared.errors.DecodeError.{DecodeError}
use Rattle.cdc_message.specs.Reading.{whole_number}
use Rattle.cdc_follow.specs.declared.entries.Content.{Content}
use Rattle.cdc_follow.specs.declared.entries.Content.TheVariants as content
use Rattle.cdc_follow.specs.declared.entries.Entry.{Entry}
use Rattle.cdc_follow.specs.declared.errors.LineError.TheVariants.{PreviousOutOfRange}
use Rattle.cdc_follow.specs.Entries.{Read, ◌>>=◌, as_event, content_from, is_true, line_entry, other_content, previous_in, is_ignored, up_to_64, value_entry}
use Rattle.cdc_follow.specs.LineErrors.{decoding_error}
use Rattle.cdc_follow.proofs.EntryLemmas.{line-value}
use Rattle.cdc_queue_lines.specs.Reading.{IsLine, ReadsAsEnd, ReadsAsMessage}

-- an entry of a chained stream
abbrev pub chained : Content → ℕ → Entry
chained content previous = record { content = content; previous = Some previous }

-- ---- the steps of reading, one after another

abbrev entry_with : Content → Option ℕ → Read Entry
entry_with content previous = Ok (record { content = content; previous = previous })

abbrev some_entry : Entry → Read (Option Entry)
some_entry entry = Ok (Some entry)

abbrev some_number : ℕ → Read (Option ℕ)
some_number n = Ok (Some n)

-- what is read once the content is known, and the predecessor's value found
abbrev with_content : Option Data → Content → Read Entry
with_content found content = previous_in found >>= entry_with content

abbrev value_reads : Read Content → Option Data → Read (Option Entry)
value_reads read found = (read >>= with_content found) >>= some_entry

-- what is read once the predecessor's number is known
abbrev number_reads : Content → Read ℕ → Read (Option Entry)
number_reads content number = ((number >>= some_number) >>= entry_with content) >>= some_entry

previous_reads : (content : Content) (found : Data) (previous : ℕ) → previous < 2 ^ 64
    → whole_number found ≡ Some previous → value_reads (Ok content) (Some found) ≡ Ok (Some (chained content previous))
previous_reads content found previous small is =
    let within : previous ≤ max_64 = omega arith in
    ap (λ (n : Option ℕ). number_reads content (up_to_64 n)) is
    ∙ ap (λ (b : Bool). number_reads content (cond b (Ok previous) (Err PreviousOutOfRange)))
    (le-leb previous max_64 within)

-- ---- a line

-- a line that begins with a brace isn't silent
brace_speaks : (line rest : List ℕ) → line ≡ 123 ∷ rest → is_ignored line ≡ false
brace_speaks line rest begins = ap is_ignored begins ∙ refl

line_reads : (previous : ℕ) (line : List ℕ) (value : Data) → IsLine previous line value
    → line_entry true line ≡ value_entry true (Some value)
line_reads previous line value is =
    line-value true line is.short (brace_speaks line is.rest is.begins) ∙ ap (value_entry true) is.read

-- the line of a message is an entry of its event
pub message_entry : (previous : ℕ) (event : Event) (line : List ℕ) → previous < 2 ^ 64
    → ReadsAsMessage previous event line
    → line_entry true line ≡ Ok (Some (chained (content.Event event) previous))
message_entry previous event line small read =
    let found = get (codes "previous") read.value in
    line_reads previous line read.value read.is_line
    ∙ ap (λ (r : Result Event DecodeError). value_reads (content_from read.value r) found) read.is_line.no_event
    ∙ ap (λ (b : Option Data). value_reads (other_content read.value read.is_line.why b) found) read.has_body
    ∙ ap (λ (r : Result Event DecodeError). value_reads (as_event r) found) read.body_is
    ∙ ap (λ (f : Option Data). value_reads (Ok (content.Event event)) f) read.is_line.has_predecessor
    ∙ previous_reads (content.Event event) read.is_line.predecessor previous small read.is_line.predecessor_is

-- the line of an end is the end
pub end_entry : (previous : ℕ) (line : List ℕ) → previous < 2 ^ 64 → ReadsAsEnd previous line
    → line_entry true line ≡ Ok (Some (chained content.End previous))
end_entry previous line small read =
    let found = get (codes "previous") read.value in
    line_reads previous line read.value read.is_line
    ∙ ap (λ (r : Result Event DecodeError). value_reads (content_from read.value r) found) read.is_line.no_event
    ∙ ap (λ (b : Option Data). value_reads (other_content read.value read.is_line.why b) found) read.has_no_body
    ∙ ap (λ (f : Option Data). value_reads (cond (is_true f) (Ok content.End) (Err (decoding_error read.is_line.why)))
    found) read.ends
    ∙ ap (λ (f : Option Data). value_reads (Ok content.End) f) read.is_line.has_predecessor
    ∙ previous_reads content.End read.is_line.predecessor previous small read.is_line.predecessor_is
