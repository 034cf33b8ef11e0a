-- Laws of widths: what is read from a line has those of its fields, so a follower's book can always be saved.
use Rattle.std.specs.Prelude.{◌≡◌, ℕ, List, Bool, true, Some, Ok}
use Rattle.std.specs.List.{AllByRecursion, list_all}
use Rattle.cdc_message.specs.Widths.{EventFits}
use Rattle.cdc_codec.specs.Texts.{is_in_line}
use Rattle.cdc_match.specs.Arguments.{Arguments}
use Rattle.cdc_follow.specs.declared.entries.Content.{Content}
use Rattle.cdc_follow.specs.declared.entries.Content.TheVariants as content
use Rattle.cdc_follow.specs.declared.entries.Entry.{Entry}
use Rattle.cdc_follow.specs.Entries.{line_entry}
use Rattle.cdc_follow.specs.Following.{FollowState, follow_all}
use Rattle.cdc_follow.specs.Laws.{begins}
use Rattle.cdc_follow.specs.Saved.{CanBeSaved}
use Rattle.cdc_follow.specs.Stops.{bytes_followed}
use Rattle.cdc_follow.specs.declared.streams.Rules.{Rules}

-- the numbers of an event have their widths; the end has none
abbrev pub ContentFits : Content → Type 0
ContentFits (content.Event e) = EventFits e
ContentFits content.End = Unit {0}

-- an entry that is read from a line has such content
abbrev pub ReadEntriesFit : Type 0
ReadEntriesFit = (chained : Bool) (line : List ℕ) (entry : Entry) → line_entry chained line ≡ Ok (Some entry)
    → ContentFits entry.content

-- a follower that can be saved can be saved after such entries too
abbrev pub FollowersCanBeSaved : Type 0
FollowersCanBeSaved = (binding : Arguments) (text : List ℕ) (state : FollowState) (entries : List Entry)
    → CanBeSaved text state → AllByRecursion (λ entry. ContentFits entry.content) entries
    → CanBeSaved text (follow_all binding state entries)

-- one that begins can be saved, if the text of its binding is one line
abbrev pub NewFollowersCanBeSaved : Type 0
NewFollowersCanBeSaved = (text : List ℕ) → list_all is_in_line text ≡ true → CanBeSaved text begins

-- a follower that can be saved can be saved wherever it stops in a stream, whatever the bytes are
abbrev pub FollowedBytesCanBeSaved : Type 0
FollowedBytesCanBeSaved = (binding : Arguments) (text : List ℕ) (rules : Rules) (state : FollowState) (bytes : List ℕ)
    → CanBeSaved text state → CanBeSaved text (bytes_followed binding rules state bytes).state
