-- Pages: the data of a simulation inside a text of HTML.
use Rattle.std.specs.Prelude.{◌≡◌, ℕ, List, ◌++◌, IfSome, Option, codes, decimal}
use Rattle.cdc_commands.specs.Seen.{Seen}
use Rattle.cdc_match.specs.Arguments.{Arguments}
use Rattle.cdc_page.specs.declared.recording.Recording.{Recording}
use Rattle.cdc_page.specs.Recordings.{logged_after, steps_json}
use Rattle.cdc_page_text.specs.Strings.{escaped}

-- a recording, if there is one, has just these steps
abbrev pub HasRecorded : Option Recording → List Seen → Type 0
HasRecorded recording seen = IfSome recording (λ r.
    (r.steps.items ≡ steps_json r.bindings.items seen) × (r.logged ≡ logged_after 0 seen))

-- what a page has besides its steps: the name of the script, why the step after the last one was refused or nothing, the
-- trace, and the window
abbrev pub labels_json : List ℕ → List ℕ → List ℕ → ℕ → List ℕ
labels_json name refusal trace window =
    codes "{\"format\":1," ++ (codes "\"script\":\"" ++ (escaped name ++ (codes "\",\"refusal\":\"" ++ (escaped refusal
    ++ (codes "\",\"trace\":\"" ++ (escaped trace ++ (codes "\",\"window\":\"" ++ decimal window)))))))

-- the array of the steps, of which place 0 is null
abbrev pub array_json : List ℕ → List ℕ
array_json steps = codes "\",\"steps\":" ++ (codes "[null" ++ (steps ++ codes "]}"))

-- the page of these steps: the text before the data, the data, and the text after it
abbrev pub page_text : List ℕ → List ℕ → List ℕ → List ℕ → ℕ → List ℕ → List ℕ → List ℕ
page_text before name refusal trace window steps after =
    before ++ (labels_json name refusal trace window ++ (array_json steps ++ after))
