-- A simulation as a drawing in SVG.
use Rattle.std.specs.Prelude.{◌≡◌, ℕ, ◌+◌, ◌*◌, List, [], ◌∷◌, ◌++◌, IfSome, Option, codes, decimal, length}
use Rattle.cdc_commands.specs.Seen.{Seen}
use Rattle.cdc_diagnostics.specs.StepTexts.{step_line}
use Rattle.cdc_drawing.specs.declared.rows.Rows.{Rows}
use Rattle.cdc_drawing.specs.Labels.{label}
use Rattle.cdc_drawing.specs.Shapes.{shape}

-- where the row of the step of this number is
abbrev pub place : ℕ → List ℕ
place n = codes "<g transform=\"translate(0 " ++ decimal (n * 22 + 50) ++ codes ")\">"

-- the row of the step of this number: its shape, the step as a step file has it, and what it moved
abbrev pub row : ℕ → Seen → List ℕ
row n seen =
    place n ++ (shape seen.step seen.did
    ++ (codes "<text x=\"5\">" ++ (step_line seen.step ++ (label seen.moved ++ codes "</text></g>\n"))))

-- the rows of steps after those up to this number
abbrev pub rows_after : ℕ → List Seen → List ℕ
rows_after n [] = []
rows_after n (seen ∷ rest) = row (n + 1) seen ++ rows_after (n + 1) rest

-- rows that are drawn, if any are, are those of these steps
abbrev pub HasDrawn : Option Rows → List Seen → Type 0
HasDrawn drawn seen = IfSome drawn (λ rows. (rows.text.items ≡ rows_after 0 seen) × (rows.count ≡ length seen))

-- the drawing: its width and height, the style and the names of the lanes, the rows
abbrev pub drawing_text : List ℕ → ℕ → List Seen → List ℕ
drawing_text style subscribers seen =
    codes "<svg xmlns=\"http://www.w3.org/2000/svg\" viewBox=\"-235 0 " ++ (decimal (subscribers * 180 + 510)
    ++ (codes " " ++ (decimal (length seen * 22 + 80) ++ (codes "\">" ++ (style ++ (rows_after 0 seen ++ codes "</svg>\n"))))))
