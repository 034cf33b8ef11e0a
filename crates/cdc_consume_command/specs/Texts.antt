-- What `consume` reports as text.
use Rattle.std.specs.Prelude.{ℕ, List, ◌++◌, codes, decimal, Bool, true, false}
use Rattle.cdc_follow.specs.declared.counts.Counts.{Counts}
use Rattle.cdc_consume_command.specs.declared.endings.Outcome.{Outcome}

abbrev pub yes_or_no : Bool → List ℕ
yes_or_no true = codes "yes"
yes_or_no false = codes "no"

-- the lines of how the command ended
abbrev pub ending_text : Outcome → List ℕ
ending_text it =
    (codes "status " ++ decimal it.status) ++ (codes "\nreason " ++ (it.reason.now
    ++ ((codes "\ncode " ++ decimal it.code) ++ (codes "\ntext " ++ (it.text.now ++ codes "\n")))))

-- the lines of the delivery at which following stopped
abbrev pub delivery_text : Outcome → List ℕ
delivery_text it =
    (codes "tag " ++ decimal it.tag) ++ (codes "\nredelivered " ++ (yes_or_no it.redelivered
    ++ ((codes "\ndelivery_count " ++ decimal it.delivery_count)
    ++ ((codes "\nparked " ++ decimal it.parked) ++ codes "\n"))))

-- the lines of the counts
abbrev pub counts_text : Counts → List ℕ
counts_text counts =
    (codes "applied " ++ decimal counts.applied) ++ ((codes "\nduplicates " ++ decimal counts.duplicates)
    ++ ((codes "\npassed " ++ decimal counts.passed) ++ ((codes "\ngaps_skipped " ++ decimal counts.gaps)
    ++ codes "\n")))

-- the line of the timestamp of the last event seen
abbrev pub place_text : ℕ → List ℕ
place_text seen = (codes "seen " ++ decimal seen) ++ codes "\n"

-- the report at the end
abbrev pub end_text : Outcome → Counts → ℕ → List ℕ
end_text it counts seen = ending_text it ++ (delivery_text it ++ (counts_text counts ++ place_text seen))

-- the report before the end
abbrev pub progress_text : Counts → ℕ → List ℕ
progress_text counts seen = codes "status running\n" ++ (counts_text counts ++ place_text seen)
