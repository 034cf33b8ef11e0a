-- A position is the text of a saved book without accounts.
use Rattle.std.proofs.Common.{◌≡◌, ℕ, List, [], ◌∷◌, ◌++◌, append_assoc, refl, sym, ap, ◌∙◌}
use Rattle.std.specs.Prelude.{codes, decimal}
use Rattle.std.specs.Fmt.{digits}
use Rattle.cdc_codec.specs.Texts.{spaced, yes_or_no}
use Rattle.cdc_follow.proofs.SavedLemmas.{book_parts}
use Rattle.cdc_book_log.specs.Replay.{emptied}
use Rattle.cdc_sql.specs.Laws.{PositionsAreBooks}

regroup : (a y s n b x l e p k q z : List ℕ)
    → ((a ++ y) ++ (s ++ (n ++ (b ++ (x ++ (l ++ ((e ++ p) ++ (k ++ q)))))))) ++ z
    ≡ a ++ (y ++ (s ++ (n ++ (b ++ (x ++ (l ++ (e ++ (p ++ (k ++ (q ++ z))))))))))
regroup a y s n b x l e p k q z = simp append_assoc

one : decimal 1 ≡ codes "1"
unfolding digits
one = refl

pub positions : PositionsAreBooks
positions chained binding state =
    let kept = state.kept in
    let flags : List ℕ = codes " ended" ++ (yes_or_no kept.ended ++ (codes " closed" ++ (yes_or_no kept.closed
    ++ 10 ∷ []))) in
    regroup (codes "book 1 chained") (yes_or_no chained) (codes " seen " ++ decimal state.seen) (codes "\nbinding ")
    binding (codes "\nsubscriber 1 applied " ++ decimal kept.applied) (codes " last " ++ decimal kept.last)
    (codes " ended") (yes_or_no kept.ended) (codes " closed") (yes_or_no kept.closed) (codes "\n")
    ∙ ap (λ (d : List ℕ). codes "book 1 chained" ++ (yes_or_no chained ++ (codes " seen" ++ (spaced state.seen
    ++ (codes "\nbinding " ++ (binding ++ 10 ∷ (codes "subscriber" ++ ((codes " " ++ d) ++ (codes " applied"
    ++ (spaced kept.applied ++ (codes " last" ++ (spaced kept.last ++ flags)))))))))))) (sym one)
    ∙ sym (book_parts chained binding (emptied state))
