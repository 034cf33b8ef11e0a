-- The text of a log that begins, and to which a record is appended.
use Rattle.std.proofs.Common.{◌≡◌, ℕ, ◌+◌, List, [], ◌∷◌, ◌++◌, length, map, Bool, sym, ap, ◌∙◌, arith, append-nil}
use Rattle.std.proofs.lemmas.List.{length-map, map-append}
use Rattle.std.proofs.lemmas.List.Sums.{fold-append}
use Rattle.cdc_follow.specs.Following.{FollowState}
use Rattle.cdc_follow.specs.Saved.{book_text}
use Rattle.cdc_frames.specs.Frames.{frame, frames}
use Rattle.cdc_frames.proofs.FrameLemmas.{frames-append}
use Rattle.cdc_book_log.specs.Logs.{log_name, log_text}
use Rattle.cdc_book_log.specs.Replay.{replay, with_changes}

module _ (chained : Bool) (binding : List ℕ) where
  pub log_begins : (base : FollowState)
      → frame log_name 0 (book_text chained binding base) ≡ log_text chained binding base []
  log_begins base = sym (append-nil (frame log_name 0 (book_text chained binding base)))

  pub log_more : (base change : FollowState) (changes : List FollowState) (number : ℕ) → number ≡ length changes + 1
      → log_text chained binding base changes ++ frame log_name number (book_text chained binding change)
      ≡ log_text chained binding base (changes ++ change ∷ [])
  log_more base change changes number is =
      let text = book_text chained binding in
      let contents = map text (base ∷ changes) in
      let many = length-map (base ∷ changes) text in
      let next : 0 + length contents ≡ number = omega (arith, many, is) in
      sym (ap (frames log_name 0) (map-append text (base ∷ changes) (change ∷ []))
      ∙ frames-append log_name 0 contents (text change ∷ [])
      ∙ ap (λ n. frames log_name 0 contents ++ (frame log_name n (text change) ++ [])) next
      ∙ ap (λ last. frames log_name 0 contents ++ last) (append-nil (frame log_name number (text change))))

pub replay_more : (base change : FollowState) (changes : List FollowState)
    → replay base (changes ++ change ∷ []) ≡ with_changes (replay base changes) change
replay_more base change changes = fold-append with_changes base changes (change ∷ [])
