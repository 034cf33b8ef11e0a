-- The base of a log, and the records after it.
use Rattle.std.proofs.Common.{◌≡◌, ℕ, ◌-◌, List, ◌++◌, length, Bool, ap, arith, sym, subst}
use Rattle.std.specs.List.{AllByRecursion}
use Rattle.std.proofs.lemmas.List.{length-append}
use Rattle.cdc_follow.specs.Following.{FollowState}
use Rattle.cdc_follow.specs.Saved.{CanBeSaved, book_text}
use Rattle.cdc_frames.specs.Frames.{IsSplit, frames}
use Rattle.cdc_frames.specs.Records.{AreRecords}
use Rattle.cdc_book_log.specs.Logs.{log_name}

-- the changes after a base, as a reader of the base's stream and binding sees them
pub fit_for : (binding binding_too : List ℕ) (changes : List FollowState) → binding_too ≡ binding
    → AllByRecursion (CanBeSaved binding) changes → AllByRecursion (CanBeSaved binding_too) changes
fit_for binding binding_too changes same fit = subst (λ b. AllByRecursion (CanBeSaved b) changes) (sym same) fit

pub records_for : (chained chained_too : Bool) (binding binding_too after torn : List ℕ) (changes : List FollowState)
    → chained_too ≡ chained → binding_too ≡ binding
    → AreRecords log_name (book_text chained binding) 1 after changes torn
    → AreRecords log_name (book_text chained_too binding_too) 1 after changes torn
records_for chained chained_too binding binding_too after torn changes one other are =
    subst (λ b. AreRecords log_name (book_text chained_too b) 1 after changes torn) (sym other)
    (subst (λ x. AreRecords log_name (book_text x binding) 1 after changes torn) (sym one) are)

-- how many bytes precede a torn end
pub whole_of : (IsContent : List ℕ → Type 0) (text torn : List ℕ) (contents : List (List ℕ)) (left : ℕ)
    → IsSplit log_name IsContent 0 text contents torn → left ≡ length torn
    → length text - left ≡ length (frames log_name 0 contents)
whole_of IsContent text torn contents left split is =
    let size : length text ≡ length (frames log_name 0 contents ++ torn) = ap length split.whole in
    let all = length-append (frames log_name 0 contents) torn in
    omega (arith, size, all, is)
