-- The log of a follower's book: a base, and records after it.
use Rattle.std.proofs.Common.{◌≡◌, ℕ, ◌+◌, List, [], ◌∷◌, ◌++◌, length, Option, None, Some, refl, sym, ap, ◌∙◌, subst}
use Rattle.std.proofs.Common.{arith}
use Rattle.std.specs.Prelude.{IfSome}
use Rattle.std.proofs.lemmas.List.{length-append}
use Rattle.cdc_follow.specs.Following.{FollowState}
use Rattle.cdc_follow.specs.Saved.{book_text}
use Rattle.cdc_frames.specs.Frames.{frame}
use Rattle.cdc_book_log.proofs.AppendLemmas.{log_begins, log_more, replay_more}
use Rattle.cdc_book_log.specs.Logs.{log_name}
use Rattle.cdc_book_log.specs.Replay.{with_changes}
use Rattle.cdc_book_log.specs.Tracking.{Leads}
use Rattle.cdc_streams.proofs.KeepingLemmas.{adds_one, last_of_more}
use Rattle.cdc_streams.specs.Keeping.{AddsTexts, AppendsText, ReplacesText, last_text}
use Rattle.cdc_follow_command.specs.Books.{IsTextOf}
use Rattle.cdc_follow_command.specs.declared.followers.Followed.{Followed}
use Rattle.cdc_follow_command.specs.Private.Logged.{Fits, HasRecords}
use Rattle.cdc_follow_command.specs.declared.followers.FollowSetup.{FollowSetup}

module _ (setup : FollowSetup) where
  -- the frame of this number
  abbrev Frame : ℕ → FollowState → List ℕ
  Frame number state = frame log_name number (book_text setup.rules.chained setup.binding_text.items state)

  base_log : (state : FollowState) → HasRecords setup (Frame 0 state) 0 state
  base_log state = (state, [], log_begins setup.rules.chained setup.binding_text.items state, refl, refl)

  record_log : (text : List ℕ) (records number : ℕ) (past change now : FollowState)
      → HasRecords setup text records past → Leads past change now → number ≡ records + 1
      → HasRecords setup (text ++ Frame number change) number now
  record_log text records number past change now has leads next =
      let base = has.0 in
      let changes = has.1 in
      let count : number ≡ length changes + 1 = next ∙ ap (λ n. n + 1) has.4 in
      let longer = length-append changes (change ∷ []) in (
        base,
        changes ++ change ∷ [],
        ap (λ t. t ++ Frame number change) has.2
            ∙ log_more setup.rules.chained setup.binding_text.items base change changes number count,
        replay_more base change changes ∙ ap (λ state. with_changes state change) has.3 ∙ leads.1,
        omega (arith, count, longer),
      )

  -- ---- what was held

  one_base : (old new : Option (List (List ℕ))) (it : Followed) → ReplacesText old new (Frame 0 it.follower)
      → IfSome old (λ before. (text : List ℕ) × (new ≡ Some (before ++ text ∷ [])) × IsTextOf setup text it)
  one_base None new it is = tt
  one_base (Some before) new it is =
      let log = base_log it.follower in (Frame 0 it.follower, is, (log.0, log.1, log.2, log.3))

  pub keeps_base : (first old new : Option (List (List ℕ))) (states : List Followed) (it : Followed)
      → ReplacesText old new (Frame 0 it.follower) → AddsTexts (IsTextOf setup) first old states
      → AddsTexts (IsTextOf setup) first new (states ++ it ∷ [])
  keeps_base first old new states it is adds =
      adds_one (IsTextOf setup) first old new states it adds (one_base old new it is)

  one_record : (old new : Option (List (List ℕ))) (records number : ℕ) (change : FollowState) (it : Followed)
      → Fits setup old records (Some change) it.follower → number ≡ records + 1
      → AppendsText old new (Frame number change)
      → IfSome old (λ before. (text : List ℕ) × (new ≡ Some (before ++ text ∷ [])) × IsTextOf setup text it)
  one_record None new records number change it fits next is = tt
  one_record (Some before) new records number change it fits next is =
      let log = record_log (last_text before) records number fits.0 change it.follower fits.1 fits.2 next in
      (last_text before ++ Frame number change, is, (log.0, log.1, log.2, log.3))

  pub keeps_record : (first old new : Option (List (List ℕ))) (states : List Followed) (records number : ℕ)
      (change : FollowState) (it : Followed) → Fits setup old records (Some change) it.follower
      → number ≡ records + 1 → AppendsText old new (Frame number change)
      → AddsTexts (IsTextOf setup) first old states → AddsTexts (IsTextOf setup) first new (states ++ it ∷ [])
  keeps_record first old new states records number change it fits next is adds =
      adds_one (IsTextOf setup) first old new states it adds (one_record old new records number change it fits next is)

  -- ---- what fits it

  fits_after : (new : Option (List (List ℕ))) (records : ℕ) (state : FollowState) (changes : Option FollowState)
      (now : FollowState) → IfSome new (λ held. HasRecords setup (last_text held) records state)
      → IfSome changes (λ change. Leads state change now) → Fits setup new records changes now
  fits_after new records state None now has leads = tt
  fits_after None records state (Some change) now has leads = tt
  fits_after (Some held) records state (Some change) now has leads = (state, has, leads)

  last_is : (before : List (List ℕ)) (text : List ℕ) (new : Option (List (List ℕ))) (records : ℕ) (state : FollowState)
      → new ≡ Some (before ++ text ∷ []) → HasRecords setup text records state
      → IfSome new (λ held. HasRecords setup (last_text held) records state)
  last_is before text new records state is has =
      subst (λ it. IfSome it (λ held. HasRecords setup (last_text held) records state)) (sym is)
      (subst (λ last. HasRecords setup last records state) (sym (last_of_more before text)) has)

  has_base : (old new : Option (List (List ℕ))) (state : FollowState) → ReplacesText old new (Frame 0 state)
      → IfSome new (λ held. HasRecords setup (last_text held) 0 state)
  has_base None new state is = subst (λ it. IfSome it (λ held. HasRecords setup (last_text held) 0 state)) (sym is) tt
  has_base (Some before) new state is = last_is before (Frame 0 state) new 0 state is (base_log state)

  pub fits_base : (old new : Option (List (List ℕ))) (records : ℕ) (state : FollowState)
      (changes : Option FollowState) (now : FollowState) → ReplacesText old new (Frame 0 state) → records ≡ 0
      → IfSome changes (λ change. Leads state change now) → Fits setup new records changes now
  fits_base old new records state changes now is none leads =
      subst (λ n. Fits setup new n changes now) (sym none)
      (fits_after new 0 state changes now (has_base old new state is) leads)

  has_record : (old new : Option (List (List ℕ))) (records number : ℕ) (change now : FollowState)
      → Fits setup old records (Some change) now → number ≡ records + 1 → AppendsText old new (Frame number change)
      → IfSome new (λ held. HasRecords setup (last_text held) number now)
  has_record None new records number change now fits next is =
      subst (λ it. IfSome it (λ held. HasRecords setup (last_text held) number now)) (sym is) tt
  has_record (Some before) new records number change now fits next is =
      last_is before (last_text before ++ Frame number change) new number now is
      (record_log (last_text before) records number fits.0 change now fits.1 fits.2 next)

  pub fits_record : (old new : Option (List (List ℕ))) (records later number : ℕ) (change state : FollowState)
      (changes : Option FollowState) (now : FollowState) → Fits setup old records (Some change) state
      → number ≡ records + 1 → later ≡ number → AppendsText old new (Frame number change)
      → IfSome changes (λ other. Leads state other now) → Fits setup new later changes now
  fits_record old new records later number change state changes now fits next same is leads =
      subst (λ n. Fits setup new n changes now) (sym same)
      (fits_after new number state changes now (has_record old new records number change state fits next is) leads)
