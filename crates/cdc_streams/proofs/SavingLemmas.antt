-- What is saved, and its lines, one after another.
use Rattle.std.proofs.Common.{◌≡◌, ℕ, ◌+◌, List, [], ◌∷◌, ◌++◌, length, take, Bool, true, false, Option, None, Some}
use Rattle.std.proofs.Common.{Ok, Err}
use Rattle.std.proofs.Common.{Result, refl, sym, ap, ◌∙◌, subst, append-nil, append_assoc, drop, inl, inr}
use Rattle.std.proofs.Common.{◌-◌, arith, length-drop}
use Rattle.std.specs.Prelude.{IfSome, is_some}
use Rattle.std.specs.List.{flat_map}
use Rattle.std.specs.Io.KnownBytes.{Appends, Keeps}
use Rattle.std.proofs.KnownBytes.{Appends-trans}
use Rattle.std.proofs.Math.Seq.{take-append-add, take-append_seam, take-length}
use Rattle.std.proofs.lemmas.List.{take-append-drop, take_all}
use Rattle.std.proofs.lemmas.List.Concat.{flat_map-append}
use Rattle.cdc_output.specs.declared.faults.ProgramFault.{ProgramFault}
use Rattle.cdc_streams.specs.Keeping.{HasKept, KeepsMore}
use Rattle.cdc_streams.specs.Saving.{IfStopped, PrintsAll, PrintsBy, PrintsEnd, PrintsFault, PrintsLast, PrintsPart}
use Rattle.cdc_streams.specs.Saving.{ends_by_write, is_write_fault, save_text, saves_text}
use Rattle.cdc_streams.specs.declared.endings.StreamEnding.{StreamEnding}
use Rattle.cdc_streams.specs.declared.endings.StreamEnding.TheVariants.{Stopped, Failed}

-- ---- what is printed

-- nothing is printed
pub appends_nothing : (known : Option (List ℕ)) → Appends known known []
appends_nothing None = tt
appends_nothing (Some bytes) = sym (append-nil bytes)

-- nothing more was printed
pub prints_same : (text : List ℕ) (old mid new : Option (List ℕ)) → Appends old mid text → Appends mid new []
    → Appends old new text
prints_same text old mid new first later =
    subst (Appends old new) (append-nil text) (Appends-trans old mid new text [] first later)

-- a whole text is a part of itself
pub part_of_all : (text : List ℕ) (old new : Option (List ℕ)) → Appends old new text → PrintsPart old new text
part_of_all text old new adds = (length text, subst (Appends old new) (sym (take-length text)) adds)

-- a text, and then a part of another one
pub part_more : (text more : List ℕ) (old mid new : Option (List ℕ)) → Appends old mid text → PrintsPart mid new more
    → PrintsPart old new (text ++ more)
part_more text more old mid new first later = (
  length text + later.0,
  subst (Appends old new) (sym (take-append-add text more later.0))
      (Appends-trans old mid new text (take later.0 more) first later.1),
)

-- a text was printed, however the command goes on
prints_by : (failed : Bool) (text : List ℕ) (old new : Option (List ℕ)) → Appends old new text
    → PrintsBy failed old new text
prints_by true text old new adds = part_of_all text old new adds
prints_by false text old new adds = adds

pub prints_all : {T : Type 0} (text : List ℕ) (old new : Option (List ℕ)) (result : Result T ProgramFault)
    → Appends old new text → PrintsAll old new text result
prints_all text old new (Ok done) adds = adds
prints_all text old new (Err why) adds = prints_by (is_write_fault why) text old new adds

module _ {S : Type 0} (prints : S → List ℕ) where
  pub saves_none : (kept : Bool) → saves_text prints kept [] ≡ []
  saves_none true = refl
  saves_none false = refl

  pub saves_more : (kept : Bool) (states : List S) (state : S)
      → saves_text prints kept (states ++ state ∷ [])
      ≡ saves_text prints kept states ++ save_text prints kept state
  saves_more true states state =
      flat_map-append prints states (state ∷ [])
      ∙ ap (λ text. flat_map prints states ++ text) (append-nil (prints state))
  saves_more false states state = refl

-- ---- what a write leaves

-- a first part of a text was printed, and the rest is left
abbrev pub HasPart : Option (List ℕ) → Option (List ℕ) → List ℕ → List ℕ → Type 0
HasPart old now text rest = (done : List ℕ) × (text ≡ done ++ rest) × Appends old now done

keeps_all : (old new : Option (List ℕ)) → Keeps old new → Appends old new []
keeps_all None new keeps = tt
keeps_all (Some xs) None keeps = absurd keeps
keeps_all (Some xs) (Some ys) keeps = keeps ∙ sym (append-nil xs)

-- some more of it is printed
pub part_on : (text rest : List ℕ) (n : ℕ) (old mid new : Option (List ℕ)) → HasPart old mid text rest
    → Appends mid new (take n rest) → HasPart old new text (take (length rest - n) (drop n rest))
part_on text rest n old mid new has adds =
    let whole : take (length rest - n) (drop n rest) ≡ drop n rest =
    take_all (length rest - n) (drop n rest) (omega (arith, length-drop n rest)) in (
      has.0 ++ take n rest,
      has.1 ∙ ap (λ r. has.0 ++ r) (sym (take-append-drop n rest) ∙ ap (λ l. take n rest ++ l) (sym whole))
          ∙ sym (append_assoc has.0 (take n rest) (take (length rest - n) (drop n rest))),
      Appends-trans old mid new has.0 (take n rest) has.2 adds,
    )

-- nothing more of it
pub part_kept : (text rest : List ℕ) (old mid new : Option (List ℕ)) → HasPart old mid text rest → Keeps mid new
    → HasPart old new text rest
part_kept text rest old mid new has keeps =
    (has.0, has.1, prints_same has.0 old mid new has.2 (keeps_all mid new keeps))

-- and then it ends
pub part_stops : (text rest : List ℕ) (old new : Option (List ℕ)) → HasPart old new text rest → PrintsPart old new text
part_stops text rest old new has = (
  length has.0,
  subst (Appends old new) (sym (ap (take (length has.0)) has.1 ∙ take-append_seam has.0 rest)) has.2,
)

-- ---- what is printed last

module _ {T : Type 0} (text : List ℕ) (old mid new : Option (List ℕ)) (ending : StreamEnding T) where
  last_after : (line : List ℕ) (wanted : StreamEnding T) → Appends old mid text → PrintsLast mid new line wanted ending
      → PrintsLast old new (text ++ line) wanted ending
  last_after line wanted first last =
      elim last [
        | inl is ↦ inl (is.0, Appends-trans old mid new text line first is.1)
        | inr part ↦ inr (part.0, part_more text line old mid new first part.1)
      ]

  fault_after : (prints : ProgramFault → List ℕ → Type 0) (fault : ProgramFault) → Appends old mid text
      → PrintsFault prints [] mid new fault ending → PrintsFault prints text old new fault ending
  fault_after prints fault first last =
      elim last [
        | inl line ↦ inl (line.0, line.1, last_after line.0 (Failed fault) first line.2)
        | inr part ↦ inr (
          part.0,
          subst (PrintsPart old new) (append-nil text)
              (part_more text [] old mid new first part.1),
        )
      ]

  pub end_after : {S : Type 0} (prints : S → T → List ℕ) (fails : ProgramFault → List ℕ → Type 0) (state : S)
      → Appends old mid text → PrintsEnd prints fails [] mid new state ending
      → PrintsEnd prints fails text old new state ending
  end_after prints fails state first last =
      elim last [
        | inl end ↦ inl (end.0, last_after (prints state end.0) (Stopped end.0) first end.1)
        | inr fault ↦ inr (fault.0, fault_after fails fault.0 first fault.1)
      ]

  -- a fault of a write, after which nothing was printed, or another one
  pub fault_prints : (fails : ProgramFault → List ℕ → Type 0) (fault : ProgramFault)
      → PrintsBy (is_write_fault fault) old mid text → PrintsFault fails [] mid new fault ending
      → (is_write_fault fault ≡ true → (ending ≡ Failed fault) × Appends mid new [])
      → PrintsFault fails text old new fault ending
  fault_prints fails fault first last quiet = go (is_write_fault fault) refl first
    where
      go : (failed : Bool) → is_write_fault fault ≡ failed → PrintsBy failed old mid text
          → PrintsFault fails text old new fault ending
      go true is part =
          let none = quiet is in
          inr (
            ap ends_by_write none.0 ∙ is,
            (part.0, prints_same (take part.0 text) old mid new part.1 none.1),
          )
      go false is adds = fault_after fails fault adds last

  pub fault_ends : {S : Type 0} (prints : S → T → List ℕ) (fails : ProgramFault → List ℕ → Type 0) (state : S)
      (fault : ProgramFault) → PrintsBy (is_write_fault fault) old mid text
      → PrintsFault fails [] mid new fault ending
      → (is_write_fault fault ≡ true → (ending ≡ Failed fault) × Appends mid new [])
      → PrintsEnd prints fails text old new state ending
  fault_ends prints fails state fault first last quiet = inr (fault, fault_prints fails fault first last quiet)

pub any_stop : {T X : Type 0} → X → (it : StreamEnding T) → IfStopped it (λ stop. X)
any_stop holds (Stopped stop) = holds
any_stop holds (Failed why) = tt

pub no_stop : {T : Type 0} (Holds : T → Type 0) (it : StreamEnding T) → IfStopped it (λ stop. ⊥) → IfStopped it Holds
no_stop Holds (Stopped stop) never = absurd never
no_stop Holds (Failed why) never = tt

-- ---- what is kept

module _ {K S : Type 0} (Kept : K → K → List S → Type 0) where
  pub kept_none : ((it : K) → Kept it it []) → (store : Option K) → HasKept Kept store store []
  kept_none none None = tt
  kept_none none (Some store) = none store

  -- a store stays there
  pub kept_same : (first store : Option K) (states : List S) → HasKept Kept first store states
      → is_some store ≡ is_some first
  kept_same None None states kept = refl
  kept_same None (Some store) states kept = absurd kept
  kept_same (Some first) None states kept = absurd kept
  kept_same (Some first) (Some store) states kept = refl

  -- nothing more was kept
  pub kept_no_more : (first store later : Option K) (states : List S) → HasKept Kept first store states
      → KeepsMore Kept store later [] → HasKept Kept first later states
  kept_no_more first store later states kept keeps =
      subst (HasKept Kept first later) (append-nil states) (keeps first states kept)

-- ---- what holds of what may be there

pub some_any : {X : Type 0} (P : X → Type 0) → ((x : X) → P x) → (o : Option X) → IfSome o P
some_any P all None = tt
some_any P all (Some x) = all x

pub some_map : {X : Type 0} (P Q : X → Type 0) → ((x : X) → P x → Q x) → (o : Option X) → IfSome o P → IfSome o Q
some_map P Q maps None some = tt
some_map P Q maps (Some x) some = maps x some
