-- A follower's book of which each save is printed as SQL: what was printed of it.
use Rattle.std.specs.Prelude.{◌≡◌, ℕ, Bool, true, false, Option, Some, IfSome, List, [], ◌∷◌, ◌++◌, length, take}
use Rattle.cdc_follow.specs.Following.{FollowState}
use Rattle.cdc_follow_command.specs.declared.followers.Followed.{Followed}
use Rattle.cdc_follow_command.specs.declared.followers.FollowSetup.{FollowSetup}
use Rattle.cdc_sql.specs.Places.{place_of}
use Rattle.cdc_sql.specs.Plain.{is_plain}
use Rattle.cdc_sql.specs.Saves.{Save, Step, saves_from}
use Rattle.cdc_sql.specs.Texts.{saves_text, transaction_text}
use Rattle.cdc_sql.specs.declared.places.Place.{Place}
use Rattle.cdc_sql_book.specs.Recording.{Taking, follow_taken, step_taken}
use Rattle.cdc_sql_book.specs.declared.books.SqlBook.{SqlBook}

-- these are the steps of a follower from one state to another one: in each it took some entries
abbrev pub Leads : FollowState → List Step → FollowState → Type 0
Leads state [] now = state ≡ now
Leads state (step ∷ steps) now =
    (taken : List Taking) × (step ≡ step_taken state taken) × Leads (follow_taken state taken) steps now

-- A text is that of the saves of a follower that began at a place: each save begins where the one before ended, and has
-- the rows and the events of the entries that the follower took meanwhile. The text of the binding that they quote is
-- plain. What executing such saves leaves in the tables is a law of cdc_sql.
pub record IsSavesOf (setup : FollowSetup) (keeps : Bool) (name : List ℕ) (start : Place) (text : List ℕ)
    (it : FollowState) : Type 0 where
  pub begun : FollowState
  pub steps : List Step
  pub begins : place_of begun ≡ start
  pub leads : Leads begun steps it
  pub text_is : text ≡ saves_text name setup.rules.chained setup.binding_text.items (saves_from keeps start steps)
  pub plain : is_plain setup.binding_text.items ≡ true

-- the same of what following has come to
abbrev pub AreSavesOf : FollowSetup → Bool → List ℕ → Place → List ℕ → Followed → Type 0
AreSavesOf setup keeps name start text it = IsSavesOf setup keeps name start text it.follower

-- A text grew from this part of it, step by step: at each step, what there was of it was the text of one of these, in
-- their order.
abbrev pub GrowsFrom : {S : Type 0} → (List ℕ → S → Type 0) → List ℕ → List ℕ → List S → Type 0
GrowsFrom IsText part text [] = text ≡ part
GrowsFrom IsText part text (state ∷ later) =
    (more : List ℕ) × IsText (part ++ more) state × GrowsFrom IsText (part ++ more) text later

-- what was printed after the last save: nothing, or, if a write failed, a part of the text of one more
abbrev pub IsRest : FollowSetup → List ℕ → Bool → List ℕ → Type 0
IsRest setup name false part = part ≡ []
IsRest setup name true part = (save : Save) × (n : ℕ)
    × (part ≡ take n (transaction_text name setup.rules.chained setup.binding_text.items save))
    × (is_plain setup.binding_text.items ≡ true)

-- a book has printed the saves of these, one after another, and nothing else, except a part of one more if a write
-- failed
pub record Prints {W : Type 0} (setup : FollowSetup) (old new : SqlBook W) (before now : List ℕ)
    (states : List Followed) : Type 0 where
  pub text : List ℕ
  pub part : List ℕ
  pub now_is : now ≡ before ++ (text ++ part)
  pub count : new.printed ≡ length text
  pub grows : GrowsFrom (AreSavesOf setup old.keeps_events old.name.text.items old.start) [] text states
  pub rest : IsRest setup old.name.text.items new.is_torn part

-- One book came from another one, and meanwhile was given these. If the first one had printed nothing yet, and it is
-- known what its writer held, the writer has since got the text of their saves.
pub record HasPrinted {W : Type 0} (contents : W → Option (List ℕ)) (setup : FollowSetup) (old new : SqlBook W)
    (states : List Followed) : Type 0 where
  pub name : new.name ≡ old.name
  pub events : new.keeps_events ≡ old.keeps_events
  pub start : new.start ≡ old.start
  pub prints : old.printed ≡ 0 → old.is_torn ≡ false → IfSome (contents old.writer) (λ before.
      (now : List ℕ) × (contents new.writer ≡ Some now) × Prints setup old new before now states)
