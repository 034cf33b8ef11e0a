-- How a session starts, and what the store then holds.
use Rattle.std.specs.Prelude.{◌≡◌, ◌⊎◌, ℕ, IsTrue, Option, Some, Ok, Err}
use Rattle.cdc_progress.specs.Records.{Saved}
use Rattle.cdc_progress.specs.Stores.{IsCounted, IsRisked, Risks, StoreChange}
use Rattle.cdc_progress.specs.StoreError.TheVariants as error
use Rattle.cdc_publisher.specs.declared.errors.StartError.{StartError}
use Rattle.cdc_publisher.specs.declared.errors.StartError.TheVariants.{Store, SessionsExhausted, OutOfMemory, StartNotAllowed}
use Rattle.cdc_publisher.specs.Courses.{begun, new_course}
use Rattle.cdc_publisher.specs.SessionState.{SessionState}
use Rattle.cdc_publisher.specs.Stands.{StandsFor}

-- a failure of the store was counted
abbrev pub CountsOne : StoreChange → Type 0
CountsOne store = IsCounted store.failed_before store.failed_after

-- no failure of the store was counted
abbrev pub CountsNone : StoreChange → Type 0
CountsNone store = store.failed_after ≡ store.failed_before

-- a session has started on a store, after this timestamp if one was asked for, with this effect on the store: a
-- record was loaded, the next one was saved and is now held, no failure was counted, and the session represents a new
-- course from there
pub record HasStarted (store : StoreChange) (at : Option ℕ) (window : ℕ) (kept : SessionState) : Type 0 where
  pub loaded : Option Saved
  pub saved : Saved
  pub given : IsTrue store.honest → loaded ≡ store.before
  pub begins : begun loaded at ≡ Ok saved
  pub held : store.after ≡ Some saved
  pub uncounted : CountsNone store
  pub stands : StandsFor kept (new_course saved window)

-- a record was loaded from a store, the one after it was to be saved, and either is held
pub record IsHalfSaved (store : StoreChange) (at : Option ℕ) : Type 0 where
  pub loaded : Option Saved
  pub saved : Saved
  pub given : IsTrue store.honest → loaded ≡ store.before
  pub begins : begun loaded at ≡ Ok saved
  pub held : (store.after ≡ loaded) ⊎ (store.after ≡ Some saved)

-- why no session starts on a store, and what the attempt makes of the store: only a read or a write fault counts
abbrev pub MayRefuseStart : StoreChange → Option ℕ → StartError → Type 0
MayRefuseStart store at (Store error.ReadFault) = (store.after ≡ store.before) × CountsOne store
MayRefuseStart store at (Store error.WriteFault) = IsHalfSaved store at × CountsOne store
MayRefuseStart store at (Store error.BadRecord) =
    CountsNone store × ((store.after ≡ store.before) × (IsTrue store.honest → ⊥))
MayRefuseStart store at (Store error.OutOfMemory) = ⊥
MayRefuseStart store at SessionsExhausted =
    CountsNone store
    × ((begun store.after at ≡ Err SessionsExhausted) × (IsTrue store.honest → store.after ≡ store.before))
MayRefuseStart store at OutOfMemory = CountsNone store × (IsTrue store.honest → store.after ≡ store.before)
MayRefuseStart store at StartNotAllowed =
    CountsNone store
    × ((begun store.after at ≡ Err StartNotAllowed) × (IsTrue store.honest → store.after ≡ store.before))

-- a start on a store with these risks may be refused with this error: as its calls may be, because there is no
-- further session number, because its own allocation fails, or because of a timestamp that it may not start after
abbrev pub IsStartRisked : Risks → StartError → Type 0
IsStartRisked risks (Store why) = IsRisked risks why
IsStartRisked risks SessionsExhausted = Unit {0}
IsStartRisked risks OutOfMemory = Unit {0}
IsStartRisked risks StartNotAllowed = Unit {0}
