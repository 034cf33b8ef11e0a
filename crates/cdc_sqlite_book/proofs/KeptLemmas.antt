-- What reading and replacing a book leaves of a crash.
use Rattle.std.proofs.Common.{◌≡◌, inl, inr, ℕ, List, Bool, true, false, Option, Some, None, is_some, is_none, not, option_map, IsSomeAnd, Ok, Err, Result, OnOk, refl, ap}
use Rattle.sqlite.specs.Schema.{Schema}
use Rattle.sqlite.specs.Effect.{Database}
use Rattle.sqlite.specs.State.{State, Survives}
use Rattle.sqlite.specs.declared.error.Error.{Error}
use Rattle.sqlite.proofs.StateLemmas.{survives_weaker}
use Rattle.cdc_subscriber.specs.SubscriberState.{SubscriberState}
use Rattle.cdc_subscriber.specs.declared.book.BookEntry.{BookEntry}
use Rattle.cdc_book_log.specs.declared.details.Details.{Details}
use Rattle.cdc_sqlite_book.specs.Tables.{no_schema, HasTables, HoldsBook, HoldsText, IsOfBook, IsSchemaIf, MayHold, MayChange}

-- a fact holds after a success
pub always : {T : Type 0} (r : Result T Error) (P : Type 0) → P → OnOk r P
always (Ok value) P p = p
always (Err why) P p = tt

-- what is known of a value that is there
pub some_is : {V : Type 0} (f : V → List ℕ) (found : Option V) (held : List ℕ) → IsSomeAnd found (λ it. f it ≡ held)
    → option_map f found ≡ Some held
some_is f (Some value) held is = ap Some is
some_is f None held is = absurd is

-- whether nothing is there
pub none_is : {V : Type 0} (none : Bool) (value : Option V) → is_some value ≡ not none → none ≡ is_none value
none_is true (Some value) is = absurd cc
none_is false (Some value) is = refl
none_is true None is = refl
none_is false None is = absurd cc

-- a schema is that of a book, or of an empty file
pub of_if : (is_new : Bool) (schema : Schema) → IsSchemaIf is_new schema → IsOfBook schema
of_if true schema is = inl is
of_if false schema is = inr is

-- tables that hold a book hold its text
pub text_held : (text : List ℕ) (kept : SubscriberState) (known : ℕ → Option Details) (db : Database)
    → HoldsBook text kept known db → HoldsText text db
text_held text kept known db holds =
    record { last = kept.last; applied = kept.applied; schema = inl holds.schema; book = holds.book }

-- a text that is read from tables that are there
pub reads_safely : (old new : State) (is_new : Bool) → (old.now.schema ≡ no_schema → is_new ≡ true) → is_new ≡ false
    → Survives old new (λ _. ¬ HasTables old.now.schema) → Survives old new (λ _. ¬ IsOfBook old.now.schema)
reads_safely old new is_new all there s = survives_weaker old new _ _ (λ _ _ made of. elim of [
  | inl none ↦ absurd (let is = all none in cc)
  | inr tables ↦ made tables
]) s

-- what a crash leaves, where nothing was replaced
pub unreplaced : (old new : State) (text : List ℕ) (kept : SubscriberState) (known : ℕ → Option Details)
    (is_new : Bool) → Survives old new (λ _. ¬ IsOfBook old.now.schema)
    → Survives old new (MayHold (IsSchemaIf is_new old.now.schema) text kept known)
unreplaced old new text kept known is_new s = survives_weaker old new _ _
    (λ _ db made. (
      record { schema = no_schema; trees = db },
      λ of. absurd (made (of_if is_new old.now.schema of)),
      refl,
    )) s

-- what a crash leaves, where nothing was changed
pub unchanged_book : (old new : State) (book : List BookEntry) (details shown : List (ℕ × Details)) (text : List ℕ)
    (change : SubscriberState)
    → Survives old new (λ _. ¬ IsOfBook old.now.schema)
    → Survives old new (MayChange old.now book details shown text change)
unchanged_book old new book details shown text change s = survives_weaker old new _ _
    (λ _ db made. (
      record { schema = old.now.schema; trees = db },
      λ held kept holds same. absurd (made (inr (inl holds.schema))),
      refl,
    )) s
