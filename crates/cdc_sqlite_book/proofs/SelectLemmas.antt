-- What SELECT finds.
use Rattle.std.proofs.Common.{◌≡◌, ℕ, pos, negsuc, List, [], ◌∷◌, map, codes, false, None, Ok, Err, Result, IfOk, OnOk, inl, inr, refl, sym, ap, subst, ◌∙◌}
use Rattle.std.specs.List.Sorted.{IsPermutation}
use Rattle.sqlite.specs.declared.types.Value.TheVariants.{Null, Int, Blob}
use Rattle.sqlite.specs.Order.{Row}
use Rattle.sqlite.specs.Term.{lit, col}
use Rattle.sqlite.specs.Query.{Query, inner, end, IsAnswer, output, page, Output}
use Rattle.sqlite.specs.Program.{overlay}
use Rattle.sqlite.specs.Command.TheVariants.{Select}
use Rattle.sqlite_tied.specs.Compute.{everything}
use Rattle.sqlite.specs.declared.error.Error.{Error}
use Rattle.sqlite.specs.Listing.{understood, reads_listing}
use Rattle.sqlite.specs.Tree.{Trees}
use Rattle.sqlite.specs.State.{State, QueriesRow, Shown, CommitsShowing}
use Rattle.sqlite.proofs.Callers.{IsPlain, command_of, first_as, one_permutation}
use Rattle.sqlite.specs.Schema.{Schema}
use Rattle.cdc_sqlite_book.specs.Tables.{book_schema, earlier_schema, HasTables, book_row}

-- the statement that reads the book's text
abbrev pub select_text : List ℕ
select_text = codes "SELECT text FROM book"

abbrev query : Query
query = record {
  from = inner 0 end;
  filter = [];
  group = None;
  project = col 1 2 ∷ [];
  distinct = false;
  collations = [];
  order = [];
  limit = lit (Int (negsuc 0));
  offset = lit (Int (pos 0));
}

-- the statement reads that table
abbrev Selects : Schema → Type 0
Selects schema =
    (command_of (understood schema select_text) ≡ Select (record { lets = []; body = query }) (codes "text" ∷ []))
    × (reads_listing schema select_text ≡ false) × IsPlain (understood schema select_text)

select_is : Selects book_schema
unfolding understood everything
select_is = (refl, refl, (refl, refl))

earlier_is : Selects earlier_schema
unfolding understood everything
earlier_is = (refl, refl, (refl, refl))

-- so it does in a book of any version
selects : (schema : Schema) → HasTables schema → Selects schema
selects schema (inl is) = subst Selects (sym is) select_is
selects schema (inr is) = subst Selects (sym is) earlier_is

-- the text of the one row is found
pub finds : (old new : State) (text : List ℕ) (last applied : ℕ) (r : Result Row Error) → HasTables old.now.schema
    → old.now.trees 0 ≡ book_row text last applied ∷ [] → QueriesRow select_text [] old new r
    → IfOk r (λ row. row ≡ Blob text ∷ [])
unfolding QueriesRow
finds old new text last applied (Err e) has one h = tt
finds old new text last applied (Ok row) has one h =
    let is = selects old.now.schema has in
    let got = (first_as select_text [] old new old.now.schema refl _ is.0 is.2 is.1 row h).1 in
    let shown : Row = Blob text ∷ [] in
    let a : IsAnswer query (overlay old.now.trees []) [] (row ∷ got.0) = got.1 Null in
    let staged : a.staged ≡ ([] ∷ book_row text last applied ∷ []) ∷ [] = a.grouped ∙ rw one in
    let o : Output = ([], shown) in
    let kept : a.kept ≡ o ∷ [] = a.distinct ∙ ap (map (output query)) staged in
    let ordered = one_permutation o a.ordered (subst (λ k. IsPermutation k a.ordered) kept a.same) in
    let rows : row ∷ got.0 ≡ shown ∷ [] = a.shown ∙ ap (λ xs. page query [] (map (λ (p : Output). p.1) xs)) ordered in
    cc

-- a read that found the text changes nothing
pub changes_nothing : (old new : State) (r : Result Row Error) → HasTables old.now.schema
    → QueriesRow select_text [] old new r → OnOk r (new.now ≡ old.now)
unfolding QueriesRow Shown
changes_nothing old new (Err e) has h = tt
changes_nothing old new (Ok row) has (inl h) = h.1.0.now_is
changes_nothing old new (Ok row) has (inr h) =
    let shown = h.1 in
    let bare = subst IsPlain shown.1.is (selects old.now.schema has).2 in
    let same = (rw bare.0 at shown.2).3 in
    same.0.now_is

-- nor does it commit
pub commits_nothing : (old : State) (db : Trees) → CommitsShowing select_text [] old db → ¬ HasTables old.now.schema
unfolding CommitsShowing
commits_nothing old db h has =
    let bare = subst IsPlain h.1.is (selects old.now.schema has).2 in
    let shows = rw bare.0 at h.2 in
    absurd cc
