-- What SELECT finds of the accounts.
use Rattle.std.proofs.Common.{◌≡◌, ◌≢◌, ℕ, ◌<◌, ◌^◌, length, ℤ, pos, negsuc, Bool, true, false, cond, List, [], ◌∷◌, ◌++◌, map, codes, nat_le, None, Option, Some, Ok, Err, Result, All, IsTrue, OnOk, MatchResult, inl, inr, refl, sym, ap, subst, ◌∙◌, append-nil, arith}
use Rattle.std.specs.List.{flat_map, list_all}
use Rattle.std.specs.Prelude.{◌⊎◌, decimal, unwrap_or, not, ◌&&◌, ◌||◌}
use Rattle.std.specs.Str.Parse.{ParsesUnsigned}
use Rattle.std.proofs.lemmas.Fmt.{parse-decimal_wide}
use Rattle.std.specs.declared.cmp.Ordering.{Ordering}
use Rattle.std.specs.declared.cmp.Ordering.TheVariants.{Less, Equal, Greater}
use Rattle.std.specs.Cmp.Lexicographic.{pointwise, other_text}
use Rattle.std.specs.Prelude.{nat_eq}
use Rattle.std.proofs.lemmas.Bool.{cases_Bool}
use Rattle.std.proofs.lemmas.Bool.Decides.{nat_tests}
use Rattle.std.proofs.lemmas.List.Elements.{All-nil, All-cons}
use Rattle.std.proofs.lemmas.List.Sorted.{length_permutation, All-permutation}
use Rattle.sqlite.specs.declared.types.Value.{Value}
use Rattle.sqlite.specs.declared.types.Value.TheVariants.{Null, Int, Real, Text, Blob}
use Rattle.sqlite.specs.Ops.{binary, truth, from_truth, or3, is_true, test, is_null}
use Rattle.sqlite_sql.specs.declared.ops.CompareOp.{CompareOp}
use Rattle.sqlite.specs.Order.{Row, value_cmp}
use Rattle.sqlite.specs.Term.{Term, lit, col, op2, Env, holds, eval_all}
use Rattle.sqlite_sql.specs.declared.ops.BinaryOp.TheVariants.{Compare, Or}
use Rattle.sqlite_sql.specs.declared.ops.CompareOp.TheVariants.{Eq, Lt, Gt}
use Rattle.sqlite.specs.Collation.TheVariants.{Binary}
use Rattle.sqlite.specs.Query.{Query, inner, end, IsAnswer, output, page, Output, FoldOverflows}
use Rattle.sqlite.specs.Program.{overlay}
use Rattle.sqlite.specs.Command.{Command}
use Rattle.sqlite.specs.Command.TheVariants.{Select}
use Rattle.sqlite_tied.specs.Compute.{everything}
use Rattle.sqlite_typing.specs.Types.{accepts_program}
use Rattle.sqlite_trees.specs.declared.error.StoreError.TheVariants as cause
use Rattle.sqlite_resolve.specs.declared.compiled.Compiled.{Compiled}
use Rattle.sqlite_resolve.specs.declared.error.CompileError.{CompileError}
use Rattle.sqlite.specs.declared.error.Error.{Error}
use Rattle.sqlite.specs.declared.error.Error.TheVariants.{QueryReturnedNoRows, SqliteFailure}
use Rattle.sqlite.specs.declared.error.ErrorCode.TheVariants as code
use Rattle.sqlite.specs.Reading.{IsReadError}
use Rattle.sqlite.specs.Listing.{understood, reads_listing, IsSourceOf}
use Rattle.sqlite.specs.Schema.{Schema}
use Rattle.sqlite.specs.Tree.{Trees, rowid}
use Rattle.sqlite.specs.Effect.{Database, Reads, ReadsFirst, RefusesQuery, RefusesToRead}
use Rattle.sqlite.specs.State.{State, QueriesRow, CommitsShowing, Shown, FailsToQuery, Fails, IsNotRun, IsNoStatement}
use Rattle.sqlite.proofs.Callers.{IsPlain, command_of, first_as, never_commits, reads_as}
use Rattle.sqlite_rules.specs.Lists.{Has}
use Rattle.cdc_sqlite_book.specs.Loading.{is_failure, IsNone, account_text, shown_of, IsDetailed, IsAt, IsStray, Finds, HasStray}
use Rattle.cdc_sqlite_book.specs.Tables.{book_schema, earlier_schema}

-- ---- the rows of a table that pass a test

module _ (passes : Row → Bool) (env : Row → Env) (out : Env → Output) where
  abbrev each : Row → List Env
  each r = cond (passes r) (env r ∷ []) []

  -- an output is that of a row that passes
  abbrev IsOfOne : List Row → Output → Type 0
  IsOfOne all o = (r : Row) × Has all r × (passes r ≡ true) × (o ≡ out (env r))

  -- what is shown is of rows that pass
  shown_pass : (rows all : List Row) → ((r : Row) → Has rows r → Has all r)
      → All (IsOfOne all) (map out (flat_map each rows))
  shown_pass [] all within = All-nil _
  shown_pass (r ∷ rest) all within = elim (cases_Bool (passes r)) [
    | inl passed ↦ rw passed
        (All-cons (IsOfOne all) _ _ (r, within r (inl refl), passed, refl) (shown_pass rest all (λ x h. within x (inr h))))
    | inr missed ↦ rw missed (shown_pass rest all (λ x h. within x (inr h)))
  ]

  -- if nothing is shown, no row passes
  none_pass : (rows : List Row) → map out (flat_map each rows) ≡ [] → (r : Row) → Has rows r → passes r ≡ false
  none_pass [] none r has = absurd has
  none_pass (first ∷ rest) none r (inl is) = elim (cases_Bool (passes first)) [
    | inl passed ↦ absurd (let shown = rw passed at none in cc)
    | inr missed ↦ ap passes is ∙ missed
  ]
  none_pass (first ∷ rest) none r (inr has) = elim (cases_Bool (passes first)) [
    | inl passed ↦ absurd (let shown = rw passed at none in cc)
    | inr missed ↦ none_pass rest (rw missed at none) r has
  ]

-- ---- a query of one table

-- a query of the rows of the accounts
abbrev pub of_accounts : Term → List Term → Query
of_accounts test project = record {
  from = inner 1 end;
  filter = test ∷ [];
  group = None;
  project = project;
  distinct = false;
  collations = [];
  order = [];
  limit = lit (Int (negsuc 0));
  offset = lit (Int (pos 0));
}

module _ (test : Term) (project : List Term) (names : List (List ℕ)) (db : Database) (params : Row) where
  abbrev query : Query
  query = of_accounts test project

  abbrev command : Command
  command = Select (record { lets = []; body = query }) names

  abbrev passes_test : Row → Bool
  passes_test r = list_all (holds (params ∷ r ∷ [])) (test ∷ [])

  first_output : (P : Output → Type 0) (ordered : List Output) (row : Row) (tail : List Row)
      → row ∷ tail ≡ page query params (map (λ (o : Output). o.1) ordered) → All P ordered
      → (o : Output) × P o × (row ≡ o.1)
  first_output P [] row tail is all = absurd cc
  first_output P (o ∷ more) row tail is all = (o, all 0 o (omega arith), cc)

  no_output : (ordered : List Output) → [] ≡ page query params (map (λ (o : Output). o.1) ordered)
      → length ordered ≡ 0
  no_output [] is = refl
  no_output (o ∷ more) is = absurd cc

  empty : (kept : List Output) → length kept ≡ 0 → kept ≡ []
  empty [] is = refl
  empty (o ∷ more) is = absurd (omega arith)

  -- the first row that is found shows one of the table that passes the test
  pub first_is : (row : Row) → ReadsFirst command db params (row ∷ [])
      → (r : Row) × Has (db.trees 1) r × (passes_test r ≡ true) × (row ≡ eval_all project (params ∷ r ∷ []))
  first_is row h =
      let a : IsAnswer query (overlay db.trees []) params (row ∷ h.1.0) = h.1.1 Null in
      let P = IsOfOne passes_test (λ r. params ∷ r ∷ []) (output query) (db.trees 1) in
      let all : All P (map (output query) a.staged) = rw a.grouped
      (shown_pass passes_test (λ r. params ∷ r ∷ []) (output query) (db.trees 1) (db.trees 1) (λ r has. has)) in
      let kept : All P a.kept = rw a.distinct all in
      let got = first_output P a.ordered row h.1.0 a.shown (All-permutation P a.kept a.ordered a.same kept) in
      (got.1.0, got.1.1, got.1.2, got.2 ∙ ap (λ (o : Output). o.1) got.1.3)

  -- if none is found, none passes it
  pub none_are : Reads command db params [] → (r : Row) → Has (db.trees 1) r → passes_test r ≡ false
  none_are h =
      let a : IsAnswer query (overlay db.trees []) params [] = h.answer Null in
      let count : length a.kept ≡ 0 = sym (length_permutation a.kept a.ordered a.same) ∙ no_output a.ordered a.shown in
      let none : map (output query) a.staged ≡ [] = sym a.distinct ∙ empty a.kept count in
      none_pass passes_test (λ r. params ∷ r ∷ []) (output query) (db.trees 1)
      (ap (map (output query)) (sym a.grouped) ∙ none)

-- ---- how a query fails

-- the whole of the text is a statement with this many parameters
abbrev pub IsWhole : List ℕ → ℕ → Result Compiled CompileError → Type 0
IsWhole sql count (Ok c) = (nat_le (length sql) c.tail ≡ true) × (length c.names ≡ count)
IsWhole sql count (Err e) = ⊥

-- the store failed
failed : (old new : State) (e : Error) → Fails old new ⊥ e → is_failure e ≡ true
failed old new e (cause.OutOfMemory, is, why, rolled, answered) = ap is_failure is
failed old new e (cause.Io, is, why, rolled, answered) = ap is_failure is
failed old new e (cause.Corrupt, is, why, rolled, answered) = ap is_failure is
failed old new e (cause.Full, is, why, rolled, answered) = ap is_failure is
failed old new e (cause.Broken, is, why, rolled, answered) = ap is_failure is
failed old new e (cause.Unstorable, is, why, rolled, answered) = absurd why

-- no row of one table overflows a sum
no_fold : (test : Term) (project : List Term) (trees : Trees) (params : Row)
    → ¬ FoldOverflows trees (inner 1 end) (params ∷ [])
no_fold test project trees params h = h.4

module _ (sql : List ℕ) (test : Term) (project : List Term) (names : List (List ℕ)) (params : Row) (old new : State)
    (schema : Schema) (has : old.now.schema ≡ schema)
    (is : command_of (understood schema sql) ≡ Select (record { lets = []; body = of_accounts test project }) names)
    (plain : IsPlain (understood schema sql)) (whole : IsWhole sql (length params) (understood schema sql))
    (unlisted : reads_listing schema sql ≡ false)
    (typed : accepts_program schema [] (of_accounts test project) params ≡ true) where
  -- the text is a statement
  no_fault : (e : Error) → ¬ IsNoStatement old sql params e
  no_fault e (inl h) = subst IsPlain (ap (λ s. understood s sql) (sym has) ∙ h.1) plain
  no_fault e (inr h) =
      let known = ap (λ s. understood s sql) (sym has) ∙ h.1 in
      let fits = subst (IsWhole sql (length params)) known whole in
      let bare = subst IsPlain known plain in
      elim h.2 [
        | inl long ↦ long.0 (grind (arith, nat_tests, fits.0))
        | inr (inl count) ↦ count.0 (sym fits.1)
        | inr (inr formats) ↦ formats.0 bare.1
      ]

  refused : (db : Database) (e : Error) → db ≡ old.now
      → RefusesQuery old.step_limit db (record { lets = []; body = of_accounts test project }) params e
      → is_failure e ≡ true
  refused db e same (inl h) =
      absurd (let accepts = subst (λ (d : Database). accepts_program d.schema [] (of_accounts test project) params ≡ true)
      (sym same) (subst (λ s. accepts_program s [] (of_accounts test project) params ≡ true) (sym has) typed) in cc)
  refused db e same (inr (inl h)) = elim h.1 [
    | inl none ↦ absurd none
    | inr fold ↦ absurd (no_fold test project (overlay db.trees []) params fold)
  ]
  refused db e same (inr (inr h)) = ap is_failure h.0

  -- a query that failed did so by a failure
  pub fails : (e : Error) → FailsToQuery sql params old new e → is_failure e ≡ true
  unfolding FailsToQuery IsNotRun
  fails e (inl (inl h)) = absurd (no_fault e h.0)
  fails e (inl (inr h)) = failed old new e h
  fails e (inr h) =
      let known = sym h.1.is ∙ ap (λ s. understood s sql) has in
      let bare = subst IsPlain (sym known) plain in
      let it = rw (bare.0, bare.1, append-nil params) at h.2 in
      let same : it.0 ≡ old.now =
      subst (λ b. IsSourceOf b old.now it.0) (ap (λ s. reads_listing s sql) has ∙ unlisted) it.1 in
      let why = subst (λ k. RefusesToRead old.step_limit k it.0 params e) (ap command_of known ∙ is) it.2 in
      refused it.0 e same why

-- ---- the account at a place

abbrev balance_terms : List Term
balance_terms = col 1 2 ∷ col 1 3 ∷ col 1 4 ∷ col 1 5 ∷ col 1 6 ∷ []

abbrev account_terms : Bool → List Term
account_terms true = balance_terms ++ (col 1 7 ∷ col 1 8 ∷ col 1 9 ∷ col 1 10 ∷ col 1 11 ∷ col 1 12 ∷ col 1 13 ∷ [])
account_terms false = balance_terms

abbrev balance_names : List (List ℕ)
balance_names =
    codes "id" ∷ codes "debits_pending" ∷ codes "debits_posted" ∷ codes "credits_pending" ∷ codes "credits_posted" ∷ []

abbrev account_names : Bool → List (List ℕ)
account_names true =
    balance_names
    ++ (codes "last_timestamp" ∷ codes "ledger" ∷ codes "code" ∷ codes "flags" ∷ codes "user_data_128" ∷ codes "user_data_64" ∷ codes "user_data_32" ∷ [])
account_names false = balance_names

abbrev at_place : Term
at_place = op2 (Compare Eq Binary) (col 1 0) (col 0 0)

abbrev schema_of : Bool → Schema
schema_of true = book_schema
schema_of false = earlier_schema

account_is : (detailed : Bool) → command_of (understood (schema_of detailed) (account_text detailed))
    ≡ Select (record { lets = []; body = of_accounts at_place (account_terms detailed) }) (account_names detailed)
unfolding understood everything
account_is true = refl
account_is false = refl

account_plain : (detailed : Bool) → IsPlain (understood (schema_of detailed) (account_text detailed))
unfolding understood everything
account_plain true = (refl, refl)
account_plain false = (refl, refl)

account_whole : (detailed : Bool) → IsWhole (account_text detailed) 1 (understood (schema_of detailed) (account_text detailed))
unfolding understood everything
account_whole true = (refl, refl)
account_whole false = (refl, refl)

account_unlisted : (detailed : Bool) → reads_listing (schema_of detailed) (account_text detailed) ≡ false
unfolding understood everything
account_unlisted true = refl
account_unlisted false = refl

account_typed : (detailed : Bool) (place : ℕ)
    → accepts_program (schema_of detailed) [] (of_accounts at_place (account_terms detailed)) (Int (pos place) ∷ []) ≡ true
account_typed true place = refl
account_typed false place = refl

-- ---- a row at no place of an account

-- the statement that finds a row whose place isn't one of the first so many
abbrev pub stray_text : List ℕ
stray_text = codes "SELECT place FROM accounts WHERE place < 1 OR place > ?1"

abbrev is_stray : Term
is_stray = op2 Or (op2 (Compare Lt Binary) (col 1 0) (lit (Int (pos 1)))) (op2 (Compare Gt Binary) (col 1 0) (col 0 0))

stray_is : (detailed : Bool) → command_of (understood (schema_of detailed) stray_text)
    ≡ Select (record { lets = []; body = of_accounts is_stray (col 1 0 ∷ []) }) (codes "place" ∷ [])
unfolding understood everything
stray_is true = refl
stray_is false = refl

stray_typed : (detailed : Bool) (place : ℕ)
    → accepts_program (schema_of detailed) [] (of_accounts is_stray (col 1 0 ∷ [])) (Int (pos place) ∷ []) ≡ true
stray_typed true place = refl
stray_typed false place = refl

stray_plain : (detailed : Bool) → IsPlain (understood (schema_of detailed) stray_text)
unfolding understood everything
stray_plain true = (refl, refl)
stray_plain false = (refl, refl)

stray_whole : (detailed : Bool) → IsWhole stray_text 1 (understood (schema_of detailed) stray_text)
unfolding understood everything
stray_whole true = (refl, refl)
stray_whole false = (refl, refl)

stray_unlisted : (detailed : Bool) → reads_listing (schema_of detailed) stray_text ≡ false
unfolding understood everything
stray_unlisted true = refl
stray_unlisted false = refl

-- ---- what the tests say of a place

truth_back : (o : Option Bool) → is_true (from_truth o) ≡ unwrap_or o false
truth_back None = refl
truth_back (Some true) = refl
truth_back (Some false) = refl

or_back : (a b : Option Bool) → unwrap_or (or3 a b) false ≡ (unwrap_or a false || unwrap_or b false)
or_back (Some true) b = refl
or_back (Some false) (Some true) = refl
or_back (Some false) (Some false) = refl
or_back (Some false) None = refl
or_back None (Some true) = refl
or_back None (Some false) = refl
or_back None None = refl

-- a comparison with a whole number: a null passes none
compared : (op : CompareOp) (v : Value) (n : ℤ) → is_true (binary (Compare op Binary) v (Int n))
    ≡ (not (is_null v) && test op (value_cmp v (Int n)))
unfolding binary
compared op Null n = refl
compared op (Int m) n = truth_back (Some (test op (value_cmp (Int m) (Int n))))
compared op (Real x) n = truth_back (Some (test op (value_cmp (Real x) (Int n))))
compared op (Text t) n = truth_back (Some (test op (value_cmp (Text t) (Int n))))
compared op (Blob b) n = truth_back (Some (test op (value_cmp (Blob b) (Int n))))

or_is : (x y : Value) → is_true (binary Or x y) ≡ (is_true x || is_true y)
unfolding binary
or_is x y = truth_back (or3 (truth x) (truth y)) ∙ or_back (truth x) (truth y)

whole_test : (b : Bool) → (b && true) ≡ b
whole_test true = refl
whole_test false = refl

both_true : (a b : Bool) → (a && b) ≡ true → (a ≡ true) × (b ≡ true)
both_true true true is = (refl, refl)
both_true true false is = absurd cc
both_true false b is = absurd cc

neither_true : (a b : Bool) → (a || b) ≡ false → (a ≡ false) × (b ≡ false)
neither_true false false is = (refl, refl)
neither_true false true is = absurd cc
neither_true true b is = absurd cc

either_true : (a b : Bool) → (a || b) ≡ true → (a ≡ true) ⊎ (b ≡ true)
either_true true b is = inl refl
either_true false b is = inr is

is_equal : (o : Ordering) → test Eq o ≡ true → o ≡ Equal
is_equal Less is = absurd cc
is_equal Equal is = refl
is_equal Greater is = absurd cc

is_less : (o : Ordering) → test Lt o ≡ true → o ≡ Less
is_less Less is = refl
is_less Equal is = absurd cc
is_less Greater is = absurd cc

is_greater : (o : Ordering) → test Gt o ≡ true → o ≡ Greater
is_greater Less is = absurd cc
is_greater Equal is = absurd cc
is_greater Greater is = refl

not_null : (v : Value) → not (is_null v) ≡ true → v ≢ Null
not_null v is none = let bad : not (is_null Null) ≡ true = ap (λ w. not (is_null w)) (sym none) ∙ is in absurd cc

some_value : (v : Value) → v ≢ Null → not (is_null v) ≡ true
some_value Null some = absurd (some refl)
some_value (Int m) some = refl
some_value (Real x) some = refl
some_value (Text t) some = refl
some_value (Blob b) some = refl

null_apart : (n : ℤ) → ¬ (value_cmp Null (Int n) ≡ Equal)
unfolding value_cmp
null_apart n e = absurd cc

module _ (place : ℕ) (r : Row) where
  abbrev params_at : Row
  params_at = Int (pos place) ∷ []

  tested_at : passes_test at_place [] [] (record { schema = book_schema; trees = λ t. [] }) params_at r
      ≡ (not (is_null (rowid r)) && test Eq (value_cmp (rowid r) (Int (pos place))))
  tested_at = whole_test _ ∙ compared Eq (rowid r) (pos place)

  -- a row that is found is at the place
  pub passes_at : list_all (holds (params_at ∷ r ∷ [])) (at_place ∷ []) ≡ true → IsAt place r
  passes_at is = is_equal _ (both_true _ _ (sym tested_at ∙ is)).1

  pub misses_at : list_all (holds (params_at ∷ r ∷ [])) (at_place ∷ []) ≡ false → ¬ IsAt place r
  misses_at is at =
      let some : rowid r ≢ Null = λ none. absurd (
      null_apart (pos place) (ap (λ v. value_cmp v (Int (pos place))) (sym none) ∙ at)
      ) in
      let passes : (not (is_null (rowid r)) && test Eq (value_cmp (rowid r) (Int (pos place)))) ≡ true =
      rw (some_value (rowid r) some, at) refl in
      let t : false ≡ true = sym is ∙ tested_at ∙ passes in
      absurd cc

  abbrev is_low : Bool
  is_low = not (is_null (rowid r)) && test Lt (value_cmp (rowid r) (Int (pos 1)))

  abbrev is_high : Bool
  is_high = not (is_null (rowid r)) && test Gt (value_cmp (rowid r) (Int (pos place)))

  tested_stray : list_all (holds (params_at ∷ r ∷ [])) (is_stray ∷ [])
      ≡ ((not (is_null (rowid r)) && test Lt (value_cmp (rowid r) (Int (pos 1))))
      || (not (is_null (rowid r)) && test Gt (value_cmp (rowid r) (Int (pos place)))))
  tested_stray =
      whole_test _ ∙ or_is (binary (Compare Lt Binary) (rowid r) (Int (pos 1))) (binary (Compare Gt Binary) (rowid r) (Int (pos place)))
      ∙ rw (compared Lt (rowid r) (pos 1), compared Gt (rowid r) (pos place)) refl

  pub passes_stray : list_all (holds (params_at ∷ r ∷ [])) (is_stray ∷ []) ≡ true → IsStray place r
  passes_stray is = elim (either_true _ _ (sym tested_stray ∙ is)) [
    | inl low ↦ let both = both_true _ _ low in (not_null (rowid r) both.0, inl (is_less _ both.1))
    | inr high ↦ let both = both_true _ _ high in (not_null (rowid r) both.0, inr (is_greater _ both.1))
  ]

  pub misses_stray : list_all (holds (params_at ∷ r ∷ [])) (is_stray ∷ []) ≡ false → ¬ IsStray place r
  misses_stray is stray =
      let none : (is_low ≡ false) × (is_high ≡ false) = neither_true is_low is_high (sym tested_stray ∙ is) in
      elim stray.1 [
        | inl low ↦ absurd (
            let passes : is_low ≡ true = rw (some_value (rowid r) stray.0, low) refl in
            let t : false ≡ true = sym none.0 ∙ passes in
            cc
            )
        | inr high ↦ absurd (
            let passes : is_high ≡ true = rw (some_value (rowid r) stray.0, high) refl in
            let t : false ≡ true = sym none.1 ∙ passes in
            cc
            )
      ]

-- ---- what the queries answer

is_schema : (detailed : Bool) (schema : Schema) → IsDetailed detailed schema → schema ≡ schema_of detailed
is_schema true schema is = is
is_schema false schema is = is

shown_terms : (detailed : Bool) (place : ℕ) (r : Row)
    → eval_all (account_terms detailed) ((Int (pos place) ∷ []) ∷ r ∷ []) ≡ shown_of detailed r
shown_terms true place r = refl
shown_terms false place r = refl

-- a query that answered, also with no row, changes nothing
pub query_keeps : (sql : List ℕ) (params : Row) (old new : State) → IsPlain (understood old.now.schema sql)
    → (row : Row) → QueriesRow sql params old new (Ok row) → new.now ≡ old.now
unfolding QueriesRow Shown
query_keeps sql params old new plain row (inl h) = h.1.0.now_is
query_keeps sql params old new plain row (inr h) =
    let bare = subst IsPlain h.1.1.is plain in
    let same = (rw bare.0 at h.1.2).3 in
    same.0.now_is

pub empty_keeps : (sql : List ℕ) (params : Row) (old new : State) → IsPlain (understood old.now.schema sql)
    → Shown sql params old new [] → new.now ≡ old.now
unfolding Shown
empty_keeps sql params old new plain h =
    let bare = subst IsPlain h.1.is plain in
    let same = (rw bare.0 at h.2).3 in
    same.0.now_is

-- what a query without rows leaves, if its error is no other one
abbrev pub IsMissing : Error → Type 0 → State → State → Type 0
IsMissing e Absent old new =
    (is_failure e ≡ true) ⊎ ((e ≡ QueryReturnedNoRows) × Absent × (new.now ≡ old.now))

module _ (detailed : Bool) (place : ℕ) (old new : State) (has : IsDetailed detailed old.now.schema) where
  plain_now : IsPlain (understood old.now.schema (account_text detailed))
  plain_now = subst (λ s. IsPlain (understood s (account_text detailed))) (sym (is_schema detailed old.now.schema has))
      (account_plain detailed)

  stray_now : IsPlain (understood old.now.schema stray_text)
  stray_now = subst (λ s. IsPlain (understood s stray_text)) (sym (is_schema detailed old.now.schema has))
      (stray_plain detailed)

  pub account_keeps : (row : Row) → QueriesRow (account_text detailed) (Int (pos place) ∷ []) old new (Ok row)
      → new.now ≡ old.now
  account_keeps row h = query_keeps (account_text detailed) (Int (pos place) ∷ []) old new plain_now row h

  pub stray_keeps : (row : Row) → QueriesRow stray_text (Int (pos place) ∷ []) old new (Ok row) → new.now ≡ old.now
  stray_keeps row h = query_keeps stray_text (Int (pos place) ∷ []) old new stray_now row h

  -- neither commits
  pub account_commits_nothing : (db : Trees) → ¬ CommitsShowing (account_text detailed) (Int (pos place) ∷ []) old db
  account_commits_nothing db made = never_commits (account_text detailed) (Int (pos place) ∷ []) old db plain_now made

  pub stray_commits_nothing : (db : Trees) → ¬ CommitsShowing stray_text (Int (pos place) ∷ []) old db
  stray_commits_nothing db made = never_commits stray_text (Int (pos place) ∷ []) old db stray_now made

  -- a row that is found is that of the place
  pub account_found : (row : Row) → QueriesRow (account_text detailed) (Int (pos place) ∷ []) old new (Ok row)
      → Finds detailed place (old.now.trees 1) (Some row)
  account_found row h =
      let got = first_is at_place (account_terms detailed) (account_names detailed) old.now (Int (pos place) ∷ []) row
      (first_as (account_text detailed) (Int (pos place) ∷ []) old new (schema_of detailed)
      (is_schema detailed old.now.schema has) _ (account_is detailed) (account_plain detailed)
      (account_unlisted detailed) row h) in
      (got.0, got.1, passes_at place got.0 got.2, got.3 ∙ shown_terms detailed place got.0)

  -- if there is none, no row is at the place
  pub account_missing : (e : Error) → QueriesRow (account_text detailed) (Int (pos place) ∷ []) old new (Err e)
      → IsMissing e (Finds detailed place (old.now.trees 1) None) old new
  unfolding QueriesRow
  account_missing e (inl h) = inl (fails (account_text detailed) at_place (account_terms detailed)
      (account_names detailed) (Int (pos place) ∷ []) old new (schema_of detailed)
      (is_schema detailed old.now.schema has) (account_is detailed) (account_plain detailed) (account_whole detailed)
      (account_unlisted detailed) (account_typed detailed place) e h)
  account_missing e (inr h) =
      let none = none_are at_place (account_terms detailed) (account_names detailed) old.now (Int (pos place) ∷ [])
      (reads_as (account_text detailed) (Int (pos place) ∷ []) old new (schema_of detailed)
      (is_schema detailed old.now.schema has) _ (account_is detailed) (account_plain detailed)
      (account_unlisted detailed) [] h.1) in inr (
        h.0,
        λ r there at. misses_at place r (none r there) at,
        empty_keeps (account_text detailed) (Int (pos place) ∷ []) old new plain_now h.1,
      )

  pub stray_found : (row : Row) → QueriesRow stray_text (Int (pos place) ∷ []) old new (Ok row)
      → HasStray place (old.now.trees 1) true
  stray_found row h =
      let got = first_is is_stray (col 1 0 ∷ []) (codes "place" ∷ []) old.now (Int (pos place) ∷ []) row
      (first_as stray_text (Int (pos place) ∷ []) old new (schema_of detailed)
      (is_schema detailed old.now.schema has) _ (stray_is detailed) (stray_plain detailed)
      (stray_unlisted detailed) row h) in
      (got.0, got.1, passes_stray place got.0 got.2)

  pub stray_missing : (e : Error) → QueriesRow stray_text (Int (pos place) ∷ []) old new (Err e)
      → IsMissing e (HasStray place (old.now.trees 1) false) old new
  unfolding QueriesRow
  stray_missing e (inl h) = inl (fails stray_text is_stray (col 1 0 ∷ []) (codes "place" ∷ [])
      (Int (pos place) ∷ []) old new (schema_of detailed) (is_schema detailed old.now.schema has) (stray_is detailed)
      (stray_plain detailed) (stray_whole detailed) (stray_unlisted detailed) (stray_typed detailed place) e h)
  stray_missing e (inr h) =
      let none = none_are is_stray (col 1 0 ∷ []) (codes "place" ∷ []) old.now (Int (pos place) ∷ [])
      (reads_as stray_text (Int (pos place) ∷ []) old new (schema_of detailed)
      (is_schema detailed old.now.schema has) _ (stray_is detailed) (stray_plain detailed)
      (stray_unlisted detailed) [] h.1) in inr (
        h.0,
        λ r there at. misses_stray place r (none r there) at,
        empty_keeps stray_text (Int (pos place) ∷ []) old new stray_now h.1,
      )

pub none_found : {X : Type 0} (error : Error) (none : X) (r : Result X Error) (Found : X → Type 0) (old new : State)
    → IsNone error none r → IsMissing error (Found none) old new → MatchResult r Found (λ e. IsTrue (is_failure e))
none_found error none (Ok found) Found old new is (inl failure) =
    absurd (let e : is_failure QueryReturnedNoRows ≡ true = ap is_failure (sym is.1) ∙ failure in cc)
none_found error none (Ok found) Found old new is (inr it) = subst Found (sym is.0) it.1
none_found error none (Err e) Found old new is (inl failure) = ap is_failure is.0 ∙ failure
none_found error none (Err e) Found old new is (inr it) = absurd (is.1 it.0)

pub none_keeps : {X : Type 0} (error : Error) (none : X) (r : Result X Error) (Found : Type 0) (old new : State)
    → IsNone error none r → IsMissing error Found old new → OnOk r (new.now ≡ old.now)
none_keeps error none (Ok found) Found old new is (inl failure) =
    absurd (let e : is_failure QueryReturnedNoRows ≡ true = ap is_failure (sym is.1) ∙ failure in cc)
none_keeps error none (Ok found) Found old new is (inr it) = it.2
none_keeps error none (Err e) Found old new is missing = tt

-- a value that can be read is, unless memory ran out
pub read_fails : (at : ℕ) (value : Value) (e : Error) (Readable : Type 0) → IsReadError at value e
    → (e ≢ SqliteFailure code.OutOfMemory → ¬ Readable) → Readable → is_failure e ≡ true
read_fails at value e Readable (inl is) kind can = absurd (kind (λ memory. absurd cc) can)
read_fails at value e Readable (inr (inl is)) kind can = absurd (kind (λ memory. absurd cc) can)
read_fails at value e Readable (inr (inr (inl is))) kind can = absurd (kind (λ memory. absurd cc) can)
read_fails at value e Readable (inr (inr (inr (inl is)))) kind can = absurd (kind (λ memory. absurd cc) can)
read_fails at value e Readable (inr (inr (inr (inr is)))) kind can = ap is_failure is

-- one text isn't another one than itself
pub never_differs : (xs ys : List ℕ) → xs ≡ ys → not (pointwise nat_eq xs ys) ≡ true → ⊥
never_differs xs ys same differ = elim (cases_Bool (pointwise nat_eq xs ys)) [
  | inl equal ↦ absurd (let e = rw equal at differ in cc)
  | inr other ↦ other_text xs ys (sym other) same
]

-- the number of an answer
abbrev number_of : Result ℕ ℕ → ℕ
number_of (Ok number) = number
number_of (Err why) = why

-- a number that was read of what a save writes
pub parsed_is : (read number : ℕ) (text : List ℕ) → number < 2 ^ 128 → text ≡ decimal number
    → ParsesUnsigned {E = ℕ} 128 10 text (Ok read) → read ≡ number
parsed_is read number text fits is parses =
    ap number_of (parse-decimal_wide {E = ℕ} 128 number text (Ok read) fits (omega arith) is parses)

-- what was found, by equal places, rows and answers
pub found_is : (detailed : Bool) (place n : ℕ) (rows others : List Row) (found : Option Row) (row : Row)
    → Finds detailed place rows found → found ≡ Some row → place ≡ n → rows ≡ others
    → Finds detailed n others (Some row)
found_is detailed place n rows others found row finds is same equal =
    subst (λ r. Finds detailed n r (Some row)) equal
    (subst (λ m. Finds detailed m rows (Some row)) same (subst (Finds detailed place rows) is finds))

pub none_stray : (place n : ℕ) (rows others : List Row) (stray : Bool) → HasStray place rows stray → stray ≡ false
    → place ≡ n → rows ≡ others → (row : Row) → Has others row → ¬ IsStray n row
none_stray place n rows others stray holds_so is same equal =
    subst (HasStray n others) is (subst (λ r. HasStray n r stray) equal (subst (λ m. HasStray m rows stray) same holds_so))
