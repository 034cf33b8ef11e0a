use Rattle.std.proofs.Common.{◌≡◌, [], ◌∷◌, inl, inr, IsTrue, sym, ap, ◌∙◌}
use Rattle.sqlite.specs.declared.types.Value.TheVariants.{Blob}
use Rattle.sqlite.specs.Order.{column}
use Rattle.sqlite.specs.Schema.{Schema}
use Rattle.sqlite.specs.Held.{state}
use Rattle.cdc_sqlite_book.specs.Tables.{book_schema, earlier_schema}
use Rattle.cdc_sqlite_book.proofs.KeptLemmas.{reads_safely}
use Rattle.cdc_sqlite_book.proofs.books.read_text.Goals as goal

pub returns-then-is_new-clause-found : goal.returns-then-is_new-clause-found
returns-then-is_new-clause-found g c clean text holds =
    let yes : IsTrue c.is_new.result = cc c.if-is_new.true in
    let none = (c.is_new.ensures.0 yes).0 in
    elim holds.schema [
      | inl is ↦ absurd (
          let e : book_schema.tables ≡ [] = ap (λ (s : Schema). s.tables) (sym (c.schema.ensures.value ∙ is)) ∙ none in
          cc
          )
      | inr is ↦ absurd (
          let e : earlier_schema.tables ≡ [] = ap (λ (s : Schema). s.tables) (sym (c.schema.ensures.value ∙ is)) ∙ none
          in
          cc
          )
    ]

pub returns-clause-found : goal.returns-clause-found
returns-clause-found g c clean text holds =
    let row : c.in_ok-row.row ≡ Blob text ∷ [] = c.in_ok-row.ensures.found clean text holds in
    let read : column c.in_ok-row.row 0 ≡ Blob c.in_ok-text.text.items = c.in_ok-text.ensures.ok.1 in
    let both : Blob text ≡ Blob c.in_ok-text.text.items = ap (λ r. column r 0) (sym row) ∙ read in
    cc

pub returns-in_err-row-clause-survives : goal.returns-in_err-row-clause-survives
returns-in_err-row-clause-survives g c =
    reads_safely (state g.S.Store c.args.conn.now) (state g.S.Store c.find_text.new.conn) c.is_new.result
    (λ none. c.is_new.ensures.1 (
      ap (λ (s : Schema). s.tables) (c.schema.ensures.value ∙ none),
      ap (λ (s : Schema). s.views)
          (c.schema.ensures.value ∙ none),
    ))
    (cc c.if-is_new.false) c.find_text.ensures.survives

pub returns-in_err-text-clause-survives : goal.returns-in_err-text-clause-survives
returns-in_err-text-clause-survives g c =
    reads_safely (state g.S.Store c.args.conn.now) (state g.S.Store c.find_text.new.conn) c.is_new.result
    (λ none. c.is_new.ensures.1 (
      ap (λ (s : Schema). s.tables) (c.schema.ensures.value ∙ none),
      ap (λ (s : Schema). s.views)
          (c.schema.ensures.value ∙ none),
    ))
    (cc c.if-is_new.false) c.find_text.ensures.survives

pub returns-clause-survives : goal.returns-clause-survives
returns-clause-survives g c =
    reads_safely (state g.S.Store c.args.conn.now) (state g.S.Store c.find_text.new.conn) c.is_new.result
    (λ none. c.is_new.ensures.1 (
      ap (λ (s : Schema). s.tables) (c.schema.ensures.value ∙ none),
      ap (λ (s : Schema). s.views)
          (c.schema.ensures.value ∙ none),
    ))
    (cc c.if-is_new.false) c.find_text.ensures.survives

pub returns-clause-same : goal.returns-clause-same
returns-clause-same g c clean of = elim of [
  | inl none ↦ absurd (
      let yes = c.is_new.ensures.1 (
        ap (λ (s : Schema). s.tables) (c.schema.ensures.value ∙ none),
        ap (λ (s : Schema). s.views)
            (c.schema.ensures.value ∙ none),
      ) in
      cc (yes, c.if-is_new.false)
      )
  | inr book ↦ c.in_ok-row.ensures.same clean book
]
