use Rattle.std.proofs.Common.{◌∙◌, Result, Ok, Err, ap, is_some, refl, sym}
use Rattle.std.specs.Prelude.{OnErr}
use Rattle.std.specs.Result.{IsOk}
use Rattle.std.proofs.lemmas.Result.{IfOk-at_ok}
use Rattle.cdc_subscriber.specs.Book.{entries_of}
use Rattle.cdc_subscriber.proofs.BookLemmas.{entries_of-insert_entry}
use Rattle.cdc_subscriber.proofs.PushLemmas.{lookup-is_among}
use Rattle.cdc_subscriber.proofs.book.put.Goals as goal

-- what succeeds once it could fail succeeds
succeeds_anyway : {A E : Type 0} (P : Type 0) (result : Result A E) → OnErr result P → (P → IsOk result) → IsOk result
succeeds_anyway P (Ok x) fails succeeds = refl
succeeds_anyway P (Err e) fails succeeds = succeeds fails

pub unwrap-requires : goal.unwrap-requires
unwrap-requires c =
    succeeds_anyway _ c.insert.result c.insert.ensures.absent (λ none.
    c.insert.ensures.succeeds (c.requires (sym (lookup-is_among _ c.args.entry.id) ∙ ap is_some none)))

pub returns-clause-entries : goal.returns-clause-entries
returns-clause-entries c =
    ap entries_of (IfOk-at_ok _ c.unwrap.ensures c.insert.ensures.entries)
    ∙ entries_of-insert_entry c.args.accounts.now.entries c.args.entry
