use Rattle.cdc_audit.proofs.Words.{IsTimeIndex, subst, sym, ◌∙◌}
use Rattle.cdc_audit.proofs.ApartLemmas.{index-push, insert-new}
use Rattle.cdc_audit.proofs.apart.add_account.Goals as goal

pub returns-clause-fields : goal.returns-clause-fields
returns-clause-fields c =
    c.put_fields.ensures.entries ∙ insert-new c.args.fields.now.entries c.args.id c.args.shown c.requires.new

pub returns-clause-index : goal.returns-clause-index
returns-clause-index c = λ index.
    subst (IsTimeIndex c.put_created.new.created.entries)
    (sym (c.put_fields.ensures.entries
    ∙ insert-new c.args.fields.now.entries c.args.id c.args.shown c.requires.new))
    (index-push c.args.created.now.entries _ c.args.fields.now.entries (c.args.id, c.args.shown)
    c.put_created.ensures.index index)
