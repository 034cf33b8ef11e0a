use Rattle.cdc_audit.proofs.Words.{sym, ◌∙◌}
use Rattle.cdc_audit.proofs.ApartLemmas.{links-push}
use Rattle.cdc_audit.proofs.apart.put_link.Goals as goal

pub returns-then-is_link-clause-index : goal.returns-then-is_link-clause-index
returns-then-is_link-clause-index c = λ fields index.
    links-push c.args.links.now.entries c.put_created.new.created.entries fields (c.args.id, c.args.shown)
    (sym c.is_link.ensures ∙ c.if-is_link.true) c.put_created.ensures.index index
