use Rattle.std.proofs.Common.{◌≡◌, ◌∙◌, false, refl, sym, true}
use Rattle.std.specs.Prelude.{codes, nat_eq}
use Rattle.std.specs.List.{starts_with}
use Rattle.cdc_codec.specs.Parts.{flag_at}
use Rattle.cdc_codec.proofs.PartLemmas.{reads_no, reads_yes}
use Rattle.cdc_codec.proofs.reading.flag.Goals as goal

pub returns-then-starts_with-clause-value : goal.returns-then-starts_with-clause-value
unfolding flag_at
returns-then-starts_with-clause-value c =
    let yes : starts_with nat_eq c.args.text.now (codes " yes") ≡ true =
    sym c.starts_with.ensures.value ∙ c.if-starts_with.true in
    rw yes refl

pub returns-then-starts_with-clause-rest : goal.returns-then-starts_with-clause-rest
unfolding flag_at
returns-then-starts_with-clause-rest c =
    let yes : starts_with nat_eq c.args.text.now (codes " yes") ≡ true =
    sym c.starts_with.ensures.value ∙ c.if-starts_with.true in
    rw yes c.skip.ensures.rest

pub returns-then-starts_with-clause-reads : goal.returns-then-starts_with-clause-reads
returns-then-starts_with-clause-reads c =
    reads_yes c.args.text.now _ (sym c.starts_with.ensures.value ∙ c.if-starts_with.true) c.skip.ensures.rest

pub returns-else-starts_with-clause-value : goal.returns-else-starts_with-clause-value
unfolding flag_at
returns-else-starts_with-clause-value c =
    let no : starts_with nat_eq c.args.text.now (codes " yes") ≡ false =
    sym c.starts_with.ensures.value ∙ c.if-starts_with.false in
    rw no refl

pub returns-else-starts_with-clause-rest : goal.returns-else-starts_with-clause-rest
unfolding flag_at
returns-else-starts_with-clause-rest c =
    let no : starts_with nat_eq c.args.text.now (codes " yes") ≡ false =
    sym c.starts_with.ensures.value ∙ c.if-starts_with.false in
    rw no c.skip-else-starts_with.ensures.rest

pub returns-else-starts_with-clause-reads : goal.returns-else-starts_with-clause-reads
returns-else-starts_with-clause-reads c =
    reads_no c.args.text.now _ (sym c.starts_with.ensures.value ∙ c.if-starts_with.false)
    c.skip-else-starts_with.ensures.rest
