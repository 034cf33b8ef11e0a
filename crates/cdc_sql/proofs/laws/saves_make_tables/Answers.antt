use Rattle.cdc_sql.proofs.TableLemmas.{saves_made}
use Rattle.cdc_sql.proofs.laws.saves_make_tables.Goals as goal

pub returns : goal.returns
returns c = saves_made
