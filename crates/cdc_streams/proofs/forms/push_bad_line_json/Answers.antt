use Rattle.cdc_streams.proofs.forms.push_bad_line_json.Goals as goal

pub returns : goal.returns
returns c = rw c.name.ensures at c.push.ensures
