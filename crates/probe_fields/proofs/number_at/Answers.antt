-- `probe_fields::number_at`: what is read is most or less, and so is 0 (`value_is`). Assumes nothing.
use Rattle.probe_fields.proofs.Reading.{value_is}
use Rattle.probe_fields.proofs.number_at.Goals as goal

pub returns : goal.returns
returns c = value_is _ _ _ _ c.requires.2 c.field.ensures c.unwrap_or.ensures
