-- `probe_fields::is_tab`: tried at each place (`tab_places`). Assumes nothing.
use borrow.Author.Rules.{rules}
use mathlib.Core.Path.{◌∙◌}
use Rattle.probe_fields.proofs.Reading.{tab_places}
use Rattle.probe_fields.proofs.is_tab.Goals as goal

pub returns : goal.returns
returns c = c.contains.ensures.value ∙ tab_places _ (search rules)
