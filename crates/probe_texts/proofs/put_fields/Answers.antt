use borrow.Author.Rules.{rules}
use Rattle.probe_texts.proofs.Writing.{filling_start, filling_room, filling_on, filling_done}
use Rattle.probe_texts.proofs.put_fields.Goals as goal

pub loop-i-init : goal.loop-i-init
loop-i-init c = filling_start

pub put_field-end-requires : goal.put_field-end-requires
put_field-end-requires c = filling_room c.loop-i.invariant c.requires (search rules)

pub loop-i-preserved : goal.loop-i-preserved
loop-i-preserved c = filling_on c.loop-i.invariant (search rules) (search rules) c.put_field-end.ensures.0 c.put_field-end.ensures.1

pub returns : goal.returns
returns c = filling_done c.loop-i.invariant (search rules) (search rules)
