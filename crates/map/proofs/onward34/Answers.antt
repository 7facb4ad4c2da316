-- `map::onward34`: each arm is computed, and elsewhere the next number is one more. Assumes nothing.
use native.Mathlib.Omega.{arith}
use Rattle.map.specs.Map.{part34, kind_at, reserved, onward}
use Rattle.map.proofs.Onward.{known_small, here, one_more34}
use Rattle.map.proofs.onward34.Goals as goal

pub overflow_add-result : goal.overflow_add-result
unfolding kind_at reserved onward
overflow_add-result c = let h = known_small part34 c.args.n c.requires in omega arith

pub returns-in-19 : goal.returns-in-19
unfolding kind_at reserved onward
returns-in-19 c = here part34 0x13 c.in-19.is

pub returns-in-56 : goal.returns-in-56
unfolding kind_at reserved onward
returns-in-56 c = here part34 0x38 c.in-56.is

pub returns-in-92 : goal.returns-in-92
unfolding kind_at reserved onward
returns-in-92 c = here part34 0x5c c.in-92.is

pub returns-in-111 : goal.returns-in-111
unfolding kind_at reserved onward
returns-in-111 c = here part34 0x6f c.in-111.is

pub returns-in_default : goal.returns-in_default
unfolding kind_at reserved onward
returns-in_default c = one_more34 c.args.n c.requires c.in_default.in_default-own.rest
