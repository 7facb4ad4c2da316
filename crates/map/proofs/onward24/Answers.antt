-- `map::onward24`: each arm is computed, and elsewhere the next number is one more. Assumes nothing.
use native.Mathlib.Omega.{arith}
use Rattle.map.specs.Map.{part24, kind_at, reserved, onward}
use Rattle.map.proofs.Onward.{known_small, here, one_more24}
use Rattle.map.proofs.onward24.Goals as goal

pub overflow_add-result : goal.overflow_add-result
unfolding kind_at reserved onward
overflow_add-result c = let h = known_small part24 c.args.n c.requires in omega arith

pub returns-in-2 : goal.returns-in-2
unfolding kind_at reserved onward
returns-in-2 c = here part24 0x02 c.in-2.is

pub returns-in-6 : goal.returns-in-6
unfolding kind_at reserved onward
returns-in-6 c = here part24 0x06 c.in-6.is

pub returns-in-10 : goal.returns-in-10
unfolding kind_at reserved onward
returns-in-10 c = here part24 0x0a c.in-10.is

pub returns-in-14 : goal.returns-in-14
unfolding kind_at reserved onward
returns-in-14 c = here part24 0x0e c.in-14.is

pub returns-in-69 : goal.returns-in-69
unfolding kind_at reserved onward
returns-in-69 c = here part24 0x45 c.in-69.is

pub returns-in-74 : goal.returns-in-74
unfolding kind_at reserved onward
returns-in-74 c = here part24 0x4a c.in-74.is

pub returns-in-78 : goal.returns-in-78
unfolding kind_at reserved onward
returns-in-78 c = here part24 0x4e c.in-78.is

pub returns-in-82 : goal.returns-in-82
unfolding kind_at reserved onward
returns-in-82 c = here part24 0x52 c.in-82.is

pub returns-in-86 : goal.returns-in-86
unfolding kind_at reserved onward
returns-in-86 c = here part24 0x56 c.in-86.is

pub returns-in-90 : goal.returns-in-90
unfolding kind_at reserved onward
returns-in-90 c = here part24 0x5a c.in-90.is

pub returns-in-92 : goal.returns-in-92
unfolding kind_at reserved onward
returns-in-92 c = here part24 0x5c c.in-92.is

pub returns-in-101 : goal.returns-in-101
unfolding kind_at reserved onward
returns-in-101 c = here part24 0x65 c.in-101.is

pub returns-in-106 : goal.returns-in-106
unfolding kind_at reserved onward
returns-in-106 c = here part24 0x6a c.in-106.is

pub returns-in-110 : goal.returns-in-110
unfolding kind_at reserved onward
returns-in-110 c = here part24 0x6e c.in-110.is

pub returns-in-114 : goal.returns-in-114
unfolding kind_at reserved onward
returns-in-114 c = here part24 0x72 c.in-114.is

pub returns-in-118 : goal.returns-in-118
unfolding kind_at reserved onward
returns-in-118 c = here part24 0x76 c.in-118.is

pub returns-in_default : goal.returns-in_default
unfolding kind_at reserved onward
returns-in_default c = one_more24 c.args.n c.requires c.in_default.in_default-own.rest
