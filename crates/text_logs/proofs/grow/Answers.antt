-- `text_logs::grow`: each turn adds a byte, and there is room for as many as are taken. Assumes nothing.
use Rattle.std.proofs.Common.{◌<◌, ◌∙◌, ap, length, take, arith, length-take, length-append, append_assoc}
use Rattle.std.proofs.lemmas.List.{take_more, get_or-take}
use Rattle.text_logs.proofs.Laws.{grown_by}
use Rattle.text_logs.proofs.grow.Goals as goal

pub push-requires : goal.push-requires
push-requires c =
    let part = c.args.part.now in
    let i = c.loop-byte.byte-index in
    (omega arith, omega (arith, ap length c.loop-byte.invariant ∙ length-append _ (take i part), length-take i part, length-take c.min-room.result part, c.loop-byte-test.true, c.min-room.ensures, c.remaining_capacity.ensures))

pub loop-byte-preserved : goal.loop-byte-preserved
loop-byte-preserved c =
    let part = c.args.part.now in
    let i = c.loop-byte.byte-index in
    let room = c.min-room.result in
    let inside : i < room = omega (arith, length-take room part, c.loop-byte-test.true) in
    let within : i < length part = omega (arith, length-take room part, c.loop-byte-test.true) in
    c.push.ensures.items ∙ rw (c.loop-byte.invariant, append_assoc, get_or-take room part i 0 inside, take_more part i 0 within)

pub returns : goal.returns
returns c =
    let part = c.args.part.now in
    c.loop-byte.invariant ∙ grown_by c.args.begun.now.items part c.remaining_capacity.result c.loop-byte.byte-index c.remaining_capacity.ensures (omega (arith, c.loop-byte-test.false, c.loop-byte.auto.byte-index-end, length-take c.min-room.result part, c.min-room.ensures))
