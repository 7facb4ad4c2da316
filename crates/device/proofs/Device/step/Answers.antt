-- `Device::step`: packed, stepped on the words, unpacked (`unpacked`); a device that does not pack is refused with 3 (`not_stepped`). Assumes nothing.
use mathlib.Core.Path.{refl, sym, ap, ap₂, ◌∙◌}
use Rattle.map.specs.Map.{part_of}
use Rattle.device_rules.specs.Device.{State, out}
use Rattle.device_rules.specs.Held.{state_of}
use Rattle.device_rules.specs.Refusals.{stepped}
use Rattle.words_state.proofs.Standing.{named}
use Rattle.words_device.proofs.Naming.{obeyed}
use Rattle.words_images.proofs.Packing.{unpacked}
use Rattle.device.proofs.Asking.{not_stepped, ruled}
use Rattle.device.proofs.Device.step.Goals as goal

pub returns-then-not-pack : goal.returns-then-not-pack
returns-then-not-pack c =
    let x = c.args in
    record { outcome = not_stepped x.self x.kind x.arg (sym c.pack.ensures.judged ∙ c.if-not-pack.true); part_stays = refl }

pub event-answer-requires : goal.event-answer-requires
event-answer-requires c =
    named c.args.self.part _ (c.pack.ensures.packed c.if-not-pack.false).0

pub returns : goal.returns
returns c =
    let x = c.args in
    let part = x.self.part in
    let p = c.pack.ensures in
    let fits = c.if-not-pack.false in
    let image = p.packed fits in
    let left = obeyed part _ image.0 x.kind x.arg c.event-answer.ensures in
    record {
      outcome =
          ap (λ (s : State). out c.event-answer.result s) (ap₂ state_of c.unpack-after.ensures.0 c.unpack-after.ensures.1 ∙ unpacked part _ left.packed)
          ∙ left.outcome ∙ ap (λ (s : State). stepped (part_of part) s x.kind x.arg) image.1 ∙ sym (ruled x.self x.kind x.arg image.0.known_part refl refl);
      part_stays = refl;
    }
