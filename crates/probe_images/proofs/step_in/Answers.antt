-- `probe_images::step_in`: the device, the kind and the argument are those that the line says. Assumes nothing.
use Rattle.probe_images.proofs.Spoken.{step_is}
use Rattle.probe_images.proofs.step_in.Goals as goal

pub returns : goal.returns
returns c = step_is _ c.requires.0 _ c.device_in-device.ensures.0 c.device_in-device.ensures.1 c.half_at-kind.ensures c.word_at-arg.ensures c.step.ensures
