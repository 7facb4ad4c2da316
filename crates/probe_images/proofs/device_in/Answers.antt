-- `probe_images::device_in`: each field is read at its place (`image_is`). Assumes nothing.
use mathlib.Core.Path.{refl}
use Rattle.probe_images.proofs.Spoken.{image_is}
use Rattle.probe_images.proofs.device_in.Goals as goal

pub returns : goal.returns
returns c = (
  image_is _ c.file_in.ensures c.word_at.ensures c.word_at-2.ensures c.word_at-3.ensures
      c.word_at-4.ensures c.byte_at.ensures c.byte_at-2.ensures c.byte_at-3.ensures
      c.word_at-5.ensures c.byte_at-4.ensures c.byte_at-5.ensures c.half_at.ensures c.byte_at-6.ensures,
  refl,
)
