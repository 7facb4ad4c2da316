-- `trace_columns::Columns::refresh`: the columns are those of the device in the words, and of every device that has the words that are told (`fresh_anew`). Assumes nothing.
use Prim.Native.Nat.{ℕ}
use lib.ListN.{get_or}
use Rattle.map.specs.Map.{part_of}
use Rattle.words_state.specs.Packed.{part_word}
use Rattle.trace_columns.proofs.Laws.{keeps_as, fresh_anew}
use Rattle.trace_columns.proofs.Columns.refresh.Goals as goal

pub returns : goal.returns
returns c =
    let words = c.args.words.now in
    let part : ℕ = get_or words part_word 0 in
    let k = c.requires in (
      fresh_anew words (record { told = c.of-self.result; text = c.keep.new.kept }) k c.of-self.ensures
          (keeps_as (part_of part) words _ c.keep.ensures.0 (c.int-int.ensures part k.right) (c.low-low.ensures part c.pins_of.ensures) (c.high-high.ensures part k.fit)),
      c.of-self.ensures,
    )
