-- `pack`: what packing judged (`from_image`, `from_none`). Assumes nothing.
use borrow.Author.Rules.{rules}
use mathlib.Core.Path.{refl}
use mathlib.Core.Bool.{true, false}
use mathlib.Core.List.{List}
use Prim.Native.Nat.{ℕ, ◌<◌}
use Rattle.device_rules.specs.Device.{State}
use Rattle.words_images.specs.Images.{Packs}
use Rattle.host_words.specs.Host.{FromImage}
use Rattle.host_words.proofs.Laws.{from_image, from_none}
use Rattle.host_images.proofs.pack.Goals as goal

module _ (c : ℕ) (hc : c < 2) (image : State) (w w' : List ℕ) where
  taken : Packs c image true w w' → FromImage c image 0 w w'
  taken p = from_image c hc image w w' p.judged (p.packed refl)

  left : Packs c image false w w' → FromImage c image 3 w w'
  left p = from_none c hc image w w' p.judged (p.unchanged refl)

pub returns-then-pack : goal.returns-then-pack
returns-then-pack c = taken _ (search rules) _ _ _ (rw c.if-pack.true at c.pack.ensures)

pub returns : goal.returns
returns c = left _ (search rules) _ _ _ (rw c.if-pack.false at c.pack.ensures)
