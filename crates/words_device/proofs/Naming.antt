-- What is packed of a part names it. Assumes nothing.
use mathlib.Core.List.{List}
use Prim.Native.Nat.{ℕ}
use Rattle.map.specs.Map.{part_of}
use Rattle.device_rules.specs.Refusals.{stepped}
use Rattle.device_rules.specs.declared.Answer.{Answer}
use Rattle.words_state.specs.Packed.{state_in, Packed, Leaves}
use Rattle.words_device.specs.Named.{Obeys}

module _ (c : ℕ) (w : List ℕ) (k : Packed c w) where
  pub obeyed : (kind arg : ℕ) {w' : List ℕ} {a : Answer} → Obeys w w' kind arg a → Leaves c w' a (stepped (part_of c) (state_in (part_of c) w) kind arg)
  obeyed kind arg l = rw k.part_is at l
