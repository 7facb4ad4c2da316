-- An event's marks: what the code stores is what the rules say of each pin. Assumes nothing.
use mathlib.Core.Path.{◌≡◌, ap, ◌∙◌}
use mathlib.Core.Bool.{Bool, true, false, not, ◌&&◌, ◌||◌}
use Prim.Native.Nat.{ℕ, ◌^◌, ◌<◌}
use lib.Bits.{bit_or}
use Rattle.bits.specs.Bits.{bit, without}
use Rattle.bits.proofs.Decide.{taut}
use Rattle.bits.proofs.Laws.{below, bit-or, bit_without, tabulated}
use Rattle.map.specs.Map.{Part}
use Rattle.loss_rules.specs.Marks.{Marks, marks, sets_mark, mark_after, noted, marks_fit}
use Rattle.loss_rules.proofs.Laws.{small_of}

rise_one : (mark before after : Bool) → (mark || (after && not before)) ≡ mark_after mark false before after
unfolding mark_after sets_mark
rise_one = taut 3 _ _ tt

reset_one : (mark before after : Bool) → (mark || ((after && not before) || before)) ≡ mark_after mark true before after
unfolding mark_after sets_mark
reset_one = taut 3 _ _ tt

module _ (p : Part) (m : Marks) (f : marks_fit p m ≡ true) (before after : ℕ) (hb : before < 2 ^ p.width) (ha : after < 2 ^ p.width) where
  small : m.set < 2 ^ p.width
  small = (small_of p m f).0

  pub noted_rise : marks (bit_or m.set (without after before)) m.healthy ≡ noted p false before after m
  unfolding noted
  noted_rise =
      ap (λ (n : ℕ). marks n m.healthy)
      (tabulated p.width (search (below, small, ha, hb))
      (λ i hi. bit-or m.set (without after before) i ∙ ap (λ (t : Bool). bit m.set i || t) (bit_without after before i)
      ∙ rise_one (bit m.set i) (bit before i) (bit after i)))

  pub noted_reset : marks (bit_or m.set (bit_or (without after before) before)) m.healthy ≡ noted p true before after m
  unfolding noted
  noted_reset =
      ap (λ (n : ℕ). marks n m.healthy)
      (tabulated p.width (search (below, small, ha, hb))
      (λ i hi. bit-or m.set (bit_or (without after before) before) i
      ∙ ap (λ (t : Bool). bit m.set i || t) (bit-or (without after before) before i ∙ ap (λ (t : Bool). t || bit before i) (bit_without after before i))
      ∙ reset_one (bit m.set i) (bit before i) (bit after i)))
