-- Registers and pins are equal part by part; a rule for the pins that a register holds leaves all others. Assumes nothing.
use mathlib.Core.Path.{◌≡◌, refl, sym}
use mathlib.Core.Bool.{Bool, true, false, cond}
use Prim.Native.Nat.{ℕ}
use Rattle.pins.specs.Pin.{Pin, only}
use Rattle.pins.specs.AllPins.{Within, pin_at, map_pins}
use Rattle.pins.specs.OnePin.{Registers, Happening, pin_after}
use Rattle.pins.specs.OnePin.Happening.{Elsewhere}
use Rattle.pins.specs.declared.Sets.{Sets}
use Rattle.pins.proofs.AllPins.{mapped}
use Rattle.registers.specs.Registers.{Core}

-- equal field by field
pub same : {a b : Core} → a.file ≡ b.file → a.sets ≡ b.sets → a ≡ b
same file sets = λ j. record { file = file j; sets = sets j }

-- a rule for the pins that a register holds, whose bits are looked at only there
pub written_here : (here : Bool) (rule : Bool → Pin → Pin) (e : Happening) (v : Registers) (x : Pin)
    → rule true x ≡ pin_after e v x → only here (rule here) x ≡ pin_after (cond here e Elsewhere) v x
unfolding only pin_after
written_here true rule e v x q = q
written_here false rule e v x q = refl

-- sets whose pins all stay are the same sets
pub unmoved : (w : ℕ) (x : Sets) (f : ℕ → Pin → Pin) → Within w x → ((i : ℕ) → f i (pin_at x i) ≡ pin_at x i) → x ≡ map_pins w x f
unmoved w x f d q = mapped w x f d (λ i h. sym (q i))
