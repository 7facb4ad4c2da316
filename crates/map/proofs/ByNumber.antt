-- Kinds by their numbers, and which of them hold a byte a port. Assumes nothing.
use mathlib.Core.Path.{◌≡◌, refl, sym, ap, ◌∙◌}
use mathlib.Core.Bool.{Bool, not, ◌||◌}
use mathlib.Core.List.{[], ◌∷◌}
use Prim.Native.Nat.{ℕ}
use lib.Dec.{eqb}
use lib.ListN.{get_or}
use Rattle.map.specs.Map.{Kind, code}
use Rattle.map.specs.Map.Kind.{Reserved, Input, Status, InputStatus, Configuration, Latch, Mask, PortKind, Edge, Clear, Output, Polarity, PinKind, Stored}

-- a kind is known by its number
abbrev pub named : ℕ → Kind
named n =
    get_or (Reserved ∷ Input ∷ Status ∷ InputStatus ∷ Configuration ∷ Latch ∷ Mask ∷ PortKind ∷ Edge ∷ Clear ∷ Output ∷ Polarity ∷ PinKind ∷ Stored ∷ []) n Reserved

known : (k : Kind) → named (code k) ≡ k
known Reserved = refl
known Input = refl
known Status = refl
known InputStatus = refl
known Configuration = refl
known Latch = refl
known Mask = refl
known PortKind = refl
known Edge = refl
known Clear = refl
known Output = refl
known Polarity = refl
known PinKind = refl
known Stored = refl

pub kind_is : (k : Kind) (c : ℕ) → c ≡ code k → k ≡ named c
kind_is k c e = sym (known k) ∙ ap named (sym e)

-- kinds whose registers hold a byte a port: the port's number is the last two bits of the register's
abbrev pub ported : Kind → Bool
ported k = not (eqb (code k) (code Reserved) || eqb (code k) (code PortKind) || eqb (code k) (code Edge) || eqb (code k) (code Stored))
