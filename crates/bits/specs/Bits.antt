-- Numbers as sets of pins: pin i is in the set n exactly if bit i of n is 1.
use Rattle.std.specs.Prelude.{Bool, true, false, not, ◌||◌, ℕ, zero, suc, ◌+◌, ◌*◌, ◌/◌, ◌%◌, ◌^◌}
use Rattle.std.specs.Int.Bits.{bit_and, bit_xor}

-- 1 for true, 0 for false
abbrev pub val : Bool → ℕ
val true = 1
val false = 0

-- a digit that is not 0
abbrev pub pos : ℕ → Bool
pos zero = false
pos (suc n) = true

-- exclusive or
abbrev pub differs : Bool → Bool → Bool
differs true q = not q
differs false q = q

-- bit i of n, the lowest is bit 0
unfoldable pub bit : ℕ → ℕ → Bool
bit n zero = pos (n % 2)
bit n (suc i) = bit (n / 2) i

-- the number below 2 ^ w whose bit i is f i
unfoldable pub tabulate : ℕ → (ℕ → Bool) → ℕ
tabulate zero f = zero
tabulate (suc w) f = tabulate w (λ i. f (suc i)) * 2 + val (f zero)

-- n digits of m bits each, put together: digit 0 is the lowest
abbrev pub join : (m n : ℕ) → (ℕ → ℕ) → ℕ
join m zero d = zero
join m (suc n) d = join m n (λ k. d (suc k)) * 2 ^ m + d zero

-- f holds of some number below w
unfoldable pub some : ℕ → (ℕ → Bool) → Bool
some zero f = false
some (suc w) f = f zero || some w (λ i. f (suc i))

-- the pins of a that are not in b, in the code's form `a ^ (a & b)`, which asks for no width
abbrev pub without : ℕ → ℕ → ℕ
without a b = bit_xor a (bit_and a b)
