-- Which bits exist in the words of a part, and which are set in some of them.
use Rattle.std.specs.Prelude.{◌≡◌, List, ℕ, zero, suc, ◌-◌, ◌^◌, get_or}
use Rattle.std.specs.Int.Bits.{bit_or}
use Rattle.map.specs.Map.{part_of}
use Rattle.words.specs.Words.{wide_of, port_kind_word, debounce_enable_word, debounce_count_word}

-- the bits that exist in each word of the part: of a pin set, of the output port kind, of debounce enable and of debounce count
pub record Limits (c pins kinds enables counts : ℕ) : Type 0 where
  pub pins_are : pins ≡ 2 ^ (part_of c).width - 1
  pub kinds_are : kinds ≡ 2 ^ wide_of (part_of c) port_kind_word - 1
  pub enables_are : enables ≡ 2 ^ wide_of (part_of c) debounce_enable_word - 1
  pub counts_are : counts ≡ 2 ^ wide_of (part_of c) debounce_count_word - 1

-- the bits that some word up to n has
abbrev pub union_to : List ℕ → ℕ → ℕ
union_to w zero = get_or w 0 0
union_to w (suc n) = bit_or (union_to w n) (get_or w (suc n) 0)
