-- What a part's map must be for the words to stand for its file: tests at each number and at each register of each kind, which antt computes for both parts. Assumes nothing.
use mathlib.Core.Path.{◌≡◌, refl, sym, ap, ap₂, ◌∙◌}
use mathlib.Core.Bool.{Bool, true, false, cond, not, ◌&&◌, ◌||◌}
use Prim.Native.Nat.{ℕ, zero, suc, ◌+◌, ◌-◌, ◌*◌, ◌/◌, ◌%◌, ◌<◌, ◌≤◌, min}
use native.Mathlib.Omega.{arith}
use lib.Arith.{digits_div, digits_mod}
use borrow.Author.Tests.{eqb-true, ltb-true, lt-ltb}
use lib.Dec.{eqb, ltb}
use Rattle.bits.proofs.Decide.{each, each_bool, clash}
use mathlib.Core.List.{List, [], ◌∷◌}
use Rattle.map.specs.Map.{Part, Group, Kind, part24, part34, kind_at, first_of, stored, code, room_at, whole, part_of}
use Rattle.map.specs.Map.Kind.{Reserved, Input, Status, InputStatus, Configuration, Latch, Mask, PortKind, Edge, Clear, Output, Polarity, PinKind, Stored}
use Rattle.map.proofs.ByNumber.{named, kind_is}
use Rattle.registers.proofs.Pinwise.{Mapped, mapped24, mapped34}
use Rattle.words.specs.Words.{slots, slot_at, digit_at, wide_of, paired}

-- where the group of a word begins
abbrev base_in : List Group → List ℕ → ℕ → ℕ
base_in [] ss s = 0
base_in (g ∷ gs) [] s = 0
base_in (g ∷ gs) (t ∷ ss) s = cond (eqb t s) g.first (base_in gs ss s)

unfoldable pub base_of : Part → ℕ → ℕ
base_of p s = base_in p.groups slots s

-- how many bits of what is kept from word s on exist
abbrev pub size_of : Part → ℕ → ℕ
size_of p s = cond (paired s) (2 * p.width) (wide_of p s)

-- a word that is a group's only one, or a pair's first
abbrev pub leads : ℕ → Bool
leads s = not (ltb s 4) && not (eqb s 9) && not (eqb s 14)

-- a kind that has one group
abbrev pub single : Kind → Bool
single k = stored k && not (eqb (code k) (code Stored))

-- how many registers it has
abbrev pub count_of : Part → Kind → ℕ
count_of p k = cond (eqb (code k) (code PortKind)) 1 (cond (eqb (code k) (code Edge)) ((2 * p.width + 7) / 8) p.ports)

-- a kind whose registers are counted from its first, stored or not
abbrev pub grouped : Kind → Bool
grouped k = not (eqb (code k) (code Reserved)) && not (eqb (code k) (code Stored))

-- a test at each number
abbrev AtEach : (ℕ → Bool) → Type 0
AtEach test = (n : ℕ) → n < 128 → test n ≡ true

-- a test at each number whose value is stored
abbrev AtStored : Part → (ℕ → Bool) → Type 0
AtStored p test = (n : ℕ) → n < 128 → cond (stored (kind_at p n)) (test n) true ≡ true

-- a test at each number of a kind that has one group
abbrev AtSingle : Part → (ℕ → Bool) → Type 0
AtSingle p test = (n : ℕ) → n < 128 → cond (single (kind_at p n)) (test n) true ≡ true

-- and at each whose registers are counted from its first
abbrev AtGrouped : Part → (ℕ → Bool) → Type 0
AtGrouped p test = (n : ℕ) → n < 128 → cond (grouped (kind_at p n)) (test n) true ≡ true

-- a test at register j of each kind that has one group: m is 16 times the kind's number and j
abbrev AtKind : Part → (Kind → ℕ → Bool) → Type 0
AtKind p test = (m : ℕ) → m < 224 → cond (single (named (m / 16)) && ltb (m % 16) (count_of p (named (m / 16)))) (test (named (m / 16)) (m % 16)) true ≡ true

-- a test at byte d of what each word holds: m is 16 times the word's number and d
abbrev AtWord : Part → (ℕ → ℕ → Bool) → Type 0
AtWord p test = (m : ℕ) → m < 304 → cond (leads (m / 16) && ltb (8 * (m % 16)) (size_of p (m / 16))) (test (m / 16) (m % 16)) true ≡ true

pub record Sound (p : Part) : Type 0 where
  -- its place in its group is its own
  pub own : AtStored p (λ n. eqb (base_of p (slot_at p n) + digit_at p n) n)
  -- its word is one of those there are, and no pair's second
  pub held : AtStored p (λ n. ltb (slot_at p n) 19)
  pub high : AtStored p (λ n. ltb 3 (slot_at p n))
  pub no_nine : AtStored p (λ n. not (eqb (slot_at p n) 9))
  pub no_fourteen : AtStored p (λ n. not (eqb (slot_at p n) 14))
  -- a register of which nothing is stored has no word
  pub nowhere : (n : ℕ) → n < 128 → cond (stored (kind_at p n)) 0 (slot_at p n) ≡ 0
  -- the bits that exist in it are those of its word, or a bit a pin where nothing is stored
  pub room : AtEach (λ n. eqb (room_at p n) (min 8 (size_of p (slot_at p n) - 8 * digit_at p n)))
  pub ways : AtStored p (λ n. cond (eqb (code (kind_at p n)) (code PortKind)) (eqb (room_at p n) p.ports) (not (whole p) || eqb (room_at p n) 8))
  -- the word's number is the kind's, the place is counted from the kind's first
  pub word : AtSingle p (λ n. eqb (slot_at p n) (code (kind_at p n)))
  pub place : AtGrouped p (λ n. eqb (digit_at p n) (n - first_of p (kind_at p n)))
  pub ported : AtGrouped p (λ n. cond (eqb (code (kind_at p n)) (code Edge)) true (ltb (digit_at p n) p.ports))
  -- and the other way round
  pub number : AtKind p (λ k j. ltb (first_of p k + j) 128)
  pub kept : AtKind p (λ k j. stored (kind_at p (first_of p k + j)))
  pub its_word : AtKind p (λ k j. eqb (slot_at p (first_of p k + j)) (code k))
  pub its_place : AtKind p (λ k j. eqb (digit_at p (first_of p k + j)) j)
  -- each byte of a word is some number's, and no word has more than sixteen
  pub byte_number : AtWord p (λ s d. ltb (base_of p s + d) 128)
  pub byte_kept : AtWord p (λ s d. stored (kind_at p (base_of p s + d)))
  pub byte_word : AtWord p (λ s d. eqb (slot_at p (base_of p s + d)) s)
  pub byte_place : AtWord p (λ s d. eqb (digit_at p (base_of p s + d)) d)
  pub bounded : (s : ℕ) → s < 19 → ltb (size_of p s) 128 ≡ true
  -- no word has more bits than there are pins
  pub most : (s : ℕ) → s < 19 → ltb p.width (wide_of p s) ≡ false
  -- each pin has a port
  pub narrow : p.width ≤ 8 * p.ports
  pub port_few : p.ports < 6
  -- the words below 17 have a bit a pin, but for the port kind
  pub wide : (s : ℕ) → s < 17 → cond (eqb s 7) p.width (wide_of p s) ≡ p.width

sound24 : Sound part24
unfolding slot_at base_of digit_at kind_at wide_of
sound24 = record {
  own = each_bool 128 _ _ tt;
  held = each_bool 128 _ _ tt;
  high = each_bool 128 _ _ tt;
  no_nine = each_bool 128 _ _ tt;
  no_fourteen = each_bool 128 _ _ tt;
  nowhere = each 128 _ _ tt;
  room = each_bool 128 _ _ tt;
  ways = each_bool 128 _ _ tt;
  word = each_bool 128 _ _ tt;
  place = each_bool 128 _ _ tt;
  ported = each_bool 128 _ _ tt;
  number = each_bool 224 _ _ tt;
  kept = each_bool 224 _ _ tt;
  its_word = each_bool 224 _ _ tt;
  its_place = each_bool 224 _ _ tt;
  byte_number = each_bool 304 _ _ tt;
  byte_kept = each_bool 304 _ _ tt;
  byte_word = each_bool 304 _ _ tt;
  byte_place = each_bool 304 _ _ tt;
  bounded = each_bool 19 _ _ tt;
  most = each_bool 19 _ _ tt;
  narrow = omega arith;
  port_few = omega arith;
  wide = each 17 _ _ tt;
}

sound34 : Sound part34
unfolding slot_at base_of digit_at kind_at wide_of
sound34 = record {
  own = each_bool 128 _ _ tt;
  held = each_bool 128 _ _ tt;
  high = each_bool 128 _ _ tt;
  no_nine = each_bool 128 _ _ tt;
  no_fourteen = each_bool 128 _ _ tt;
  nowhere = each 128 _ _ tt;
  room = each_bool 128 _ _ tt;
  ways = each_bool 128 _ _ tt;
  word = each_bool 128 _ _ tt;
  place = each_bool 128 _ _ tt;
  ported = each_bool 128 _ _ tt;
  number = each_bool 224 _ _ tt;
  kept = each_bool 224 _ _ tt;
  its_word = each_bool 224 _ _ tt;
  its_place = each_bool 224 _ _ tt;
  byte_number = each_bool 304 _ _ tt;
  byte_kept = each_bool 304 _ _ tt;
  byte_word = each_bool 304 _ _ tt;
  byte_place = each_bool 304 _ _ tt;
  bounded = each_bool 19 _ _ tt;
  most = each_bool 19 _ _ tt;
  narrow = omega arith;
  port_few = omega arith;
  wide = each 17 _ _ tt;
}

pub sound : (c : ℕ) → Sound (part_of c)
sound zero = sound24
sound (suc c) = sound34

pub mapped : (c : ℕ) → Mapped (part_of c)
mapped zero = mapped24
mapped (suc c) = mapped34

pub pick : (b x : Bool) → b ≡ true → cond b x true ≡ true → x ≡ true
pick true x e q = q
pick false x e q = clash false e refl

pub not_true : (b : Bool) → not b ≡ true → b ≡ false
not_true true e = sym e
not_true false e = refl

pub code_small : (k : Kind) → code k < 14
code_small Reserved = omega arith
code_small Input = omega arith
code_small Status = omega arith
code_small InputStatus = omega arith
code_small Configuration = omega arith
code_small Latch = omega arith
code_small Mask = omega arith
code_small PortKind = omega arith
code_small Edge = omega arith
code_small Clear = omega arith
code_small Output = omega arith
code_small Polarity = omega arith
code_small PinKind = omega arith
code_small Stored = omega arith

-- what the tests say of register j of kind k
module _ (p : Part) (ok : Sound p) (k : Kind) (one : single k ≡ true) (j : ℕ) (hj : j < count_of p k) (few : j < 16) where
  at : (test : Kind → ℕ → Bool) → AtKind p test → test k j ≡ true
  at test h =
      let d : (code k * 16 + j) / 16 ≡ code k = digits_div (code k) few in
      let m : (code k * 16 + j) % 16 ≡ j = digits_mod (code k) few in
      let q : named ((code k * 16 + j) / 16) ≡ k = ap named d ∙ sym (kind_is k (code k) refl) in
      pick (single k && ltb j (count_of p k)) (test k j) (ap₂ (λ (a b : Bool). a && b) one (lt-ltb j (count_of p k) hj))
      (rw (q, m) at (h (code k * 16 + j) (let c : code k < 14 = code_small k in omega arith)))

  pub number_there : first_of p k + j < 128
  number_there = ltb-true _ _ (at (λ k j. ltb (first_of p k + j) 128) ok.number)

  pub stored_there : stored (kind_at p (first_of p k + j)) ≡ true
  stored_there = at (λ k j. stored (kind_at p (first_of p k + j))) ok.kept

  pub word_there : slot_at p (first_of p k + j) ≡ code k
  word_there = eqb-true _ _ (at (λ k j. eqb (slot_at p (first_of p k + j)) (code k)) ok.its_word)

  pub place_there : digit_at p (first_of p k + j) ≡ j
  place_there = eqb-true _ _ (at (λ k j. eqb (digit_at p (first_of p k + j)) j) ok.its_place)

-- what they say of a number whose value is stored
module _ (p : Part) (ok : Sound p) (n : ℕ) (hn : n < 128) (st : stored (kind_at p n) ≡ true) where
  stored_test : (test : ℕ → Bool) → AtStored p test → test n ≡ true
  stored_test test h = pick (stored (kind_at p n)) (test n) st (h n hn)

  pub own_place : base_of p (slot_at p n) + digit_at p n ≡ n
  own_place = eqb-true _ _ (stored_test (λ n. eqb (base_of p (slot_at p n) + digit_at p n) n) ok.own)

  pub word_held : slot_at p n < 19
  word_held = ltb-true _ _ (stored_test (λ n. ltb (slot_at p n) 19) ok.held)

  pub not_nine : eqb (slot_at p n) 9 ≡ false
  not_nine = not_true _ (stored_test (λ n. not (eqb (slot_at p n) 9)) ok.no_nine)

  pub not_fourteen : eqb (slot_at p n) 14 ≡ false
  not_fourteen = not_true _ (stored_test (λ n. not (eqb (slot_at p n) 14)) ok.no_fourteen)

  pub word_high : 3 < slot_at p n
  word_high = ltb-true _ _ (stored_test (λ n. ltb 3 (slot_at p n)) ok.high)

  pub way : cond (eqb (code (kind_at p n)) (code PortKind)) (eqb (room_at p n) p.ports) (not (whole p) || eqb (room_at p n) 8) ≡ true
  way = stored_test (λ n. cond (eqb (code (kind_at p n)) (code PortKind)) (eqb (room_at p n) p.ports) (not (whole p) || eqb (room_at p n) 8)) ok.ways

-- and of any
module _ (p : Part) (ok : Sound p) (n : ℕ) (hn : n < 128) where
  pub room_is : room_at p n ≡ min 8 (size_of p (slot_at p n) - 8 * digit_at p n)
  room_is = eqb-true _ _ (ok.room n hn)

-- and of one of a kind that has one group
module _ (p : Part) (ok : Sound p) (n : ℕ) (hn : n < 128) (one : single (kind_at p n) ≡ true) where
  pub word_is : slot_at p n ≡ code (kind_at p n)
  word_is = eqb-true _ _ (pick (single (kind_at p n)) _ one (ok.word n hn))

-- and of one whose kind has one group, stored or not
module _ (p : Part) (ok : Sound p) (n : ℕ) (hn : n < 128) (k : Kind) (e : kind_at p n ≡ k) (one : grouped k ≡ true) where
  pub place_is : digit_at p n ≡ n - first_of p k
  place_is =
      eqb-true (digit_at p n) (n - first_of p (kind_at p n)) (pick (grouped (kind_at p n)) _ (ap grouped e ∙ one) (ok.place n hn))
      ∙ ap (λ (k : Kind). n - first_of p k) e

  pub place_ported : eqb (code k) (code Edge) ≡ false → digit_at p n < p.ports
  place_ported z =
      ltb-true _ _ (rw (e, z) at ports)
    where
      ports : cond (eqb (code (kind_at p n)) (code Edge)) true (ltb (digit_at p n) p.ports) ≡ true
      ports = pick (grouped (kind_at p n)) _ (ap grouped e ∙ one) (ok.ported n hn)

-- and of byte d of the word s
module _ (p : Part) (ok : Sound p) (s d : ℕ) (lead : leads s ≡ true) (hs : s < 19) (hd : 8 * d < size_of p s) where
  few_bytes : d < 16
  few_bytes = omega (arith, hd, ltb-true (size_of p s) 128 (ok.bounded s hs))

  at_word : (test : ℕ → ℕ → Bool) → AtWord p test → test s d ≡ true
  at_word test h =
      let a : (s * 16 + d) / 16 ≡ s = digits_div s few_bytes in
      let b : (s * 16 + d) % 16 ≡ d = digits_mod s few_bytes in
      pick (leads s && ltb (8 * d) (size_of p s)) (test s d) (ap₂ (λ (a b : Bool). a && b) lead (lt-ltb (8 * d) (size_of p s) hd))
      (rw (a, b) at (h (s * 16 + d) (omega (arith, few_bytes))))

  pub byte_there : base_of p s + d < 128
  byte_there = ltb-true _ _ (at_word (λ s d. ltb (base_of p s + d) 128) ok.byte_number)

  pub byte_stored : stored (kind_at p (base_of p s + d)) ≡ true
  byte_stored = at_word (λ s d. stored (kind_at p (base_of p s + d))) ok.byte_kept

  pub byte_slot : slot_at p (base_of p s + d) ≡ s
  byte_slot = eqb-true _ _ (at_word (λ s d. eqb (slot_at p (base_of p s + d)) s) ok.byte_word)

  pub byte_digit : digit_at p (base_of p s + d) ≡ d
  byte_digit = eqb-true _ _ (at_word (λ s d. eqb (digit_at p (base_of p s + d)) d) ok.byte_place)
