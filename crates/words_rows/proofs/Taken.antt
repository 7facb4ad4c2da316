-- A row taken apart has what it was put together from: computed at each number of each part. Assumes nothing.
use mathlib.Core.Path.{◌≡◌, refl, sym, ap, ap₂, ◌∙◌}
use mathlib.Core.Bool.{Bool, true, false, cond, not, ◌&&◌, ◌||◌}
use mathlib.Core.List.{List}
use Prim.Native.Nat.{ℕ, zero, suc, ◌+◌, ◌-◌, ◌/◌, ◌^◌, ◌<◌}
use native.Mathlib.Omega.{arith}
use borrow.Author.Tests.{eqb-true, eqb-false, ne_eqb, ltb-true, ltb-false, lt-ltb, le-ltb}
use lib.Bits.{bit_and}
use lib.Dec.{eqb, ltb}
use Rattle.bits.proofs.Decide.{each, each_bool, clash}
use Rattle.map.specs.Map.{Part, Kind, part24, part34, kind_at, code, stored, reserved, next, onward, next_in, successor, room_at, part_of}
use Rattle.map.specs.Map.Kind.{Reserved, Input, Status, InputStatus, Configuration, Latch, Mask, PortKind, Edge, Clear, Output, Polarity, PinKind, Stored}
use Rattle.registers.specs.Interrupt.{rings}
use Rattle.words.specs.Words.{slot_at, digit_at, paired}
use Rattle.words.proofs.Moving.{still}
use Rattle.words.proofs.Sound.{sound, single, pick, code_small, word_is}
use Rattle.map.proofs.ByNumber.{kind_is}
use Rattle.map.proofs.Onward.{onward_known}
use Rattle.words_rows.specs.Rows.{rule_at, row_at, word_in, Numbered, Known}

record Rows (p : Part) : Type 0 where
  pub rules : (n : ℕ) → n < 128 → bit_and (row_at p n) 15 ≡ rule_at p n
  pub words : (n : ℕ) → n < 128 → bit_and (row_at p n / 2 ^ 4) 31 ≡ slot_at p n
  pub inside : (n : ℕ) → n < 128 → ltb (word_in (row_at p n)) 19 ≡ true
  pub ports : (n : ℕ) → n < 128 → cond (paired (slot_at p n)) 0 (bit_and (row_at p n / 2 ^ 12) 7) ≡ cond (paired (slot_at p n)) 0 (digit_at p n)
  pub fourths : (n : ℕ) → n < 128 → cond (paired (slot_at p n)) (bit_and (row_at p n / 2 ^ 11) 15) 0 ≡ cond (paired (slot_at p n)) (digit_at p n) 0
  pub successors : (n : ℕ) → n < 128 → bit_and (row_at p n / 2 ^ 15) 127 ≡ successor p n
  pub nexts : (n : ℕ) → n < 128 → cond (reserved p n) false (reserved p (next p n)) ≡ false
  pub existings : (n : ℕ) → n < 128 → cond (reserved p n) 0 (row_at p n / 2 ^ 24) ≡ cond (reserved p n) 0 (2 ^ room_at p n - 1)
  -- a rule says whether the register is kept in two words, whether it is stored, and whether it moves pins
  pub pairs : (n : ℕ) → n < 128 → paired (slot_at p n) ≡ (eqb (rule_at p n) 8 || eqb (rule_at p n) 14)
  pub keeps : (n : ℕ) → n < 128 → stored (kind_at p n) ≡ (ltb 3 (rule_at p n) && not (eqb (rule_at p n) 9))
  pub stills : (n : ℕ) → n < 128 → still (kind_at p n) ≡ (ltb (rule_at p n) 4 || (eqb (rule_at p n) 7 || ltb 9 (rule_at p n)))
  pub codes : (n : ℕ) → n < 128 → cond (ltb (code (kind_at p n)) 13) (eqb (rule_at p n) (code (kind_at p n))) true ≡ true
  pub zeros : (n : ℕ) → n < 128 → eqb (row_at p n) 0 ≡ reserved p n

rows24 : Rows part24
unfolding row_at slot_at digit_at kind_at next reserved
rows24 = record {
  rules = each 128 _ _ tt;
  words = each 128 _ _ tt;
  inside = each_bool 128 _ _ tt;
  ports = each 128 _ _ tt;
  fourths = each 128 _ _ tt;
  successors = each 128 _ _ tt;
  nexts = each_bool 128 _ _ tt;
  existings = each 128 _ _ tt;
  pairs = each_bool 128 _ _ tt;
  keeps = each_bool 128 _ _ tt;
  stills = each_bool 128 _ _ tt;
  codes = each_bool 128 _ _ tt;
  zeros = each_bool 128 _ _ tt;
}

rows34 : Rows part34
unfolding row_at slot_at digit_at kind_at next reserved
rows34 = record {
  rules = each 128 _ _ tt;
  words = each 128 _ _ tt;
  inside = each_bool 128 _ _ tt;
  ports = each 128 _ _ tt;
  fourths = each 128 _ _ tt;
  successors = each 128 _ _ tt;
  nexts = each_bool 128 _ _ tt;
  existings = each 128 _ _ tt;
  pairs = each_bool 128 _ _ tt;
  keeps = each_bool 128 _ _ tt;
  stills = each_bool 128 _ _ tt;
  codes = each_bool 128 _ _ tt;
  zeros = each_bool 128 _ _ tt;
}

rows : (part : ℕ) → Rows (part_of part)
rows zero = rows24
rows (suc part) = rows34

module _ (row part n : ℕ) (hn : n < 128) (e : row ≡ row_at (part_of part) n) where
  pub rule_of : bit_and row 15 ≡ rule_at (part_of part) n
  rule_of = ap (λ (r : ℕ). bit_and r 15) e ∙ (rows part).rules n hn

  pub word_of : bit_and (row / 2 ^ 4) 31 ≡ slot_at (part_of part) n
  word_of = ap (λ (r : ℕ). bit_and (r / 2 ^ 4) 31) e ∙ (rows part).words n hn

  -- the word named is one of those there are
  pub word_there : word_in row < 19
  word_there = ltb-true (word_in row) 19 (ap (λ (r : ℕ). ltb (word_in r) 19) e ∙ (rows part).inside n hn)

  pub port_of : paired (slot_at (part_of part) n) ≡ false → bit_and (row / 2 ^ 12) 7 ≡ digit_at (part_of part) n
  port_of one = ap (λ (r : ℕ). bit_and (r / 2 ^ 12) 7) e ∙ rw one at ((rows part).ports n hn)

  pub fourth_of : paired (slot_at (part_of part) n) ≡ true → bit_and (row / 2 ^ 11) 15 ≡ digit_at (part_of part) n
  fourth_of two = ap (λ (r : ℕ). bit_and (r / 2 ^ 11) 15) e ∙ rw two at ((rows part).fourths n hn)

  pub successor_of : bit_and (row / 2 ^ 15) 127 ≡ successor (part_of part) n
  successor_of = ap (λ (r : ℕ). bit_and (r / 2 ^ 15) 127) e ∙ (rows part).successors n hn

  -- the row of a number that is not reserved is not 0
  pub row_zero : eqb row 0 ≡ reserved (part_of part) n
  row_zero = ap (λ (r : ℕ). eqb r 0) e ∙ (rows part).zeros n hn

module _ (row part n : ℕ) (known : reserved (part_of part) n ≡ false) (e : row ≡ row_at (part_of part) n) where
  pub known_small : n < 128
  unfolding reserved
  known_small = go (ltb n 128) refl
    where
      go : (t : Bool) → ltb n 128 ≡ t → n < 128
      go true q = ltb-true n 128 q
      go false q = clash (reserved (part_of part) n) (ap (λ (t : Bool). not t || eqb (code (kind_at (part_of part) n)) (code Reserved)) q) known

  -- what the table of successors has for a register is the next of its group
  pub next_of : {r : ℕ} → r ≡ successor (part_of part) n → r ≡ next (part_of part) n
  next_of q = q ∙ rw known

  -- the next number of a register's group is a register's too
  pub next_known : reserved (part_of part) (next (part_of part) n) ≡ false
  next_known = rw known at ((rows part).nexts n known_small)

  -- and so is the next by the mode
  pub step_known : (mode : ℕ) → reserved (part_of part) (next_in (part_of part) mode n) ≡ false
  unfolding next_in
  step_known mode = go (eqb mode 1)
    where
      go : (over : Bool) → reserved (part_of part) (cond over (onward (part_of part) n) (next (part_of part) n)) ≡ false
      go true = onward_known part n known
      go false = next_known

  pub existing_of : row / 2 ^ 24 ≡ 2 ^ room_at (part_of part) n - 1
  existing_of = ap (λ (r : ℕ). r / 2 ^ 24) e ∙ rw known at ((rows part).existings n known_small)

-- the word that such a row names is among the words
pub numbered_inside : {row : ℕ} {w : List ℕ} → Numbered row w → word_in row < 28
numbered_inside {row} k = omega (arith, word_there row k.part k.number k.small k.row_is)

pub known_inside : {row : ℕ} {w : List ℕ} → Known row w → word_in row < 28
known_inside {row} k = omega (arith, word_there row k.part k.number (known_small row k.part k.number k.known k.row_is) k.row_is)

-- ---- what a rule says of its register
module _ (part n : ℕ) (hn : n < 128) where
  -- a rule below 14 is a kind's number
  rule_kind : (k : Kind) → rule_at (part_of part) n ≡ code k → kind_at (part_of part) n ≡ k
  rule_kind k e = go (eqb (slot_at (part_of part) n) 13) refl
    where
      go : (t : Bool) → eqb (slot_at (part_of part) n) 13 ≡ t → kind_at (part_of part) n ≡ k
      go true q =
          let z : 14 ≡ code k = sym (ap (λ (t : Bool). cond t 14 (code (kind_at (part_of part) n))) q) ∙ e in
          absurd (omega (arith, z, code_small k))
      go false q =
          kind_is (kind_at (part_of part) n) (code k) (sym e ∙ ap (λ (t : Bool). cond t 14 (code (kind_at (part_of part) n))) q) ∙ sym (kind_is k (code k) refl)

  pub rule_strength : rule_at (part_of part) n ≡ 14 → slot_at (part_of part) n ≡ 13
  rule_strength e = go (eqb (slot_at (part_of part) n) 13) refl
    where
      go : (t : Bool) → eqb (slot_at (part_of part) n) 13 ≡ t → slot_at (part_of part) n ≡ 13
      go true q = eqb-true _ 13 q
      go false q =
          let z : code (kind_at (part_of part) n) ≡ 14 = sym (ap (λ (t : Bool). cond t 14 (code (kind_at (part_of part) n))) q) ∙ e in
          absurd (omega (arith, z, code_small (kind_at (part_of part) n)))

  rule_pair : paired (slot_at (part_of part) n) ≡ (eqb (rule_at (part_of part) n) 8 || eqb (rule_at (part_of part) n) 14)
  rule_pair = (rows part).pairs n hn

  rule_stored : stored (kind_at (part_of part) n) ≡ (ltb 3 (rule_at (part_of part) n) && not (eqb (rule_at (part_of part) n) 9))
  rule_stored = (rows part).keeps n hn

  rule_still : still (kind_at (part_of part) n) ≡ (ltb (rule_at (part_of part) n) 4 || (eqb (rule_at (part_of part) n) 7 || ltb 9 (rule_at (part_of part) n)))
  rule_still = (rows part).stills n hn

-- a number above m that is none of the next three
pub above : (m r : ℕ) → m < r → (r ≡ m + 1 → ⊥) → (r ≡ m + 2 → ⊥) → (r ≡ m + 3 → ⊥) → m + 3 < r
above m r h a b c = omega arith

-- ---- by the rule
module _ (part n r : ℕ) (hn : n < 128) (er : r ≡ rule_at (part_of part) n) where
  module _ (k : Kind) (ek : r ≡ code k) where
    pub its_kind : kind_at (part_of part) n ≡ k
    its_kind = rule_kind part n hn k (sym er ∙ ek)

    pub its_word : single k ≡ true → code k ≡ slot_at (part_of part) n
    its_word one = ap code (sym its_kind) ∙ sym (word_is (part_of part) (sound part) n hn (ap single its_kind ∙ one))

  pub stored_by : (a : ℕ) → r ≡ a → stored (kind_at (part_of part) n) ≡ (ltb 3 a && not (eqb a 9))
  stored_by a e = rule_stored part n hn ∙ ap (λ (r : ℕ). ltb 3 r && not (eqb r 9)) (sym er ∙ e)

  pub still_by : (a : ℕ) → r ≡ a → still (kind_at (part_of part) n) ≡ (ltb a 4 || (eqb a 7 || ltb 9 a))
  still_by a e = rule_still part n hn ∙ ap (λ (r : ℕ). ltb r 4 || (eqb r 7 || ltb 9 r)) (sym er ∙ e)

  pub paired_by : (a : ℕ) → r ≡ a → paired (slot_at (part_of part) n) ≡ (eqb a 8 || eqb a 14)
  paired_by a e = rule_pair part n hn ∙ ap (λ (r : ℕ). eqb r 8 || eqb r 14) (sym er ∙ e)

  -- a kind's number below 13 is the rule
  pub low_rule : (k : ℕ) → k < 13 → code (kind_at (part_of part) n) ≡ k → r ≡ k
  low_rule k h e =
      er ∙ eqb-true _ _ (pick (ltb (code (kind_at (part_of part) n)) 13) (eqb (rule_at (part_of part) n) (code (kind_at (part_of part) n))) (ap (λ (c : ℕ). ltb c 13) e ∙ lt-ltb k 13 h) ((rows part).codes n hn)) ∙ e

  -- a rule that stores one byte
  pub stored_rule : 3 < r → (r ≡ 8 → ⊥) → (r ≡ 9 → ⊥) → (r ≡ 14 → ⊥) → (stored (kind_at (part_of part) n) ≡ true) × (paired (slot_at (part_of part) n) ≡ false)
  stored_rule h z8 z9 z14 = (
    stored_by r refl ∙ ap₂ (λ (s t : Bool). s && not t) (lt-ltb 3 r h) (ne_eqb r 9 z9),
    paired_by r refl ∙ ap₂ (λ (s t : Bool). s || t) (ne_eqb r 8 z8) (ne_eqb r 14 z14),
  )

  -- and moves no pin
  pub still_rule : 3 < r → (r ≡ 4 → ⊥) → (r ≡ 5 → ⊥) → (r ≡ 6 → ⊥) → (r ≡ 8 → ⊥) → (r ≡ 9 → ⊥) → still (kind_at (part_of part) n) ≡ true
  still_rule h z4 z5 z6 z8 z9 = go (eqb r 7) refl
    where
      go : (t : Bool) → eqb r 7 ≡ t → still (kind_at (part_of part) n) ≡ true
      go true q = still_by 7 (eqb-true r 7 q)
      go false q =
          let over : 9 < r = above 6 r (above 3 r h z4 z5 z6) (eqb-false r 7 q) z8 z9 in
          still_by r refl ∙ ap₂ (λ (s t : Bool). s || (t || ltb 9 r)) (le-ltb r 4 h) q ∙ lt-ltb 9 r over

  -- a register whose write can change a status bit is one that moves pins
  rings_not : {b : Bool} → still (kind_at (part_of part) n) ≡ b → rings (kind_at (part_of part) n) ≡ not b
  rings_not e = twice (rings (kind_at (part_of part) n)) ∙ ap not e
    where
      twice : (b : Bool) → b ≡ not (not b)
      twice true = refl
      twice false = refl

  pub rings_by : (a : ℕ) → r ≡ a → rings (kind_at (part_of part) n) ≡ not (ltb a 4 || (eqb a 7 || ltb 9 a))
  rings_by a e = rings_not (still_by a e)

  pub rings_rest : (r ≡ 4 → ⊥) → (r ≡ 5 → ⊥) → (r ≡ 6 → ⊥) → (r ≡ 8 → ⊥) → (r ≡ 9 → ⊥) → rings (kind_at (part_of part) n) ≡ false
  rings_rest z4 z5 z6 z8 z9 = rings_not (go (ltb r 4) refl)
    where
      go : (t : Bool) → ltb r 4 ≡ t → still (kind_at (part_of part) n) ≡ true
      go true q = still_by r refl ∙ ap (λ (t : Bool). t || (eqb r 7 || ltb 9 r)) q
      go false q = still_rule (ltb-false r 4 q) z4 z5 z6 z8 z9

-- what is stored is a register's
pub stored_known : (part n : ℕ) → n < 128 → stored (kind_at (part_of part) n) ≡ true → reserved (part_of part) n ≡ false
unfolding reserved
stored_known part n h st = ap₂ (λ (s t : Bool). not s || t) (lt-ltb n 128 h) (go (kind_at (part_of part) n) st)
  where
    go : (k : Kind) → stored k ≡ true → eqb (code k) (code Reserved) ≡ false
    go Reserved e = clash false e refl
    go Input e = refl
    go Status e = refl
    go InputStatus e = refl
    go Configuration e = refl
    go Latch e = refl
    go Mask e = refl
    go PortKind e = refl
    go Edge e = refl
    go Clear e = refl
    go Output e = refl
    go Polarity e = refl
    go PinKind e = refl
    go Stored e = refl
