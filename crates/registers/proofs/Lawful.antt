-- What a part's map must be for the theorems about its device: tests that antt computes for both parts. Assumes nothing.
use mathlib.Core.Path.{◌≡◌, refl, sym, ap, ◌∙◌}
use mathlib.Core.Bool.{Bool, true, false, not, ◌&&◌, ◌||◌}
use Prim.Native.Nat.{ℕ, zero, suc, ◌+◌, ◌-◌, ◌*◌, ◌/◌, ◌%◌, ◌<◌, ◌≤◌, min}
use borrow.Author.Tests.{ltb-true, leb-true}
use lib.Dec.{eqb, ltb, leb}
use Rattle.bits.proofs.Decide.{each_bool, and_left, and_right}
use Rattle.map.specs.Map.{Part, Kind, part24, part34, part_of, first_of, kind_at, code, reserved, next, onward, next_in, walked, register_count, defaults, room_at, whole, fitting, file_fits}
use Rattle.map.specs.Map.Kind.{Input, Status, InputStatus, Configuration, PortKind}
use Rattle.registers.proofs.Pinwise.{Mapped, mapped24, mapped34}

-- registers that show their port's pins
abbrev pub shows_pins : Kind → Bool
shows_pins k = eqb (code k) (code Input) || (eqb (code k) (code Status) || eqb (code k) (code InputStatus))

abbrev in_place : Part → Kind → (n : ℕ) → Bool
in_place p k n = ltb (n - first_of p k) p.ports && leb (min 8 (p.width - 8 * (n - first_of p k))) (room_at p n)

pub record Lawful (p : Part) : Type 0 where
  pub mapped : Mapped p
  pub defaults_fit : file_fits p (defaults p) ≡ true
  pub first_known_lem : reserved p 0 ≡ false
  -- the pointer steps from a known number to a known one
  pub steps : (n : ℕ) → n < 128 → (reserved p n || not (reserved p (next p n))) ≡ true
  -- in either mode
  pub walks : (n : ℕ) → n < 128 → (reserved p n || not (reserved p (onward p n))) ≡ true
  -- and over the whole map back to where it began, after as many steps as there are registers
  pub rounds : (n : ℕ) → n < 128 → (reserved p n || eqb (walked p 1 n (register_count p)) n) ≡ true
  -- a register that shows pins is one of a port's, and has a bit for each of its pins
  pub places : (n : ℕ) → n < 128 → (not (shows_pins (kind_at p n)) || in_place p (kind_at p n) n) ≡ true
  -- where the ports are whole all bits exist, but for those of the output port kind, which has one a port
  pub rooms : (n : ℕ) → n < 128 → (not (whole p) || (leb 8 (room_at p n) || (eqb (code (kind_at p n)) (code PortKind) && leb p.ports (room_at p n)))) ≡ true
  -- a place of a port that is no pin has no bit in the configuration
  pub missing : (i : ℕ) → i < 8 * p.ports → (ltb i p.width || (not (whole p) && leb (room_at p (first_of p Configuration + i / 8)) (i % 8))) ≡ true
  -- and its registers are numbers of the file
  pub listed : (i : ℕ) → i < p.ports → ltb (first_of p Configuration + i) 128 ≡ true

pub lawful24 : Lawful part24
unfolding kind_at reserved next onward next_in walked defaults file_fits fitting
lawful24 = record {
  mapped = mapped24;
  defaults_fit = refl;
  first_known_lem = refl;
  steps = each_bool 128 _ _ tt;
  walks = each_bool 128 _ _ tt;
  rounds = each_bool 128 _ _ tt;
  places = each_bool 128 _ _ tt;
  rooms = each_bool 128 _ _ tt;
  missing = each_bool 24 _ _ tt;
  listed = each_bool 3 _ _ tt;
}

pub lawful34 : Lawful part34
unfolding kind_at reserved next onward next_in walked defaults file_fits fitting
lawful34 = record {
  mapped = mapped34;
  defaults_fit = refl;
  first_known_lem = refl;
  steps = each_bool 128 _ _ tt;
  walks = each_bool 128 _ _ tt;
  rounds = each_bool 128 _ _ tt;
  places = each_bool 128 _ _ tt;
  rooms = each_bool 128 _ _ tt;
  missing = each_bool 40 _ _ tt;
  listed = each_bool 5 _ _ tt;
}

-- a register that shows pins shows those of one port, and its bits past those that exist are no pins
pub shown_place : (p : Part) → Lawful p → (k : Kind) → shows_pins k ≡ true → (n : ℕ) → n < 128 → kind_at p n ≡ k
    → (n - first_of p k < p.ports) × (min 8 (p.width - 8 * (n - first_of p k)) ≤ room_at p n)
shown_place p ok k t n hn e =
    let here : in_place p k n ≡ true =
    ap (λ (b : Bool). not b || in_place p k n) (sym t) ∙ ap (λ (j : Kind). not (shows_pins j) || in_place p j n) (sym e) ∙ ok.places n hn in
    let near = ltb (n - first_of p k) p.ports in
    let past = leb (min 8 (p.width - 8 * (n - first_of p k))) (room_at p n) in
    (ltb-true _ _ (and_left near past here), leb-true _ _ (and_right near past here))

-- both parts are lawful
pub lawful : (part : ℕ) → Lawful (part_of part)
lawful zero = lawful24
lawful (suc n) = lawful34
