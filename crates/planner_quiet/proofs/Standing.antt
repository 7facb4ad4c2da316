-- There is a device that stands at any well-formed start, so that what is said of every one says something. Assumes nothing.
use mathlib.Core.Path.{◌≡◌, refl, sym, ap, ◌∙◌}
use mathlib.Core.Bool.{Bool, true, false, cond, ◌&&◌}
use mathlib.Core.List.{List, [], ◌∷◌}
use Prim.Native.Nat.{ℕ, zero, suc, ◌+◌, ◌^◌, ◌<◌}
use native.Mathlib.Omega.{arith}
use borrow.Author.Tests.{lt-ltb, ltb-true}
use lib.Dec.{ltb}
use lib.ListN.{get_or, length}
use lib.Pow.{pow_pos}
use lib.Seq.{ext_get_or}
use Rattle.map.specs.Map.{Part, entries, room_at, fitting_at, fitting_from, file_fits}
use Rattle.registers.specs.Registers.{Core, core}
use Rattle.planner_quiet.specs.Settings.{registers_of, shape_of, Settings, place}
use Rattle.planner_quiet.specs.Order.{Sound}
use Rattle.planner_quiet.specs.Quiet.{Formed, read_all, settings_of}
use Rattle.planner_quiet.proofs.Along.{place_nth}
use Rattle.planner_quiet.proofs.Lift.{read_nth}
use Rattle.planner_quiet.proofs.Plannable.{number_at, Plannable, fits_bits}
use Rattle.planner_quiet.proofs.Theorems.{bytes}

read_length : (file xs : List ℕ) → length (read_all file xs) ≡ length xs
read_length file [] = refl
read_length file (x ∷ xs) = ap suc (read_length file xs)

entry : (f : ℕ → ℕ) (n a i : ℕ) → i < n → get_or (entries f a n) i 0 ≡ f (a + i)
entry f zero a i h = absurd (omega (arith, h))
entry f (suc n) a zero h = ap f (omega arith)
entry f (suc n) a (suc i) h = entry f n (suc a) i (omega (arith, h)) ∙ ap f (omega arith)

entry_length : (f : ℕ → ℕ) (n a : ℕ) → length (entries f a n) ≡ n
entry_length f zero a = refl
entry_length f (suc n) a = ap suc (entry_length f n (suc a))

entries_fit : (p : Part) (file : List ℕ) (n a : ℕ) → ((m : ℕ) → m < a + n → fitting_at p m (get_or file m 0) ≡ true) → fitting_from p file a n ≡ true
entries_fit p file zero a f = refl
entries_fit p file (suc n) a f =
    ap (λ (b : Bool). b && fitting_from p file (suc a) n) (f a (omega arith)) ∙ entries_fit p file n (suc a) (λ m h. f m (omega (arith, h)))

module _ (p : Part) (ok : Plannable p) (start : Settings) (d : Sound (shape_of p) start) where
  abbrev registers : List ℕ
  registers = registers_of p

  -- the start at its registers, zeros elsewhere
  abbrev holds : ℕ → ℕ
  holds n = cond (ltb (place registers n) (length registers)) (get_or start (place registers n) 0) 0

  abbrev file : List ℕ
  file = entries holds 0 128

  held : (n : ℕ) → n < 128 → get_or file n 0 ≡ holds n
  held n h = entry holds 128 0 n h ∙ ap holds (omega arith)

  fine : (n : ℕ) → n < 128 → fitting_at p n (holds n) ≡ true
  fine n h = go (ltb (place registers n) (length registers)) refl
    where
      go : (b : Bool) → ltb (place registers n) (length registers) ≡ b → fitting_at p n (cond b (get_or start (place registers n) 0) 0) ≡ true
      go true e =
          let i = ltb-true (place registers n) (length registers) e in
          let v = get_or start (place registers n) 0 in
          fits_bits p ok n i v (bytes (shape_of p) ok.regular start d (place registers n) i) ∙ lt-ltb v (2 ^ room_at p (number_at p (place registers n))) (d.fits (place registers n) i)
      go false e = ok.zero_fits n h

  fits : file_fits p file ≡ true
  unfolding file_fits
  fits = entries_fit p file 128 0 (λ m h. ap (fitting_at p m) (held m (omega (arith, h))) ∙ fine m (omega (arith, h)))

  said : (q : ℕ) → q < length registers → get_or (read_all file registers) q 0 ≡ get_or start q 0
  said q h =
      let at = place_nth registers q ok.regular.distinct h in
      read_nth file registers q h ∙ held (number_at p q) (ltb-true (number_at p q) 128 (ok.small q h))
      ∙ ap (λ (i : ℕ). cond (ltb i (length registers)) (get_or start i 0) 0) at
      ∙ ap (λ (b : Bool). cond b (get_or start q 0) 0) (lt-ltb q (length registers) h)

  pub stands : (s : Core) × Formed p s × (settings_of p s ≡ start)
  stands = (
    core file (record { level = 0; reference = 0; held = 0; edge = 0 }),
    record {
      full = entry_length holds 128 0;
      fits = fits;
      within = record { level_small = pow_pos p.width; reference_small = pow_pos p.width; held_small = pow_pos p.width; edge_small = pow_pos p.width };
    },
    ext_get_or 0 (read_all file registers) start (read_length file registers ∙ sym d.whole) (λ q h. said q (omega (arith, h, read_length file registers))),
  )
