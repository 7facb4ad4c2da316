-- Words made of an image are packed and hold its state; made of the image of packed words they are those words again. Assumes nothing.
use mathlib.Core.Path.{◌≡◌, refl, sym, ap, ap₂, subst, ◌∙◌}
use mathlib.Core.Bool.{Bool, true, false, ◌&&◌}
use mathlib.Core.List.{List}
use Prim.Native.Nat.{ℕ, ◌%◌, ◌^◌, ◌<◌}
use native.Mathlib.Nat.{mod-eq_of_lt}
use native.Mathlib.Omega.{arith}
use borrow.Author.Tests.{lt-ltb, ltb-true}
use lib.Dec.{ltb}
use lib.ListN.{get_or, set}
use lib.Seq.{get_or-set_same, get_or-set_other}
use Rattle.bits.proofs.Decide.{clash}
use Rattle.pins.specs.AllPins.{Within}
use Rattle.pins.specs.declared.Sets.{Sets}
use Rattle.map.specs.Map.{reserved, file_fits, part_of}
use Rattle.registers.specs.Registers.{Core, core}
use Rattle.device_rules.specs.Device.{State, identity, state, out}
use Rattle.device_rules.specs.Held.{state_of}
use Rattle.device_rules.specs.declared.Answer.{Answer}
use Rattle.device_rules.proofs.Stepping.{same_state, same_identity}
use Rattle.device_rules.specs.Refusals.{image_fits, stepped}
use Rattle.device_rules.proofs.Images.{sound_of}
use Rattle.registers.specs.Interrupt.{interrupt, worked_out}
use Rattle.registers.proofs.Kept.{same_interrupt, line_small}
use Rattle.words.specs.Words.{file_of, sets_in, with_sets, core_in, interrupt_in, Fit, Holds}
use Rattle.words.proofs.Sound.{sound}
use Rattle.words.proofs.Holding.{within, sets_there, holds_sets}
use Rattle.words_state.specs.Packed.{state_in, Packed, Steps}
use Rattle.words_state.proofs.Left.{core_past, fit_past}
use Rattle.words_state.proofs.Judging.{same_packed, image_fits_lem, bounded_of}
use Rattle.words_images.specs.Images.{Packs, rest_in}

module _ (c : ℕ) (hc : c < 2) (u : List ℕ) (fit : Fit (part_of c) u) (x : Sets) (pointer bus choice status line mode number place : ℕ)
    (d : Within (part_of c).width x) where
  held : Holds (part_of c) u (with_sets u x) (core (file_of (part_of c) u) x)
  held = holds_sets (part_of c) (sound c) u u x fit d refl (λ s h. refl)

  abbrev w0 : List ℕ
  w0 = with_sets u x

  abbrev w1 : List ℕ
  w1 = set w0 21 pointer

  abbrev w2 : List ℕ
  w2 = set w1 22 bus

  abbrev w3 : List ℕ
  w3 = set w2 23 choice

  abbrev w4 : List ℕ
  w4 = set w3 19 status

  abbrev w5 : List ℕ
  w5 = set w4 20 line

  abbrev w6 : List ℕ
  w6 = set w5 24 mode

  abbrev w7 : List ℕ
  w7 = set w6 25 number

  abbrev w8 : List ℕ
  w8 = set w7 26 place

  abbrev w9 : List ℕ
  w9 = set w8 27 c

  fit1 : Fit (part_of c) w1
  fit1 = fit_past c w0 21 pointer (omega arith) held.fit

  fit2 : Fit (part_of c) w2
  fit2 = fit_past c w1 22 bus (omega arith) fit1

  fit3 : Fit (part_of c) w3
  fit3 = fit_past c w2 23 choice (omega arith) fit2

  fit4 : Fit (part_of c) w4
  fit4 = fit_past c w3 19 status (omega arith) fit3

  fit5 : Fit (part_of c) w5
  fit5 = fit_past c w4 20 line (omega arith) fit4

  fit6 : Fit (part_of c) w6
  fit6 = fit_past c w5 24 mode (omega arith) fit5

  fit7 : Fit (part_of c) w7
  fit7 = fit_past c w6 25 number (omega arith) fit6

  fit8 : Fit (part_of c) w8
  fit8 = fit_past c w7 26 place (omega arith) fit7

  -- a word that the last four stores do not reach
  before_mode : (s : ℕ) → s < 24 → get_or w9 s 0 ≡ get_or w5 s 0
  before_mode s h =
      get_or-set_other w8 27 s c 0 (λ e. omega (arith, e)) ∙ get_or-set_other w7 26 s place 0 (λ e. omega (arith, e)) ∙ get_or-set_other w6 25 s number 0 (λ e. omega (arith, e))
      ∙ get_or-set_other w5 24 s mode 0 (λ e. omega (arith, e))

  -- nor the two before them
  before_kept : (s : ℕ) → 20 < s → s < 24 → get_or w9 s 0 ≡ get_or w3 s 0
  before_kept s l h = before_mode s h ∙ get_or-set_other w4 20 s line 0 (λ e. omega (arith, e)) ∙ get_or-set_other w3 19 s status 0 (λ e. omega (arith, e))

  at_pointer : get_or w9 21 0 ≡ pointer
  at_pointer =
      before_kept 21 (omega arith) (omega arith) ∙ get_or-set_other w2 23 21 choice 0 (λ e. omega (arith, e))
      ∙ get_or-set_other w1 22 21 bus 0 (λ e. omega (arith, e)) ∙ get_or-set_same w0 21 pointer 0 (omega (arith, held.fit.full))

  at_bus : get_or w9 22 0 ≡ bus
  at_bus =
      before_kept 22 (omega arith) (omega arith) ∙ get_or-set_other w2 23 22 choice 0 (λ e. omega (arith, e))
      ∙ get_or-set_same w1 22 bus 0 (omega (arith, fit1.full))

  at_choice : get_or w9 23 0 ≡ choice
  at_choice = before_kept 23 (omega arith) (omega arith) ∙ get_or-set_same w2 23 choice 0 (omega (arith, fit2.full))

  at_mode : get_or w9 24 0 ≡ mode
  at_mode =
      get_or-set_other w8 27 24 c 0 (λ e. omega (arith, e)) ∙ get_or-set_other w7 26 24 place 0 (λ e. omega (arith, e)) ∙ get_or-set_other w6 25 24 number 0 (λ e. omega (arith, e))
      ∙ get_or-set_same w5 24 mode 0 (omega (arith, fit5.full))

  at_number : get_or w9 25 0 ≡ number
  at_number = get_or-set_other w8 27 25 c 0 (λ e. omega (arith, e)) ∙ get_or-set_other w7 26 25 place 0 (λ e. omega (arith, e)) ∙ get_or-set_same w6 25 number 0 (omega (arith, fit6.full))

  at_place : get_or w9 26 0 ≡ place
  at_place = get_or-set_other w8 27 26 c 0 (λ e. omega (arith, e)) ∙ get_or-set_same w7 26 place 0 (omega (arith, fit7.full))

  kept : interrupt_in w9 ≡ interrupt status line
  kept =
      same_interrupt
      (before_mode 19 (omega arith) ∙ get_or-set_other w4 20 19 line 0 (λ e. omega (arith, e)) ∙ get_or-set_same w3 19 status 0 (omega (arith, fit3.full)))
      (before_mode 20 (omega arith) ∙ get_or-set_same w4 20 line 0 (omega (arith, fit4.full)))

  regs : core_in (part_of c) w9 ≡ core (file_of (part_of c) u) x
  regs =
      core_past c w8 27 c (omega arith) ∙ core_past c w7 26 place (omega arith) ∙ core_past c w6 25 number (omega arith) ∙ core_past c w5 24 mode (omega arith) ∙ core_past c w4 20 line (omega arith) ∙ core_past c w3 19 status (omega arith)
      ∙ core_past c w2 23 choice (omega arith) ∙ core_past c w1 22 bus (omega arith) ∙ core_past c w0 21 pointer (omega arith) ∙ held.core

  pub packed_state : state_in (part_of c) w9 ≡ state (core (file_of (part_of c) u) x) (interrupt status line) pointer mode bus choice (identity number place)
  packed_state = same_state regs kept at_pointer at_mode at_bus at_choice (same_identity at_number at_place)

  pub packed_words : reserved (part_of c) pointer ≡ false → mode < 2 → bus < 12 → choice < 4 → number < 2 ^ 24 → place < 3 → interrupt status line ≡ worked_out (part_of c) (core (file_of (part_of c) u) x) → Packed c w9
  packed_words known hm hb hch hn hp right = record {
    known_part = hc;
    fit = fit_past c w8 27 c (omega arith) fit8;
    right = kept ∙ right ∙ ap (worked_out (part_of c)) (sym regs);
    pointer_known = ap (reserved (part_of c)) at_pointer ∙ known;
    mode_small = rw at_mode hm;
    bus_small = rw at_bus hb;
    choice_small = rw at_choice hch;
    id_small = rw at_number hn;
    place_small = rw at_place hp;
    part_is = get_or-set_same w8 27 c 0 (omega (arith, fit8.full));
  }

-- ---- words made of an image, judged
module _ (c : ℕ) (u file : List ℕ) (fit : Fit (part_of c) u)
    (taken : file_fits (part_of c) file ≡ true → file_of (part_of c) u ≡ file) (x : Sets) (pointer bus choice status line mode number place : ℕ) where
  abbrev image : State
  image = state (core file x) (interrupt status line) pointer mode bus choice (identity number place)

  abbrev made : List ℕ
  made = set (set (set (set (set (set (set (set (set (with_sets u x) 21 pointer) 22 bus) 23 choice) 19 status) 20 line) 24 mode) 25 number) 26 place) 27 c

  would_fit : c < 2 → image_fits (part_of c) image ≡ true → Packed c made × (state_in (part_of c) made ≡ image)
  would_fit h e =
      let f = sound_of (part_of c) image e in (
        packed_words c h u fit x pointer bus choice status line mode number place f.within f.pointer_known f.mode_small f.bus_small f.choice_small f.id_small f.place_small
            (f.right ∙ ap (λ (l : List ℕ). worked_out (part_of c) (core l x)) (sym (taken f.file_fits_lem))),
        packed_state c h u fit x pointer bus choice status line mode number place f.within
            ∙ ap (λ (l : List ℕ). state (core l x) (interrupt status line) pointer mode bus choice (identity number place)) (taken f.file_fits_lem),
      )

  not_judged : (c < 2 → image_fits (part_of c) image ≡ true → ⊥) → (w : List ℕ) → Packs c image false w w
  not_judged z w = record { judged = go (ltb c 2) (image_fits (part_of c) image) refl refl; packed = λ h. clash false h refl; unchanged = λ h. refl }
    where
      go : (a b : Bool) → ltb c 2 ≡ a → image_fits (part_of c) image ≡ b → false ≡ (a && b)
      go true true p q = absurd (z (ltb-true c 2 p) q)
      go true false p q = refl
      go false b p q = refl

  pub no_such_file : (file_of (part_of c) made ≡ file → ⊥) → (w : List ℕ) → Packs c image false w w
  no_such_file z = not_judged (λ h e. z (ap (λ (s : State). s.regs.file) (would_fit h e).1))

  pub not_packed : (Packed c made → ⊥) → (w : List ℕ) → Packs c image false w w
  not_packed z = not_judged (λ h e. z (would_fit h e).0)

  pub judged_packed : Packed c made → file_of (part_of c) made ≡ file → (w : List ℕ) → Packs c image true w made
  judged_packed k e w = record {
    judged = sym (ap₂ (λ (a b : Bool). a && b) (lt-ltb c 2 k.known_part) (ap (image_fits (part_of c)) (sym same) ∙ image_fits_lem c made k));
    packed = λ h. (k, same);
    unchanged = λ h. clash true refl h;
  }
    where
      sets : sets_in made ≡ x
      sets =
          ap (λ (r : Core). r.sets)
          (core_past c _ 27 c (omega arith) ∙ core_past c _ 26 place (omega arith) ∙ core_past c _ 25 number (omega arith) ∙ core_past c _ 24 mode (omega arith) ∙ core_past c _ 20 line (omega arith) ∙ core_past c _ 19 status (omega arith) ∙ core_past c _ 23 choice (omega arith) ∙ core_past c _ 22 bus (omega arith) ∙ core_past c (with_sets u x) 21 pointer (omega arith))
          ∙ sets_there u x fit.full

      inside : Within (part_of c).width x
      inside = subst (Within (part_of c).width) sets (within (part_of c) (sound c) made k.fit)

      held : state_in (part_of c) made ≡ state (core (file_of (part_of c) u) x) (interrupt status line) pointer mode bus choice (identity number place)
      held = packed_state c k.known_part u fit x pointer bus choice status line mode number place inside

      same : state_in (part_of c) made ≡ image
      same = held ∙ ap (λ (l : List ℕ). state (core l x) (interrupt status line) pointer mode bus choice (identity number place)) (sym (ap (λ (s : State). s.regs.file) held) ∙ e)

-- ---- and back
small : (x m : ℕ) → x < m → m < 257 → x % 256 ≡ x
small x m h l = mod-eq_of_lt (omega arith)

-- what packed words are unpacked to is the image that they hold
pub unpacked : (c : ℕ) (w : List ℕ) → Packed c w → state_of (file_of (part_of (get_or w 27 0)) w) (rest_in w) ≡ state_in (part_of c) w
unpacked c w k =
    let b = bounded_of c w k in
    same_state (ap (λ (p : ℕ). core (file_of (part_of p) w) (sets_in w)) k.part_is)
    (same_interrupt refl (small (get_or w 20 0) 2 (line_small (part_of c) (core_in (part_of c) w) (interrupt_in w) k.right) (omega arith)))
    (small (get_or w 21 0) 128 b.pointer_small (omega arith)) (small (get_or w 24 0) 2 b.mode_small (omega arith)) (small (get_or w 22 0) 12 b.bus_small (omega arith)) (small (get_or w 23 0) 4 b.choice_small (omega arith))
    (same_identity refl (small (get_or w 26 0) 3 b.place_small (omega arith)))

-- the image of packed words, packed again, gives the same words
pub packed_again : (c : ℕ) (w v w' : List ℕ) (fits : Bool) → Packed c w → Packs c (state_in (part_of c) w) fits v w' → w' ≡ w
packed_again c w v w' fits k p =
    let r = p.packed (p.judged ∙ ap₂ (λ (a b : Bool). a && b) (lt-ltb c 2 k.known_part) (image_fits_lem c w k)) in
    same_packed c w' w r.0 k r.1

-- the step on an image's packing gives the answer of the step on the image, and leaves the words of the image that one leaves
pub same_step : (c : ℕ) (image : State) (v w w' : List ℕ) (kind arg : ℕ) (answer : Answer) → Packs c image true v w → Steps c w w' kind arg answer
    → (out answer (state_in (part_of c) w') ≡ stepped (part_of c) image kind arg) × Packed c w'
same_step c image v w w' kind arg answer p s =
    let l = s.taken (p.packed refl).0 in
    (l.outcome ∙ ap (λ (x : State). stepped (part_of c) x kind arg) (p.packed refl).1, l.packed)
