-- A sign-off on words: its refusals in their order, and what is cleared. Assumes nothing.
use mathlib.Core.Path.{◌≡◌, refl, sym, ap, ◌∙◌}
use mathlib.Core.Bool.{Bool, true, false, cond}
use mathlib.Core.List.{List}
use Prim.Native.Nat.{ℕ, ◌<◌, ◌≤◌}
use borrow.Author.Tests.{lt-ltb, le-ltb}
use lib.Dec.{eqb, ltb}
use lib.ListN.{get_or}
use Rattle.bits.specs.Bits.{bit}
use Rattle.map.specs.Map.{Part, part_of}
use Rattle.device_rules.specs.Device.{State}
use Rattle.words_state.specs.Packed.{state_in, Packed}
use Rattle.words_state.proofs.Judging.{image_fits_lem}
use Rattle.loss_rules.specs.Marks.{quiet_and_healthy, signed, marks_fit, sign_refused, sign_off}
use Rattle.loss_sets.specs.Sets.{marks_in}
use Rattle.loss_marks.specs.Lent.{Signs}

module _ (c : ℕ) (w m : List ℕ) (pin : ℕ) where
  abbrev p : Part
  p = part_of c

  abbrev s : State
  s = state_in p w

  -- by its four tests
  judged : (fits there well : Bool) → Packed c w → marks_fit p (marks_in m) ≡ fits → ltb pin p.width ≡ there
      → quiet_and_healthy (bit (get_or w 19 0) pin) (bit (get_or w 0 0) pin) (bit (get_or m 1 0) pin) ≡ well
      → sign_refused p s (marks_in m) pin ≡ cond fits (cond there (cond well 0 13) 2) 3
  unfolding sign_refused
  judged fits there well k f t h = simp (image_fits_lem c w k, f, t, h)

  by_number : (n : ℕ) → sign_refused p s (marks_in m) pin ≡ n → cond (eqb n 0) (signed p pin (marks_in m)) (marks_in m) ≡ (sign_off p s (marks_in m) pin).marks
  unfolding sign_off
  by_number n e = ap (λ (n : ℕ). cond (eqb n 0) (signed p pin (marks_in m)) (marks_in m)) (sym e)

  number_of : (sign_off p s (marks_in m) pin).refusal ≡ sign_refused p s (marks_in m) pin
  unfolding sign_off
  number_of = refl

  pub broken : (Packed c w → ⊥) → Signs c w m m pin 3
  broken z = record { number_is = λ k. absurd (z k); marks_are = λ k. absurd (z k); broken = λ h. refl; refused = λ h. refl }

  module _ (k : Packed c w) where
    -- refused with a number
    stays : (n : ℕ) → eqb n 0 ≡ false → sign_refused p s (marks_in m) pin ≡ n → Signs c w m m pin n
    stays n some e = record {
      number_is = λ k. sym e ∙ sym number_of;
      marks_are = λ k. ap (λ (t : Bool). cond t (signed p pin (marks_in m)) (marks_in m)) (sym some) ∙ by_number n e;
      broken = λ z. absurd (z k);
      refused = λ h. refl;
    }

    pub unfit : false ≡ marks_fit p (marks_in m) → Signs c w m m pin 3
    unfit f = stays 3 refl (judged false _ _ k (sym f) refl refl)

    module _ (f : true ≡ marks_fit p (marks_in m)) where
      pub no_pin : p.width ≤ pin → Signs c w m m pin 2
      no_pin h = stays 2 refl (judged true false _ k (sym f) (le-ltb pin p.width h) refl)

      module _ (there : pin < p.width) where
        pub unwell : false ≡ quiet_and_healthy (bit (get_or w 19 0) pin) (bit (get_or w 0 0) pin) (bit (get_or m 1 0) pin) → Signs c w m m pin 13
        unwell h = stays 13 refl (judged true true false k (sym f) (lt-ltb pin p.width there) (sym h))

        pub signs : true ≡ quiet_and_healthy (bit (get_or w 19 0) pin) (bit (get_or w 0 0) pin) (bit (get_or m 1 0) pin) → {m' : List ℕ}
            → ((p : Part) → marks_fit p (marks_in m) ≡ true → marks_in m' ≡ signed p pin (marks_in m)) → Signs c w m m' pin 0
        signs h cleared =
            let e : sign_refused p s (marks_in m) pin ≡ 0 = judged true true true k (sym f) (lt-ltb pin p.width there) (sym h) in
            record {
              number_is = λ k. sym e ∙ sym number_of;
              marks_are = λ k. cleared p (sym f) ∙ by_number 0 e;
              broken = λ z. absurd (z k);
              refused = λ h. absurd (h refl);
            }
