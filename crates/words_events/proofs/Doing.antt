-- One event with its third word, on words. Assumes nothing.
use mathlib.Core.Path.{◌≡◌, refl, sym, ap, ap₂, ◌∙◌}
use mathlib.Core.Bool.{Bool, true, false, cond, ◌||◌}
use mathlib.Core.List.{List, ◌∷◌}
use Prim.Native.Nat.{ℕ, zero, suc, ◌+◌, ◌-◌, ◌^◌, ◌≤◌, ◌<◌}
use native.Mathlib.Numerals.{add-one}
use native.Mathlib.Omega.{arith}
use borrow.Author.Tests.{eq-eqb, ne_eqb, lt-ltb, le-ltb}
use lib.Dec.{eqb, ltb, leb}
use lib.ListN.{get_or}
use Rattle.map.specs.Map.{Part, part_of}
use Rattle.device_rules.specs.Device.{State, Outcome, out}
use Rattle.device_rules.specs.Refusals.{image_fits, stepped}
use Rattle.device_rules.specs.declared.Answer.{Answer}
use Rattle.device_rules.specs.declared.Answer.TheVariants.{Refused}
use Rattle.words_state.specs.Packed.{state_in, Packed, Leaves}
use Rattle.words_state.proofs.Judging.{image_fits_lem, image}
use Rattle.words_state.proofs.Left.{left_same, by_rule}
use Rattle.words_events.specs.Events.{Sent, event_at, sent_of, halved, whole_of, one}

-- the events from number i on: the first, and those from the next on
pub sent_first : (bytes : List ℕ) (i asked : ℕ) → i < asked → sent_of bytes i (asked - i) ≡ event_at bytes i ∷ sent_of bytes (i + 1) (asked - (i + 1))
unfolding sent_of
sent_first bytes i asked h = rw (add-one i) (ap (sent_of bytes i) one_more)
  where
    one_more : asked - i ≡ suc (asked - suc i)
    one_more = omega arith

-- pins past the lower half of an argument are those of a part that takes the upper half
by_pins : (c pins : ℕ) → pins ≡ 2 ^ (part_of c).width - 1 → ltb 0xffff_ffff pins ≡ halved (part_of c)
by_pins zero pins e = ap (ltb 0xffff_ffff) e
by_pins (suc c) pins e = ap (ltb 0xffff_ffff) e

pub or_true : (a : Bool) → (a || true) ≡ true
or_true true = refl
or_true false = refl

module _ (c : ℕ) (w : List ℕ) (k : Packed c w) (e : Sent) where
  abbrev p : Part
  p = part_of c

  abbrev s : State
  s = state_in p w

  abbrev Refuses : Outcome
  Refuses = out (Refused (cond (image_fits p s) (cond (leb e.kind 5) 2 1) 3)) s

  -- by whether the third word may stand
  by_third : (t : Bool) → (eqb e.third 0 || halved p) ≡ t → one p s e ≡ cond t (stepped p s e.kind (whole_of e)) Refuses
  unfolding one
  by_third t h = ap (λ (t : Bool). cond t (stepped p s e.kind (whole_of e)) Refuses) h

  pub plain : e.third ≡ 0 → {w' : List ℕ} {a : Answer} → Leaves c w' a (stepped p s e.kind e.arg) → Leaves c w' a (one p s e)
  plain h l =
      let same : e.arg ≡ whole_of e = omega (arith, h) in
      by_rule l (ap (stepped p s e.kind) same ∙ sym (by_third true (ap (λ (t : Bool). t || halved p) (eq-eqb e.third 0 h))))

  module _ (pins : ℕ) (are : pins ≡ 2 ^ (part_of (get_or w 27 0)).width - 1) where
    by_width : ltb 0xffff_ffff pins ≡ halved p
    by_width = by_pins c pins (are ∙ ap (λ (c : ℕ). 2 ^ (part_of c).width - 1) k.part_is)

    pub upper : 0xffff_ffff < pins → {w' : List ℕ} {a : Answer} → Leaves c w' a (stepped p s e.kind (whole_of e)) → Leaves c w' a (one p s e)
    upper h l =
        let more : halved p ≡ true = sym by_width ∙ lt-ltb 0xffff_ffff pins h in
        by_rule l (sym (by_third true (ap (λ (t : Bool). eqb e.third 0 || t) more ∙ or_true (eqb e.third 0))))

    pub not_plain : (e.third ≡ 0 → ⊥) → pins ≤ 0xffff_ffff → (t : Bool) → leb e.kind 5 ≡ t → Leaves c w (Refused (cond t 2 1)) (one p s e)
    not_plain h few t b =
        let no : halved p ≡ false = sym by_width ∙ le-ltb 0xffff_ffff pins few in
        left_same c w k (Refused (cond t 2 1))
        (ap (λ (t : Bool). out (Refused (cond t 2 1)) s) (sym b)
        ∙ ap (λ (i : Bool). out (Refused (cond i (cond (leb e.kind 5) 2 1) 3)) s) (sym (image_fits_lem c w k))
        ∙ sym (by_third false (ap₂ (λ (a b : Bool). a || b) (ne_eqb e.third 0 h) no)))

  -- refused, the state stays
  pub refused_same : {w' : List ℕ} {n : ℕ} → Leaves c w' (Refused n) (one p s e) → state_in (part_of c) w' ≡ s
  refused_same {w'} {n} l = go (eqb e.third 0 || halved p) refl
    where
      go : (t : Bool) → (eqb e.third 0 || halved p) ≡ t → state_in (part_of c) w' ≡ s
      go true h = ap (state_in (part_of c)) ((image c w e.kind (whole_of e) k (by_rule l (by_third true h))).refused n refl)
      go false h = ap (λ (o : Outcome). o.after) (l.outcome ∙ by_third false h)
