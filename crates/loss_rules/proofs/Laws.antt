-- The loss marks pin by pin, and that they go on fitting. Assumes nothing.
use mathlib.Core.Path.{◌≡◌, refl}
use mathlib.Core.Bool.{Bool, true, false, cond, not, ◌&&◌, ◌||◌}
use Prim.Native.Nat.{ℕ, ◌^◌, ◌<◌}
use borrow.Author.Tests.{lt-ltb, ltb-true}
use lib.Dec.{eqb, ltb}
use Rattle.bits.specs.Bits.{bit}
use Rattle.bits.proofs.Decide.{and_left, and_right}
use Rattle.bits.proofs.Laws.{bit_tabulate, tabulate_lt}
use Rattle.map.specs.Map.{Part}
use Rattle.device_rules.specs.Device.{State, Event, Outcome}
use Rattle.device_rules.specs.Answers.{answer_kind}
use Rattle.loss_rules.specs.Marks.{Marks, sets_mark, mark_after, mark_signed, is_reset, noted, marks_after, signed, marks_fit, new_marks, sign_refused, sign_off}

module _ (p : Part) where
  pub small_of : (m : Marks) → marks_fit p m ≡ true → (m.set < 2 ^ p.width) × (m.healthy < 2 ^ p.width)
  unfolding marks_fit
  small_of m e =
      let a = ltb m.set (2 ^ p.width) in
      let b = ltb m.healthy (2 ^ p.width) in
      (ltb-true m.set (2 ^ p.width) (and_left a b e), ltb-true m.healthy (2 ^ p.width) (and_right a b e))

  pub fit_of : (m : Marks) → m.set < 2 ^ p.width → m.healthy < 2 ^ p.width → marks_fit p m ≡ true
  unfolding marks_fit
  fit_of m h k = simp (lt-ltb m.set (2 ^ p.width) h, lt-ltb m.healthy (2 ^ p.width) k)

  -- an event: at each pin by its sentence
  pub marked_after : (s : State) (e : Event) (o : Outcome) (m : Marks) (i : ℕ) → i < p.width
      → bit (marks_after p s e o m).set i
      ≡ (bit m.set i || (not (eqb (answer_kind o.answer) 4) && sets_mark (is_reset s e) (bit s.interrupt.status i) (bit o.after.interrupt.status i)))
  unfolding marks_after noted mark_after
  marked_after s e o m i hi = go (eqb (answer_kind o.answer) 4)
    where
      now : Bool
      now = sets_mark (is_reset s e) (bit s.interrupt.status i) (bit o.after.interrupt.status i)

      same : (a : Bool) → a ≡ (a || false)
      same true = refl
      same false = refl

      go : (refused : Bool)
          → bit (cond refused m (noted p (is_reset s e) s.interrupt.status o.after.interrupt.status m)).set i ≡ (bit m.set i || (not refused && now))
      go true = same (bit m.set i)
      go false = bit_tabulate p.width _ i hi

  -- a sign-off: of its own pin, if it is not refused
  pub marked_signed : (s : State) (m : Marks) (pin i : ℕ) → i < p.width
      → bit (sign_off p s m pin).marks.set i ≡ (bit m.set i && not (eqb (sign_refused p s m pin) 0 && eqb i pin))
  unfolding sign_off signed mark_signed
  marked_signed s m pin i hi = go (eqb (sign_refused p s m pin) 0)
    where
      same : (a : Bool) → a ≡ (a && true)
      same true = refl
      same false = refl

      go : (taken : Bool) → bit (cond taken (signed p pin m) m).set i ≡ (bit m.set i && not (taken && eqb i pin))
      go true = bit_tabulate p.width _ i hi
      go false = same (bit m.set i)

  -- ---- the healthy set stays, and marks that fit go on fitting
  pub healthy_after : (s : State) (e : Event) (o : Outcome) (m : Marks) → (marks_after p s e o m).healthy ≡ m.healthy
  unfolding marks_after noted
  healthy_after s e o m = go (eqb (answer_kind o.answer) 4)
    where
      go : (refused : Bool) → (cond refused m (noted p (is_reset s e) s.interrupt.status o.after.interrupt.status m)).healthy ≡ m.healthy
      go true = refl
      go false = refl

  pub healthy_signed : (s : State) (m : Marks) (pin : ℕ) → (sign_off p s m pin).marks.healthy ≡ m.healthy
  unfolding sign_off signed
  healthy_signed s m pin = go (eqb (sign_refused p s m pin) 0)
    where
      go : (taken : Bool) → (cond taken (signed p pin m) m).healthy ≡ m.healthy
      go true = refl
      go false = refl

  pub fit_after : (s : State) (e : Event) (o : Outcome) (m : Marks) → marks_fit p m ≡ true → marks_fit p (marks_after p s e o m) ≡ true
  unfolding marks_after noted
  fit_after s e o m f = go (eqb (answer_kind o.answer) 4)
    where
      go : (refused : Bool) → marks_fit p (cond refused m (noted p (is_reset s e) s.interrupt.status o.after.interrupt.status m)) ≡ true
      go true = f
      go false = fit_of (noted p (is_reset s e) s.interrupt.status o.after.interrupt.status m) (tabulate_lt p.width _) (small_of m f).1

  pub fit_signed : (s : State) (m : Marks) (pin : ℕ) → marks_fit p m ≡ true → marks_fit p (sign_off p s m pin).marks ≡ true
  unfolding sign_off signed
  fit_signed s m pin f = go (eqb (sign_refused p s m pin) 0)
    where
      go : (taken : Bool) → marks_fit p (cond taken (signed p pin m) m) ≡ true
      go true = fit_of (signed p pin m) (tabulate_lt p.width _) (small_of m f).1
      go false = f

  pub fit_new : (healthy : ℕ) → healthy < 2 ^ p.width → marks_fit p (new_marks p healthy) ≡ true
  unfolding new_marks
  fit_new healthy h = fit_of (new_marks p healthy) (tabulate_lt p.width _) h

  pub marked_new : (healthy i : ℕ) → i < p.width → bit (new_marks p healthy).set i ≡ true
  unfolding new_marks
  marked_new healthy i hi = bit_tabulate p.width _ i hi
