-- What sets and clears a loss mark, and what a clear one means: for every part, device and list of events and sign-offs. Assumes nothing.
use mathlib.Core.Path.{◌≡◌, refl, sym, ap, ap₂, subst, ◌∙◌}
use mathlib.Core.Bool.{Bool, true, false, cond, not, ◌&&◌, ◌||◌}
use mathlib.Core.List.{List, [], ◌∷◌, ◌++◌}
use mathlib.Core.Logic.{◌⊎◌, inl, inr}
use Prim.Native.Nat.{ℕ, ◌^◌, ◌<◌}
use borrow.Author.Tests.{eqb-true, eq-eqb, lt-ltb}
use lib.Dec.{eqb, ltb}
use Rattle.bits.specs.Bits.{bit, differs}
use Rattle.bits.proofs.Decide.{clash}
use Rattle.map.specs.Map.{Part}
use Rattle.registers.proofs.Lawful.{Lawful}
use Rattle.device_rules.specs.Device.{Outcome, out, step}
use Rattle.device_rules.specs.Refusals.{event_of, image_fits, refusal, stepped}
use Rattle.device_rules.specs.Answers.{answer_kind}
use Rattle.device_rules.specs.declared.Answer.TheVariants.{Refused}
use Rattle.device_demands.proofs.Keeps.{never_broken}
use Rattle.device_demands.proofs.Runs.{step_taken}
use Rattle.loss_rules.specs.Marks.{is_reset, sets_mark, quiet_and_healthy, marks_fit, marked_step, sign_refused}
use Rattle.loss_rules.proofs.Laws.{marked_after, marked_signed, healthy_after, healthy_signed, fit_new, marked_new}
use Rattle.loss_demands.specs.Watched.{Act, Watched, powered_on, acted, after_all, events_of, marked, status, level, healthy_level, sets_at, NeverSet, QuietThroughout, SignedOff}
use Rattle.loss_demands.specs.Watched.Act.{Event, SignOff}
use Rattle.loss_demands.proofs.Same.{all_fit, same_device}

or_left : (a b : Bool) → (a || b) ≡ false → a ≡ false
or_left true b h = h
or_left false b h = refl

or_right : (a b : Bool) → (a || b) ≡ false → b ≡ false
or_right true b h = clash true refl h
or_right false b h = h

module _ (p : Part) (i : ℕ) (hi : i < p.width) where
  -- ---- one act
  by_event : (x : Watched) (kind arg : ℕ) → marked (acted p x (Event kind arg)) i ≡ (marked x i || sets_at p x (Event kind arg) i)
  unfolding acted sets_at marked_step
  by_event x kind arg = marked_after p x.device (event_of kind arg) _ x.marks i hi

  by_sign_off : (x : Watched) (pin : ℕ) → marked (acted p x (SignOff pin)) i ≡ (marked x i && not (eqb (sign_refused p x.device x.marks pin) 0 && eqb i pin))
  unfolding acted
  by_sign_off x pin = marked_signed p x.device x.marks pin i hi

  -- No device event clears a mark, software reset included.
  pub no_event_clears : (x : Watched) (kind arg : ℕ) → marked x i ≡ true → marked (acted p x (Event kind arg)) i ≡ true
  no_event_clears x kind arg e = by_event x kind arg ∙ ap (λ (m : Bool). m || sets_at p x (Event kind arg) i) e

  or_true : (m : Bool) → (m || true) ≡ true
  or_true true = refl
  or_true false = refl

  -- what sets it, does
  pub set_is_marked : (x : Watched) (kind arg : ℕ) → sets_at p x (Event kind arg) i ≡ true → marked (acted p x (Event kind arg)) i ≡ true
  set_is_marked x kind arg e = by_event x kind arg ∙ ap (λ (t : Bool). marked x i || t) e ∙ or_true (marked x i)

  module _ (x : Watched) (kind arg : ℕ) (taken : eqb (answer_kind (marked_step p x.device x.marks kind arg).answer) 4 ≡ false) where
    -- Every rise of its status bit sets it.
    pub rise_sets : status x i ≡ false → status (acted p x (Event kind arg)) i ≡ true → marked (acted p x (Event kind arg)) i ≡ true
    unfolding sets_at sets_mark
    rise_sets before after = set_is_marked x kind arg (simp (taken, before, after))

    -- Every reset that finds its status bit at 1 sets it.
    pub reset_sets : is_reset x.device (event_of kind arg) ≡ true → status x i ≡ true → marked (acted p x (Event kind arg)) i ≡ true
    unfolding sets_at sets_mark
    reset_sets reset before = set_is_marked x kind arg (simp (taken, before, reset))

  -- ---- a sign-off that is taken finds the pin quiet and healthy
  at_sign_off : (x : Watched) → eqb (sign_refused p x.device x.marks i) 0 ≡ true → (status x i ≡ false) × (level x i ≡ healthy_level x i)
  unfolding sign_refused quiet_and_healthy
  at_sign_off x e = go (image_fits p x.device && marks_fit p x.marks) (ltb i p.width) (status x i) (level x i) (healthy_level x i) e
    where
      go : (fits there s l h : Bool) → eqb (cond fits (cond there (cond (not s && not (differs l h)) 0 13) 2) 3) 0 ≡ true → (s ≡ false) × (l ≡ h)
      go true true false true true e = (refl, refl)
      go true true false false false e = (refl, refl)
      go true true false true false e = clash false e refl
      go true true false false true e = clash false e refl
      go true true true l h e = clash false e refl
      go true false s l h e = clash false e refl
      go false there s l h e = clash false e refl

  sign_off_stays : (x : Watched) (pin : ℕ) → status (acted p x (SignOff pin)) i ≡ status x i
  unfolding acted
  sign_off_stays x pin = refl

  healthy_stays : (x : Watched) (a : Act) → healthy_level (acted p x a) i ≡ healthy_level x i
  unfolding acted marked_step
  healthy_stays x (Event kind arg) = ap (λ (h : ℕ). bit h i) (healthy_after p x.device (event_of kind arg) _ x.marks)
  healthy_stays x (SignOff pin) = ap (λ (h : ℕ). bit h i) (healthy_signed p x.device x.marks pin)

  -- ---- refused, nothing is done: the state stays
  refused_stays : (x : Watched) (kind arg : ℕ) → eqb (answer_kind (marked_step p x.device x.marks kind arg).answer) 4 ≡ true
      → status (acted p x (Event kind arg)) i ≡ status x i
  unfolding acted marked_step stepped
  refused_stays x kind arg e = go (marks_fit p x.marks) (eqb (refusal p x.device kind arg) 0) e
    where
      after : (fits taken : Bool) → Outcome
      after fits taken =
          cond fits (cond taken (step p x.device (event_of kind arg)) (out (Refused (refusal p x.device kind arg)) x.device)) (out (Refused 3) x.device)

      go : (fits taken : Bool) → eqb (answer_kind (after fits taken).answer) 4 ≡ true → bit (after fits taken).after.interrupt.status i ≡ status x i
      go true true e = clash _ e (step_taken p x.device (event_of kind arg))
      go true false e = refl
      go false taken e = refl

  -- where nothing sets the mark, a status bit that is 0 stays 0
  still_quiet : (x : Watched) (a : Act) → sets_at p x a i ≡ false → status x i ≡ false → status (acted p x a) i ≡ false
  unfolding sets_at sets_mark
  still_quiet x (Event kind arg) none quiet = go (eqb (answer_kind (marked_step p x.device x.marks kind arg).answer) 4) refl none
    where
      bare : (r b t : Bool) → b ≡ false → ((not b && t) || (r && b)) ≡ false → t ≡ false
      bare true false t e h = or_left t false h
      bare false false t e h = or_left t false h
      bare r true t e h = clash true refl e

      go : (refused : Bool) → eqb (answer_kind (marked_step p x.device x.marks kind arg).answer) 4 ≡ refused
          → (not refused && sets_mark (is_reset x.device (event_of kind arg)) (status x i) (status (acted p x (Event kind arg)) i)) ≡ false
          → status (acted p x (Event kind arg)) i ≡ false
      go true e h = refused_stays x kind arg e ∙ quiet
      go false e h = bare (is_reset x.device (event_of kind arg)) (status x i) (status (acted p x (Event kind arg)) i) quiet h
  still_quiet x (SignOff pin) none quiet = sign_off_stays x pin ∙ quiet

  quiet_throughout : (acts : List Act) (x : Watched) → status x i ≡ false → NeverSet p x acts i → QuietThroughout p x acts i
  quiet_throughout [] x quiet n = quiet
  quiet_throughout (a ∷ acts) x quiet n = (quiet, quiet_throughout acts (acted p x a) (still_quiet x a n.0 quiet) n.1)

  -- ---- the theorem
  abbrev Clear : Watched → List Act → Type 0
  Clear x acts = ((marked x i ≡ false) × NeverSet p x acts i) ⊎ SignedOff p x acts i

  -- an act before what was signed off
  after_one : (x : Watched) (a : Act) (acts : List Act) → SignedOff p (acted p x a) acts i → SignedOff p x (a ∷ acts) i
  unfolding after_all
  after_one x a acts o = record {
    before = a ∷ o.before;
    since = o.since;
    acts_are = ap (λ (rest : List Act). a ∷ rest) o.acts_are;
    quiet = o.quiet;
    healthy = o.healthy ∙ healthy_stays x a;
    never_set = o.never_set;
    quiet_since = o.quiet_since;
  }

  -- the sign-off itself
  signed_here : (x : Watched) (acts : List Act) → eqb (sign_refused p x.device x.marks i) 0 ≡ true → NeverSet p (acted p x (SignOff i)) acts i → SignedOff p x (SignOff i ∷ acts) i
  unfolding after_all
  signed_here x acts e n =
      let found = at_sign_off x e in
      record {
        before = [];
        since = acts;
        acts_are = refl;
        quiet = found.0;
        healthy = found.1;
        never_set = n;
        quiet_since = quiet_throughout acts (acted p x (SignOff i)) (sign_off_stays x i ∙ found.0) n;
      }

  clear_by : (acts : List Act) (x : Watched) → marked (after_all p x acts) i ≡ false → Clear x acts
  unfolding after_all sets_at
  clear_by [] x e = inl (e, tt)
  clear_by (Event kind arg ∷ acts) x e = go (clear_by acts (acted p x (Event kind arg)) e)
    where
      go : Clear (acted p x (Event kind arg)) acts → Clear x (Event kind arg ∷ acts)
      go (inl (c, n)) =
          let both = sym (by_event x kind arg) ∙ c in
          inl (or_left (marked x i) (sets_at p x (Event kind arg) i) both, (or_right (marked x i) (sets_at p x (Event kind arg) i) both, n))
      go (inr o) = inr (after_one x (Event kind arg) acts o)
  clear_by (SignOff pin ∷ acts) x e = go (clear_by acts (acted p x (SignOff pin)) e)
    where
      here : (m taken its : Bool) → (m && not (taken && its)) ≡ false → (m ≡ false) ⊎ ((taken ≡ true) × (its ≡ true))
      here false taken its h = inl refl
      here true true true h = inr (refl, refl)
      here true true false h = clash true refl h
      here true false its h = clash true refl h

      taken : Bool
      taken = eqb (sign_refused p x.device x.marks pin) 0

      by : NeverSet p (acted p x (SignOff pin)) acts i → (marked x i ≡ false) ⊎ ((taken ≡ true) × (eqb i pin ≡ true)) → Clear x (SignOff pin ∷ acts)
      by n (inl c) = inl (c, (refl, n))
      by n (inr (t, its)) =
          let same : i ≡ pin = eqb-true i pin its in
          inr (subst (λ (j : ℕ). eqb (sign_refused p x.device x.marks j) 0 ≡ true → NeverSet p (acted p x (SignOff j)) acts i → SignedOff p x (SignOff j ∷ acts) i) same (signed_here x acts) t n)

      go : Clear (acted p x (SignOff pin)) acts → Clear x (SignOff pin ∷ acts)
      go (inl (c, n)) = by n (here (marked x i) taken (eqb i pin) (sym (by_sign_off x pin) ∙ c))
      go (inr o) = inr (after_one x (SignOff pin) acts o)

  -- The incident cannot be missed: over any run from the supervisor's power-on, a pin's mark is clear only if the pin was signed off, its status bit 0 and its level the
  -- healthy one at that moment, and since then nothing has set the mark and the status bit has never been 1.
  pub clear_means_signed_off : (choice levels id healthy : ℕ) (acts : List Act)
      → marked (after_all p (powered_on p choice levels id healthy) acts) i ≡ false → SignedOff p (powered_on p choice levels id healthy) acts i
  clear_means_signed_off choice levels id healthy acts e = go (clear_by acts (powered_on p choice levels id healthy) e)
    where
      go : Clear (powered_on p choice levels id healthy) acts → SignedOff p (powered_on p choice levels id healthy) acts i
      go (inl (c, n)) = clash _ (marked_new p healthy i hi) c
      go (inr o) = o

  -- ---- and the other way round
  healthy_through : (acts : List Act) (x : Watched) → healthy_level (after_all p x acts) i ≡ healthy_level x i
  unfolding after_all
  healthy_through [] x = refl
  healthy_through (a ∷ acts) x = healthy_through acts (acted p x a) ∙ healthy_stays x a

  split : (before : List Act) (rest : List Act) (x : Watched) → after_all p x (before ++ rest) ≡ after_all p (after_all p x before) rest
  unfolding after_all
  split [] rest x = refl
  split (a ∷ before) rest x = split before rest (acted p x a)

  -- a clear mark that nothing sets stays clear
  stays_clear : (acts : List Act) (x : Watched) → marked x i ≡ false → NeverSet p x acts i → marked (after_all p x acts) i ≡ false
  unfolding after_all
  stays_clear [] x c n = c
  stays_clear (Event kind arg ∷ acts) x c n =
      stays_clear acts (acted p x (Event kind arg)) (by_event x kind arg ∙ ap₂ (λ (m t : Bool). m || t) c n.0) n.1
  stays_clear (SignOff pin ∷ acts) x c n =
      stays_clear acts (acted p x (SignOff pin))
      (by_sign_off x pin ∙ ap (λ (m : Bool). m && not (eqb (sign_refused p x.device x.marks pin) 0 && eqb i pin)) c) n.1

  -- a quiet and healthy pin is signed off
  signs : (x : Watched) → image_fits p x.device ≡ true → marks_fit p x.marks ≡ true → status x i ≡ false → level x i ≡ healthy_level x i
      → marked (acted p x (SignOff i)) i ≡ false
  unfolding sign_refused quiet_and_healthy
  signs x fits marks-fit quiet healthy =
      by_sign_off x i
      ∙ simp (fits, marks-fit, lt-ltb i p.width hi, quiet, healthy, same (healthy_level x i), eq-eqb i i refl) (gone (marked x i))
    where
      same : (h : Bool) → differs h h ≡ false
      same true = refl
      same false = refl

      gone : (m : Bool) → (m && false) ≡ false
      gone true = refl
      gone false = refl

  pub signed_off_is_clear : Lawful p → (choice levels id healthy : ℕ) → choice < 4 → levels < 2 ^ p.width → id < 2 ^ 24 → healthy < 2 ^ p.width → (acts : List Act)
      → SignedOff p (powered_on p choice levels id healthy) acts i → marked (after_all p (powered_on p choice levels id healthy) acts) i ≡ false
  unfolding after_all
  signed_off_is_clear ok choice levels id healthy hc hl hd hh acts o =
      let x = powered_on p choice levels id healthy in
      let y = after_all p x o.before in
      let fits : image_fits p y.device ≡ true =
      ap (image_fits p) (same_device p choice levels id healthy hh o.before).0 ∙ never_broken p ok choice levels id hc hl hd (events_of o.before) in
      let marks-fit = all_fit p o.before x (fit_new p healthy hh) in
      ap (λ (acts : List Act). marked (after_all p x acts) i) o.acts_are
      ∙ ap (λ (x : Watched). marked x i) (split o.before (SignOff i ∷ o.since) x)
      ∙ stays_clear o.since (acted p y (SignOff i)) (signs y fits marks-fit o.quiet (o.healthy ∙ sym (healthy_through o.before x))) o.never_set
