-- The writes over the bus: sent as transactions to the device's address, from any bus state, a list does what its writes do, with its data bytes and at no other
-- moment; so a quiet list is quiet over the bus. Assumes nothing.
use mathlib.Core.Path.{◌≡◌, refl, sym, ap, ap₂, subst, ◌∙◌}
use mathlib.Core.Logic.{inl, inr, ⊎_elim}
use mathlib.Core.Bool.{Bool, true, false, not}
use mathlib.Core.List.{List, [], ◌∷◌, ◌++◌}
use Prim.Native.Nat.{ℕ, zero, suc, ◌+◌, ◌/◌, ◌<◌}
use native.Mathlib.Omega.{arith}
use lib.Dec.{eqb}
use lib.ListN.{take}
use borrow.Author.Tests.{not-true, eqb-true, eqb-false}
use Rattle.map.specs.Map.{Part, reserved, walked}
use Rattle.registers.specs.Registers.{Core, written}
use Rattle.device_rules.specs.Device.{State, goes, number as number_of}
use Rattle.device_rules.specs.Device.Bus.{Idle, Chosen}
use Rattle.device_rules.specs.declared.Answer.{Answer}
use Rattle.device_rules.specs.declared.Answer.TheVariants.{Nothing, Ack}
use Rattle.device_rules.specs.Refusals.{stepped}
use Rattle.map.proofs.Onward.{known_small}
use Rattle.registers.proofs.Lawful.{Lawful}
use Rattle.device_demands.specs.Run.{Asked, after, answers}
use Rattle.device_demands.specs.Transactions.{rightly, START, sent, to_write, number_in, mode_in, write_over, written_from}
use Rattle.device_demands.proofs.Keeps.{WellFormed, run_keeps}
use Rattle.device_demands.proofs.Transacting.{on, ended, opened, start, to_write_lem, filling, command, fills, data_byte, bus_writes, bus_writes_answers, clear_number, clear_mode}
use Rattle.planner_quiet.specs.Settings.{Settings, Write}
use Rattle.planner_quiet.specs.Quiet.{Still, Quiet, Formed, writes, after_first, IsPlanned, Listed, settings_of, drive_at, input_at, status_at}
use Rattle.planner_overbus.specs.OverBus.{over_bus, after_events, all_taken, QuietOverBus}
use Rattle.planner_quiet.proofs.Plannable.{Plannable, of_each}

module _ (p : Part) (law : Lawful p) (ok : Plannable p) where
  -- a run of two lists is the second from where the first leads
  in_turn_lem : (s : State) (es fs : List Asked) → after p s (es ++ fs) ≡ after p (after p s es) fs
  unfolding after
  in_turn_lem s [] fs = refl
  in_turn_lem s (e ∷ es) fs = in_turn_lem (stepped p s e.kind e.arg).after es fs

  answers_in_turn : (s : State) (es fs : List Asked) → answers p s (es ++ fs) ≡ answers p s es ++ answers p (after p s es) fs
  unfolding after answers
  answers_in_turn s [] fs = refl
  answers_in_turn s (e ∷ es) fs = ap (λ (l : List Answer). (stepped p s e.kind e.arg).answer ∷ l) (answers_in_turn (stepped p s e.kind e.arg).after es fs)

  -- none of a setting's registers is reserved
  planned_known : (r : ℕ) → IsPlanned p r → reserved p r ≡ false
  planned_known r h = not-true (reserved p r) (of_each p ok r h (λ n. not (reserved p n)) ok.known)

  none : {A : Type 0} (t : ℕ) → take {A = A} t [] ≡ []
  none zero = refl
  none (suc t) = refl

  -- ---- one write's transaction
  module _ (s : State) (g : WellFormed p s) (w : Write) (h : IsPlanned p w.register) (v : w.value < 256) where
    -- the device after it
    abbrev pub next : State
    next = after p s (write_over s.choice w.register w.value)

    abbrev n : ℕ
    n = w.register

    known : reserved p n ≡ false
    known = planned_known n h

    -- its command has bit 7 clear
    number : number_in n ≡ n
    number = clear_number p n known

    commanded : reserved p (number_in n) ≡ false
    commanded = ap (reserved p) number ∙ known

    small : n < 256
    small = let l = known_small p n known in omega arith

    over_it : after p s (write_over s.choice n w.value)
        ≡ rightly p (written_from p (mode_in n) s.regs (number_in n) (w.value ∷ [])) (walked p (mode_in n) (number_in n) 1) (mode_in n) (number_of Idle) s.choice s.id
    over_it = bus_writes p law s g n small commanded (w.value ∷ []) (v, tt)

    pub kept : WellFormed p next
    kept = run_keeps p law s g (write_over s.choice w.register w.value)

    pub done : next.regs ≡ written p s.regs w.register w.value
    unfolding written_from
    done = ap (λ (x : State). x.regs) over_it ∙ ap (λ (k : ℕ). written p s.regs k w.value) number

    pub there : next.choice ≡ s.choice
    there = ap (λ (x : State). x.choice) over_it

    pub mode_0 : next.mode ≡ 0
    mode_0 = ap (λ (x : State). x.mode) over_it ∙ clear_mode p n known

    -- what follows it goes on from there
    pub then_on : (rest : ℕ → List Asked) → after p s (write_over s.choice w.register w.value ++ rest s.choice) ≡ after p next (rest next.choice)
    then_on rest = in_turn_lem s (write_over s.choice w.register w.value) (rest s.choice) ∙ ap (λ (c : ℕ). after p next (rest c)) (sym there)

    pub answers_on : (rest : ℕ → List Asked)
        → answers p s (write_over s.choice w.register w.value ++ rest s.choice) ≡ Nothing ∷ Ack ∷ Ack ∷ Ack ∷ Nothing ∷ answers p next (rest next.choice)
    answers_on rest =
        answers_in_turn s (write_over s.choice w.register w.value) (rest s.choice)
        ∙ ap₂ (λ (a b : List Answer). a ++ b) (bus_writes_answers p law s g n small commanded (w.value ∷ []) (v, tt)) (ap (λ (c : ℕ). answers p next (rest c)) (sym there))

    -- in the middle of it: nothing before the data byte, all of it then
    abbrev first : ℕ → Core
    first m = (after p s (take m (write_over s.choice w.register w.value))).regs

    pub at_0 : first 0 ≡ s.regs
    at_0 = ap (λ (x : State). x.regs) (ended p s)

    pub at_1 : first 1 ≡ s.regs
    at_1 = ap (λ (x : State). x.regs) (on p s START [] _ (start p law s g) ∙ ended p _)

    pub at_2 : first 2 ≡ s.regs
    at_2 = ap (λ (x : State). x.regs) (on p s START _ _ (start p law s g) ∙ on p (opened s) (to_write s.choice) [] _ (to_write_lem p law s g) ∙ ended p _)

    pub at_3 : first 3 ≡ s.regs
    at_3 =
        ap (λ (x : State). x.regs)
        (on p s START _ _ (start p law s g) ∙ on p (opened s) (to_write s.choice) _ _ (to_write_lem p law s g) ∙ on p (goes s Chosen) (sent w.register) [] _ (command p law s g n small commanded) ∙ ended p _)

    pub at_4 : first 4 ≡ written p s.regs w.register w.value
    at_4 =
        ap (λ (x : State). x.regs)
        (on p s START _ _ (start p law s g) ∙ on p (opened s) (to_write s.choice) _ _ (to_write_lem p law s g) ∙ on p (goes s Chosen) (sent w.register) _ _ (command p law s g n small commanded)
        ∙ on p (filling p law s g w.register) (sent w.value) [] _ (data_byte p law (filling p law s g w.register) (fills p law s g n small commanded) refl w.value v) ∙ ended p _)
        ∙ ap (λ (k : ℕ). written p s.regs k w.value) number

  -- ---- the list: registers and pins after the transactions are those after the writes
  over_bus_lem : (s : State) → WellFormed p s → (ws : List Write) → Listed p ws → (after p s (over_bus s.choice ws)).regs ≡ writes p s.regs ws
  over_bus_lem s g [] l = ap (λ (x : State). x.regs) (ended p s)
  over_bus_lem s g (w ∷ ws) l =
      ap (λ (x : State). x.regs) (then_on s g w l.0 l.1 (λ c. over_bus c ws))
      ∙ over_bus_lem (next s g w l.0 l.1) (kept s g w l.0 l.1) ws l.2 ∙ ap (λ (r : Core). writes p r ws) (done s g w l.0 l.1)

  over_bus_answers : (s : State) → WellFormed p s → (ws : List Write) → Listed p ws → answers p s (over_bus s.choice ws) ≡ all_taken ws
  unfolding answers
  over_bus_answers s g [] l = refl
  over_bus_answers s g (w ∷ ws) l =
      answers_on s g w l.0 l.1 (λ c. over_bus c ws)
      ∙ ap (λ (a : List Answer). Nothing ∷ Ack ∷ Ack ∷ Ack ∷ Nothing ∷ a) (over_bus_answers (next s g w l.0 l.1) (kept s g w l.0 l.1) ws l.2)

  -- a list that is not empty leaves mode 0: no command of it has bit 7
  mode_left : (s : State) → WellFormed p s → (w : Write) (ws : List Write) → Listed p (w ∷ ws) → (after p s (over_bus s.choice (w ∷ ws))).mode ≡ 0
  mode_left s g w [] l = ap (λ (x : State). x.mode) (then_on s g w l.0 l.1 (λ c. []) ∙ ended p _) ∙ mode_0 s g w l.0 l.1
  mode_left s g w (v ∷ ws) l =
      ap (λ (x : State). x.mode) (then_on s g w l.0 l.1 (λ c. over_bus c (v ∷ ws)))
      ∙ mode_left (next s g w l.0 l.1) (kept s g w l.0 l.1) v ws l.2

  five : (m : ℕ) → (suc (suc (suc (suc (suc m)))) + 1) / 5 ≡ suc ((m + 1) / 5)
  five m = omega arith

  -- after the first m events of the transactions: as after the first (m + 1) / 5 writes
  pub over_bus_throughout : (s : State) → WellFormed p s → (ws : List Write) → Listed p ws → (m : ℕ) → after_events p s ws m ≡ after_first p s.regs ws ((m + 1) / 5)
  over_bus_throughout s g [] l m =
      ap (λ (es : List Asked). (after p s es).regs) (none m) ∙ ap (λ (x : State). x.regs) (ended p s)
      ∙ sym (ap (λ (ws : List Write). writes p s.regs ws) (none ((m + 1) / 5)))
  over_bus_throughout s g (w ∷ ws) l zero = at_0 s g w l.0 l.1
  over_bus_throughout s g (w ∷ ws) l (suc zero) = at_1 s g w l.0 l.1
  over_bus_throughout s g (w ∷ ws) l (suc (suc zero)) = at_2 s g w l.0 l.1
  over_bus_throughout s g (w ∷ ws) l (suc (suc (suc zero))) = at_3 s g w l.0 l.1
  over_bus_throughout s g (w ∷ ws) l (suc (suc (suc (suc zero)))) = at_4 s g w l.0 l.1
  over_bus_throughout s g (w ∷ ws) l (suc (suc (suc (suc (suc m))))) =
      ap (λ (x : State). x.regs) (then_on s g w l.0 l.1 (λ c. take m (over_bus c ws)))
      ∙ over_bus_throughout (next s g w l.0 l.1) (kept s g w l.0 l.1) ws l.2 m
      ∙ ap (λ (r : Core). after_first p r ws ((m + 1) / 5)) (done s g w l.0 l.1)
      ∙ ap (λ (n : ℕ). after_first p s.regs (w ∷ ws) n) (sym (five m))

  -- ---- a course that takes its next step only at every fifth moment is as still
  module _ (slow course : ℕ → Core) (goal : Settings) (i : ℕ) (follows : (m : ℕ) → slow m ≡ course ((m + 1) / 5)) where
    drives : (m : ℕ) → drive_at p (slow m) i ≡ drive_at p (course ((m + 1) / 5)) i
    drives m = ap (λ (r : Core). drive_at p r i) (follows m)

    -- where the drive changes, a step was taken
    step_taken : (m : ℕ) → (drive_at p (slow m) i ≡ drive_at p (slow (suc m)) i → ⊥) → (suc m + 1) / 5 ≡ suc ((m + 1) / 5)
    step_taken m change = go (eqb ((suc m + 1) / 5) ((m + 1) / 5)) refl
      where
        go : (b : Bool) → eqb ((suc m + 1) / 5) ((m + 1) / 5) ≡ b → (suc m + 1) / 5 ≡ suc ((m + 1) / 5)
        go true e = absurd (change (drives m ∙ ap (λ (n : ℕ). drive_at p (course n) i) (sym (eqb-true ((suc m + 1) / 5) ((m + 1) / 5) e)) ∙ sym (drives (suc m))))
        go false e = let z = eqb-false ((suc m + 1) / 5) ((m + 1) / 5) e in omega (arith, z)

    changes : (m : ℕ) → (drive_at p (slow m) i ≡ drive_at p (slow (suc m)) i → ⊥) → drive_at p (course ((m + 1) / 5)) i ≡ drive_at p (course (suc ((m + 1) / 5))) i → ⊥
    changes m change e = change (drives m ∙ e ∙ ap (λ (n : ℕ). drive_at p (course n) i) (sym (step_taken m change)) ∙ sym (drives (suc m)))

    same_moment : (a b : ℕ) → (suc a + 1) / 5 ≡ suc ((a + 1) / 5) → (suc b + 1) / 5 ≡ suc ((b + 1) / 5) → (a + 1) / 5 ≡ (b + 1) / 5 → a ≡ b
    same_moment a b x y z = omega (arith, x, y, z)

    pub still_slowly : Still p course goal i → Still p slow goal i
    still_slowly q = record {
      either = λ m. ⊎_elim (λ e. inl (drives m ∙ e ∙ sym (drives 0))) (λ e. inr (drives m ∙ e)) (q.either ((m + 1) / 5));
      once = λ a b x y. same_moment a b (step_taken a x) (step_taken b y) (q.once ((a + 1) / 5) ((b + 1) / 5) (changes a x) (changes b y));
      input = λ x y m. (
          let k = q.input (ap (λ (r : Core). input_at p r i) (sym (follows 0)) ∙ x) y ((m + 1) / 5) in (
            ap (λ (r : Core). input_at p r i) (follows m) ∙ k.0,
            ap (λ (r : Core). status_at p r i) (follows m) ∙ k.1 ∙ sym (ap (λ (r : Core). status_at p r i) (follows 0)),
          ));
    }

  -- a well-formed state's registers and pins are formed
  formed : (s : State) → WellFormed p s → Formed p s.regs
  formed s g = record { full = g.full; fits = g.sound.file_fits_lem; within = g.sound.within }

  -- a quiet list is quiet over the bus, on every well-formed device at the start, at every moment
  pub quiet_over_bus : (s : State) → WellFormed p s → (start goal : Settings) → settings_of p s.regs ≡ start → (ws : List Write) → Listed p ws → Quiet p start goal ws → QuietOverBus p s goal ws
  quiet_over_bus s g start goal e ws l quiet =
      let q = quiet s.regs (formed s g) e in
      record {
        taken = over_bus_answers s g ws l;
        mode_0 = λ w rest z. ap (λ (ws : List Write). (after p s (over_bus s.choice ws)).mode) z ∙ mode_left s g w rest (subst (Listed p) z l);
        reached = ap (settings_of p) (over_bus_lem s g ws l) ∙ q.reached;
        still = λ i h. still_slowly (after_events p s ws) (after_first p s.regs ws) goal i (over_bus_throughout s g ws l) (q.still i h);
      }
