-- One pin along the plan. Assumes nothing.
use mathlib.Core.Path.{◌≡◌, refl, ap, ◌∙◌}
use mathlib.Core.Bool.{Bool, true, false, ◌&&◌, ◌||◌, and_self_left}
use mathlib.Core.List.{List, [], ◌∷◌}
use Prim.Native.Nat.{ℕ, zero, suc}
use Rattle.bits.proofs.Decide.{taut}
use Rattle.pins.specs.Pin.{Drive, drive, is_high, open_drain}
use Rattle.planner_quiet.specs.Settings.{PinBits, drive_in}
use Rattle.planner_quiet.specs.Order.{stuck}
use Rattle.planner_quiet.specs.Route.{mid_configuration, mid_output}
use Rattle.planner_quiet.proofs.Blocked.{clash}
use Rattle.planner_quiet.proofs.Calm.{ok, turned, fine, again}

abbrev pub times : ℕ → PinBits → List PinBits → List PinBits
times zero b bs = bs
times (suc m) b bs = b ∷ times m b bs

abbrev pub bits : (output configuration port_kind pin_kind : Bool) → PinBits
bits output configuration port_kind pin_kind = record { output = output; configuration = configuration; port_kind = port_kind; pin_kind = pin_kind }

-- the states of a pin along the whole route: it waits while a writes go to ports before its own, b to those after it, c and d once more;
-- in the middle its output and configuration bits are u and v
abbrev pub walk_by : (a b c d : ℕ) (s g : PinBits) (u v : Bool) → List PinBits
walk_by a b c d s g u v =
    times (suc a) s
    (bits u s.configuration s.port_kind s.pin_kind
    ∷ times (suc b) (bits u v s.port_kind s.pin_kind)
    (times (suc c) (bits u v g.port_kind s.pin_kind)
    (bits u v g.port_kind g.pin_kind
    ∷ bits g.output v g.port_kind g.pin_kind
    ∷ times (suc d) g [])))

abbrev pub walk : (a b c d : ℕ) (s g : PinBits) → List PinBits
walk a b c d s g = walk_by a b c d s g (mid_output s g) (mid_configuration s g)

abbrev pub walks : (a b c d : ℕ) (s g : PinBits) → Bool
walks a b c d s g = fine (drive_in s) (drive_in g) (s.configuration && g.configuration) false (walk a b c d s g)

-- the law of a part with one port: 256 cases
alone : (os cs ps ks og cg pg kg : Bool) → (stuck (bits os cs ps ks) (bits og cg pg kg) || walks 0 0 0 0 (bits os cs ps ks) (bits og cg pg kg)) ≡ true
unfolding drive is_high open_drain mid_configuration mid_output
alone = taut 8 _ _ tt

-- two lists of states that the test does not tell apart
record Like (x y : Drive) (keep : Bool) (bs cs : List PinBits) : Type 0 where
  tests : (t : Bool) → fine x y keep t bs ≡ fine x y keep t cs

module _ {x y : Drive} {keep : Bool} where
  under : (b : PinBits) {bs cs : List PinBits} → Like x y keep bs cs → Like x y keep (b ∷ bs) (b ∷ cs)
  under b e = record { tests = λ t. ap (λ (u : Bool). ok y keep (turned x t b) b && u) (e.tests (turned x t b)) }

  -- to wait makes no difference
  wait : (m : ℕ) (b : PinBits) {bs cs : List PinBits} → Like x y keep bs cs → Like x y keep (times (suc m) b bs) (b ∷ cs)
  wait zero b e = under b e
  wait (suc m) b {bs} {cs} e = record { tests = λ t. twice b (times m b bs) t ∙ (wait m b e).tests t }
    where
      twice : (b : PinBits) (bs : List PinBits) (t : Bool) → fine x y keep t (b ∷ b ∷ bs) ≡ fine x y keep t (b ∷ bs)
      twice b bs t =
          ap (λ (u : Bool). ok y keep (turned x t b) b && u) (again x y keep t b bs)
          ∙ and_self_left (ok y keep (turned x t b) b) (fine x y keep (turned x t b) bs)

  end : Like x y keep [] []
  end = record { tests = λ t. refl }

or_left : (a b : Bool) → (a || b) ≡ true → a ≡ false → b ≡ true
or_left true b e h = absurd (clash refl h)
or_left false b e h = e

-- the law of a part with any number of ports
pub steady : (a b c d : ℕ) (s g : PinBits) → stuck s g ≡ false → walks a b c d s g ≡ true
steady a b c d s g h =
    shorter.tests false
    ∙ or_left (stuck s g) (walks 0 0 0 0 s g)
    (alone s.output s.configuration s.port_kind s.pin_kind g.output g.configuration g.port_kind g.pin_kind) h
  where
    shorter : Like (drive_in s) (drive_in g) (s.configuration && g.configuration) (walk a b c d s g) (walk 0 0 0 0 s g)
    shorter = wait a s (under _ (wait b _ (wait c _ (under _ (under _ (wait d g end))))))

-- ---- a pin whose bits are the same at both ends is left as it is
pub same_config : (o c p k : Bool) → mid_configuration (bits o c p k) (bits o c p k) ≡ c
unfolding mid_configuration
same_config = taut 4 _ _ tt

pub same_output : (o c p k : Bool) → mid_output (bits o c p k) (bits o c p k) ≡ o
unfolding mid_output mid_configuration
same_output = taut 4 _ _ tt

-- ---- and a place of a port that is no pin, whose bits are 0 at both ends, stays 0
pub no_config : (ps ks pg kg : Bool) → mid_configuration (bits false false ps ks) (bits false false pg kg) ≡ false
unfolding mid_configuration
no_config = taut 4 _ _ tt

pub no_output : (c p k : Bool) (g : PinBits) → mid_output (bits false c p k) g ≡ false
unfolding mid_output
no_output c p k g = refl
