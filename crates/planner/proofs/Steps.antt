-- Writes of one port, and of one port more: what is laid is what the pin sets say. Assumes nothing.
use mathlib.Core.Path.{◌≡◌, refl, subst, ◌∙◌}
use mathlib.Core.List.{List, ◌++◌}
use Prim.Native.Nat.{ℕ, ◌+◌, ◌*◌, ◌≤◌, ◌<◌}
use native.Mathlib.Numerals.{add-one}
use native.Mathlib.Omega.{arith}
use lib.ListN.{get_or, length}
use Rattle.bits.specs.Bits.{bit}
use Rattle.ports.specs.Ports.{byte_of}
use Rattle.map.specs.Map.{Part, first_of}
use Rattle.map.specs.Map.Kind.{PortKind, PinKind}
use Rattle.planner_bytes.specs.declared.PinSets.{PinSets}
use Rattle.planner_pairs.specs.Pairs.{pair_of, Emitted}
use Rattle.planner_settings.specs.Loaded.{LaidOut}
use Rattle.planner_settings.specs.declared.Layout.{Layout}
use Rattle.planner.specs.Pairwise.{port_pair, turn_pairs, opens_to, close_pairs, closes_to}

-- what a call of `put` promises
abbrev pub Puts : (register was to n r : ℕ) → (before after : List ℕ) → Type 0
Puts register was to n r b c = (out before : List ℕ) → Emitted out n before b → Emitted (out ++ pair_of register was to) r before c

module _ (p : Part) (l : Layout) (d : LaidOut p l) (k : ℕ) where
  pub turned : (x y : PinSets) {a b c e n o r : ℕ} {u v w : List ℕ}
      → a ≡ byte_of k (bit x.output) → b ≡ byte_of k (bit y.output) → Puts (l.output + k) a b n o u v
      → c ≡ byte_of k (bit x.configuration) → e ≡ byte_of k (bit y.configuration) → Puts (l.configuration + k) c e o r v w
      → (out before : List ℕ) → Emitted out n before u → Emitted (turn_pairs p x y k out) r before w
  turned x y {r = r} {w = w} ea eb f ec ee g out before z =
      subst (λ (l : List ℕ). Emitted l r before w)
      (λ i. (out ++ pair_of (d.output_is i + k) (ea i) (eb i)) ++ pair_of (d.configuration_is i + k) (ec i) (ee i))
      (g _ before (f out before z))

  pub flipped : (m g : PinSets) {a b n o : ℕ} {u v : List ℕ} → a ≡ byte_of k (bit m.flip) → b ≡ byte_of k (bit g.flip) → Puts (l.flip + k) a b n o u v
      → (out before : List ℕ) → Emitted out n before u → Emitted (out ++ port_pair p PinKind k m.flip g.flip) o before v
  flipped m g {o = o} {v = v} ea eb f out before z = subst (λ (l : List ℕ). Emitted l o before v) (λ i. out ++ pair_of (d.flip_is i + k) (ea i) (eb i)) (f out before z)

-- the port kinds are the part's, in the setting's byte behind the two groups
pub kinds_turned : (p : Part) (l : Layout) → LaidOut p l → (s g out : List ℕ) {n : ℕ} {before b : List ℕ}
    → Emitted (out ++ pair_of l.kind (get_or s (2 * l.ports) 0) (get_or g (2 * l.ports) 0)) n before b
    → Emitted (out ++ pair_of (first_of p PortKind) (get_or s (2 * p.ports) 0) (get_or g (2 * p.ports) 0)) n before b
kinds_turned p l d s g out {n} {before} {b} z =
    subst (λ (x : List ℕ). Emitted x n before b) (λ i. out ++ pair_of (d.kind_is i) (get_or s (2 * d.ports_is i) 0) (get_or g (2 * d.ports_is i) 0)) z

-- ---- port by port to the middle
pub record Opening (p : Part) (s m : PinSets) (before b : List ℕ) (ports n k : ℕ) : Type 0 where
  pub all : ports ≡ p.ports
  pub below : k ≤ p.ports
  pub few : n ≤ 2 * k
  pub same : length b ≡ length before
  pub laid : Emitted (opens_to p s m k) n before b

module _ (p : Part) (s m : PinSets) (before : List ℕ) where
  pub opening_begins : (ports : ℕ) → ports ≡ p.ports → Opening p s m before before ports 0 0
  opening_begins ports e = record {
    all = e;
    below = omega arith;
    few = omega arith;
    same = refl;
    laid = record { laid = refl; pairs = refl; within = omega arith };
  }

  pub opening_goes : {b c : List ℕ} {ports n k r : ℕ} → Opening p s m before b ports n k → k < p.ports → length c ≡ length b
      → ((out x : List ℕ) → Emitted out n x b → Emitted (turn_pairs p s m k out) r x c) × (r ≤ n + 2) → Opening p s m before c ports r (k + 1)
  opening_goes {c = c} {ports = ports} {n = n} {k = k} {r = r} d h l t = rw (add-one k) (record {
    all = d.all;
    below = omega (arith, h);
    few = omega (arith, d.few, t.1);
    same = l ∙ d.same;
    laid = t.0 _ before d.laid;
  })

  pub opening_ends : {b : List ℕ} {ports n k : ℕ} → Opening p s m before b ports n k → ports ≤ k → Emitted (opens_to p s m p.ports) n before b × (n ≤ 2 * p.ports)
  opening_ends {b} {ports} {n} {k} d h =
      let last : k ≡ p.ports = omega (arith, h, d.all, d.below) in
      (subst (λ (i : ℕ). Emitted (opens_to p s m i) n before b) last d.laid, omega (arith, d.few, last))

-- ---- and on to the goal
pub record Closing (p : Part) (m g : PinSets) (from : ℕ) (entry b : List ℕ) (ports n k : ℕ) : Type 0 where
  pub all : ports ≡ p.ports
  pub below : k ≤ p.ports
  pub few : n ≤ from + 3 * k
  pub same : length b ≡ length entry
  pub laid : (out before : List ℕ) → Emitted out from before entry → Emitted (closes_to p m g out k) n before b

module _ (p : Part) (m g : PinSets) (from : ℕ) (entry : List ℕ) where
  pub closing_begins : (ports : ℕ) → ports ≡ p.ports → Closing p m g from entry entry ports from 0
  closing_begins ports e = record { all = e; below = omega arith; few = omega arith; same = refl; laid = λ out before d. d }

  pub closing_goes : {b c : List ℕ} {ports n k r : ℕ} → Closing p m g from entry b ports n k → k < p.ports → length c ≡ length b
      → ((out x : List ℕ) → Emitted out n x b → Emitted (close_pairs p m g k out) r x c) × (r ≤ n + 3) → Closing p m g from entry c ports r (k + 1)
  closing_goes {c = c} {ports = ports} {n = n} {k = k} {r = r} d h l t = rw (add-one k) (record {
    all = d.all;
    below = omega (arith, h);
    few = omega (arith, d.few, t.1);
    same = l ∙ d.same;
    laid = λ out before e. t.0 _ before (d.laid out before e);
  })

  pub closing_ends : {b : List ℕ} {ports n k : ℕ} → Closing p m g from entry b ports n k → ports ≤ k
      → (out before : List ℕ) → Emitted out from before entry → Emitted (closes_to p m g out p.ports) n before b
  closing_ends {b} {ports} {n} {k} d h out before e =
      let last : k ≡ p.ports = omega (arith, h, d.all, d.below) in
      subst (λ (i : ℕ). Emitted (closes_to p m g out i) n before b) last (d.laid out before e)
