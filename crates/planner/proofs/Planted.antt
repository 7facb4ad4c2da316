-- What the code lays, port by port, is the plan; and the set of stuck pins says whether there is one. Assumes nothing.
use mathlib.Core.Path.{◌≡◌, refl, sym, ap, ap₂, ◌∙◌}
use mathlib.Core.Bool.{Bool, true, false, cond, not}
use mathlib.Core.List.{List, [], ◌∷◌, ◌++◌, append_assoc, append-nil}
use Prim.Native.Nat.{ℕ, zero, suc, ◌+◌, ◌-◌, ◌*◌, ◌/◌, ◌%◌, ◌^◌, ◌≤◌, ◌<◌, min}
use native.Mathlib.Nat.{mod-lt, div-add-mod'}
use native.Mathlib.Omega.{arith}
use borrow.Author.Tests.{ltb-true, ltb-false, ne_eqb}
use lib.Dec.{eqb, ltb}
use lib.ListN.{get_or, length, drop}
use Rattle.bits.specs.Bits.{bit, tabulate}
use Rattle.bits.proofs.Decide.{clash, taut}
use Rattle.bits.proofs.Laws.{tabulated, tabulate_ext, bit_zero, some_bit}
use Rattle.pins.specs.Pin.{drive, is_high, open_drain}
use Rattle.ports.specs.Ports.{byte_of}
use Rattle.map.specs.Map.{Part, first_of}
use Rattle.map.specs.Map.Kind.{Output, Configuration, PortKind, PinKind}
use Rattle.planner_quiet.specs.Settings.{shape_of, Settings, PinBits, Write}
use Rattle.planner_quiet.specs.Order.{Sound, stuck, blocked}
use Rattle.planner_quiet.specs.Quiet.{bits_at}
use Rattle.planner_quiet.specs.Route.{mid_output, mid_configuration, mid_outputs, mid_configurations, needed, plan_of}
use Rattle.planner_quiet.proofs.Blocked.{some_true, some_false}
use Rattle.planner_quiet.proofs.Found.{change, opens, up_to, open_found, kinds_found, close_found}
use Rattle.planner_quiet.proofs.Lift.{in_port_lem}
use Rattle.planner_quiet.proofs.Pin.{bits}
use Rattle.planner_quiet.proofs.Plannable.{number_at, Plannable}
use Rattle.planner_quiet.proofs.Quietly.{few_bits, no_out}
use Rattle.planner_quiet.proofs.Theorems.{bytes}
use Rattle.planner_promise.specs.Promise.{bytes_of}
use Rattle.planner_promise.specs.Answer.{Planted}
use Rattle.planner_bytes.specs.Bytes.{pin_in}
use Rattle.planner_bytes.specs.declared.PinSets.{PinSets}
use Rattle.planner_pairs.specs.Pairs.{pair_of, Emitted}
use Rattle.planner_settings.specs.Loaded.{Loaded}
use Rattle.planner.specs.Halfway.{Halfway}
use Rattle.planner.specs.Pairwise.{opens_to, closes_to}

-- ---- writes as bytes
bytes_append : (us ws : List Write) → bytes_of (us ++ ws) ≡ bytes_of us ++ bytes_of ws
bytes_append [] ws = refl
bytes_append (u ∷ us) ws = ap (λ (l : List ℕ). u.register ∷ u.value ∷ l) (bytes_append us ws)

bytes_length : (ws : List Write) → length (bytes_of ws) ≡ 2 * length ws
bytes_length [] = refl
bytes_length (w ∷ ws) = omega (arith, bytes_length ws)

-- one list more behind others
behind : (us ws : List Write) → bytes_of (us ++ (ws ++ [])) ≡ bytes_of us ++ bytes_of ws
behind us ws = ap (λ (l : List Write). bytes_of (us ++ l)) (append-nil ws) ∙ bytes_append us ws

then : (us vs ws : List Write) → bytes_of (us ++ (vs ++ ws)) ≡ bytes_of ((us ++ vs) ++ ws)
then us vs ws = ap bytes_of (sym (append_assoc us vs ws))

module _ (p : Part) (ok : Plannable p) (start goal : Settings) (ds : Sound (shape_of p) start) (dg : Sound (shape_of p) goal) where
  -- a write that changes its register, as a pair
  pair_of_lem : (i register was v : ℕ) → number_at p i ≡ register → bytes_of (change (shape_of p) i was v) ≡ pair_of register was v
  pair_of_lem i register was v e = go (eqb was v)
    where
      go : (b : Bool) → bytes_of (cond b [] (record { register = number_at p i; value = v } ∷ [])) ≡ cond b [] (register ∷ v ∷ [])
      go true = refl
      go false = ap (λ (r : ℕ). r ∷ v ∷ []) e

  module _ (s g m : PinSets) (ls : Loaded p start s) (lg : Loaded p goal g) (h : Halfway s g m) where
    abbrev n : ℕ
    n = p.ports

    module _ (k : ℕ) (hk : k < p.ports) where
      byte_is_lem : (w i : ℕ) (x : Settings) → Sound (shape_of p) x → i < 3 * n + 1 → ((j : ℕ) → j < 8 → bit w (8 * k + j) ≡ bit (get_or x i 0) j) → byte_of k (bit w) ≡ get_or x i 0
      byte_is_lem w i x d hi f = sym (tabulated 8 (bytes (shape_of p) ok.regular x d i (omega (arith, hi, ok.regular.count))) (λ j hj. sym (f j hj)))

      mid_output_lem : byte_of k (bit m.output) ≡ mid_outputs (shape_of p) start goal k
      mid_output_lem = tabulate_ext 8 (λ j hj. h.outputs (8 * k + j) ∙ ap₂ mid_output (ls.pins k j hk hj) (lg.pins k j hk hj))

      mid_configuration_lem : byte_of k (bit m.configuration) ≡ mid_configurations (shape_of p) start goal k
      mid_configuration_lem = tabulate_ext 8 (λ j hj. h.configurations (8 * k + j) ∙ ap₂ mid_configuration (ls.pins k j hk hj) (lg.pins k j hk hj))

      output_of : (x : Settings) (y : PinSets) → Sound (shape_of p) x → Loaded p x y → byte_of k (bit y.output) ≡ get_or x k 0
      output_of x y d l = byte_is_lem y.output k x d (omega (arith, hk)) (λ j hj. ap (λ (b : PinBits). b.output) (l.pins k j hk hj))

      configuration_of : (x : Settings) (y : PinSets) → Sound (shape_of p) x → Loaded p x y → byte_of k (bit y.configuration) ≡ get_or x (n + k) 0
      configuration_of x y d l = byte_is_lem y.configuration (n + k) x d (omega (arith, hk)) (λ j hj. ap (λ (b : PinBits). b.configuration) (l.pins k j hk hj))

      flip_of : (x : Settings) (y : PinSets) → Sound (shape_of p) x → Loaded p x y → byte_of k (bit y.flip) ≡ get_or x (2 * n + 1 + k) 0
      flip_of x y d l = byte_is_lem y.flip (2 * n + 1 + k) x d (omega (arith, hk)) (λ j hj. ap (λ (b : PinBits). b.pin_kind) (l.pins k j hk hj))

      -- the pairs of port k
      output_pair : (was v a b : ℕ) → a ≡ was → b ≡ v → pair_of (first_of p Output + k) a b ≡ bytes_of (change (shape_of p) k was v)
      output_pair was v a b ea eb = ap₂ (pair_of (first_of p Output + k)) ea eb ∙ sym (pair_of_lem k (first_of p Output + k) was v (ok.at_output k hk))

      configuration_pair : (was v a b : ℕ) → a ≡ was → b ≡ v → pair_of (first_of p Configuration + k) a b ≡ bytes_of (change (shape_of p) (n + k) was v)
      configuration_pair was v a b ea eb = ap₂ (pair_of (first_of p Configuration + k)) ea eb ∙ sym (pair_of_lem (n + k) (first_of p Configuration + k) was v (ok.at_configuration k hk))

      flip_pair : (was v a b : ℕ) → a ≡ was → b ≡ v → pair_of (first_of p PinKind + k) a b ≡ bytes_of (change (shape_of p) (2 * n + 1 + k) was v)
      flip_pair was v a b ea eb = ap₂ (pair_of (first_of p PinKind + k)) ea eb ∙ sym (pair_of_lem (2 * n + 1 + k) (first_of p PinKind + k) was v (ok.at_pin_kinds k hk))

    abbrev opening : ℕ → List Write
    opening k = needed (shape_of p) start (opens (shape_of p) ok.regular start goal ds dg k)

    abbrev closing : ℕ → List Write
    closing k = needed (shape_of p) start (up_to (shape_of p) ok.regular start goal ds dg k)

    opened : (k : ℕ) → k ≤ n → opens_to p s m k ≡ bytes_of (opening k)
    opened zero q = refl
    opened (suc k) q =
        let hk : k < n = omega (arith, q) in
        let a = change (shape_of p) k (get_or start k 0) (mid_outputs (shape_of p) start goal k) in
        let b = change (shape_of p) (n + k) (get_or start (n + k) 0) (mid_configurations (shape_of p) start goal k) in
        (λ t. (opened k (omega (arith, q)) t ++ output_pair k hk _ _ _ _ (output_of k hk start s ds ls) (mid_output_lem k hk) t)
        ++ configuration_pair k hk _ _ _ _ (configuration_of k hk start s ds ls) (mid_configuration_lem k hk) t)
        ∙ ap (λ (l : List ℕ). l ++ bytes_of b) (sym (bytes_append (opening k) a)) ∙ sym (behind (opening k ++ a) b) ∙ sym (then (opening k) a (b ++ []))
        ∙ ap bytes_of (sym (open_found (shape_of p) ok.regular start goal ds dg k hk))

    abbrev turned : List ℕ
    turned = opens_to p s m n ++ pair_of (first_of p PortKind) (get_or start (2 * n) 0) (get_or goal (2 * n) 0)

    closed : (k : ℕ) → k ≤ n → closes_to p m g turned k ≡ bytes_of (closing k)
    closed zero q =
        let a = change (shape_of p) (2 * n) (get_or start (2 * n) 0) (get_or goal (2 * n) 0) in
        ap₂ (λ (x y : List ℕ). x ++ y) (opened n (omega arith)) (sym (pair_of_lem (2 * n) (first_of p PortKind) (get_or start (2 * n) 0) (get_or goal (2 * n) 0) ok.at_kinds))
        ∙ sym (behind (opening n) a) ∙ ap bytes_of (sym (kinds_found (shape_of p) ok.regular start goal ds dg 0 ok.regular.some))
    closed (suc k) q =
        let hk : k < n = omega (arith, q) in
        let i = 2 * n + 1 + k in
        let a = change (shape_of p) i (get_or start i 0) (get_or goal i 0) in
        let b = change (shape_of p) k (mid_outputs (shape_of p) start goal k) (get_or goal k 0) in
        let c = change (shape_of p) (n + k) (mid_configurations (shape_of p) start goal k) (get_or goal (n + k) 0) in
        let flips = ap (λ (x : ℕ). byte_of k (bit x)) h.flips ∙ flip_of k hk start s ds ls in
        (λ t. ((closed k (omega (arith, q)) t ++ flip_pair k hk _ _ _ _ flips (flip_of k hk goal g dg lg) t)
        ++ output_pair k hk _ _ _ _ (mid_output_lem k hk) (output_of k hk goal g dg lg) t)
        ++ configuration_pair k hk _ _ _ _ (mid_configuration_lem k hk) (configuration_of k hk goal g dg lg) t)
        ∙ ap (λ (l : List ℕ). (l ++ bytes_of b) ++ bytes_of c) (sym (bytes_append (closing k) a))
        ∙ ap (λ (l : List ℕ). l ++ bytes_of c) (sym (bytes_append (closing k ++ a) b)) ∙ sym (behind ((closing k ++ a) ++ b) c)
        ∙ sym (then (closing k ++ a) b (c ++ [])) ∙ sym (then (closing k) a (b ++ (c ++ [])))
        ∙ ap bytes_of (sym (close_found (shape_of p) ok.regular start goal ds dg k hk))

    pub planted : (r : ℕ) (before after : List ℕ) → Emitted (closes_to p m g turned n) r before after → Planted p start goal r before after
    unfolding plan_of
    planted r before after e = record {
      count = count;
      bytes = e.laid ∙ ap₂ (λ (l : List ℕ) (k : ℕ). l ++ drop (2 * k) before) all count;
    }
      where
        all : closes_to p m g turned n ≡ bytes_of (plan_of (shape_of p) start goal)
        all = closed n (omega arith)

        count : r ≡ length (plan_of (shape_of p) start goal)
        count = omega (arith, e.pairs, ap length all, bytes_length (plan_of (shape_of p) start goal))

-- ---- the stuck pins
-- a pin with an output of 0 is not stuck
low_free : (cs ps ks og cg pg kg : Bool) → stuck (bits false cs ps ks) (bits og cg pg kg) ≡ false
unfolding drive is_high open_drain
low_free = taut 7 _ _ tt

past_port : (w n i : ℕ) → w ≤ i → min 8 (w - 8 * (i / 8)) ≤ i % 8
past_port w n i h = omega (arith, h, div-add-mod' i 8)

module _ (p : Part) (ok : Plannable p) (start goal : Settings) (ds : Sound (shape_of p) start) (dg : Sound (shape_of p) goal) (s g : PinSets) (ls : Loaded p start s) (lg : Loaded p goal g)
    (r : ℕ) (fits : r < 2 ^ 64) (h : (i : ℕ) → bit r i ≡ stuck (pin_in s i) (pin_in g i)) where
  pin : (x : Settings) (y : PinSets) → Loaded p x y → (i : ℕ) → i / 8 < p.ports → pin_in y i ≡ bits_at p x i
  pin x y l i q =
      let place : i ≡ 8 * (i / 8) + i % 8 = omega (arith, div-add-mod' i 8) in
      ap (pin_in y) place ∙ l.pins (i / 8) (i % 8) q (mod-lt i (omega arith))

  here : (i : ℕ) → i / 8 < p.ports → bit r i ≡ stuck (bits_at p start i) (bits_at p goal i)
  here i q = h i ∙ ap₂ stuck (pin start s ls i q) (pin goal g lg i q)

  none : (i : ℕ) → p.width ≤ i → bit r i ≡ false
  none i q = h i ∙ ap (λ (o : Bool). stuck (bits o x.configuration x.port_kind x.pin_kind) y) low ∙ low_free x.configuration x.port_kind x.pin_kind y.output y.configuration y.port_kind y.pin_kind
    where
      x : PinBits
      x = pin_in s i

      y : PinBits
      y = pin_in g i

      go : (b : Bool) → ltb (i / 8) p.ports ≡ b → x.output ≡ false
      go true e =
          let k = ltb-true (i / 8) p.ports e in
          ap (λ (z : PinBits). z.output) (pin start s ls i k) ∙ no_out (shape_of p) ok.regular start goal ds dg (i / 8) k start ds (i % 8) (past_port p.width p.ports i q)
      go false e = ls.none i (omega (arith, ltb-false (i / 8) p.ports e, div-add-mod' i 8))

      low : x.output ≡ false
      low = go (ltb (i / 8) p.ports) refl

  small : r < 2 ^ p.width
  small = few_bits 64 p.width r fits (λ i q l. none i l)

  in_ports : (i : ℕ) → i < p.width → i / 8 < p.ports
  in_ports i q = omega (arith, q, ok.mapped.narrow, div-add-mod' i 8)

  pub stuck_set : r ≡ tabulate p.width (λ i. stuck (bits_at p start i) (bits_at p goal i))
  stuck_set = tabulated p.width small (λ i q. here i (in_ports i q))

  pub stuck_some : (r ≡ 0 → ⊥) → blocked (shape_of p) start goal ≡ true
  stuck_some z = go (blocked (shape_of p) start goal) refl
    where
      go : (b : Bool) → blocked (shape_of p) start goal ≡ b → blocked (shape_of p) start goal ≡ true
      go true e = e
      go false e =
          let x = some_true p.width (λ i. bit r i) (sym (some_bit p.width small) ∙ ap (λ (b : Bool). not b) (ne_eqb r 0 z)) in
          let i = x.0 in
          let k = in_ports i x.1 in
          clash (bit r i) x.2 (here i k ∙ some_false ((shape_of p).width (i / 8)) _ (some_false p.ports _ e (i / 8) k) (i % 8) (in_port_lem p.width i x.1))

  pub stuck_none : r ≡ 0 → blocked (shape_of p) start goal ≡ false
  stuck_none z = go (blocked (shape_of p) start goal) refl
    where
      go : (b : Bool) → blocked (shape_of p) start goal ≡ b → blocked (shape_of p) start goal ≡ false
      go false e = e
      go true e =
          let x = some_true p.ports _ e in
          let y = some_true ((shape_of p).width x.0) _ x.2 in
          let k = x.0 in
          let j = y.0 in
          let eight : j < 8 = omega (arith, y.1, ok.regular.narrow k) in
          clash (bit r (8 * k + j)) (h (8 * k + j) ∙ ap₂ stuck (ls.pins k j x.1 eight) (lg.pins k j x.1 eight) ∙ y.2) (ap (λ (w : ℕ). bit w (8 * k + j)) z ∙ bit_zero (8 * k + j))
