-- The whole route of a regular shape: it leads to the goal, each write is a byte to one of the registers, and each pin walks. Assumes nothing.
use mathlib.Core.Path.{◌≡◌, refl, sym, ap, ap₂, subst, ◌∙◌}
use mathlib.Core.Bool.{Bool, true, false, ◌&&◌}
use mathlib.Core.List.{List, [], ◌∷◌, ◌++◌, append_assoc, append-nil}
use Prim.Native.Nat.{ℕ, zero, suc, ◌+◌, ◌-◌, ◌*◌, ◌%◌, ◌^◌, ◌≤◌, ◌<◌}
use native.Mathlib.Nat.{mod-le, mod-lt, zero-mul, suc-mul}
use native.Mathlib.Omega.{arith}
use borrow.Author.Tests.{ltb-true, ltb-false}
use lib.Dec.{ltb}
use lib.ListN.{get_or, length, length-append, length-set}
use lib.Pow.{pow_pos}
use lib.Seq.{ext_get_or}
use Rattle.bits.specs.Bits.{bit}
use Rattle.bits.proofs.Laws.{bit_ext, bit_high, bit_mod, bit_tabulate, tabulate_lt}
use Rattle.planner_quiet.specs.Settings.{Shape, Settings, PinBits, bits_of, drive_in, drive_of, Write, put, run}
use Rattle.planner_quiet.specs.Order.{Sound, stuck}
use Rattle.planner_quiet.specs.Route.{mid_output, mid_configuration, mid_outputs, mid_configurations, per_port, write_at, opening, closing, to_goal, route}
use Rattle.planner_quiet.proofs.Along.{Regular, Four, four_of, end, Apart, other, waits, to_output, to_configuration, to_kinds, to_pin_kinds, before, parted}
use Rattle.planner_quiet.proofs.Calm.{fine, later, Fine}
use Rattle.planner_quiet.proofs.Needed.{All}
use Rattle.planner_quiet.proofs.Pin.{bits, walk_by, steady, no_config, no_output}

-- a number is as small as its bits say
pub few_bits : (n w x : ℕ) → x < 2 ^ n → ((i : ℕ) → i < n → w ≤ i → bit x i ≡ false) → x < 2 ^ w
few_bits n w x h none = subst (λ (y : ℕ). y < 2 ^ w) (sym same) (mod-lt x (pow_pos w))
  where
    go : (b : Bool) {i : ℕ} → ltb i w ≡ b → i < n → bit x i ≡ bit (x % 2 ^ w) i
    go true {i} e q = sym (bit_mod w x i (ltb-true i w e))
    go false {i} e q =
        let l : w ≤ i = ltb-false i w e in
        none i q l ∙ sym (bit_high w (x % 2 ^ w) i (mod-lt x (pow_pos w)) l)

    same : x ≡ x % 2 ^ w
    same = bit_ext n x (x % 2 ^ w) h (omega (arith, mod-le x (2 ^ w), h)) (λ i q. go (ltb i w) refl q)

pub run_length : (p : Shape) (s : Settings) (ws : List Write) → length (run p s ws) ≡ length s
run_length p s [] = refl
run_length p s (w ∷ ws) = run_length p (put p s w) ws ∙ length-set s _ _

module _ (p : Shape) (ok : Regular p) (start goal : Settings) (ds : Sound p start) (dg : Sound p goal) where
  -- ---- what is written fits
  module _ (k : ℕ) (hk : k < p.ports) where
    pub fits_output : (s : Settings) → Sound p s → get_or s k 0 < 2 ^ p.width k
    fits_output s d = subst (λ (n : ℕ). get_or s k 0 < 2 ^ n) (ok.room_output k hk) (d.fits k (omega (arith, ok.count, hk)))

    pub fits_configuration : (s : Settings) → Sound p s → get_or s (p.ports + k) 0 < 2 ^ p.width k
    fits_configuration s d = subst (λ (n : ℕ). get_or s (p.ports + k) 0 < 2 ^ n) (ok.room_configuration k hk) (d.fits (p.ports + k) (omega (arith, ok.count, hk)))

    pub fits_pin_kinds : (s : Settings) → Sound p s → get_or s (2 * p.ports + 1 + k) 0 < 2 ^ p.width k
    fits_pin_kinds s d =
        subst (λ (n : ℕ). get_or s (2 * p.ports + 1 + k) 0 < 2 ^ n) (ok.room_pin_kind k hk) (d.fits (2 * p.ports + 1 + k) (omega (arith, ok.count, hk)))

    -- a place that is no pin has no bit
    pub no_out : (s : Settings) → Sound p s → (j : ℕ) → p.width k ≤ j → (bits_of p s k j).output ≡ false
    no_out s d j h = bit_high (p.width k) (get_or s k 0) j (fits_output s d) h

    no_con : (s : Settings) → Sound p s → (j : ℕ) → p.width k ≤ j → (bits_of p s k j).configuration ≡ false
    no_con s d j h = bit_high (p.width k) (get_or s (p.ports + k) 0) j (fits_configuration s d) h

    pub mid_output_fits : mid_outputs p start goal k < 2 ^ p.width k
    mid_output_fits = few_bits 8 (p.width k) (mid_outputs p start goal k) (tabulate_lt 8 _) (λ j q h.
        let x = bits_of p start k j in
        bit_tabulate 8 _ j q ∙ ap (λ (o : Bool). mid_output (bits o x.configuration x.port_kind x.pin_kind) (bits_of p goal k j)) (no_out start ds j h)
        ∙ no_output x.configuration x.port_kind x.pin_kind (bits_of p goal k j))

    pub mid_configuration_fits : mid_configurations p start goal k < 2 ^ p.width k
    mid_configuration_fits = few_bits 8 (p.width k) (mid_configurations p start goal k) (tabulate_lt 8 _) (λ j q h.
        let x = bits_of p start k j in
        let y = bits_of p goal k j in
        bit_tabulate 8 _ j q ∙ (λ t. mid_configuration (bits (no_out start ds j h t) (no_con start ds j h t) x.port_kind x.pin_kind) (bits (no_out goal dg j h t) (no_con goal dg j h t) y.port_kind y.pin_kind))
        ∙ no_config x.port_kind x.pin_kind y.port_kind y.pin_kind)

  pub fits_kinds : get_or goal (2 * p.ports) 0 < 2 ^ p.ports
  fits_kinds = subst (λ (n : ℕ). get_or goal (2 * p.ports) 0 < 2 ^ n) ok.room_kinds (dg.fits (2 * p.ports) (omega (arith, ok.count)))

  -- ---- port k along the route
  module _ (k j : ℕ) (hk : k < p.ports) where
    pub open_apart : (l : ℕ) → l < p.ports → (k ≡ l → ⊥) → Apart p ok k j hk (opening p start goal l)
    open_apart l h o = (
      other p ok k j hk l (omega (arith, ok.count, h)) (o, λ e. omega (arith, e, h), λ e. omega (arith, e, h), λ e. omega (arith, e, h)),
      (
        other p ok k j hk (p.ports + l) (omega (arith, ok.count, h))
            (λ e. omega (arith, e, hk), λ e. o (omega (arith, e)), λ e. omega (arith, e, h), λ e. omega (arith, e, h)),
        tt,
      ),
    )

    pub close_apart : (l : ℕ) → l < p.ports → (k ≡ l → ⊥) → Apart p ok k j hk (closing p goal l)
    close_apart l h o = (
      other p ok k j hk (2 * p.ports + 1 + l) (omega (arith, ok.count, h))
          (λ e. omega (arith, e, hk), λ e. omega (arith, e, hk), λ e. omega (arith, e), λ e. o (omega (arith, e))),
      (
        other p ok k j hk l (omega (arith, ok.count, h)) (o, λ e. omega (arith, e, h), λ e. omega (arith, e, h), λ e. omega (arith, e, h)),
        (
          other p ok k j hk (p.ports + l) (omega (arith, ok.count, h))
              (λ e. omega (arith, e, hk), λ e. o (omega (arith, e)), λ e. omega (arith, e, h), λ e. omega (arith, e, h)),
          tt,
        ),
      ),
    )

    abbrev opened : List Write
    opened = (parted p ok k j hk (opening p start goal) open_apart p.ports hk (omega arith)).rest

    abbrev closed : List Write
    closed = (parted p ok k j hk (closing p goal) close_apart p.ports hk (omega arith)).rest

    abbrev u : ℕ
    u = mid_outputs p start goal k

    abbrev v : ℕ
    v = mid_configurations p start goal k

    -- the route, parted at the port's own writes
    abbrev in_turn : List Write
    in_turn =
        per_port k (opening p start goal)
        ++ (opening p start goal k ++ (opened ++ to_goal p goal (2 * p.ports) ∷ (per_port k (closing p goal) ++ (closing p goal k ++ (closed ++ [])))))

    in_turn_lem : route p start goal ≡ in_turn
    in_turn_lem =
        let a = parted p ok k j hk (opening p start goal) open_apart p.ports hk (omega arith) in
        let b = parted p ok k j hk (closing p goal) close_apart p.ports hk (omega arith) in
        let o = opening p start goal k in
        let c = closing p goal k in
        let tail = to_goal p goal (2 * p.ports) ∷ (per_port k (closing p goal) ++ (c ++ (closed ++ []))) in
        ap₂ (λ (x y : List Write). x ++ to_goal p goal (2 * p.ports) ∷ y) a.parts
        (b.parts ∙ ap (λ (x : List Write). per_port k (closing p goal) ++ (c ++ x)) (sym (append-nil closed)))
        ∙ append_assoc (per_port k (opening p start goal)) (o ++ opened) tail
        ∙ ap (λ (x : List Write). per_port k (opening p start goal) ++ x) (append_assoc o opened tail)

    abbrev four_walk : List PinBits
    four_walk =
        walk_by (length (per_port k (opening p start goal))) (length opened) (length (per_port k (closing p goal))) (length closed) (bits_of p start k j) (bits_of p goal k j)
        (bit u j) (bit v j)

    along : (bits_of p start k j ∷ later p k j start in_turn ≡ four_walk) × (four_of p (run p start in_turn) k ≡ four_of p goal k)
    along =
        let w =
        waits p ok k j hk (per_port k (opening p start goal)) (before p ok k j hk (opening p start goal) open_apart k (omega arith))
        (to_output p ok k j hk u (mid_output_fits k hk)
        (to_configuration p ok k j hk v (mid_configuration_fits k hk)
        (waits p ok k j hk opened (parted p ok k j hk (opening p start goal) open_apart p.ports hk (omega arith)).away
        (to_kinds p ok k j hk (get_or goal (2 * p.ports) 0) fits_kinds
        (waits p ok k j hk (per_port k (closing p goal)) (before p ok k j hk (closing p goal) close_apart k (omega arith))
        (to_pin_kinds p ok k j hk (get_or goal (2 * p.ports + 1 + k) 0) (fits_pin_kinds k hk goal dg)
        (to_output p ok k j hk (get_or goal k 0) (fits_output k hk goal dg)
        (to_configuration p ok k j hk (get_or goal (p.ports + k) 0) (fits_configuration k hk goal dg)
        (waits p ok k j hk closed (parted p ok k j hk (closing p goal) close_apart p.ports hk (omega arith)).away
        (end p ok k j hk (four_of p goal k))))))))))) in
        let r = w.goes start ds.whole refl in
        (ap (λ (l : List PinBits). bits_of p start k j ∷ l) r.0, r.1)

    -- a pin that is not stuck passes the test of its states
    pub calm_along : j < 8 → stuck (bits_of p start k j) (bits_of p goal k j) ≡ false
        → Fine p k j (drive_of p start k j) (drive_of p goal k j) ((bits_of p start k j).configuration && (bits_of p goal k j).configuration) false start (route p start goal)
    calm_along h free =
        let x = bits_of p start k j in
        let y = bits_of p goal k j in
        let a = length (per_port k (opening p start goal)) in
        let c = length (per_port k (closing p goal)) in
        ap (fine (drive_in x) (drive_in y) (x.configuration && y.configuration) false)
        (ap (λ (ws : List Write). x ∷ later p k j start ws) in_turn_lem ∙ along.0
        ∙ ap₂ (λ (o q : Bool). walk_by a (length opened) c (length closed) x y o q) (bit_tabulate 8 _ j h) (bit_tabulate 8 _ j h))
        ∙ steady a (length opened) c (length closed) x y free

    pub port_reached : four_of p (run p start (route p start goal)) k ≡ four_of p goal k
    port_reached = ap (λ (ws : List Write). four_of p (run p start ws) k) in_turn_lem ∙ along.1

  -- ---- the goal is reached: at every place, of whatever port
  pub reaches : run p start (route p start goal) ≡ goal
  reaches =
      ext_get_or 0 z goal (run_length p start (route p start goal) ∙ ds.whole ∙ sym dg.whole) (λ i h.
      at (ltb i n) i refl (ltb i (2 * n)) refl (ltb (2 * n) i) refl (omega (arith, h, run_length p start (route p start goal), ds.whole, ok.count)))
    where
      z : Settings
      z = run p start (route p start goal)

      n : ℕ
      n = p.ports

      at : (a : Bool) (i : ℕ) → ltb i n ≡ a → (b : Bool) → ltb i (2 * n) ≡ b → (c : Bool) → ltb (2 * n) i ≡ c → i < 3 * n + 1 → get_or z i 0 ≡ get_or goal i 0
      at true i ea b eb c ec h = ap (λ (x : Four). x.output) (port_reached i 0 (ltb-true i n ea))
      at false i ea true eb c ec h =
          let l = ltb-false i n ea in
          let k : n + (i - n) ≡ i = omega (arith, l) in
          subst (λ (m : ℕ). get_or z m 0 ≡ get_or goal m 0) k (ap (λ (x : Four). x.configuration) (port_reached (i - n) 0 (omega (arith, l, ltb-true i (2 * n) eb))))
      at false i ea false eb true ec h =
          let l = ltb-true (2 * n) i ec in
          let k : 2 * n + 1 + (i - 2 * n - 1) ≡ i = omega (arith, l) in
          subst (λ (m : ℕ). get_or z m 0 ≡ get_or goal m 0) k (ap (λ (x : Four). x.pin_kinds) (port_reached (i - 2 * n - 1) 0 (omega (arith, l, h))))
      at false i ea false eb false ec h =
          subst (λ (m : ℕ). get_or z m 0 ≡ get_or goal m 0) (omega (arith, ltb-false i (2 * n) eb, ltb-false (2 * n) i ec)) (ap (λ (x : Four). x.kinds) (port_reached 0 0 ok.some))

-- ---- its writes: what holds of all, and how many there are
module _ (p : Shape) (ok : Regular p) where
  module _ (P : Write → Type 0) where
    all_append : (us ws : List Write) → All P us → All P ws → All P (us ++ ws)
    all_append [] ws a b = b
    all_append (u ∷ us) ws a b = (a.0, all_append us ws a.1 b)

    all_ports : (n : ℕ) (f : ℕ → List Write) → ((k : ℕ) → k < n → All P (f k)) → All P (per_port n f)
    all_ports zero f h = tt
    all_ports (suc n) f h = all_append (per_port n f) (f n) (all_ports n f (λ k q. h k (omega (arith, q)))) (h n (omega arith))

    -- of every write of the route, if it holds of what is written at each place
    pub all_route : (start goal : Settings) → ((k : ℕ) → k < p.ports → P (write_at p k (mid_outputs p start goal k)))
        → ((k : ℕ) → k < p.ports → P (write_at p (p.ports + k) (mid_configurations p start goal k)))
        → ((i : ℕ) → i < length p.registers → P (to_goal p goal i)) → All P (route p start goal)
    all_route start goal o c g =
        all_append (per_port p.ports (opening p start goal)) (to_goal p goal (2 * p.ports) ∷ per_port p.ports (closing p goal))
        (all_ports p.ports (opening p start goal) (λ k h. (o k h, (c k h, tt)))) (
          g (2 * p.ports) (omega (arith, ok.count)),
          all_ports p.ports (closing p goal) (λ k h.
              (g (2 * p.ports + 1 + k) (omega (arith, ok.count, h)), (g k (omega (arith, ok.count, h)), (g (p.ports + k) (omega (arith, ok.count, h)), tt)))),
        )

  length_ports : (n m : ℕ) (f : ℕ → List Write) → ((k : ℕ) → length (f k) ≡ m) → length (per_port n f) ≡ n * m
  length_ports zero m f h = sym (zero-mul m)
  length_ports (suc n) m f h = length-append (per_port n f) (f n) ∙ ap₂ (λ (a b : ℕ). a + b) (length_ports n m f h) (h n) ∙ sym (suc-mul n m)

  pub route_length : (start goal : Settings) → length (route p start goal) ≡ 5 * p.ports + 1
  route_length start goal =
      length-append (per_port p.ports (opening p start goal)) (to_goal p goal (2 * p.ports) ∷ per_port p.ports (closing p goal))
      ∙ omega (arith, length_ports p.ports 2 (opening p start goal) (λ k. refl), length_ports p.ports 3 (closing p goal) (λ k. refl))
