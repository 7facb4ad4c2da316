-- The bytes of a group as a pin set, and a setting as four of them. Assumes nothing.
use mathlib.Core.Path.{◌≡◌, refl, sym, ap, subst, ◌∙◌}
use mathlib.Core.Bool.{true}
use mathlib.Core.List.{List}
use Prim.Native.Nat.{ℕ, zero, suc, ◌+◌, ◌-◌, ◌*◌, ◌/◌, ◌^◌, ◌≤◌, ◌<◌}
use native.Mathlib.Omega.{arith}
use lib.Arith.{digits_div}
use lib.ListN.{get_or, length}
use lib.Pow.{pow_mono, pow_pos}
use Rattle.bits.specs.Bits.{bit, join}
use Rattle.bits.proofs.Join.{bit_join, join_lt}
use Rattle.bits.proofs.Laws.{bit_high}
use Rattle.map.specs.Map.{Part}
use Rattle.planner_quiet.proofs.Plannable.{Plannable}
use Rattle.planner_promise.specs.Formed.{formed}
use Rattle.planner_promise.proofs.Answering.{sound}
use Rattle.planner_settings.specs.Loaded.{Loaded}

-- ---- the loop: the bytes of the ports from k on are read
module _ (s : List ℕ) (at n : ℕ) where
  pub record Reading (w k : ℕ) : Type 0 where
    pub below : k ≤ n
    pub is : (m : ℕ) → m + k ≡ n → w ≡ join 8 m (λ i. get_or s (at + (k + i)) 0)
    pub small : (m : ℕ) → m + k ≡ n → w < 2 ^ (m * 8)

  pub reading_begins : Reading 0 n
  reading_begins = record { below = omega arith; is = none; small = λ m e. pow_pos (m * 8) }
    where
      none : (m : ℕ) → m + n ≡ n → 0 ≡ join 8 m (λ i. get_or s (at + (n + i)) 0)
      none zero e = refl
      none (suc m) e = absurd (omega (arith, e))

  module _ {w k : ℕ} (d : Reading w k) (more : 0 < k) where
    -- there is room for one byte more
    pub reading_small : n ≤ 8 → w < 2 ^ 56
    reading_small few =
        let m = n - k in
        let most : m * 8 ≤ 56 = omega (arith, few, more) in
        omega (arith, d.small m (omega (arith, d.below)), pow_mono most)

    pub reading_goes : ((i : ℕ) → get_or s i 0 < 256) → Reading (w * 256 + get_or s (at + (k - 1)) 0) (k - 1)
    reading_goes bytes = record {
      below = omega (arith, d.below);
      is = one_more;
      small = λ m e. subst (λ (x : ℕ). x < 2 ^ (m * 8)) (sym (one_more m e)) (join_lt 8 m (λ i. get_or s (at + ((k - 1) + i)) 0) (λ i h. bytes (at + ((k - 1) + i))));
    }
      where
        one_more : (m : ℕ) → m + (k - 1) ≡ n → w * 256 + get_or s (at + (k - 1)) 0 ≡ join 8 m (λ i. get_or s (at + ((k - 1) + i)) 0)
        one_more zero e = absurd (omega (arith, e, d.below, more))
        one_more (suc m) e =
            let shift : (i : ℕ) → k + i ≡ (k - 1) + suc i = λ i. omega (arith, more) in
            let here : k - 1 ≡ (k - 1) + 0 = omega arith in
            λ t. ((d.is m (omega (arith, e, more)) ∙ (λ u. join 8 m (λ i. get_or s (at + shift i u) 0))) t) * 256 + get_or s (at + here t) 0

  pub reading_ends : {w k : ℕ} → Reading w k → k ≤ 0 → w ≡ join 8 n (λ i. get_or s (at + i) 0)
  reading_ends {w} {k} d h =
      let drop : (i : ℕ) → k + i ≡ i = λ i. omega (arith, h) in
      d.is n (omega (arith, h)) ∙ (λ u. join 8 n (λ i. get_or s (at + drop i u) 0))

-- ---- a setting
module _ (p : Part) (ok : Plannable p) (s : List ℕ) (e : formed p s ≡ true) where
  pub whole : length s ≡ 3 * p.ports + 1
  whole = (sound p s e).whole ∙ ok.regular.count

  pub kinds_few : p.ports ≤ 5 → get_or s (2 * p.ports) 0 < 32
  kinds_few h =
      let room = (sound p s e).fits (2 * p.ports) (omega (arith, ok.regular.count)) in
      omega (arith, subst (λ (n : ℕ). get_or s (2 * p.ports) 0 < 2 ^ n) ok.regular.room_kinds room, pow_mono h)

module _ (p : Part) (s : List ℕ) (bytes : (i : ℕ) → get_or s i 0 < 256) (n o c x f : ℕ) (all : n ≡ p.ports)
    (eo : o ≡ join 8 n (λ k. get_or s (0 + k) 0)) (ec : c ≡ join 8 n (λ k. get_or s (n + k) 0))
    (ex : (i : ℕ) → bit x i ≡ bit (get_or s (2 * n) 0) (i / 8)) (ef : f ≡ join 8 n (λ k. get_or s (2 * n + 1 + k) 0)) where
  -- bit j of port k
  digit : (g : ℕ) {w : ℕ} → w ≡ join 8 n (λ k. get_or s (g + k) 0) → (k j : ℕ) → k < p.ports → j < 8 → bit w (8 * k + j) ≡ bit (get_or s (g + k) 0) j
  digit g {w} q k j hk hj =
      let place : 8 * k + j ≡ k * 8 + j = omega arith in
      (λ t. bit (q t) (place t)) ∙ bit_join 8 n (λ k. get_or s (g + k) 0) (λ k h. bytes (g + k)) k j (omega (arith, hk, all)) hj

  pub loaded : Loaded p s (record { output = o; configuration = c; kind = x; flip = f })
  loaded = record {
    pins = λ k j hk hj. (
        let first : 0 + k ≡ k = omega arith in
        let place : 8 * k + j ≡ k * 8 + j = omega arith in
        λ t. record {
          output = (digit 0 eo k j hk hj ∙ ap (λ (i : ℕ). bit (get_or s i 0) j) first) t;
          configuration = (digit n ec k j hk hj ∙ ap (λ (i : ℕ). bit (get_or s (i + k) 0) j) all) t;
          port_kind = (ex (8 * k + j) ∙ (λ u. bit (get_or s (2 * all u) 0) (place u / 8)) ∙ ap (bit (get_or s (2 * p.ports) 0)) (digits_div k hj)) t;
          pin_kind = (digit (2 * n + 1) ef k j hk hj ∙ ap (λ (i : ℕ). bit (get_or s (2 * i + 1 + k) 0) j) all) t;
        });
    none = λ i h. bit_high (n * 8) o i (subst (λ (w : ℕ). w < 2 ^ (n * 8)) (sym eo) (join_lt 8 n (λ k. get_or s (0 + k) 0) (λ k h. bytes (0 + k)))) (omega (arith, h, all));
  }
