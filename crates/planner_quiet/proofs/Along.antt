-- One port along the route: only its own writes change its four bytes, and each of them comes when it should. Assumes nothing.
use mathlib.Core.Path.{◌≡◌, refl, sym, ap, ap₂, subst, ◌∙◌}
use mathlib.Core.Bool.{Bool, true, false, ◌&&◌, cond}
use mathlib.Core.List.{List, [], ◌∷◌, ◌++◌, append_assoc, append-nil}
use Prim.Native.Nat.{ℕ, zero, suc, ◌+◌, ◌*◌, ◌%◌, ◌^◌, ◌≤◌, ◌<◌}
use native.Mathlib.Nat.{mod-eq_of_lt}
use native.Mathlib.Omega.{arith}
use borrow.Author.Tests.{eq-eqb, eqb-true, eqb-false}
use lib.Dec.{eqb}
use lib.ListN.{get_or, set, length, length-set}
use lib.Seq.{get_or-set_same, get_or-set_other}
use Rattle.bits.specs.Bits.{bit}
use Rattle.bits.proofs.Decide.{and_left, and_right}
use Rattle.planner_quiet.specs.Settings.{Shape, Settings, PinBits, Write, place, place_of, stored, put, run}
use Rattle.planner_quiet.specs.Route.{per_port, write_at}
use Rattle.planner_quiet.proofs.Calm.{later}
use Rattle.planner_quiet.proofs.Pin.{times, bits}

-- ---- registers of a list: each stands there once
abbrev pub distinct : List ℕ → Bool
distinct [] = true
distinct (x ∷ xs) = eqb (place xs x) (length xs) && distinct xs

pub once_only : (x : ℕ) (xs : List ℕ) → distinct (x ∷ xs) ≡ true → (place xs x ≡ length xs) × (distinct xs ≡ true)
once_only x xs d =
    (eqb-true (place xs x) (length xs) (and_left (eqb (place xs x) (length xs)) (distinct xs) d), and_right (eqb (place xs x) (length xs)) (distinct xs) d)

pub place_nth : (xs : List ℕ) (i : ℕ) → distinct xs ≡ true → i < length xs → place xs (get_or xs i 0) ≡ i
place_nth [] i d h = absurd (omega arith)
place_nth (x ∷ xs) zero d h = ap (λ (b : Bool). cond b 0 (suc (place xs x))) (eq-eqb x x refl)
place_nth (x ∷ xs) (suc i) d h = go (once_only x xs d) (place_nth xs i) (eqb x (get_or xs i 0)) refl
  where
    go : (place xs x ≡ length xs) × (distinct xs ≡ true) → (distinct xs ≡ true → i < length xs → place xs (get_or xs i 0) ≡ i)
        → (b : Bool) → eqb x (get_or xs i 0) ≡ b → cond b 0 (suc (place xs (get_or xs i 0))) ≡ suc i
    go o r true e =
        let same : place xs x ≡ place xs (get_or xs i 0) = ap (place xs) (eqb-true x (get_or xs i 0) e) in
        absurd (omega (arith, o.0, r o.1 (omega arith), same))
    go o r false e = ap suc (r o.1 (omega arith))

-- what a shape must be for its route to work port by port: tests that antt computes for both parts
pub record Regular (p : Shape) : Type 0 where
  pub some : 0 < p.ports
  pub count : length p.registers ≡ 3 * p.ports + 1
  pub distinct : distinct p.registers ≡ true
  pub narrow : (k : ℕ) → p.width k ≤ 8
  pub byte : (i : ℕ) → i < length p.registers → p.room i ≤ 8
  -- a bit for each pin of the port, and in the port kinds one for each port
  pub room_output : (k : ℕ) → k < p.ports → p.room k ≡ p.width k
  pub room_configuration : (k : ℕ) → k < p.ports → p.room (p.ports + k) ≡ p.width k
  pub room_kinds : p.room (2 * p.ports) ≡ p.ports
  pub room_pin_kind : (k : ℕ) → k < p.ports → p.room (2 * p.ports + 1 + k) ≡ p.width k

-- the four bytes that say what the pins of a port do
pub record Four : Type 0 where
  pub output : ℕ
  pub configuration : ℕ
  pub kinds : ℕ
  pub pin_kinds : ℕ

abbrev pub four : (output configuration kinds pin_kinds : ℕ) → Four
four output configuration kinds pin_kinds = record { output = output; configuration = configuration; kinds = kinds; pin_kinds = pin_kinds }

abbrev pub four_of : Shape → Settings → (k : ℕ) → Four
four_of p s k = four (get_or s k 0) (get_or s (p.ports + k) 0) (get_or s (2 * p.ports) 0) (get_or s (2 * p.ports + 1 + k) 0)

abbrev pub bits_in : (k j : ℕ) → Four → PinBits
bits_in k j b = bits (bit b.output j) (bit b.configuration j) (bit b.kinds k) (bit b.pin_kinds j)

module _ (p : Shape) (ok : Regular p) where
  -- the write of what fits at place i
  pub put_at : (s : Settings) (i v : ℕ) → i < length p.registers → v < 2 ^ p.room i → put p s (write_at p i v) ≡ set s i v
  put_at s i v h small =
      ap (λ (q : ℕ). put' q) (place_nth p.registers i ok.distinct h) ∙ ap (set s i) (mod-eq_of_lt small)
    where
      put' : ℕ → Settings
      put' q = set s q (v % 2 ^ p.room q)

  module _ (k j : ℕ) (hk : k < p.ports) where
    -- from any setting in which the port's bytes are b the list takes the pin through bs, and leaves the port's bytes c
    pub record Along (b : Four) (ws : List Write) (bs : List PinBits) (c : Four) : Type 0 where
      pub goes : (s : Settings) → length s ≡ length p.registers → four_of p s k ≡ b → (later p k j s ws ≡ bs) × (four_of p (run p s ws) k ≡ c)

    pub end : (b : Four) → Along b [] [] b
    end b = record { goes = λ s l e. (refl, e) }

    module _ {b c z : Four} {ws : List Write} {bs : List PinBits} where
      pub step : (w : Write) → ((s : Settings) → length s ≡ length p.registers → four_of p s k ≡ b → four_of p (put p s w) k ≡ c)
          → Along c ws bs z → Along b (w ∷ ws) (bits_in k j c ∷ bs) z
      step w f r = record {
        goes = λ s l e. (
            let n = r.goes (put p s w) (length-set s _ _ ∙ l) (f s l e) in
            (ap₂ (λ (x : PinBits) (xs : List PinBits). x ∷ xs) (ap (bits_in k j) (f s l e)) n.0, n.1));
      }

    -- ---- writes of other ports
    abbrev pub Other : ℕ → Type 0
    Other i = (k ≡ i → ⊥) × (p.ports + k ≡ i → ⊥) × (2 * p.ports ≡ i → ⊥) × (2 * p.ports + 1 + k ≡ i → ⊥)

    abbrev pub Apart : List Write → Type 0
    Apart [] = Unit {0}
    Apart (w ∷ ws) = Other (place_of p w) × Apart ws

    pub other : (i : ℕ) → i < length p.registers → Other i → Other (place p.registers (get_or p.registers i 0))
    other i h o = subst Other (sym (place_nth p.registers i ok.distinct h)) o

    pub waits : {b z : Four} {ws : List Write} {bs : List PinBits} (us : List Write) → Apart us → Along b ws bs z
        → Along b (us ++ ws) (times (length us) (bits_in k j b) bs) z
    waits [] a r = r
    waits {b} (u ∷ us) a r = step u leaves (waits us a.1 r)
      where
        q : ℕ
        q = place_of p u

        v : ℕ
        v = stored p q u.value

        leaves : (s : Settings) → length s ≡ length p.registers → four_of p s k ≡ b → four_of p (put p s u) k ≡ b
        leaves s l e =
            (λ t. four (get_or-set_other s q k v 0 a.0.0 t) (get_or-set_other s q (p.ports + k) v 0 a.0.1 t)
            (get_or-set_other s q (2 * p.ports) v 0 a.0.2 t) (get_or-set_other s q (2 * p.ports + 1 + k) v 0 a.0.3 t))
            ∙ e

    -- ---- its own writes
    module _ {b z : Four} {ws : List Write} {bs : List PinBits} (v : ℕ) where
      pub to_output : v < 2 ^ p.width k → Along (four v b.configuration b.kinds b.pin_kinds) ws bs z
          → Along b (write_at p k v ∷ ws) (bits_in k j (four v b.configuration b.kinds b.pin_kinds) ∷ bs) z
      to_output h = step (write_at p k v) (λ s l e.
          let here : k < length s = omega (arith, l, ok.count, hk) in
          ap (λ (x : Settings). four_of p x k) (put_at s k v (omega (arith, ok.count, hk)) (subst (λ (n : ℕ). v < 2 ^ n) (sym (ok.room_output k hk)) h))
          ∙ (λ t. four (get_or-set_same s k v 0 here t) (get_or-set_other s k (p.ports + k) v 0 (λ z. omega (arith, z, hk)) t)
          (get_or-set_other s k (2 * p.ports) v 0 (λ z. omega (arith, z, hk)) t) (get_or-set_other s k (2 * p.ports + 1 + k) v 0 (λ z. omega (arith, z)) t))
          ∙ ap (λ (x : Four). four v x.configuration x.kinds x.pin_kinds) e)

      pub to_configuration : v < 2 ^ p.width k → Along (four b.output v b.kinds b.pin_kinds) ws bs z
          → Along b (write_at p (p.ports + k) v ∷ ws) (bits_in k j (four b.output v b.kinds b.pin_kinds) ∷ bs) z
      to_configuration h = step (write_at p (p.ports + k) v) (λ s l e.
          let at = p.ports + k in
          let here : at < length s = omega (arith, l, ok.count, hk) in
          ap (λ (x : Settings). four_of p x k) (put_at s at v (omega (arith, ok.count, hk)) (subst (λ (n : ℕ). v < 2 ^ n) (sym (ok.room_configuration k hk)) h))
          ∙ (λ t. four (get_or-set_other s at k v 0 (λ z. omega (arith, z, hk)) t) (get_or-set_same s at v 0 here t)
          (get_or-set_other s at (2 * p.ports) v 0 (λ z. omega (arith, z, hk)) t) (get_or-set_other s at (2 * p.ports + 1 + k) v 0 (λ z. omega (arith, z, hk)) t))
          ∙ ap (λ (x : Four). four x.output v x.kinds x.pin_kinds) e)

      pub to_kinds : v < 2 ^ p.ports → Along (four b.output b.configuration v b.pin_kinds) ws bs z
          → Along b (write_at p (2 * p.ports) v ∷ ws) (bits_in k j (four b.output b.configuration v b.pin_kinds) ∷ bs) z
      to_kinds h = step (write_at p (2 * p.ports) v) (λ s l e.
          let at = 2 * p.ports in
          let here : at < length s = omega (arith, l, ok.count) in
          ap (λ (x : Settings). four_of p x k) (put_at s at v (omega (arith, ok.count)) (subst (λ (n : ℕ). v < 2 ^ n) (sym ok.room_kinds) h))
          ∙ (λ t. four (get_or-set_other s at k v 0 (λ z. omega (arith, z, hk)) t) (get_or-set_other s at (p.ports + k) v 0 (λ z. omega (arith, z, hk)) t)
          (get_or-set_same s at v 0 here t) (get_or-set_other s at (2 * p.ports + 1 + k) v 0 (λ z. omega (arith, z)) t))
          ∙ ap (λ (x : Four). four x.output x.configuration v x.pin_kinds) e)

      pub to_pin_kinds : v < 2 ^ p.width k → Along (four b.output b.configuration b.kinds v) ws bs z
          → Along b (write_at p (2 * p.ports + 1 + k) v ∷ ws) (bits_in k j (four b.output b.configuration b.kinds v) ∷ bs) z
      to_pin_kinds h = step (write_at p (2 * p.ports + 1 + k) v) (λ s l e.
          let at = 2 * p.ports + 1 + k in
          let here : at < length s = omega (arith, l, ok.count, hk) in
          ap (λ (x : Settings). four_of p x k) (put_at s at v (omega (arith, ok.count, hk)) (subst (λ (n : ℕ). v < 2 ^ n) (sym (ok.room_pin_kind k hk)) h))
          ∙ (λ t. four (get_or-set_other s at k v 0 (λ z. omega (arith, z)) t) (get_or-set_other s at (p.ports + k) v 0 (λ z. omega (arith, z, hk)) t)
          (get_or-set_other s at (2 * p.ports) v 0 (λ z. omega (arith, z)) t) (get_or-set_same s at v 0 here t))
          ∙ ap (λ (x : Four). four x.output x.configuration x.kinds v) e)

    -- ---- a list a port: the port waits while those before it and those after it are written
    apart_append : (us ws : List Write) → Apart us → Apart ws → Apart (us ++ ws)
    apart_append [] ws a b = b
    apart_append (u ∷ us) ws a b = (a.0, apart_append us ws a.1 b)

    module _ (f : ℕ → List Write) (apart : (l : ℕ) → l < p.ports → (k ≡ l → ⊥) → Apart (f l)) where
      pub before : (l : ℕ) → l ≤ k → Apart (per_port l f)
      before zero h = tt
      before (suc l) h = apart_append (per_port l f) (f l) (before l (omega (arith, h))) (apart l (omega (arith, h, hk)) (λ e. omega (arith, e, h)))

      pub record Parted (n : ℕ) : Type 0 where
        pub rest : List Write
        pub away : Apart rest
        pub parts : per_port n f ≡ per_port k f ++ (f k ++ rest)

      pub parted : (n : ℕ) → k < n → n ≤ p.ports → Parted n
      parted zero h m = absurd (omega (arith, h))
      parted (suc n) h m = go (eqb k n) refl (parted n)
        where
          go : (b : Bool) → eqb k n ≡ b → (k < n → n ≤ p.ports → Parted n) → Parted (suc n)
          go true e r = record {
            rest = [];
            away = tt;
            parts = ap (λ (l : ℕ). per_port l f ++ f l) (sym (eqb-true k n e)) ∙ ap (λ (ws : List Write). per_port k f ++ ws) (sym (append-nil (f k)));
          }
          go false e r =
              let other = eqb-false k n e in
              let x = r (omega (arith, other, h)) (omega (arith, m)) in
              record {
                rest = x.rest ++ f n;
                away = apart_append x.rest (f n) x.away (apart n (omega (arith, m)) other);
                parts = ap (λ (ws : List Write). ws ++ f n) x.parts ∙ append_assoc (per_port k f) (f k ++ x.rest) (f n)
                    ∙ ap (λ (ws : List Write). per_port k f ++ ws) (append_assoc (f k) x.rest (f n));
              }
