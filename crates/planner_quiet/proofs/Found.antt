-- What each write of the route finds, port by port, so that the plan is known write by write. Assumes nothing.
use mathlib.Core.Path.{◌≡◌, refl, sym, ap, ap₂, subst, ◌∙◌}
use mathlib.Core.Bool.{cond}
use mathlib.Core.List.{List, [], ◌∷◌, ◌++◌, append_assoc, append-nil}
use Prim.Native.Nat.{ℕ, suc, ◌+◌, ◌*◌, ◌%◌, ◌^◌, ◌<◌}
use native.Mathlib.Nat.{mod-eq_of_lt}
use native.Mathlib.Omega.{arith}
use lib.Dec.{eqb}
use lib.ListN.{get_or, set, length}
use lib.Seq.{get_or-set_other}
use Rattle.planner_quiet.specs.Settings.{Shape, Settings, Write, place_of, stored, put, run}
use Rattle.planner_quiet.specs.Order.{Sound}
use Rattle.planner_quiet.specs.Route.{mid_outputs, mid_configurations, per_port, write_at, opening, closing, to_goal, needed}
use Rattle.planner_quiet.proofs.Along.{place_nth, Regular, Four, four, four_of, put_at, end, Apart, waits, to_output, to_configuration, to_kinds, before, parted}
use Rattle.planner_quiet.proofs.Quietly.{run_length, fits_kinds, mid_output_fits, mid_configuration_fits, open_apart, close_apart}

run_append : (p : Shape) (s : Settings) (us ws : List Write) → run p s (us ++ ws) ≡ run p (run p s us) ws
run_append p s [] ws = refl
run_append p s (u ∷ us) ws = run_append p (put p s u) us ws

pub needed_append : (p : Shape) (s : Settings) (us ws : List Write) → needed p s (us ++ ws) ≡ needed p s us ++ needed p (run p s us) ws
needed_append p s [] ws = refl
needed_append p s (u ∷ us) ws =
    ap (λ (l : List Write). one ++ l) (needed_append p (put p s u) us ws) ∙ sym (append_assoc one (needed p (put p s u) us) (needed p (run p (put p s u) us) ws))
  where
    one : List Write
    one = cond (eqb (get_or s (place_of p u) 0) (stored p (place_of p u) u.value)) [] (u ∷ [])

-- the write of v at place i, none where v is there already
abbrev pub change : Shape → (i was v : ℕ) → List Write
change p i was v = cond (eqb was v) [] (write_at p i v ∷ [])

module _ (p : Shape) (ok : Regular p) where
  -- a write at a place that is found as `was`, and those behind it
  found : (s : Settings) (i was v : ℕ) (ws : List Write) → i < length p.registers → v < 2 ^ p.room i → get_or s i 0 ≡ was
      → needed p s (write_at p i v ∷ ws) ≡ change p i was v ++ needed p (set s i v) ws
  found s i was v ws h small e =
      ap₂ (λ (q : ℕ) (z : Settings). cond (eqb (get_or s q 0) (v % 2 ^ p.room q)) [] (write_at p i v ∷ []) ++ needed p z ws) (place_nth p.registers i ok.distinct h)
      (put_at p ok s i v h small)
      ∙ ap₂ (λ (a b : ℕ). cond (eqb a b) [] (write_at p i v ∷ []) ++ needed p (set s i v) ws) e (mod-eq_of_lt small)

  apart_four : (k j : ℕ) (hk : k < p.ports) (us : List Write) → Apart p ok k j hk us → (s : Settings) → length s ≡ length p.registers → four_of p (run p s us) k ≡ four_of p s k
  apart_four k j hk us a s l =
      ap (λ (ws : List Write). four_of p (run p s ws) k) (sym (append-nil us)) ∙ ((waits p ok k j hk us a (end p ok k j hk (four_of p s k))).goes s l refl).1

  module _ (start goal : Settings) (ds : Sound p start) (dg : Sound p goal) where
    abbrev pub opens : ℕ → List Write
    opens k = per_port k (opening p start goal)

    -- to the port kinds and back again through the first k ports
    abbrev pub up_to : ℕ → List Write
    up_to k = opens p.ports ++ to_goal p goal (2 * p.ports) ∷ per_port k (closing p goal)

    room_of : {r w x : ℕ} → r ≡ w → x < 2 ^ w → x < 2 ^ r
    room_of {r} {w} {x} e h = subst (λ (m : ℕ). x < 2 ^ m) (sym e) h

    whole_at : (ws : List Write) → length (run p start ws) ≡ length p.registers
    whole_at ws = run_length p start ws ∙ ds.whole

    module _ (k : ℕ) (hk : k < p.ports) where
      abbrev n : ℕ
      n = p.ports

      abbrev u : ℕ
      u = mid_outputs p start goal k

      abbrev v : ℕ
      v = mid_configurations p start goal k

      apart_open : (l : ℕ) → l < n → (k ≡ l → ⊥) → Apart p ok k 0 hk (opening p start goal l)
      apart_open = open_apart p ok start goal ds dg k 0 hk

      apart_close : (l : ℕ) → l < n → (k ≡ l → ⊥) → Apart p ok k 0 hk (closing p goal l)
      apart_close = close_apart p ok start goal ds dg k 0 hk

      -- before its own writes the port has what the start has
      first_four : four_of p (run p start (opens k)) k ≡ four_of p start k
      first_four = apart_four k 0 hk (opens k) (before p ok k 0 hk (opening p start goal) apart_open k (omega arith)) start ds.whole

      pub open_found : needed p start (opens k ++ opening p start goal k) ≡ needed p start (opens k) ++ (change p k (get_or start k 0) u ++ (change p (n + k) (get_or start (n + k) 0) v ++ []))
      open_found =
          let z = run p start (opens k) in
          needed_append p start (opens k) (opening p start goal k)
          ∙ ap (λ (l : List Write). needed p start (opens k) ++ l)
          (found z k (get_or start k 0) u (write_at p (n + k) v ∷ []) (omega (arith, ok.count, hk)) (room_of (ok.room_output k hk) (mid_output_fits p ok start goal ds dg k hk)) (ap (λ (x : Four). x.output) first_four)
          ∙ ap (λ (l : List Write). change p k (get_or start k 0) u ++ l)
          (found (set z k u) (n + k) (get_or start (n + k) 0) v [] (omega (arith, ok.count, hk)) (room_of (ok.room_configuration k hk) (mid_configuration_fits p ok start goal ds dg k hk))
          (get_or-set_other z k (n + k) u 0 (λ e. omega (arith, e, hk)) ∙ ap (λ (x : Four). x.configuration) first_four)))

      -- in the middle it has its two bytes of the middle
      mid_four : four_of p (run p start (opens n)) k ≡ four u v (get_or start (2 * n) 0) (get_or start (2 * n + 1 + k) 0)
      mid_four =
          let x = parted p ok k 0 hk (opening p start goal) apart_open n hk (omega arith) in
          ap (λ (ws : List Write). four_of p (run p start ws) k)
          (x.parts ∙ ap (λ (l : List Write). opens k ++ (opening p start goal k ++ l)) (sym (append-nil x.rest)))
          ∙ ((waits p ok k 0 hk (opens k) (before p ok k 0 hk (opening p start goal) apart_open k (omega arith))
          (to_output p ok k 0 hk u (mid_output_fits p ok start goal ds dg k hk)
          (to_configuration p ok k 0 hk v (mid_configuration_fits p ok start goal ds dg k hk)
          (waits p ok k 0 hk x.rest x.away (end p ok k 0 hk (four u v (get_or start (2 * n) 0) (get_or start (2 * n + 1 + k) 0))))))
          ).goes start ds.whole refl).1

      pub kinds_found : needed p start (up_to 0) ≡ needed p start (opens n) ++ (change p (2 * n) (get_or start (2 * n) 0) (get_or goal (2 * n) 0) ++ [])
      kinds_found =
          needed_append p start (opens n) (to_goal p goal (2 * n) ∷ [])
          ∙ ap (λ (l : List Write). needed p start (opens n) ++ l)
          (found (run p start (opens n)) (2 * n) (get_or start (2 * n) 0) (get_or goal (2 * n) 0) [] (omega (arith, ok.count)) (dg.fits (2 * n) (omega (arith, ok.count)))
          (ap (λ (x : Four). x.kinds) mid_four))

      -- and so it has until its own writes come again, but for the port kinds
      late_four : four_of p (run p start (up_to k)) k ≡ four u v (get_or goal (2 * n) 0) (get_or start (2 * n + 1 + k) 0)
      late_four =
          let y = run p start (opens n) in
          ap (λ (x : Settings). four_of p x k)
          (run_append p start (opens n) (to_goal p goal (2 * n) ∷ per_port k (closing p goal))
          ∙ ap (λ (l : List Write). run p y (to_goal p goal (2 * n) ∷ l)) (sym (append-nil (per_port k (closing p goal)))))
          ∙ ((to_kinds p ok k 0 hk (get_or goal (2 * n) 0) (fits_kinds p ok start goal ds dg)
          (waits p ok k 0 hk (per_port k (closing p goal)) (before p ok k 0 hk (closing p goal) apart_close k (omega arith)) (end p ok k 0 hk (four u v (get_or goal (2 * n) 0) (get_or start (2 * n + 1 + k) 0))))
          ).goes y (whole_at (opens n)) mid_four).1

      pub close_found : needed p start (up_to (suc k)) ≡ needed p start (up_to k)
          ++ (change p (2 * n + 1 + k) (get_or start (2 * n + 1 + k) 0) (get_or goal (2 * n + 1 + k) 0)
          ++ (change p k u (get_or goal k 0) ++ (change p (n + k) v (get_or goal (n + k) 0) ++ [])))
      close_found =
          let z = run p start (up_to k) in
          let a = 2 * n + 1 + k in
          let y = set z a (get_or goal a 0) in
          ap (needed p start) (sym (append_assoc (opens n) (to_goal p goal (2 * n) ∷ per_port k (closing p goal)) (closing p goal k)))
          ∙ needed_append p start (up_to k) (closing p goal k)
          ∙ ap (λ (l : List Write). needed p start (up_to k) ++ l)
          (found z a (get_or start a 0) (get_or goal a 0) (to_goal p goal k ∷ to_goal p goal (n + k) ∷ []) (omega (arith, ok.count, hk)) (dg.fits a (omega (arith, ok.count, hk)))
          (ap (λ (x : Four). x.pin_kinds) late_four)
          ∙ ap (λ (l : List Write). change p a (get_or start a 0) (get_or goal a 0) ++ l)
          (found y k u (get_or goal k 0) (to_goal p goal (n + k) ∷ []) (omega (arith, ok.count, hk)) (dg.fits k (omega (arith, ok.count, hk)))
          (get_or-set_other z a k (get_or goal a 0) 0 (λ e. omega (arith, e)) ∙ ap (λ (x : Four). x.output) late_four)
          ∙ ap (λ (l : List Write). change p k u (get_or goal k 0) ++ l)
          (found (set y k (get_or goal k 0)) (n + k) v (get_or goal (n + k) 0) [] (omega (arith, ok.count, hk)) (dg.fits (n + k) (omega (arith, ok.count, hk)))
          (get_or-set_other y k (n + k) (get_or goal k 0) 0 (λ e. omega (arith, e, hk)) ∙ get_or-set_other z a (n + k) (get_or goal a 0) 0 (λ e. omega (arith, e, hk))
          ∙ ap (λ (x : Four). x.configuration) late_four))))
