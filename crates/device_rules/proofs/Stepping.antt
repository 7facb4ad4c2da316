-- The bus state's rule is the step's, and states are equal part by part. Assumes nothing.
use mathlib.Core.Path.{◌≡◌, refl, sym, ap, ◌∙◌}
use mathlib.Core.Bool.{Bool}
use Prim.Native.Nat.{ℕ, zero, suc, ◌<◌}
use native.Mathlib.Omega.{arith}
use Rattle.map.specs.Map.{Part}
use Rattle.device_rules.specs.Device.{Identity, State, Outcome, Bus, bus_at, out, goes, byte_in, fetch_in, start_in, step}
use Rattle.device_rules.specs.Device.Bus.{Opened, Deaf, Reopened}
use Rattle.device_rules.specs.Device.Event.{Start, ByteSent, ByteFetched}
use Rattle.device_rules.specs.declared.Answer.TheVariants.{Nothing, Nak, Byte}

pub same_state : {a b : State} → a.regs ≡ b.regs → a.interrupt ≡ b.interrupt → a.pointer ≡ b.pointer → a.mode ≡ b.mode → a.bus ≡ b.bus → a.choice ≡ b.choice → a.id ≡ b.id → a ≡ b
same_state regs interrupt pointer mode bus choice id = λ j. record { regs = regs j; interrupt = interrupt j; pointer = pointer j; mode = mode j; bus = bus j; choice = choice j; id = id j }

pub same_identity : {a b : Identity} → a.number ≡ b.number → a.place ≡ b.place → a ≡ b
same_identity number place = λ j. record { number = number j; place = place j }

module _ (p : Part) (s : State) where
  -- what the rule of bus state n says is what a byte does if the device is in it
  pub at_bus : (b n : ℕ) → s.bus ≡ n → {o : Outcome} → o ≡ byte_in p (bus_at n) s b → o ≡ step p s (ByteSent b)
  unfolding step
  at_bus b n e q = q ∙ ap (λ (k : ℕ). byte_in p (bus_at k) s b) (sym e)

  -- Sending, Armed, Deaf, Named and Telling take no byte
  taken_by_none : (b n : ℕ) → s.bus ≡ n → n < 12 → (n ≡ 0 → ⊥) → (n ≡ 1 → ⊥) → (n ≡ 2 → ⊥) → (n ≡ 3 → ⊥) → (n ≡ 5 → ⊥) → (n ≡ 8 → ⊥) → (n ≡ 10 → ⊥)
      → out Nak (goes s Deaf) ≡ byte_in p (bus_at n) s b
  unfolding byte_in
  taken_by_none b zero e h z0 z1 z2 z3 z5 z8 z10 = absurd (z0 refl)
  taken_by_none b (suc zero) e h z0 z1 z2 z3 z5 z8 z10 = absurd (z1 refl)
  taken_by_none b (suc (suc zero)) e h z0 z1 z2 z3 z5 z8 z10 = absurd (z2 refl)
  taken_by_none b (suc (suc (suc zero))) e h z0 z1 z2 z3 z5 z8 z10 = absurd (z3 refl)
  taken_by_none b (suc (suc (suc (suc zero)))) e h z0 z1 z2 z3 z5 z8 z10 = refl
  taken_by_none b (suc (suc (suc (suc (suc zero))))) e h z0 z1 z2 z3 z5 z8 z10 = absurd (z5 refl)
  taken_by_none b (suc (suc (suc (suc (suc (suc zero)))))) e h z0 z1 z2 z3 z5 z8 z10 = refl
  taken_by_none b (suc (suc (suc (suc (suc (suc (suc zero))))))) e h z0 z1 z2 z3 z5 z8 z10 = ap (out Nak) (same_state refl refl refl refl (sym e) refl refl)
  taken_by_none b (suc (suc (suc (suc (suc (suc (suc (suc zero)))))))) e h z0 z1 z2 z3 z5 z8 z10 = absurd (z8 refl)
  taken_by_none b (suc (suc (suc (suc (suc (suc (suc (suc (suc zero))))))))) e h z0 z1 z2 z3 z5 z8 z10 = refl
  taken_by_none b (suc (suc (suc (suc (suc (suc (suc (suc (suc (suc zero)))))))))) e h z0 z1 z2 z3 z5 z8 z10 = absurd (z10 refl)
  taken_by_none b (suc (suc (suc (suc (suc (suc (suc (suc (suc (suc (suc zero))))))))))) e h z0 z1 z2 z3 z5 z8 z10 = refl
  taken_by_none b (suc (suc (suc (suc (suc (suc (suc (suc (suc (suc (suc (suc n)))))))))))) e h z0 z1 z2 z3 z5 z8 z10 = absurd (omega arith)

  pub no_byte : (b : ℕ) → s.bus < 12 → (s.bus ≡ 0 → ⊥) → (s.bus ≡ 1 → ⊥) → (s.bus ≡ 2 → ⊥) → (s.bus ≡ 3 → ⊥) → (s.bus ≡ 5 → ⊥) → (s.bus ≡ 8 → ⊥) → (s.bus ≡ 10 → ⊥)
      → out Nak (goes s Deaf) ≡ step p s (ByteSent b)
  no_byte b h z0 z1 z2 z3 z5 z8 z10 = at_bus b s.bus refl (taken_by_none b s.bus refl h z0 z1 z2 z3 z5 z8 z10)

  -- a stray fetch
  stray : (acknowledged : Bool) (n : ℕ) → (n ≡ 4 → ⊥) → (n ≡ 11 → ⊥) → out (Byte 0xff) s ≡ fetch_in p (bus_at n) s acknowledged
  unfolding fetch_in
  stray acknowledged zero z y = refl
  stray acknowledged (suc zero) z y = refl
  stray acknowledged (suc (suc zero)) z y = refl
  stray acknowledged (suc (suc (suc zero))) z y = refl
  stray acknowledged (suc (suc (suc (suc zero)))) z y = absurd (z refl)
  stray acknowledged (suc (suc (suc (suc (suc zero))))) z y = refl
  stray acknowledged (suc (suc (suc (suc (suc (suc zero)))))) z y = refl
  stray acknowledged (suc (suc (suc (suc (suc (suc (suc zero))))))) z y = refl
  stray acknowledged (suc (suc (suc (suc (suc (suc (suc (suc zero)))))))) z y = refl
  stray acknowledged (suc (suc (suc (suc (suc (suc (suc (suc (suc zero))))))))) z y = refl
  stray acknowledged (suc (suc (suc (suc (suc (suc (suc (suc (suc (suc zero)))))))))) z y = refl
  stray acknowledged (suc (suc (suc (suc (suc (suc (suc (suc (suc (suc (suc zero))))))))))) z y = absurd (y refl)
  stray acknowledged (suc (suc (suc (suc (suc (suc (suc (suc (suc (suc (suc (suc n)))))))))))) z y = refl

  pub stray_fetch : (acknowledged : Bool) → (s.bus ≡ 4 → ⊥) → (s.bus ≡ 11 → ⊥) → out (Byte 0xff) s ≡ step p s (ByteFetched acknowledged)
  unfolding step
  stray_fetch acknowledged z y = stray acknowledged s.bus z y

  -- what the rule of bus state n says is what a fetch does if the device is in it
  pub fetched_in_lem : (acknowledged : Bool) (n : ℕ) → s.bus ≡ n → {o : Outcome} → o ≡ fetch_in p (bus_at n) s acknowledged → o ≡ step p s (ByteFetched acknowledged)
  unfolding step
  fetched_in_lem acknowledged n e q = q ∙ ap (λ (k : ℕ). fetch_in p (bus_at k) s acknowledged) (sym e)

  -- START leads to Opened, but from Named and Reopened
  opens : (n : ℕ) → (n ≡ 9 → ⊥) → (n ≡ 10 → ⊥) → Opened ≡ start_in (bus_at n)
  unfolding start_in
  opens zero z y = refl
  opens (suc zero) z y = refl
  opens (suc (suc zero)) z y = refl
  opens (suc (suc (suc zero))) z y = refl
  opens (suc (suc (suc (suc zero)))) z y = refl
  opens (suc (suc (suc (suc (suc zero))))) z y = refl
  opens (suc (suc (suc (suc (suc (suc zero)))))) z y = refl
  opens (suc (suc (suc (suc (suc (suc (suc zero))))))) z y = refl
  opens (suc (suc (suc (suc (suc (suc (suc (suc zero)))))))) z y = refl
  opens (suc (suc (suc (suc (suc (suc (suc (suc (suc zero))))))))) z y = absurd (z refl)
  opens (suc (suc (suc (suc (suc (suc (suc (suc (suc (suc zero)))))))))) z y = absurd (y refl)
  opens (suc (suc (suc (suc (suc (suc (suc (suc (suc (suc (suc zero))))))))))) z y = refl
  opens (suc (suc (suc (suc (suc (suc (suc (suc (suc (suc (suc (suc n)))))))))))) z y = refl

  pub opened : (s.bus ≡ 9 → ⊥) → (s.bus ≡ 10 → ⊥) → out Nothing (goes s Opened) ≡ step p s Start
  unfolding step
  opened z y = ap (λ (b : Bus). out Nothing (goes s b)) (opens s.bus z y)

  pub reopened : (n : ℕ) → s.bus ≡ n → Reopened ≡ start_in (bus_at n) → out Nothing (goes s Reopened) ≡ step p s Start
  unfolding step
  reopened n e q = ap (λ (b : Bus). out Nothing (goes s b)) (q ∙ ap (λ (k : ℕ). start_in (bus_at k)) (sym e))

pub same_outcome : {a b : Outcome} → a.answer ≡ b.answer → a.after ≡ b.after → a ≡ b
same_outcome answer after = λ j. record { answer = answer j; after = after j }
