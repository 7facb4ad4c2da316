-- Asking, Named and Reopened are led to by the question's own steps alone: F8h, our byte, START. So the acknowledged F9h stands at its end. Assumes nothing.
use mathlib.Core.Path.{◌≡◌, refl, ap, ap₂}
use mathlib.Core.Bool.{Bool, true, false, cond, ◌&&◌, ◌||◌}
use Prim.Native.Nat.{ℕ, zero, suc, ◌+◌, ◌/◌, ◌%◌}
use borrow.Author.Tests.{eq-eqb}
use lib.Dec.{eqb}
use Rattle.map.specs.Map.{Part, reserved}
use Rattle.device_rules.specs.Device.{State, Event, number, bus_at, state, out, goes, address_byte, ours, at_place, addressed, byte_in, fetch_in, start_in, resetted, step}
use Rattle.device_rules.specs.Device.Bus.{Idle, Chosen, Filling, Sending, Call, Armed, Deaf, Asking, Named, Telling}
use Rattle.device_rules.specs.Device.Event.{Start, Stop, HardwareReset, ByteSent, ByteFetched, Levels}
use Rattle.device_rules.specs.declared.Answer.TheVariants.{Ack, Nak}
use Rattle.device_demands.specs.Transactions.{led_to}

module _ (p : Part) (s : State) where
  -- where the bus state is another one then, the event is of those that lead to it
  abbrev LedBy : Event → (bus : ℕ) → Type 0
  LedBy e bus = (s.bus ≡ bus → ⊥) → led_to s e bus ≡ true

  abbrev Led : Event → State → Type 0
  Led e t = LedBy e t.bus

  stays : (e : Event) (bus : ℕ) → s.bus ≡ bus → LedBy e bus
  stays e bus same z = absurd (z same)

  led_address : (b : ℕ) → (eqb s.bus 1 || eqb s.bus 10) ≡ true → Led (ByteSent b) (addressed s b).after
  led_address b here = go (eqb b (address_byte s)) (eqb b (address_byte s + 1)) (eqb b 0x00) (eqb b 0xf8) refl
    where
      go : (w r c a : Bool) → eqb b 0xf8 ≡ a
          → Led (ByteSent b) (cond w (out Ack (goes s Chosen)) (cond r (out Ack (goes s Sending)) (cond c (out Ack (goes s Call)) (cond a (out Ack (goes s Asking)) (out Nak (goes s Deaf)))))).after
      go true r c a e z = refl
      go false true c a e z = refl
      go false false true a e z = refl
      go false false false true e z = ap₂ (λ (x y : Bool). x && y) e here
      go false false false false e z = refl

  led_command : (b : ℕ) (t : Bool)
      → Led (ByteSent b) (cond t (out Nak (goes s Deaf)) (out Ack (state s.regs s.interrupt (b % 128) (b / 128 % 2) (number Filling) s.choice s.id))).after
  led_command b true z = refl
  led_command b false z = refl

  led_call : (b : ℕ) (t : Bool) → Led (ByteSent b) (cond t (out Ack (goes s Armed)) (out Nak (goes s Deaf))).after
  led_call b true z = refl
  led_call b false z = refl

  led_asking : (b : ℕ) → s.bus ≡ 8 → (t : Bool) → ours s b ≡ t → Led (ByteSent b) (cond t (out Ack (goes s Named)) (out Nak (goes s Deaf))).after
  led_asking b e true q z = ap₂ (λ (x y : Bool). x && y) (eq-eqb s.bus 8 e) q
  led_asking b e false q z = refl

  led_reopened : (b : ℕ) → s.bus ≡ 10 → (t : Bool) → Led (ByteSent b) (cond t (out Ack (goes (at_place s 0) Telling)) (addressed s b)).after
  led_reopened b e true z = refl
  led_reopened b e false z = led_address b (ap (λ (n : ℕ). eqb n 1 || eqb n 10) e) z

  led_byte : (n : ℕ) → s.bus ≡ n → (b : ℕ) → Led (ByteSent b) (byte_in p (bus_at n) s b).after
  unfolding byte_in
  led_byte zero e b = stays (ByteSent b) s.bus refl
  led_byte (suc zero) e b = led_address b (ap (λ (n : ℕ). eqb n 1 || eqb n 10) e)
  led_byte (suc (suc zero)) e b = led_command b (reserved p (b % 128))
  led_byte (suc (suc (suc zero))) e b = λ z. refl
  led_byte (suc (suc (suc (suc zero)))) e b = λ z. refl
  led_byte (suc (suc (suc (suc (suc zero))))) e b = led_call b (eqb b 0x06)
  led_byte (suc (suc (suc (suc (suc (suc zero)))))) e b = λ z. refl
  led_byte (suc (suc (suc (suc (suc (suc (suc zero))))))) e b = stays (ByteSent b) s.bus refl
  led_byte (suc (suc (suc (suc (suc (suc (suc (suc zero)))))))) e b = led_asking b e (ours s b) refl
  led_byte (suc (suc (suc (suc (suc (suc (suc (suc (suc zero))))))))) e b = λ z. refl
  led_byte (suc (suc (suc (suc (suc (suc (suc (suc (suc (suc zero)))))))))) e b = led_reopened b e (eqb b 0xf9)
  led_byte (suc (suc (suc (suc (suc (suc (suc (suc (suc (suc (suc zero))))))))))) e b = λ z. refl
  led_byte (suc (suc (suc (suc (suc (suc (suc (suc (suc (suc (suc (suc n)))))))))))) e b = stays (ByteSent b) s.bus refl

  led_fetch : (n : ℕ) (acknowledged : Bool) → Led (ByteFetched acknowledged) (fetch_in p (bus_at n) s acknowledged).after
  unfolding fetch_in
  led_fetch zero acknowledged = stays (ByteFetched acknowledged) s.bus refl
  led_fetch (suc zero) acknowledged = stays (ByteFetched acknowledged) s.bus refl
  led_fetch (suc (suc zero)) acknowledged = stays (ByteFetched acknowledged) s.bus refl
  led_fetch (suc (suc (suc zero))) acknowledged = stays (ByteFetched acknowledged) s.bus refl
  led_fetch (suc (suc (suc (suc zero)))) true = λ z. refl
  led_fetch (suc (suc (suc (suc zero)))) false = λ z. refl
  led_fetch (suc (suc (suc (suc (suc zero))))) acknowledged = stays (ByteFetched acknowledged) s.bus refl
  led_fetch (suc (suc (suc (suc (suc (suc zero)))))) acknowledged = stays (ByteFetched acknowledged) s.bus refl
  led_fetch (suc (suc (suc (suc (suc (suc (suc zero))))))) acknowledged = stays (ByteFetched acknowledged) s.bus refl
  led_fetch (suc (suc (suc (suc (suc (suc (suc (suc zero)))))))) acknowledged = stays (ByteFetched acknowledged) s.bus refl
  led_fetch (suc (suc (suc (suc (suc (suc (suc (suc (suc zero))))))))) acknowledged = stays (ByteFetched acknowledged) s.bus refl
  led_fetch (suc (suc (suc (suc (suc (suc (suc (suc (suc (suc zero)))))))))) acknowledged = stays (ByteFetched acknowledged) s.bus refl
  led_fetch (suc (suc (suc (suc (suc (suc (suc (suc (suc (suc (suc zero))))))))))) true = stays (ByteFetched true) s.bus refl
  led_fetch (suc (suc (suc (suc (suc (suc (suc (suc (suc (suc (suc zero))))))))))) false = λ z. refl
  led_fetch (suc (suc (suc (suc (suc (suc (suc (suc (suc (suc (suc (suc n)))))))))))) acknowledged = stays (ByteFetched acknowledged) s.bus refl

  led_start : (n : ℕ) → s.bus ≡ n → Led Start (goes s (start_in (bus_at n)))
  unfolding start_in
  led_start zero e = λ z. refl
  led_start (suc zero) e = λ z. refl
  led_start (suc (suc zero)) e = λ z. refl
  led_start (suc (suc (suc zero))) e = λ z. refl
  led_start (suc (suc (suc (suc zero)))) e = λ z. refl
  led_start (suc (suc (suc (suc (suc zero))))) e = λ z. refl
  led_start (suc (suc (suc (suc (suc (suc zero)))))) e = λ z. refl
  led_start (suc (suc (suc (suc (suc (suc (suc zero))))))) e = λ z. refl
  led_start (suc (suc (suc (suc (suc (suc (suc (suc zero)))))))) e = λ z. refl
  led_start (suc (suc (suc (suc (suc (suc (suc (suc (suc zero))))))))) e = λ z. eq-eqb s.bus 9 e
  led_start (suc (suc (suc (suc (suc (suc (suc (suc (suc (suc zero)))))))))) e = stays Start 10 e
  led_start (suc (suc (suc (suc (suc (suc (suc (suc (suc (suc (suc zero))))))))))) e = λ z. refl
  led_start (suc (suc (suc (suc (suc (suc (suc (suc (suc (suc (suc (suc n)))))))))))) e = λ z. refl

  led_stop : (armed : Bool) → Led Stop (cond armed (resetted p s) (goes s Idle))
  unfolding resetted
  led_stop true z = refl
  led_stop false z = refl

  pub led_rightly : (e : Event) → (s.bus ≡ (step p s e).after.bus → ⊥) → led_to s e (step p s e).after.bus ≡ true
  unfolding step resetted
  led_rightly Start = led_start s.bus refl
  led_rightly Stop = led_stop (eqb s.bus (number Armed))
  led_rightly HardwareReset = λ z. refl
  led_rightly (ByteSent b) = led_byte s.bus refl b
  led_rightly (ByteFetched acknowledged) = led_fetch s.bus acknowledged
  led_rightly (Levels new) = stays (Levels new) s.bus refl
