-- However events are cut into bursts, the bursts one after another do what one burst of them all does. Assumes nothing.
use mathlib.Core.Path.{◌≡◌, refl, sym, ap, ap₂, ◌∙◌}
use mathlib.Core.Bool.{Bool, true, false, cond, not, ◌||◌}
use mathlib.Core.List.{List, [], ◌∷◌, ◌++◌}
use Prim.Native.Nat.{ℕ, zero, suc, ◌+◌, ◌*◌, ◌%◌, ◌<◌}
use native.Mathlib.Omega.{arith}
use lib.Dec.{eqb, leb}
use lib.ListN.{length, get_or, get_or-append}
use lib.Seq.{get_or-append-add}
use Rattle.bits.proofs.Decide.{either_arm}
use Rattle.map.specs.Map.{Part, reserved}
use Rattle.device_rules.specs.Device.{State, Event, Bus, Outcome, bus_at, out, address_byte, ours, addressed, byte_in, fetch_in, step}
use Rattle.device_rules.specs.Device.Bus.{Idle, Opened, Chosen, Filling, Sending, Call, Armed, Deaf, Asking, Named, Reopened, Telling}
use Rattle.device_rules.specs.Device.Event.{Start, Stop, HardwareReset, ByteSent, ByteFetched, Levels}
use Rattle.device_rules.specs.Refusals.{image_fits, event_of, refusal, stepped}
use Rattle.device_rules.specs.Answers.{answer_kind, refusal_number}
use Rattle.device_rules.specs.declared.Answer.TheVariants.{Refused}
use Rattle.words_events.specs.Events.{Sent, word_at, event_at, sent_of, halved, whole_of, one}
use Rattle.words_runs.specs.Runs.{Ran, ended, onto, two_of, ran}
use Rattle.words_burst.specs.Cuts.{and_then, ran_all, all_of}
use Rattle.words_runs.proofs.Running.{onto_onto, onto_none}

-- ---- a refusal has a number, and an answer has none
abbrev Clear : Outcome → Type 0
Clear o = eqb (refusal_number o.answer) 0 ≡ not (eqb (answer_kind o.answer) 4)

module _ (p : Part) (s : State) where
  address_clear : (b : ℕ) → Clear (addressed s b)
  address_clear b =
      either_arm Clear (eqb b (address_byte s)) refl
      (either_arm Clear (eqb b (address_byte s + 1)) refl (either_arm Clear (eqb b 0x00) refl (either_arm Clear (eqb b 0xf8) refl refl)))

  byte_clear : (k : Bus) (b : ℕ) → Clear (byte_in p k s b)
  unfolding byte_in
  byte_clear Idle b = refl
  byte_clear Opened b = address_clear b
  byte_clear Chosen b = either_arm Clear (reserved p (b % 128)) refl refl
  byte_clear Filling b = refl
  byte_clear Sending b = refl
  byte_clear Call b = either_arm Clear (eqb b 0x06) refl refl
  byte_clear Armed b = refl
  byte_clear Deaf b = refl
  byte_clear Asking b = either_arm Clear (ours s b) refl refl
  byte_clear Named b = refl
  byte_clear Reopened b = either_arm Clear (eqb b 0xf9) refl (address_clear b)
  byte_clear Telling b = refl

  fetch_clear : (k : Bus) (acknowledged : Bool) → Clear (fetch_in p k s acknowledged)
  unfolding fetch_in
  fetch_clear Sending acknowledged = refl
  fetch_clear Idle acknowledged = refl
  fetch_clear Opened acknowledged = refl
  fetch_clear Chosen acknowledged = refl
  fetch_clear Filling acknowledged = refl
  fetch_clear Call acknowledged = refl
  fetch_clear Armed acknowledged = refl
  fetch_clear Deaf acknowledged = refl
  fetch_clear Asking acknowledged = refl
  fetch_clear Named acknowledged = refl
  fetch_clear Reopened acknowledged = refl
  fetch_clear Telling acknowledged = refl

  step_clear : (e : Event) → Clear (step p s e)
  unfolding step
  step_clear Start = refl
  step_clear Stop = refl
  step_clear HardwareReset = refl
  step_clear (ByteSent b) = byte_clear (bus_at s.bus) b
  step_clear (ByteFetched acknowledged) = fetch_clear (bus_at s.bus) acknowledged
  step_clear (Levels new) = refl

  stepped_clear : (kind arg : ℕ) → Clear (stepped p s kind arg)
  unfolding stepped
  stepped_clear kind arg = go (eqb (refusal p s kind arg) 0) refl
    where
      go : (t : Bool) → eqb (refusal p s kind arg) 0 ≡ t → Clear (cond t (step p s (event_of kind arg)) (out (Refused (refusal p s kind arg)) s))
      go true h = step_clear (event_of kind arg)
      go false h = h

  one_clear : (e : Sent) → Clear (one p s e)
  unfolding one
  one_clear e = either_arm Clear (eqb e.third 0 || halved p) (stepped_clear e.kind (whole_of e)) (some (image_fits p s) (leb e.kind 5))
    where
      some : (i k : Bool) → Clear (out (Refused (cond i (cond k 2 1) 3)) s)
      some true true = refl
      some true false = refl
      some false k = refl

-- ---- two bursts
module _ (p : Part) where
  onto_then : (n : ℕ) (t : List ℕ) (r : Ran) (more : State → Ran) → onto n t (and_then r more) ≡ and_then (onto n t r) more
  onto_then n t r more = go (eqb r.number 0)
    where
      go : (b : Bool) → onto n t (cond b (onto r.done r.told (more r.after)) r)
          ≡ cond b (onto (n + r.done) (t ++ r.told) (more r.after)) (onto n t r)
      go true = onto_onto n r.done t r.told (more r.after)
      go false = refl

  -- if the first list is refused, the second does not matter; if not, the second goes on where the first left
  pub ran_joined : (s : State) (xs ys : List Sent) → ran p s (xs ++ ys) ≡ and_then (ran p s xs) (λ s. ran p s ys)
  unfolding ran
  ran_joined s [] ys = onto_none (ran p s ys)
  ran_joined s (e ∷ xs) ys = go (eqb (answer_kind (one p s e).answer) 4) refl (ran_joined (one p s e).after xs ys)
    where
      n : ℕ
      n = refusal_number (one p s e).answer

      two : List ℕ
      two = two_of (one p s e).answer

      next : State
      next = (one p s e).after

      go : (t : Bool) → eqb (answer_kind (one p s e).answer) 4 ≡ t → ran p next (xs ++ ys) ≡ and_then (ran p next xs) (λ s. ran p s ys)
          → cond t (ended n s) (onto 1 two (ran p next (xs ++ ys))) ≡ and_then (cond t (ended n s) (onto 1 two (ran p next xs))) (λ s. ran p s ys)
      go true h rest = ap (λ (b : Bool). cond b (onto 0 [] (ran p s ys)) (ended n s)) (sym (one_clear p s e ∙ ap not h))
      go false h rest = ap (onto 1 two) rest ∙ onto_then 1 two (ran p next xs) (λ s. ran p s ys)

  -- any number of bursts
  pub ran_cut : (s : State) (bursts : List (List Sent)) → ran_all p s bursts ≡ ran p s (all_of bursts)
  unfolding ran_all all_of ran
  ran_cut s [] = refl
  ran_cut s (es ∷ rest) =
      ap (λ (r : Ran). cond (eqb (ran p s es).number 0) (onto (ran p s es).done (ran p s es).told r) (ran p s es)) (ran_cut (ran p s es).after rest)
      ∙ sym (ran_joined s es (all_of rest))

-- ---- bytes cut between two events
module _ (a b : List ℕ) where
  byte_past : (n at : ℕ) → n ≡ length a + at → get_or (a ++ b) n 0 ≡ get_or b at 0
  byte_past n at e = ap (λ (n : ℕ). get_or (a ++ b) n 0) e ∙ get_or-append-add a b at 0

  word_past : (n at : ℕ) → n ≡ length a + at → word_at (a ++ b) n ≡ word_at b at
  word_past n at e =
      rw (byte_past (n + 3) (at + 3) (omega arith), byte_past (n + 2) (at + 2) (omega arith), byte_past (n + 1) (at + 1) (omega arith), byte_past n at e)

  word_in : (n : ℕ) → n + 3 < length a → word_at (a ++ b) n ≡ word_at a n
  word_in n h =
      rw (
        get_or-append a b 0 (n + 3) (omega arith),
        get_or-append a b 0 (n + 2) (omega arith),
        get_or-append a b 0 (n + 1) (omega arith),
        get_or-append a b 0 n (omega arith),
      )

  module _ (m : ℕ) (whole : length a ≡ 12 * m) where
    event_in : (i : ℕ) → i < m → event_at (a ++ b) i ≡ event_at a i
    event_in i h = λ j. record {
      kind = word_in (12 * i) (omega arith) j;
      arg = word_in (12 * i + 4) (omega arith) j;
      third = word_in (12 * i + 8) (omega arith) j;
    }

    event_past : (i k : ℕ) → k ≡ m + i → event_at (a ++ b) k ≡ event_at b i
    event_past i k e = λ j. record {
      kind = word_past (12 * k) (12 * i) (omega arith) j;
      arg = word_past (12 * k + 4) (12 * i + 4) (omega arith) j;
      third = word_past (12 * k + 8) (12 * i + 8) (omega arith) j;
    }

    sent_past : (n i k : ℕ) → k ≡ m + i → sent_of (a ++ b) k n ≡ sent_of b i n
    unfolding sent_of
    sent_past zero i k e = refl
    sent_past (suc n) i k e = ap₂ ◌∷◌ (event_past i k e) (sent_past n (suc i) (suc k) (omega arith))

    sent_cut : (n d i : ℕ) → i + d ≡ m → sent_of (a ++ b) i (d + n) ≡ sent_of a i d ++ sent_of b 0 n
    unfolding sent_of
    sent_cut n zero i e = ap (sent_of (a ++ b) i) none ∙ sent_past n 0 i (omega arith)
      where
        none : 0 + n ≡ n
        none = omega arith
    sent_cut n (suc d) i e = ap (sent_of (a ++ b) i) more ∙ ap₂ ◌∷◌ (event_in i (omega arith)) (sent_cut n d (suc i) (omega arith))
      where
        more : suc d + n ≡ suc (d + n)
        more = omega arith

    -- a burst of all the bytes, and one of each part
    pub burst_cut : (p : Part) (s : State) (n : ℕ) → ran p s (sent_of (a ++ b) 0 (m + n)) ≡ and_then (ran p s (sent_of a 0 m)) (λ s. ran p s (sent_of b 0 n))
    burst_cut p s n = ap (ran p s) (sent_cut n m 0 (omega arith)) ∙ ran_joined p s (sent_of a 0 m) (sent_of b 0 n)
