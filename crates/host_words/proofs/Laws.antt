-- What a call leaves is what the inner functions leave. Assumes nothing.
use mathlib.Core.Path.{◌≡◌, refl, sym, ap, ap₂, ◌∙◌}
use mathlib.Core.Bool.{Bool, true, false, cond, ◌&&◌}
use mathlib.Core.List.{List, [], ◌∷◌}
use Prim.Native.Nat.{ℕ, ◌<◌}
use borrow.Author.Tests.{lt-ltb, le-ltb}
use lib.Dec.{eqb, ltb}
use lib.ListN.{length, get_or}
use Rattle.bits.proofs.Decide.{clash}
use Rattle.map.specs.Map.{Part, part_of, reserved}
use Rattle.registers.specs.Registers.{core}
use Rattle.device_rules.specs.Device.{State, Outcome, identity, state, shown_in}
use Rattle.device_rules.specs.Answers.{refusal_number}
use Rattle.device_rules.specs.declared.Answer.{Answer}
use Rattle.device_rules.specs.declared.Answer.TheVariants.{Nothing, Ack, Nak, Byte, Refused}
use Rattle.device_rules.specs.Refusals.{image_fits}
use Rattle.device_rules.specs.PowerOn.{power_on, making_refused}
use Rattle.planner_promise.specs.Answer.{answer_of, Answers}
use Rattle.planner_promise.specs.Promise.{refusal_of, count_of, Promise}
use Rattle.planner_promise.specs.declared.Refusal.{Refusal}
use Rattle.planner_promise.specs.declared.Refusal.TheVariants.{NoQuietWay, BadSetting, BufferSmall}
use Rattle.std.proofs.Common.{Result, Ok, Err}
use Rattle.words.specs.Words.{file_of, sets_in, interrupt_in}
use Rattle.words_state.specs.Packed.{state_in, Packed, Steps}
use Rattle.host_words.specs.Host.{told_as, Told, Made, Seen, Shown, FromImage, ToImage, writes_after, count_in}

-- ---- one event
-- a number that is not 0 is told of a refusal alone
pub only_refused : {S : Type 0} (number : ℕ) (a : Answer) → number ≡ refusal_number a → eqb number 0 ≡ false → ((m : ℕ) → a ≡ Refused m → S) → S
only_refused number Nothing n h then = clash (eqb number 0) (ap (λ (k : ℕ). eqb k 0) n) h
only_refused number Ack n h then = clash (eqb number 0) (ap (λ (k : ℕ). eqb k 0) n) h
only_refused number Nak n h then = clash (eqb number 0) (ap (λ (k : ℕ). eqb k 0) n) h
only_refused number (Byte b) n h then = clash (eqb number 0) (ap (λ (k : ℕ). eqb k 0) n) h
only_refused number (Refused m) n h then = then m refl

-- and leaves what was lent for the answer
pub left_told : {told' : List ℕ} (a : Answer) (told : List ℕ) (m : ℕ) → a ≡ Refused m → told' ≡ told_as a told → told' ≡ told
left_told a told m e t = t ∙ ap (λ (a : Answer). told_as a told) e

module _ (c : ℕ) (w w' told told' : List ℕ) (kind arg number : ℕ) where
  -- a step on words, told in numbers
  pub told_of : (a : Answer) → Steps c w w' kind arg a → number ≡ refusal_number a → told' ≡ told_as a told → Told c w kind arg number w' told told'
  told_of a s n t = record {
    taken = λ k.
        let l = s.taken k in
        record {
          refused = n ∙ ap (λ (o : Outcome). refusal_number o.answer) l.outcome;
          packed = l.packed;
          after = ap (λ (o : Outcome). o.after) l.outcome;
          answer = t ∙ ap (λ (o : Outcome). told_as o.answer told) l.outcome;
        };
    broken = λ z. n ∙ ap refusal_number (s.broken z);
    unchanged = λ h. only_refused number a n h (λ m e. (s.refused m e, left_told a told m e t));
  }

-- ---- a device that is made, or not
pub made : (c choice levels id : ℕ) (w w' : List ℕ) → 0 ≡ making_refused (part_of c) choice levels id → Packed c w' × (state_in (part_of c) w' ≡ power_on (part_of c) choice levels id)
    → Made c choice levels id 0 w w'
made c choice levels id w w' e q =
    record { refused = e; made = λ h. q; unchanged = λ h. clash (eqb (making_refused (part_of c) choice levels id) 0) (ap (λ (n : ℕ). eqb n 0) (sym e)) h }

pub not_made : (c choice levels id number : ℕ) (w : List ℕ) → number ≡ making_refused (part_of c) choice levels id → (number ≡ 0 → ⊥) → Made c choice levels id number w w
not_made c choice levels id number w e some = record { refused = e; made = λ h. absurd (some (e ∙ h)); unchanged = λ h. refl }

-- ---- what can be seen
module _ (c : ℕ) (w : List ℕ) (value : Part → State → List ℕ) (lent : List ℕ) where
  pub seen : (lent' : List ℕ) → Packed c w → lent' ≡ value (part_of c) (state_in (part_of c) w) → Seen c w value 0 lent lent'
  seen lent' k e = record { seen = λ k. (refl, e); broken = λ z. absurd (z k) }

  pub unseen : (Packed c w → ⊥) → Seen c w value 3 lent lent
  unseen z = record { seen = λ k. absurd (z k); broken = λ z. (refl, refl) }

pub int_told : {t b : Bool} {n : ℕ} → n ≡ cond t 1 0 → t ≡ b → n ∷ [] ≡ cond b 1 0 ∷ []
int_told n t = ap (λ (n : ℕ). n ∷ []) n ∙ ap (λ (t : Bool). cond {A = ℕ} t 1 0 ∷ []) t

pub both_told : {l m h k : ℕ} → l ≡ m → h ≡ k → l ∷ h ∷ [] ≡ m ∷ k ∷ []
both_told = ap₂ (λ (l h : ℕ). l ∷ h ∷ [])

module _ (c : ℕ) (w : List ℕ) (n : ℕ) (lent : List ℕ) where
  pub shown_here : (lent' : List ℕ) → Packed c w → reserved (part_of c) n ≡ false → lent' ≡ shown_in (part_of c) (state_in (part_of c) w) n ∷ [] → Shown c w n 0 lent lent'
  shown_here lent' k e q = record { seen = λ k. (simp e, q ∙ simp e); broken = λ z. absurd (z k) }

  pub no_register : Packed c w → reserved (part_of c) n ≡ true → Shown c w n 2 lent lent
  no_register k e = record { seen = λ k. (simp e, simp e); broken = λ z. absurd (z k) }

  pub not_shown : (Packed c w → ⊥) → Shown c w n 3 lent lent
  not_shown z = record { seen = λ k. absurd (z k); broken = λ z. (refl, refl) }

pub above : (p : Part) (n : ℕ) → 127 < n → reserved p n ≡ true
unfolding reserved
above p n h = simp (le-ltb n 128 h)

-- ---- images
-- of a part that is known, the image alone decides
judged_by : (c : ℕ) → c < 2 → {fits t : Bool} → fits ≡ (ltb c 2 && t) → fits ≡ t
judged_by c hc {t = t} e = e ∙ ap (λ (b : Bool). b && t) (lt-ltb c 2 hc)

module _ (c : ℕ) (hc : c < 2) (image : State) (w w' : List ℕ) where
  pub from_image : true ≡ (ltb c 2 && image_fits (part_of c) image) → Packed c w' × (state_in (part_of c) w' ≡ image) → FromImage c image 0 w w'
  from_image judged packed = record { packed = λ h. (refl, packed.0, packed.1); broken = λ h. clash (image_fits (part_of c) image) (sym (judged_by c hc judged)) h }

  pub from_none : false ≡ (ltb c 2 && image_fits (part_of c) image) → w' ≡ w → FromImage c image 3 w w'
  from_none judged same = record { packed = λ h. clash (image_fits (part_of c) image) h (sym (judged_by c hc judged)); broken = λ h. (refl, same) }

module _ (c : ℕ) (w pins file rest : List ℕ) where
  pub to_image : (file' : List ℕ) → Packed c w → file' ≡ file_of (part_of c) w
      → ToImage c w 0 pins file rest (get_or w 0 0 ∷ get_or w 1 0 ∷ get_or w 2 0 ∷ get_or w 3 0 ∷ []) file'
      (get_or w 21 0 ∷ get_or w 22 0 ∷ get_or w 23 0 ∷ get_or w 19 0 ∷ get_or w 20 0 ∷ get_or w 24 0 ∷ get_or w 25 0 ∷ get_or w 26 0 ∷ [])
  to_image file' k e = record {
    unpacked = λ k. (refl, ap (λ (f : List ℕ). state (core f (sets_in w)) (interrupt_in w) (get_or w 21 0) (get_or w 24 0) (get_or w 22 0) (get_or w 23 0) (identity (get_or w 25 0) (get_or w 26 0))) e);
    broken = λ z. absurd (z k);
  }

  pub to_none : (Packed c w → ⊥) → ToImage c w 3 pins file rest pins file rest
  to_none z = record { unpacked = λ k. absurd (z k); broken = λ z. (refl, refl, refl, refl) }

-- ---- plans
-- the two numbers say how many writes there are
counted : (p : Result ℕ Refusal) (writes : List ℕ) → count_in (refusal_of p) (writes_after p writes) ≡ count_of p
counted (Ok n) writes = refl
counted (Err NoQuietWay) writes = refl
counted (Err BadSetting) writes = refl
counted (Err BufferSmall) writes = refl

kept_writes : (p : Result ℕ Refusal) (writes : List ℕ) → eqb (refusal_of p) 0 ≡ false → writes_after p writes ≡ writes
kept_writes (Ok n) writes h = clash true refl h
kept_writes (Err refusal) writes h = refl

pub plan_told : (part : Part) {start goal before after : List ℕ} (p : Result ℕ Refusal) → Promise part start goal before after (refusal_of p) (count_of p)
    → Answers (refusal_of p) (count_of p) before after (answer_of part start goal (length before)) → {n : ℕ} {writes rest : List ℕ} → n ≡ refusal_of p → rest ≡ writes_after p writes
    → Answers n (count_in n rest) before after (answer_of part start goal (length before)) × Promise part start goal before after n (count_in n rest) × (eqb n 0 ≡ false → rest ≡ writes)
plan_told part {start} {goal} {before} {after} p promise said {n} {writes} {rest} e q =
    let count : count_in n rest ≡ count_of p = ap₂ count_in e q ∙ counted p writes in (
      rw (count, e) said,
      rw (count, e) promise,
      λ h. q ∙ kept_writes p writes (ap (λ (n : ℕ). eqb n 0) (sym e) ∙ h),
    )
