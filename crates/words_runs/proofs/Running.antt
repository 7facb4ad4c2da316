-- The loop over the events: what is done so far, and then the rest, is the whole. Assumes nothing.
use mathlib.Core.Path.{◌≡◌, refl, sym, ap, subst, ◌∙◌}
use mathlib.Core.Bool.{false}
use mathlib.Core.List.{List, [], ◌∷◌, ◌++◌, append_assoc, append-nil}
use Prim.Native.Nat.{ℕ, suc, ◌+◌, ◌*◌, ◌-◌, ◌≤◌, ◌<◌}
use native.Mathlib.Numerals.{add-one}
use native.Mathlib.Omega.{arith}
use lib.Dec.{eqb}
use lib.ListN.{length, set, take, drop, length-set, take-append-drop}
use lib.Seq.{take-suc-set, drop-set-lt, drop-drop, length-take-le}
use Rattle.map.specs.Map.{Part, part_of}
use Rattle.device_rules.specs.Device.{State, Outcome, out}
use Rattle.device_rules.specs.Answers.{answer_kind, answer_byte}
use Rattle.device_rules.specs.declared.Answer.{Answer}
use Rattle.device_rules.specs.declared.Answer.TheVariants.{Refused}
use Rattle.words_state.specs.Packed.{state_in, Packed, Leaves}
use Rattle.words_events.specs.Events.{Sent, event_at, sent_of, one}
use Rattle.words_runs.specs.Runs.{Ran, ended, onto, two_of, after_one, ran, Left}
use Rattle.words_events.proofs.Doing.{sent_first, refused_same}

-- ---- one event of a run
module _ (p : Part) (s : State) (e : Sent) (es : List Sent) where
  by_outcome : {o : Outcome} → o ≡ one p s e → ran p s (e ∷ es) ≡ after_one s o (λ s. ran p s es)
  unfolding ran
  by_outcome h = ap (λ (o : Outcome). after_one s o (λ s. ran p s es)) (sym h)

  pub ran_on : {a : Answer} {s' : State} → out a s' ≡ one p s e → eqb (answer_kind a) 4 ≡ false → ran p s (e ∷ es) ≡ onto 1 (two_of a) (ran p s' es)
  ran_on h k = by_outcome h ∙ rw k

  pub ran_stop : {n : ℕ} {s' : State} → out (Refused n) s' ≡ one p s e → ran p s (e ∷ es) ≡ ended n s
  ran_stop h = by_outcome h

-- what was done before goes in front
pub onto_onto : (m n : ℕ) (t u : List ℕ) (r : Ran) → onto m t (onto n u r) ≡ onto (m + n) (t ++ u) r
onto_onto m n t u r = λ j. record { number = r.number; done = count j; told = sym (append_assoc t u r.told) j; after = r.after }
  where
    count : m + (n + r.done) ≡ m + n + r.done
    count = omega arith

pub onto_none : (r : Ran) → r ≡ onto 0 [] r
onto_none r = λ j. record { number = r.number; done = count j; told = r.told; after = r.after }
  where
    count : r.done ≡ 0 + r.done
    count = omega arith

-- ---- two answer bytes
module _ (l : List ℕ) (n x y : ℕ) (room : n + 2 ≤ length l) where
  abbrev put : List ℕ
  put = set (set l n x) (n + 1) y

  two_put : take (n + 2) put ≡ take n l ++ (x ∷ y ∷ [])
  two_put =
      ap (λ (k : ℕ). take k put) more ∙ take-suc-set (set l n x) (n + 1) y (simp length-set (omega arith))
      ∙ ap (λ (k : ℕ). take k (set l n x) ++ (y ∷ [])) (add-one n)
      ∙ ap (λ (t : List ℕ). t ++ (y ∷ [])) (take-suc-set l n x (omega arith)) ∙ append_assoc (take n l) (x ∷ []) (y ∷ [])
    where
      more : n + 2 ≡ suc (n + 1)
      more = omega arith

  two_past : drop (n + 2) put ≡ drop (n + 2) l
  two_past = drop-set-lt (n + 2) (set l n x) (n + 1) y (omega arith) ∙ drop-set-lt (n + 2) l n x (omega arith)

drop_more : (n : ℕ) (l m : List ℕ) → drop n l ≡ drop n m → drop (n + 2) l ≡ drop (n + 2) m
drop_more n l m h = sym (drop-drop 2 n l) ∙ ap (drop 2) h ∙ drop-drop 2 n m

-- ---- the loop
module _ (c : ℕ) (w₀ bytes : List ℕ) (asked : ℕ) (answers₀ : List ℕ) where
  abbrev pub whole : Ran
  whole = ran (part_of c) (state_in (part_of c) w₀) (sent_of bytes 0 asked)

  -- the invariant
  pub record Running (w answers : List ℕ) (i : ℕ) : Type 0 where
    pub below : i ≤ asked
    pub packed : Packed c w
    pub room : length answers ≡ length answers₀
    pub past : drop (2 * i) answers ≡ drop (2 * i) answers₀
    pub rest : whole ≡ onto i (take (2 * i) answers) (ran (part_of c) (state_in (part_of c) w) (sent_of bytes i (asked - i)))

  pub begin : Packed c w₀ → Running w₀ answers₀ 0
  begin k = record {
    below = omega arith;
    packed = k;
    room = refl;
    past = refl;
    rest = onto_none whole ∙ ap (λ (n : ℕ). onto 0 [] (ran (part_of c) (state_in (part_of c) w₀) (sent_of bytes 0 n))) all;
  }
    where
      all : asked ≡ asked - 0
      all = omega arith

  module _ (enough : 2 * asked ≤ length answers₀) (w answers : List ℕ) (i : ℕ) (d : Running w answers i) where
    pub turn : i < asked → {w' : List ℕ} {a : Answer} → Leaves c w' a (one (part_of c) (state_in (part_of c) w) (event_at bytes i)) → eqb (answer_kind a) 4 ≡ false
        → Running w' (set (set answers (2 * i) (answer_kind a)) (2 * i + 1) (answer_byte a)) (i + 1)
    turn h {w'} {a} l k = record {
      below = omega arith;
      packed = l.packed;
      room = simp length-set d.room;
      past = rw two (two_past answers (2 * i) (answer_kind a) (answer_byte a) fits ∙ drop_more (2 * i) answers answers₀ d.past);
      rest = d.rest
          ∙ ap (λ (es : List Sent). onto i (take (2 * i) answers) (ran (part_of c) (state_in (part_of c) w) es)) (sent_first bytes i asked h)
          ∙ ap (onto i (take (2 * i) answers)) (ran_on (part_of c) (state_in (part_of c) w) (event_at bytes i) later l.outcome k)
          ∙ onto_onto i 1 (take (2 * i) answers) (two_of a) (ran (part_of c) (state_in (part_of c) w') later)
          ∙ ap (λ (t : List ℕ). onto (i + 1) t (ran (part_of c) (state_in (part_of c) w') later))
          (sym (two_put answers (2 * i) (answer_kind a) (answer_byte a) fits) ∙ ap (λ (n : ℕ). take n (set (set answers (2 * i) (answer_kind a)) (2 * i + 1) (answer_byte a))) (sym two));
    }
      where
        later : List Sent
        later = sent_of bytes (i + 1) (asked - (i + 1))

        two : 2 * (i + 1) ≡ 2 * i + 2
        two = omega arith

        fits : 2 * i + 2 ≤ length answers
        fits = omega (arith, d.room)

    -- the loop ends here
    ends : {n : ℕ} {w' : List ℕ} {s' : State} → ran (part_of c) (state_in (part_of c) w) (sent_of bytes i (asked - i)) ≡ ended n s' → Packed c w' → state_in (part_of c) w' ≡ s'
        → Left c whole n w' answers₀ answers (i ∷ [])
    ends {n} {w'} {s'} e k q = record {
      number_is = sym (ap (λ (r : Ran). r.number) all);
      packed = k;
      after = q ∙ sym (ap (λ (r : Ran). r.after) all);
      told = sym (take-append-drop (2 * i) answers) ∙ ap (λ (l : List ℕ). take (2 * i) answers ++ l) d.past
          ∙ ap (λ (n : ℕ). take (2 * i) answers ++ drop n answers₀) (sym long) ∙ ap (λ (t : List ℕ). t ++ drop (length t) answers₀) (sym told);
      counted = ap (λ (n : ℕ). n ∷ []) (count ∙ sym (ap (λ (r : Ran). r.done) all));
    }
      where
        all : whole ≡ onto i (take (2 * i) answers) (ended n s')
        all = d.rest ∙ ap (onto i (take (2 * i) answers)) e

        told : whole.told ≡ take (2 * i) answers
        told = ap (λ (r : Ran). r.told) all ∙ append-nil (take (2 * i) answers)

        long : length (take (2 * i) answers) ≡ 2 * i
        long = length-take-le (2 * i) answers (omega (arith, d.room, d.below))

        count : i ≡ i + 0
        count = omega arith

    -- a refused event
    pub stop : i < asked → {w' : List ℕ} {a : Answer} {n : ℕ} → a ≡ Refused n → Leaves c w' a (one (part_of c) (state_in (part_of c) w) (event_at bytes i))
        → Left c whole n w' answers₀ answers (i ∷ [])
    stop h {w'} {a} {n} e left =
        let l : Leaves c w' (Refused n) (one (part_of c) (state_in (part_of c) w) (event_at bytes i)) =
        subst (λ (a : Answer). Leaves c w' a (one (part_of c) (state_in (part_of c) w) (event_at bytes i))) e left in
        ends (ap (ran (part_of c) (state_in (part_of c) w)) (sent_first bytes i asked h) ∙ ran_stop (part_of c) (state_in (part_of c) w) (event_at bytes i) (sent_of bytes (i + 1) (asked - (i + 1))) l.outcome)
        l.packed (refused_same c w d.packed (event_at bytes i) l)

    -- none was
    pub finish : asked ≤ i → Left c whole 0 w answers₀ answers (asked ∷ [])
    unfolding ran sent_of
    finish h =
        subst (λ (n : ℕ). Left c whole 0 w answers₀ answers (n ∷ [])) last
        (ends (ap (λ (n : ℕ). ran (part_of c) (state_in (part_of c) w) (sent_of bytes i n)) none) d.packed refl)
      where
        none : asked - i ≡ 0
        none = omega arith

        last : i ≡ asked
        last = omega (arith, d.below)
