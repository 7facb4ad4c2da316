-- A line of bytes, a tab and bytes says those bytes. Assumes nothing.
use mathlib.Core.Path.{◌≡◌, refl, ap, ◌∙◌}
use mathlib.Core.Bool.{true, false}
use mathlib.Core.List.{List, [], ◌∷◌, ◌++◌}
use Prim.Native.Nat.{ℕ, suc, ◌+◌, ◌*◌, ◌/◌, ◌%◌, ◌<◌}
use native.Mathlib.Omega.{arith}
use lib.Dec.{eqb}
use lib.ListN.{length, get_or}
use Rattle.bits.proofs.Decide.{each, each_bool}
use Rattle.text.specs.Text.{digit_of, digit_byte, hex_text}
use Rattle.text_answers.specs.Answers.{refused_line}
use Rattle.map.specs.Map.{Part}
use Rattle.planner_quiet.specs.Settings.{registers_of}
use Rattle.planner_promise.specs.Formed.{room_for}
use Rattle.planner_promise.specs.Answer.{answer_of}
use Rattle.plan_fields.specs.Lines.{has_tab, before_tab, after_tab, is_digit, in_pairs, bytes_in, spelled, readable, start_in, goal_in}
use Rattle.plan_lines.specs.Told.{answer_to, answer_text, plan_text}
use Rattle.plan_lines.proofs.Answering.{five_start, five_goal, not_formed}

-- a digit's byte, tried at each
digit_read : (d : ℕ) → d < 16 → digit_of (digit_byte d) ≡ d
unfolding digit_of
digit_read = each 16 _ _ tt

digit_good : (d : ℕ) → d < 16 → is_digit (digit_byte d) ≡ true
unfolding digit_of
digit_good = each_bool 16 _ _ tt

digit_not_tab : (d : ℕ) → d < 16 → eqb (digit_byte d) 0x09 ≡ false
digit_not_tab = each_bool 16 _ _ tt

abbrev Bytes : List ℕ → Type 0
Bytes s = (i : ℕ) → i < length s → get_or s i 0 < 256

pairs_said : (s : List ℕ) → Bytes s → (in_pairs (spelled s) ≡ true) × (bytes_in (spelled s) ≡ s)
unfolding spelled hex_text in_pairs bytes_in
pairs_said [] small = (refl, refl)
pairs_said (b ∷ s) small =
    let later = pairs_said s (λ i h. small (suc i) (omega arith)) in
    let byte : b < 256 = small 0 (omega arith) in
    let high : b / 16 % 16 < 16 = omega arith in
    let low : b % 16 < 16 = omega arith in
    let sum : 16 * (b / 16 % 16) + b % 16 ≡ b = omega arith in (
      rw (digit_good (b / 16 % 16) high, digit_good (b % 16) low) later.0,
      rw (digit_read (b / 16 % 16) high, digit_read (b % 16) low, sum) (ap (λ (x : List ℕ). b ∷ x) later.1),
    )

-- the first tab is the one between
parted : (s t : List ℕ) → (has_tab (spelled s ++ (0x09 ∷ t)) ≡ true) × (before_tab (spelled s ++ (0x09 ∷ t)) ≡ spelled s) × (after_tab (spelled s ++ (0x09 ∷ t)) ≡ t)
unfolding spelled hex_text has_tab before_tab after_tab
parted [] t = (refl, refl, refl)
parted (b ∷ s) t =
    let later = parted s t in
    let high = digit_not_tab (b / 16 % 16) (omega arith) in
    let low = digit_not_tab (b % 16) (omega arith) in
    (rw (high, low) later.0, rw (high, low, later.1), rw (high, low) later.2)

module _ (p : Part) (start goal : List ℕ) (of_start : Bytes start) (of_goal : Bytes goal) where
  abbrev line : List ℕ
  line = spelled start ++ (0x09 ∷ spelled goal)

  -- the theorem: the line is readable and says these settings, of however many bytes
  pub line_says : (readable line ≡ true) × (start_in line ≡ start) × (goal_in line ≡ goal)
  line_says =
      let q = parted start (spelled goal) in
      let s = pairs_said start of_start in
      let g = pairs_said goal of_goal in
      (rw (q.0, q.1, q.2, s.0, g.0), rw q.1 s.1, rw q.2 g.1)

  -- and its answer is the planner's to them
  pub line_answered : answer_to p line ≡ answer_of p start goal (room_for p)
  unfolding answer_to
  line_answered = let e = line_says in rw (e.0, e.1, e.2)

  pub line_text : plan_text p line ≡ answer_text (answer_of p start goal (room_for p))
  unfolding plan_text
  line_text = ap answer_text line_answered

  -- which is refusal 5 where a start or a goal is not a byte for each register
  pub start_not_whole : (length start ≡ length (registers_of p) → ⊥) → plan_text p line ≡ refused_line 5
  start_not_whole h = line_text ∙ ap answer_text (five_start p start goal (room_for p) (not_formed p start h))

  pub goal_not_whole : (length goal ≡ length (registers_of p) → ⊥) → plan_text p line ≡ refused_line 5
  goal_not_whole h = line_text ∙ ap answer_text (five_goal p start goal (room_for p) (not_formed p goal h))
