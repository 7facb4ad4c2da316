-- The answer to a line, from what was heard of it and what the planner answered. Assumes nothing.
use mathlib.Core.Path.{◌≡◌, refl, ap, ap₂, sym, ◌∙◌}
use mathlib.Core.Bool.{Bool, true, false, ◌&&◌, and-false}
use mathlib.Core.List.{List, [], ◌∷◌}
use mathlib.Core.Logic.{inl, inr, ◌⊎◌}
use Prim.Native.Nat.{ℕ, ◌*◌, ◌≤◌}
use native.Mathlib.Omega.{arith}
use borrow.Author.Tests.{ne_eqb, ltb-true, ltb-false}
use lib.Dec.{ltb}
use lib.ListN.{length, take, drop, length-append, length-take}
use lib.Seq.{take_at, take_all}
use Rattle.std.proofs.Common.{Result, Ok, Err}
use Rattle.bits.proofs.Decide.{either_arm}
use Rattle.text.specs.Text.{Wrote}
use Rattle.text.proofs.Laws.{wrote_as}
use Rattle.text_answers.specs.Answers.{refused_line}
use Rattle.map.specs.Map.{Part}
use Rattle.planner_quiet.specs.Settings.{registers_of, shape_of, Write}
use Rattle.planner_quiet.specs.Order.{blocked}
use Rattle.planner_promise.specs.Formed.{fit_from, formed, room_for}
use Rattle.planner_promise.specs.Promise.{bytes_of, count_of}
use Rattle.planner_promise.specs.Answer.{Answer, refuse, give, answer_of, Answers}
use Rattle.planner_promise.specs.declared.Refusal.TheVariants.{NoQuietWay, BadSetting, BufferSmall}
use Rattle.plan_fields.specs.declared.Reading.{Reading}
use Rattle.plan_fields.specs.Asks.{kept_in, whole_in, Holds}
use Rattle.plan_fields.specs.Lines.{readable, start_in, goal_in}
use Rattle.plan_fields.proofs.Heard.{whole_heard, start_heard, goal_heard}
use Rattle.plan_refusals.specs.declared.LineRefusal.{LineRefusal}
use Rattle.plan_refusals.specs.declared.LineRefusal.TheVariants.{Unreadable, Planner}
use Rattle.plan_refusals.specs.Refusals.{line_number, refused_as}
use Rattle.plan_lines.specs.Told.{answer_to, writes_text, plan_line, answer_text, plan_text, refusal_in, pairs_text, planned_text, Tells}

-- ---- what the planner answered, as text
bytes_length : (ws : List Write) → length (bytes_of ws) ≡ 2 * length ws
bytes_length [] = omega arith
bytes_length (w ∷ ws) = omega (arith, bytes_length ws)

pairs_text_lem : (ws : List Write) → pairs_text (bytes_of ws) ≡ writes_text ws
unfolding pairs_text writes_text
pairs_text_lem [] = refl
pairs_text_lem (w ∷ ws) = rw (pairs_text_lem ws)

-- no refusal has the number 0
some_line : (d : LineRefusal) → line_number d ≡ 0 → ⊥
some_line Unreadable z = omega (arith, z)
some_line (Planner NoQuietWay) z = omega (arith, z)
some_line (Planner BadSetting) z = omega (arith, z)
some_line (Planner BufferSmall) z = omega (arith, z)

abbrev Numbered : Answer → Type 0
Numbered (refuse c) = c ≡ 0 → ⊥
Numbered (give ws) = Unit {0}

pub numbered : (p : Part) (line : List ℕ) → Numbered (answer_to p line)
unfolding answer_to answer_of
numbered p line =
    let s = start_in line in
    let g = goal_in line in
    either_arm Numbered (readable line)
    (either_arm Numbered (formed p s && formed p g)
    (either_arm Numbered (ltb (room_for p) (room_for p)) (λ z. omega (arith, z)) (either_arm Numbered (blocked (shape_of p) s g) (λ z. omega (arith, z)) tt)) (λ z. omega (arith, z)))
    (λ z. omega (arith, z))

module _ (before after : List ℕ) where
  pub few_writes : (r : Result ℕ LineRefusal) (a : Answer) → Answers (refused_as r) (count_of r) before after a → length after ≡ 52 → count_of r ≤ 26
  few_writes r (refuse c) (e, f, g) all = omega (arith, f)
  few_writes r (give ws) (e, f, g) all =
      omega (arith, all, f, ap length g, length-append (bytes_of ws) (drop (2 * length ws) before), bytes_length ws)

  answer_text_lem : (r : Result ℕ LineRefusal) (a : Answer) → Numbered a → Answers (refused_as r) (count_of r) before after a → planned_text r after ≡ answer_text a
  answer_text_lem (Ok n) (refuse c) s (e, f, g) = absurd (s (sym e))
  answer_text_lem (Ok n) (give ws) s (e, f, g) =
      ap plan_line
      (ap (λ (k : ℕ). pairs_text (take (2 * k) after)) f
      ∙ ap (λ (l : List ℕ). pairs_text (take (2 * length ws) l)) g
      ∙ ap pairs_text (take_at (bytes_of ws) (drop (2 * length ws) before) (2 * length ws) (bytes_length ws)) ∙ pairs_text_lem ws)
  answer_text_lem (Err d) (refuse c) s (e, f, g) = ap refused_line e
  answer_text_lem (Err d) (give ws) s (e, f, g) = absurd (some_line d e)

  answer_number : (r : Result ℕ LineRefusal) (a : Answer) → Answers (refused_as r) (count_of r) before after a → refused_as r ≡ refusal_in a
  answer_number r (refuse c) (e, f, g) = e
  answer_number r (give ws) (e, f, g) = e

-- ---- settings that are not formed
module _ (p : Part) (start goal : List ℕ) (n : ℕ) where
  pub five_start : formed p start ≡ false → answer_of p start goal n ≡ refuse 5
  unfolding answer_of
  five_start h = rw h

  pub five_goal : formed p goal ≡ false → answer_of p start goal n ≡ refuse 5
  unfolding answer_of
  five_goal h = rw (h, and-false (formed p start))

pub not_formed : (p : Part) (s : List ℕ) → (length s ≡ length (registers_of p) → ⊥) → formed p s ≡ false
not_formed p s h = ap (λ (b : Bool). b && fit_from p s 0 (length (registers_of p))) (ne_eqb (length s) (length (registers_of p)) h)

-- ---- what is past the seventeenth byte of a field changes no answer
module _ (p : Part) (few : length (registers_of p) ≤ 16) where
  cut : (s : List ℕ) → (take 17 s ≡ s) ⊎ ((formed p (take 17 s) ≡ false) × (formed p s ≡ false))
  cut s = go (ltb 17 (length s)) refl
    where
      go : (t : Bool) → ltb 17 (length s) ≡ t → (take 17 s ≡ s) ⊎ ((formed p (take 17 s) ≡ false) × (formed p s ≡ false))
      go true t =
          let long = ltb-true 17 (length s) t in
          inr (not_formed p (take 17 s) (λ e. omega (arith, e, long, few, length-take 17 s)), not_formed p s (λ e. omega (arith, e, long, few)))
      go false t = inl (take_all 17 s (ltb-false 17 (length s) t))

  answer_cut : (s g : List ℕ) (n : ℕ) → answer_of p (take 17 s) (take 17 g) n ≡ answer_of p s g n
  answer_cut s g n = go (cut s) (cut g)
    where
      go : (take 17 s ≡ s) ⊎ ((formed p (take 17 s) ≡ false) × (formed p s ≡ false)) → (take 17 g ≡ g) ⊎ ((formed p (take 17 g) ≡ false) × (formed p g ≡ false))
          → answer_of p (take 17 s) (take 17 g) n ≡ answer_of p s g n
      go (inl e) (inl f) = ap₂ (λ (x y : List ℕ). answer_of p x y n) e f
      go (inr e) f = five_start p (take 17 s) (take 17 g) n e.0 ∙ sym (five_start p s g n e.1)
      go (inl e) (inr f) = five_goal p (take 17 s) (take 17 g) n f.0 ∙ sym (five_goal p s g n f.1)

  -- ---- the line
  module _ (line : List ℕ) (r : Reading) (held : Holds r line) where
    pub line_unread : whole_in r ≡ false → answer_to p line ≡ refuse 7
    unfolding answer_to
    line_unread h = let t : readable line ≡ false = sym (whole_heard line r held) ∙ h in rw t

    pub line_asked : whole_in r ≡ true → answer_of p (kept_in r.start) (kept_in r.goal) (room_for p) ≡ answer_to p line
    unfolding answer_to
    line_asked h =
        let t : readable line ≡ true = sym (whole_heard line r held) ∙ h in
        ap₂ (λ (x y : List ℕ). answer_of p x y (room_for p)) (start_heard line r held t) (goal_heard line r held t)
        ∙ answer_cut (start_in line) (goal_in line) (room_for p) ∙ rw t

-- and its answer told
pub tells : (p : Part) (line : List ℕ) (q : Result ℕ LineRefusal) (before after : List ℕ) {out left : List ℕ} {at end : ℕ} → Answers (refused_as q) (count_of q) before after (answer_to p line)
    → Wrote out at (planned_text q after) end left → Tells p line out at end (refused_as q) left
unfolding plan_text
tells p line q before after answers w = record {
  wrote = wrote_as (answer_text_lem before after q (answer_to p line) (numbered p line) answers) w;
  told = answer_number before after q (answer_to p line) answers;
}
