-- Which lines are taken whole, byte by byte, and the bytes that their fields are given. Assumes nothing.
use mathlib.Core.Path.{◌≡◌, refl, ap, sym, ◌∙◌}
use mathlib.Core.Bool.{Bool, true, false, ◌&&◌, and-false}
use mathlib.Core.List.{List, [], ◌∷◌, ◌++◌}
use Prim.Native.Nat.{ℕ, ◌+◌, ◌*◌, ◌%◌, ◌<◌}
use native.Mathlib.Omega.{arith}
use borrow.Author.Tests.{eqb-true, ltb-true}
use lib.Dec.{eqb, ltb}
use Rattle.bits.proofs.Decide.{either_arm, clash}
use Rattle.text.specs.Text.{digit_of}
use Rattle.plan_fields.specs.declared.Field.{Field}
use Rattle.plan_fields.specs.declared.Reading.{Reading}
use Rattle.plan_fields.specs.declared.Place.{Place}
use Rattle.plan_fields.specs.declared.Place.TheVariants.{Goal, Nowhere, Start}
use Rattle.plan_fields.specs.Asks.{field, byte_taken, digit_taken, reading, nothing, begun, past_tab, with_digit_at, with_digit, taken, whole_in, taken_all, Holds}
use Rattle.std.proofs.Common.{Some, None, is_none}
use Rattle.plan_fields.specs.Lines.{has_tab, before_tab, after_tab, is_digit, in_pairs, bytes_in, readable, start_in, goal_in}

-- ---- parts
all_taken_lem : (r : Reading) (s t : List ℕ) → taken_all r (s ++ t) ≡ taken_all (taken_all r s) t
unfolding taken_all
all_taken_lem r [] t = refl
all_taken_lem r (b ∷ s) t = all_taken_lem (taken r b) s t

-- a part taken after a text
pub grown_all : {r y : Reading} (text part : List ℕ) → Holds r text → taken_all y [] ≡ taken_all r part → Holds y (text ++ part)
unfolding taken_all
grown_all text part h e = e ∙ ap (λ (x : Reading). taken_all x part) h ∙ sym (all_taken_lem begun text part)

-- ---- one byte
module _ (r : Reading) (b : ℕ) where
  tab_taken : eqb b 0x09 ≡ true → taken r b ≡ reading r.start r.goal (past_tab r.place)
  unfolding taken
  tab_taken t = rw t

  other_taken : eqb b 0x09 ≡ false → is_digit b ≡ false → taken r b ≡ reading r.start r.goal Nowhere
  unfolding taken
  other_taken t d = rw (t, d)

  digit_taken_lem : eqb b 0x09 ≡ false → is_digit b ≡ true → taken r b ≡ with_digit r (digit_of b)
  unfolding taken
  digit_taken_lem t d = rw (t, d)

-- two digits of a field
module _ (f : Field) (whole : f.high ≡ None) where
  first_waits : (d : ℕ) → digit_taken f d ≡ field f.bytes f.count (Some d)
  unfolding digit_taken
  first_waits d = rw whole

  pair_taken : (d e : ℕ) → d < 16 → digit_taken (digit_taken f d) e ≡ byte_taken f (16 * d + e)
  unfolding digit_taken byte_taken
  pair_taken d e h =
      let n : d % 16 * 16 + e ≡ 16 * d + e = omega arith in
      rw (whole, n)

byte_whole : (f : Field) (v : ℕ) → (byte_taken f v).high ≡ None
unfolding byte_taken
byte_whole f v = either_arm (λ (x : Field). x.high ≡ None) (ltb f.count 17) refl refl

-- ---- a line that is spoiled stays so
lost_digit : (r : Reading) (d : ℕ) → r.place ≡ Nowhere → with_digit r d ≡ r
unfolding with_digit
lost_digit r d h = ap (λ (x : Place). with_digit_at x r d) h

lost_stays : (r : Reading) (b : ℕ) → r.place ≡ Nowhere → (taken r b).place ≡ Nowhere
unfolding taken
lost_stays r b h =
    let lost : Reading → Type 0 = λ x. x.place ≡ Nowhere in
    either_arm lost (eqb b 0x09) (ap past_tab h) (either_arm lost (is_digit b) (ap (λ (x : Reading). x.place) (lost_digit r (digit_of b) h) ∙ h) refl)

lost_ends : (r : Reading) (line : List ℕ) → r.place ≡ Nowhere → whole_in (taken_all r line) ≡ false
unfolding taken_all
lost_ends r [] h = rw h
lost_ends r (b ∷ line) h = lost_ends (taken r b) line (lost_stays r b h)

-- ---- the goal's digits, to the end of the line
-- the bytes of a field, one after the other
abbrev pub bytes_taken : Field → List ℕ → Field
bytes_taken f [] = f
bytes_taken f (v ∷ vs) = bytes_taken (byte_taken f v) vs

-- what is whole of a line whose start has been taken, and what it is then
record Ended (start goal : Field) (line : List ℕ) (r : Reading) : Type 0 where
  whole : whole_in r ≡ (is_none start.high && in_pairs line)
  is : in_pairs line ≡ true → r ≡ reading start (bytes_taken goal (bytes_in line)) Goal

pairs_spoiled : (a : ℕ) (s : List ℕ) → is_digit a ≡ false → in_pairs (a ∷ s) ≡ false
unfolding in_pairs
pairs_spoiled a [] h = refl
pairs_spoiled a (b ∷ s) h = rw h

-- nothing that is whole
no_end : (start goal : Field) (line : List ℕ) (r : Reading) → in_pairs line ≡ false → whole_in r ≡ false → Ended start goal line r
no_end start goal line r p w = record { whole = rw (w, p, and-false (is_none start.high)); is = λ q. clash (in_pairs line) q p }

tab_no_digit : (b : ℕ) → eqb b 0x09 ≡ true → is_digit b ≡ false
unfolding digit_of
tab_no_digit b h = rw (eqb-true b 0x09 h)

digit_no_tab : (b : ℕ) → is_digit b ≡ true → eqb b 0x09 ≡ false
digit_no_tab b h = go (eqb b 0x09) refl
  where
    go : (t : Bool) → eqb b 0x09 ≡ t → t ≡ false
    go true t = clash (is_digit b) h (tab_no_digit b t)
    go false t = refl

-- a field that digits go to, in the reading that has it
module _ (of : Field → Reading) (goes : (f : Field) (d : ℕ) → with_digit (of f) d ≡ of (digit_taken f d)) (f : Field) where
  digit_on : (a : ℕ) → is_digit a ≡ true → taken (of f) a ≡ of (digit_taken f (digit_of a))
  digit_on a h = digit_taken_lem (of f) a (digit_no_tab a h) h ∙ goes f (digit_of a)

  pair_on : f.high ≡ None → (a b : ℕ) (line : List ℕ) → is_digit a ≡ true → is_digit b ≡ true
      → taken_all (of f) (a ∷ b ∷ line) ≡ taken_all (of (byte_taken f (16 * digit_of a + digit_of b))) line
  unfolding taken_all
  pair_on whole a b line p q =
      rw (digit_on a p, digit_taken_lem (of (digit_taken f (digit_of a))) b (digit_no_tab b q) q, goes (digit_taken f (digit_of a)) (digit_of b), pair_taken f whole (digit_of a) (digit_of b) (ltb-true (digit_of a) 16 p))

-- the goal's bytes
module _ (start : Field) where
  abbrev goal_of : Field → Reading
  goal_of goal = reading start goal Goal

  goal_goes : (f : Field) (d : ℕ) → with_digit (goal_of f) d ≡ goal_of (digit_taken f d)
  unfolding with_digit
  goal_goes f d = refl

  -- a byte that is no digit
  goal_spoiled : (g : Field) (b : ℕ) (line : List ℕ) → is_digit b ≡ false → whole_in (taken_all (taken (goal_of g) b) line) ≡ false
  goal_spoiled g b line h = go (eqb b 0x09) refl
    where
      go : (t : Bool) → eqb b 0x09 ≡ t → whole_in (taken_all (taken (goal_of g) b) line) ≡ false
      go true t = lost_ends (taken (goal_of g) b) line (ap (λ (r : Reading). r.place) (tab_taken (goal_of g) b t))
      go false t = lost_ends (taken (goal_of g) b) line (ap (λ (r : Reading). r.place) (other_taken (goal_of g) b t h))

  goal_odd : (goal : Field) → goal.high ≡ None → (a : ℕ) → Ended start goal (a ∷ []) (taken_all (goal_of goal) (a ∷ []))
  unfolding taken_all in_pairs
  goal_odd goal whole a = no_end start goal (a ∷ []) (taken (goal_of goal) a) refl (go (is_digit a) refl)
    where
      go : (t : Bool) → is_digit a ≡ t → whole_in (taken (goal_of goal) a) ≡ false
      go true t = ap whole_in (digit_on goal_of goal_goes goal a t ∙ ap goal_of (first_waits goal whole (digit_of a))) ∙ and-false (is_none start.high)
      go false t = goal_spoiled goal a [] t

  goal_two : (goal : Field) → goal.high ≡ None → (a b : ℕ) (line : List ℕ) → ((g : Field) → g.high ≡ None → Ended start g line (taken_all (goal_of g) line))
      → Ended start goal (a ∷ b ∷ line) (taken_all (goal_of goal) (a ∷ b ∷ line))
  unfolding taken_all in_pairs bytes_in
  goal_two goal whole a b line later = first (is_digit a) refl
    where
      spoiled : in_pairs (a ∷ b ∷ line) ≡ false → whole_in (taken_all (goal_of goal) (a ∷ b ∷ line)) ≡ false → Ended start goal (a ∷ b ∷ line) (taken_all (goal_of goal) (a ∷ b ∷ line))
      spoiled = no_end start goal (a ∷ b ∷ line) (taken_all (goal_of goal) (a ∷ b ∷ line))

      second : is_digit a ≡ true → (t : Bool) → is_digit b ≡ t → Ended start goal (a ∷ b ∷ line) (taken_all (goal_of goal) (a ∷ b ∷ line))
      second p true q =
          let v : ℕ = 16 * digit_of a + digit_of b in
          let on = pair_on goal_of goal_goes goal whole a b line p q in
          let end = later (byte_taken goal v) (byte_whole goal v) in
          record { whole = ap whole_in on ∙ end.whole ∙ rw (p, q); is = λ e. on ∙ end.is (rw (p, q) at e) }
      second p false q =
          spoiled (rw (p, q)) (ap (λ (r : Reading). whole_in (taken_all (taken r b) line)) (digit_on goal_of goal_goes goal a p) ∙ goal_spoiled (digit_taken goal (digit_of a)) b line q)

      first : (t : Bool) → is_digit a ≡ t → Ended start goal (a ∷ b ∷ line) (taken_all (goal_of goal) (a ∷ b ∷ line))
      first true p = second p (is_digit b) refl
      first false p = spoiled (rw p) (goal_spoiled goal a (b ∷ line) p)

  goal_ended : (line : List ℕ) (goal : Field) → goal.high ≡ None → Ended start goal line (taken_all (goal_of goal) line)
  unfolding taken_all in_pairs bytes_in
  goal_ended [] goal whole = record { whole = rw whole; is = λ e. refl }
  goal_ended (a ∷ []) goal whole = goal_odd goal whole a
  goal_ended (a ∷ b ∷ line) goal whole = goal_two goal whole a b line (λ g h. goal_ended line g h)

-- ---- the start's digits, and what follows
pub record Read (start : Field) (line : List ℕ) (r : Reading) : Type 0 where
  pub whole : whole_in r ≡ readable line
  pub is : readable line ≡ true → r ≡ reading (bytes_taken start (start_in line)) (bytes_taken nothing (goal_in line)) Goal

not_read : (start : Field) (line : List ℕ) (r : Reading) → readable line ≡ false → whole_in r ≡ false → Read start line r
not_read start line r p w = record { whole = w ∙ sym p; is = λ q. clash (readable line) q p }

abbrev start_of : Field → Reading
start_of start = reading start nothing Start

start_goes : (f : Field) (d : ℕ) → with_digit (start_of f) d ≡ start_of (digit_taken f d)
unfolding with_digit
start_goes f d = refl

-- the start ends at a tab
start_tab : (start : Field) → start.high ≡ None → (b : ℕ) (line : List ℕ) → eqb b 0x09 ≡ true → Read start (b ∷ line) (taken_all (start_of start) (b ∷ line))
unfolding taken_all has_tab before_tab after_tab in_pairs bytes_in
start_tab start whole b line t =
    let end = goal_ended start line nothing refl in
    let on : taken (start_of start) b ≡ reading start nothing Goal = tab_taken (start_of start) b t in
    let all = ap (λ (r : Reading). taken_all r line) on in
    record { whole = ap whole_in all ∙ end.whole ∙ rw (whole, t); is = λ q. all ∙ end.is (rw t at q) ∙ rw t }

-- a byte that is no digit and no tab
start_spoiled : (start : Field) (b : ℕ) (line : List ℕ) → eqb b 0x09 ≡ false → is_digit b ≡ false → whole_in (taken_all (taken (start_of start) b) line) ≡ false
start_spoiled start b line t h = lost_ends (taken (start_of start) b) line (ap (λ (r : Reading). r.place) (other_taken (start_of start) b t h))

-- a start that is not pairs
unread : (line : List ℕ) → in_pairs (before_tab line) ≡ false → readable line ≡ false
unread line h = rw h (and-false (has_tab line))

start_odd : (start : Field) → start.high ≡ None → (a : ℕ) → Read start (a ∷ []) (taken_all (start_of start) (a ∷ []))
unfolding taken_all has_tab
start_odd start whole a = go (eqb a 0x09) refl
  where
    none : eqb a 0x09 ≡ false → readable (a ∷ []) ≡ false
    none t = rw t

    still : eqb a 0x09 ≡ false → (d : Bool) → is_digit a ≡ d → whole_in (taken_all (start_of start) (a ∷ [])) ≡ false
    still t true d = ap whole_in (digit_on start_of start_goes start a d)
    still t false d = start_spoiled start a [] t d

    go : (t : Bool) → eqb a 0x09 ≡ t → Read start (a ∷ []) (taken_all (start_of start) (a ∷ []))
    go true t = start_tab start whole a [] t
    go false t = not_read start (a ∷ []) (taken_all (start_of start) (a ∷ [])) (none t) (still t (is_digit a) refl)

module _ (start : Field) (whole : start.high ≡ None) (a b : ℕ) (line : List ℕ) where
  abbrev two : List ℕ
  two = a ∷ b ∷ line

  -- an odd digit, and a tab
  start_half : is_digit a ≡ true → eqb b 0x09 ≡ true → Read start two (taken_all (start_of start) two)
  unfolding taken_all before_tab in_pairs
  start_half p t =
      let on : taken (taken (start_of start) a) b ≡ reading (field start.bytes start.count (Some (digit_of a))) nothing Goal =
      ap (λ (r : Reading). taken r b) (digit_on start_of start_goes start a p ∙ ap start_of (first_waits start whole (digit_of a)))
      ∙ tab_taken (start_of (field start.bytes start.count (Some (digit_of a)))) b t in
      not_read start two (taken_all (start_of start) two) (unread two (rw (digit_no_tab a p, t)))
      (ap (λ (r : Reading). whole_in (taken_all r line)) on ∙ (goal_ended (field start.bytes start.count (Some (digit_of a))) line nothing refl).whole)

  -- a byte of the first two that is no digit and no tab
  start_first : eqb a 0x09 ≡ false → is_digit a ≡ false → Read start two (taken_all (start_of start) two)
  unfolding taken_all before_tab
  start_first t h =
      not_read start two (taken_all (start_of start) two) (unread two (rw t (pairs_spoiled a (before_tab (b ∷ line)) h))) (start_spoiled start a (b ∷ line) t h)

  start_second : is_digit a ≡ true → eqb b 0x09 ≡ false → is_digit b ≡ false → Read start two (taken_all (start_of start) two)
  unfolding taken_all before_tab in_pairs
  start_second p t h =
      not_read start two (taken_all (start_of start) two) (unread two (rw (digit_no_tab a p, t, p, h)))
      (ap (λ (r : Reading). whole_in (taken_all (taken r b) line)) (digit_on start_of start_goes start a p) ∙ start_spoiled (digit_taken start (digit_of a)) b line t h)

  start_pair : is_digit a ≡ true → is_digit b ≡ true → ((f : Field) → f.high ≡ None → Read f line (taken_all (start_of f) line)) → Read start two (taken_all (start_of start) two)
  unfolding has_tab before_tab after_tab in_pairs bytes_in
  start_pair p q later =
      let v : ℕ = 16 * digit_of a + digit_of b in
      let end = later (byte_taken start v) (byte_whole start v) in
      let all = pair_on start_of start_goes start whole a b line p q in
      let m = digit_no_tab a p in
      let n = digit_no_tab b q in
      record { whole = ap whole_in all ∙ end.whole ∙ rw (m, n, p, q); is = λ e. all ∙ end.is (rw (m, n, p, q) at e) ∙ rw (m, n) }

  start_two : ((f : Field) → f.high ≡ None → Read f line (taken_all (start_of f) line)) → Read start two (taken_all (start_of start) two)
  start_two later = first (eqb a 0x09) refl (is_digit a) refl
    where
      second : is_digit a ≡ true → (t : Bool) → eqb b 0x09 ≡ t → (d : Bool) → is_digit b ≡ d → Read start two (taken_all (start_of start) two)
      second p true t d q = start_half p t
      second p false t true q = start_pair p q later
      second p false t false q = start_second p t q

      first : (t : Bool) → eqb a 0x09 ≡ t → (d : Bool) → is_digit a ≡ d → Read start two (taken_all (start_of start) two)
      first true t d p = start_tab start whole a (b ∷ line) t
      first false t true p = second p (eqb b 0x09) refl (is_digit b) refl
      first false t false p = start_first t p

pub start_ended : (line : List ℕ) (start : Field) → start.high ≡ None → Read start line (taken_all (start_of start) line)
unfolding taken_all has_tab
start_ended [] start whole = not_read start [] (start_of start) refl refl
start_ended (a ∷ []) start whole = start_odd start whole a
start_ended (a ∷ b ∷ line) start whole = start_two start whole a b line (λ f h. start_ended line f h)
