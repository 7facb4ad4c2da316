-- A pair of bytes laid behind others at the front of a buffer. Assumes nothing.
use mathlib.Core.Path.{◌≡◌, sym, ap, ◌∙◌}
use mathlib.Core.Bool.{Bool, cond}
use mathlib.Core.List.{List, [], ◌∷◌, ◌++◌, append_assoc, append-nil}
use Prim.Native.Nat.{ℕ, suc, ◌+◌, ◌*◌, ◌≤◌, ◌<◌}
use native.Mathlib.Omega.{arith}
use borrow.Author.Tests.{eq-eqb, ne_eqb}
use lib.ListN.{length, get_or, set, drop, length-append, length-drop}
use lib.Seq.{drop-cons, set_at}
use Rattle.planner_pairs.specs.Pairs.{pair_of, Emitted}

-- one pair more
laid_pair : (out before : List ℕ) (n r v : ℕ) → length out ≡ 2 * n → 2 * n + 1 < length before
    → set (set (out ++ drop (2 * n) before) (2 * n) r) (2 * n + 1) v ≡ (out ++ r ∷ v ∷ []) ++ drop (2 * (n + 1)) before
laid_pair out before n r v h room =
    ap (λ (l : List ℕ). set (set (out ++ l) (2 * n) r) (2 * n + 1) v) two
    ∙ ap (λ (l : List ℕ). set l (2 * n + 1) v) (set_at out x (y ∷ rest) r (2 * n) h ∙ sym (append_assoc out (r ∷ []) (y ∷ rest)))
    ∙ set_at (out ++ r ∷ []) y rest v (2 * n + 1) (length-append out (r ∷ []) ∙ ap (λ (k : ℕ). k + 1) h)
    ∙ append_assoc out (r ∷ []) (v ∷ rest) ∙ sym (append_assoc out (r ∷ v ∷ []) rest)
    ∙ ap (λ (k : ℕ). (out ++ r ∷ v ∷ []) ++ drop k before) count
  where
    count : suc (suc (2 * n)) ≡ 2 * (n + 1)
    count = omega arith

    x : ℕ
    x = get_or before (2 * n) 0

    y : ℕ
    y = get_or before (suc (2 * n)) 0

    rest : List ℕ
    rest = drop (suc (suc (2 * n))) before

    two : drop (2 * n) before ≡ x ∷ y ∷ rest
    two = drop-cons before (2 * n) 0 (omega arith) ∙ ap (λ (l : List ℕ). x ∷ l) (drop-cons before (suc (2 * n)) 0 (omega arith))

-- the buffer keeps its length
pub same_room : (out before b : List ℕ) (n : ℕ) → Emitted out n before b → length b ≡ length before
same_room out before b n d = ap length d.laid ∙ length-append out (drop (2 * n) before) ∙ omega (arith, d.pairs, d.within, length-drop (2 * n) before)

module _ (out before b : List ℕ) (n r was to : ℕ) (d : Emitted out n before b) where
  room : length b ≡ length before
  room = same_room out before b n d

  pub skip : was ≡ to → Emitted (out ++ pair_of r was to) n before b
  skip e = record {
    laid = d.laid ∙ ap (λ (l : List ℕ). l ++ drop (2 * n) before) (sym same);
    pairs = ap length same ∙ d.pairs;
    within = d.within;
  }
    where
      same : out ++ pair_of r was to ≡ out
      same = ap (λ (t : Bool). out ++ cond t [] (r ∷ to ∷ [])) (eq-eqb was to e) ∙ append-nil out

  pub take_on : 2 * n + 2 ≤ length b → (was ≡ to → ⊥) → Emitted (out ++ pair_of r was to) (n + 1) before (set (set b (2 * n) r) (2 * n + 1) to)
  take_on big e = record {
    laid = ap (λ (l : List ℕ). set (set l (2 * n) r) (2 * n + 1) to) d.laid ∙ laid_pair out before n r to d.pairs (omega (arith, big, room))
        ∙ ap (λ (l : List ℕ). l ++ drop (2 * (n + 1)) before) (sym one);
    pairs = ap length one ∙ length-append out (r ∷ to ∷ []) ∙ omega (arith, d.pairs);
    within = omega (arith, big, room);
  }
    where
      one : out ++ pair_of r was to ≡ out ++ (r ∷ to ∷ [])
      one = ap (λ (t : Bool). out ++ cond t [] (r ∷ to ∷ [])) (ne_eqb was to e)
