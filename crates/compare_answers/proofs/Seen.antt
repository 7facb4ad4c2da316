-- Answers in memory, from a place to a place. Assumes nothing.
use Rattle.std.proofs.Common.{◌≡◌, ◌≤◌, ◌+◌, ◌-◌, ℕ, List, ◌++◌, length, take, drop, refl, ap, sym, ◌∙◌, arith, length-take-le, take-take, take_at}
use Rattle.std.proofs.lemmas.List.{drop-take, drop-append-le, length-drop}
use Rattle.std.specs.Io.{StartsWith}
use borrow.Rule.Slice.PartMut.{put_mid, post_of}
use lib.Seq.{drop-drop}

pub seen_long : (s : List ℕ) (at have : ℕ) → at ≤ have → have ≤ length s → length (take (have - at) (drop at s)) ≡ have - at
seen_long s at have a h = length-take-le (have - at) (drop at s) (omega (arith, length-drop at s))

-- what is read behind them leaves them as they are
pub seen_more : (s got : List ℕ) (at have room n : ℕ) → at ≤ have → have ≤ length s → StartsWith (take (have + n - at) (drop at (put_mid have room s got))) (take (have - at) (drop at s))
seen_more s got at have room n a h =
    let seen : List ℕ = take (have - at) (drop at s) in
    let rest : List ℕ = got ++ post_of have room s in
    let e : at + (have - at) ≡ have = omega arith in
    let front : drop at (take have s) ≡ seen = ap (λ (k : ℕ). drop at (take k s)) (sym e) ∙ drop-take at (have - at) s in
    let all : drop at (put_mid have room s got) ≡ seen ++ rest =
    drop-append-le at (take have s) rest (omega (arith, length-take-le have s h)) ∙ ap (λ (x : List ℕ). x ++ rest) front in
    take-take (length seen) (have + n - at) (drop at (put_mid have room s got)) (omega (arith, seen_long s at have a h)) ∙ ap (take (length seen)) all ∙ take_at seen rest (length seen) refl

-- and some of them are done with
pub seen_after : (s : List ℕ) (at have n : ℕ) → n ≤ have - at → take (have - (at + n)) (drop (at + n) s) ≡ drop n (take (have - at) (drop at s))
seen_after s at have n h =
    let e : n + (have - (at + n)) ≡ have - at = omega arith in
    ap (take (have - (at + n))) (sym (drop-drop n at s)) ∙ sym (drop-take n (have - (at + n)) (drop at s)) ∙ ap (λ (k : ℕ). drop n (take k (drop at s))) e
