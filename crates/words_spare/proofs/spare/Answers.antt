-- `words_spare::spare`: no bit is left exactly if the words fit the part (`fit_of_spare`, `spare_of_fit`). Assumes nothing.
use mathlib.Core.Path.{sym, ap, ◌∙◌}
use Prim.Native.Nat.{ℕ}
use lib.Bits.{bit_or}
use lib.ListN.{get_or}
use Rattle.bits.specs.Bits.{without}
use Rattle.words_spare.proofs.Laws.{fit_of_spare, spare_of_fit}
use Rattle.words_spare.proofs.spare.Goals as goal

pub returns : goal.returns
returns c =
    let a = c.args in
    let w = a.words.now in
    let own = ap (λ (any : ℕ). bit_or (bit_or (bit_or (without any a.pins) (without (get_or w 7 0) a.kinds)) (without (get_or w 17 0) a.enables)) (without (get_or w 18 0) a.counts))
    c.union-any.ensures in
    λ k lim. (
      λ e. fit_of_spare k w a.pins a.kinds a.enables a.counts lim c.told-words (sym own ∙ e),
      λ fit. own ∙ spare_of_fit k w a.pins a.kinds a.enables a.counts lim fit,
    )
