-- `text::is`: another length is another word, and of the same length one begins with the other. Assumes nothing.
use borrow.Author.Tests.{eq-eqb, ne_eqb}
use Rattle.text.specs.Text.{is_word}
use Rattle.text.proofs.is.Goals as goal

pub returns-then-s-word : goal.returns-then-s-word
unfolding is_word
returns-then-s-word c = simp (eq-eqb _ _ c.if-s-word.true, c.starts.ensures)

pub returns-else-s-word : goal.returns-else-s-word
unfolding is_word
returns-else-s-word c = simp (ne_eqb _ _ c.if-s-word.false)
