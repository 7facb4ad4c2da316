-- `text_pieces::first_line`: by whether there is a newline. Assumes nothing.
use Rattle.text_pieces.proofs.Laws.{first_ended, first_unended}
use Rattle.text_pieces.proofs.first_line.Goals as goal

pub returns-then-len-piece : goal.returns-then-len-piece
returns-then-len-piece c = let n = c.newline_at-len.ensures in first_ended _ _ n.0 n.1 c.if-len-piece.true

pub returns : goal.returns
returns c = let n = c.newline_at-len.ensures in first_unended _ _ n.0 n.1 c.if-len-piece.false
