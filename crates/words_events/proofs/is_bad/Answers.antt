-- `is_bad`: its four tests in their order. Assumes nothing.
use Prim.Native.Nat.{◌<◌, ◌≤◌}
use borrow.Author.Tests.{eq-eqb, ne_eqb, lt-ltb, le-ltb}
use Rattle.words_events.proofs.is_bad.Goals as goal

pub returns-then-bytes-ne0 : goal.returns-then-bytes-ne0
returns-then-bytes-ne0 c = rw (ne_eqb _ _ c.if-bytes-ne0.true)

pub returns-then-bytes-asked : goal.returns-then-bytes-asked
returns-then-bytes-asked c = rw (eq-eqb _ _ c.if-bytes-ne0.false, lt-ltb _ _ c.if-bytes-asked.true)

pub returns-then-asked-gt-MOST_EVENTS : goal.returns-then-asked-gt-MOST_EVENTS
returns-then-asked-gt-MOST_EVENTS c =
    let h : 512 < c.args.asked = c.if-asked-gt-MOST_EVENTS.true in
    rw (eq-eqb _ _ c.if-bytes-ne0.false, le-ltb _ _ c.if-bytes-asked.false, lt-ltb _ _ h)

pub returns : goal.returns
returns c =
    let h : c.args.asked ≤ 512 = c.if-asked-gt-MOST_EVENTS.false in
    rw (eq-eqb _ _ c.if-bytes-ne0.false, le-ltb _ _ c.if-bytes-asked.false, le-ltb _ _ h)
