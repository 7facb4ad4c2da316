-- `words_address::address`: each branch is one of the rule's. Assumes nothing.
use native.Mathlib.Omega.{arith}
use borrow.Author.Tests.{eq-eqb, ne_eqb}
use Rattle.device_rules.specs.declared.Answer.TheVariants.{Ack, Nak}
use Rattle.words_state.proofs.Left.{went}
use Rattle.words_address.proofs.address.Goals as goal

pub returns-then-byte-address : goal.returns-then-byte-address
returns-then-byte-address c =
    λ k packed. went k c.args.words.now packed Ack 2 (omega arith) c.goes.ensures.0 c.goes.ensures.1
    (simp (eq-eqb _ _ c.if-byte-address.true))

pub returns-then-byte-address-2 : goal.returns-then-byte-address-2
returns-then-byte-address-2 c =
    λ k packed. went k c.args.words.now packed Ack 4 (omega arith) c.goes-then-byte-address-2.ensures.0 c.goes-then-byte-address-2.ensures.1
    (simp (ne_eqb _ _ c.if-byte-address.false, eq-eqb _ _ c.if-byte-address-2.true))

pub returns-then-byte-eq0 : goal.returns-then-byte-eq0
returns-then-byte-eq0 c =
    λ k packed. went k c.args.words.now packed Ack 5 (omega arith) c.goes-then-byte-eq0.ensures.0 c.goes-then-byte-eq0.ensures.1
    (simp (ne_eqb _ _ c.if-byte-address.false, ne_eqb _ _ c.if-byte-address-2.false, eq-eqb _ _ c.if-byte-eq0.true))

pub returns-then-byte-eq-ASKS : goal.returns-then-byte-eq-ASKS
returns-then-byte-eq-ASKS c =
    λ k packed. went k c.args.words.now packed Ack 8 (omega arith) c.goes-then-byte-eq-ASKS.ensures.0 c.goes-then-byte-eq-ASKS.ensures.1
    (simp (ne_eqb _ _ c.if-byte-address.false, ne_eqb _ _ c.if-byte-address-2.false, ne_eqb _ _ c.if-byte-eq0.false, eq-eqb _ _ c.if-byte-eq-ASKS.true))

pub returns : goal.returns
returns c =
    λ k packed. went k c.args.words.now packed Nak 7 (omega arith) c.goes-2.ensures.0 c.goes-2.ensures.1
    (simp (ne_eqb _ _ c.if-byte-address.false, ne_eqb _ _ c.if-byte-address-2.false, ne_eqb _ _ c.if-byte-eq0.false, ne_eqb _ _ c.if-byte-eq-ASKS.false))
