-- `words_fetches::fetch`: in Sending what the register shows and does, elsewhere nothing. Assumes nothing.
use mathlib.Core.Path.{◌≡◌, refl, sym, ap}
use mathlib.Core.Bool.{Bool, true, false, cond}
use mathlib.Core.List.{List}
use Prim.Native.Nat.{ℕ, ◌<◌}
use native.Mathlib.Omega.{arith}
use borrow.Author.Tests.{ne_eqb}
use lib.ListN.{get_or, set}
use Rattle.map.specs.Map.{code, kind_at, part_of, next_in}
use Rattle.map.specs.Map.Kind.{Input}
use Rattle.map.proofs.Onward.{known_small}
use Rattle.registers.specs.Registers.{fetched}
use Rattle.registers.proofs.Kept.{kept_fetched, unrung_fetched}
use Rattle.device_rules.specs.Device.{shown_in, fetch_in, step}
use Rattle.device_rules.specs.Device.Event.{ByteFetched}
use Rattle.device_rules.specs.declared.Answer.TheVariants.{Byte}
use Rattle.device_rules.proofs.Stepping.{same_state, same_outcome, fetched_in_lem}
use Rattle.words.specs.Words.{core_in, interrupt_in}
use Rattle.words.proofs.Sound.{sound}
use Rattle.words.proofs.Seen.{other_fetched}
use Rattle.words_rows.proofs.Taken.{step_known, known_inside, its_kind, low_rule}
use Rattle.words_state.specs.Packed.{state_in, Packed, Becomes, Leaves}
use Rattle.words_state.proofs.Left.{unrung, packed_becomes, holds_bus, holds_pointer}
use Rattle.words_state.proofs.Standing.{named, known_row}
use Rattle.words_fetches.proofs.fetch.Goals as goal

-- the register was fetched: what is left by whether the master acknowledged
went_on : (c : ℕ) (w u : List ℕ) → Packed c w → Becomes c w u (fetched (part_of c) (core_in (part_of c) w) (get_or w 21 0)) → get_or w 22 0 ≡ 4
    → (b : ℕ) → b ≡ shown_in (part_of c) (state_in (part_of c) w) (get_or w 21 0) → (acknowledged : Bool) {v : List ℕ}
    → v ≡ cond acknowledged (set u 21 (next_in (part_of c) (get_or u 24 0) (get_or u 21 0))) (set u 22 7) → Leaves c v (Byte b) (step (part_of c) (state_in (part_of c) w) (ByteFetched acknowledged))
unfolding fetch_in
went_on c w u packed becomes bus b shown true e =
    rw (e, becomes.rest 21 (omega arith), becomes.rest 24 (omega arith))
    (holds_pointer c w u packed _ becomes (Byte b) (next_in (part_of c) (get_or w 24 0) (get_or w 21 0)) (step_known _ c (get_or w 21 0) packed.pointer_known refl (get_or w 24 0))
    (fetched_in_lem (part_of c) (state_in (part_of c) w) true 4 bus
    (same_outcome (ap Byte shown) (same_state refl (sym (kept_fetched (part_of c) (core_in (part_of c) w) (interrupt_in w) packed.right (get_or w 21 0))) refl refl bus refl refl))))
went_on c w u packed becomes bus b shown false e =
    rw e
    (holds_bus c w u packed _ becomes (Byte b) 7 (omega arith)
    (fetched_in_lem (part_of c) (state_in (part_of c) w) false 4 bus
    (same_outcome (ap Byte shown) (same_state refl (sym (kept_fetched (part_of c) (core_in (part_of c) w) (interrupt_in w) packed.right (get_or w 21 0))) refl refl refl refl refl))))

pub returns-then-words-ne-SENDING : goal.returns-then-words-ne-SENDING
returns-then-words-ne-SENDING c = λ k packed e. c.fetch_elsewhere.ensures k packed c.if-words-ne-SENDING.true

pub was_fetched-requires : goal.was_fetched-requires
was_fetched-requires c =
    let standing = c.requires in
    named _ _ (packed_becomes _ c.args.words.now standing.packed (c.settle.ensures _ standing.packed standing.row_is))

pub returns-then-rule-eq-INPUT : goal.returns-then-rule-eq-INPUT
returns-then-rule-eq-INPUT c =
    let a = c.args in
    let w = a.words.now in
    let n = get_or w 21 0 in
    λ k packed e.
    let hn : n < 128 = known_small (part_of k) n packed.pointer_known in
    let input = its_kind k n _ hn (c.rule.ensures k n hn e) Input c.if-rule-eq-INPUT.true in
    let becomes = c.settle.ensures k packed e in
    rw c.was_fetched.ensures.0
    (went_on k w _ packed becomes c.if-words-ne-SENDING.false _ ((c.show_inputs.ensures k n packed.pointer_known e).0 input) a.acknowledged
    (c.was_fetched.ensures.1 k (packed_becomes k w packed becomes) (rw (becomes.rest 21 (omega arith)) e)))

pub show-requires : goal.show-requires
show-requires c = known_inside (known_row _ _ c.requires)

pub returns : goal.returns
returns c =
    let a = c.args in
    let w = a.words.now in
    let n = get_or w 21 0 in
    λ k packed e.
    let hn : n < 128 = known_small (part_of k) n packed.pointer_known in
    let other : code (kind_at (part_of k) n) ≡ 1 → ⊥ = λ z. c.if-rule-eq-INPUT.false (low_rule k n _ hn (c.rule.ensures k n hn e) 1 (omega arith) z) in
    let becomes = unrung k w w (other_fetched (part_of k) (sound k) w packed.fit n hn other) (unrung_fetched (part_of k) (core_in (part_of k) w) (interrupt_in w) packed.right n (ne_eqb _ 1 other)) in
    rw c.was_fetched-2.ensures.0
    (went_on k w w packed becomes c.if-words-ne-SENDING.false _ (c.show.ensures k n packed.pointer_known e packed.fit) a.acknowledged
    (c.was_fetched-2.ensures.1 k packed e))
