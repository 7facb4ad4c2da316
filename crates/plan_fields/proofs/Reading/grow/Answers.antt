use native.Mathlib.Omega.{arith}
use mathlib.Core.Path.{◌≡◌}
use mathlib.Core.List.{List, ◌++◌}
use Prim.Native.Nat.{ℕ}
use lib.ListN.{length}
use lib.Seq.{drop-length}
use Rattle.plan_fields.specs.Asks.{Holds}
use Rattle.plan_fields.proofs.Taken.{grown_all}
use Rattle.plan_fields.proofs.Reading.grow.Goals as goal

pub returns : goal.returns
returns c =
    let e : c.loop-b.b-index ≡ length c.args.part.now = omega arith in
    let all : (text : List ℕ) → Holds c.args.self.now text → Holds c.loop-b.self (text ++ c.args.part.now) =
    λ text h. grown_all text c.args.part.now h (rw (e, drop-length) at c.loop-b.invariant) in
    (all, record { text = c.requires.text ++ c.args.part.now; holds = all c.requires.text c.requires.holds })
