-- Counts that are held leave room in their tables for every entry below them.
use Prim.Native.Nat.{ℕ, ◌*◌, ◌≤◌}
use native.Mathlib.Omega.{arith}
use mathlib.Core.Path.{◌≡◌, refl}
use mathlib.Core.Bool.{Bool, true, false}
use borrow.Author.Tests.{leb-true}
use Rattle.base.specs.Choice.{pick, clash}
use Rattle.base.specs.Table.{capacity_of}
use Rattle.valid.specs.Valid.{entries_held, counts_held}
use Rattle.valid.specs.declared.Counts.{Counts}

both : (b x : Bool) → pick b x false ≡ true → (b ≡ true) × (x ≡ true)
unfolding pick
both true x e = (refl, e)
both false x e = clash e refl

room : (count len : ℕ) → entries_held count len ≡ true → count * 8 ≤ len
unfolding entries_held capacity_of
room count len e = let h = leb-true count (capacity_of 8 len) e in omega arith

pub counts_room :
    (rules selectors tests properties numbers : ℕ) (n : Counts)
    → counts_held rules selectors tests properties numbers n ≡ true
    → (n.rules * 8 ≤ rules)
    × (n.selectors * 8 ≤ selectors)
    × (n.tests * 8 ≤ tests)
    × (n.properties * 8 ≤ properties)
    × (n.numbers ≤ numbers)
unfolding counts_held capacity_of
counts_room rules selectors tests properties numbers n e =
    let a = both _ _ e in
    let b = both _ _ a.1 in
    let d = both _ _ b.1 in
    let f = both _ _ d.1 in
    let h = leb-true n.numbers (capacity_of 1 numbers) f.1 in
    (room _ _ a.0, room _ _ b.0, room _ _ d.0, room _ _ f.0, omega arith)
