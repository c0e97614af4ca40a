-- A case more among those that ran: places and counts that are equal, and what it answered. Then the cases of bytes that were read.
use Rattle.std.proofs.Common.{◌≡◌, ℕ, ◌+◌, ◌++◌, Bool, true, false, subst, Option, Some, List, length}
use Rattle.stdio.specs.Cases.{Ran, same, other, Replayed, named}

module _ {C : ℕ → Option (ℕ × Bool) → Type 0} {size : ℕ} where
  pub moved : {at at' run bad bad' : ℕ} → Ran C size at run bad → at' ≡ at → bad' ≡ bad → Ran C size at' run bad'
  moved r e f = rw (e, f) r

  pub same_on : {at end run bad : ℕ} {agrees : Bool} → agrees ≡ true → Ran C size at run bad → C at (Some (end, agrees)) → Ran C size end (run + 1) bad
  same_on {at} {end} e r k = same r (subst (λ b. C at (Some (end, b))) e k)

  pub other_on : {at end run bad : ℕ} {agrees : Bool} → agrees ≡ false → Ran C size at run bad → C at (Some (end, agrees)) → Ran C size end (run + 1) (bad + 1)
  other_on {at} {end} e r k = other r (subst (λ b. C at (Some (end, b))) e k)

module _ {S : Type 0} {bytes : S → List ℕ} {C : S → ℕ → Option (ℕ × Bool) → Type 0} {Read Printed : List ℕ → Type 0} (s : S) {run bad : ℕ} where
  pub replayed :
      {b : List ℕ}
      → Ran (C s) (length (bytes s)) (length (bytes s)) run bad
      → Read b
      → Printed (named "cases" run ++ named "mismatches" bad)
      → b ≡ bytes s
      → Replayed bytes C Read Printed
  replayed r b p e = record { cases = s; run = run; bad = bad; read = subst Read e b; ran = r; printed = p }
