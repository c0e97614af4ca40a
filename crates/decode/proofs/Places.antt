-- The places of a range: how many they are, the last one, the first one.
use Prim.Native.Nat.{ℕ, zero, suc, ◌+◌, ◌-◌, ◌<◌, ◌≤◌}
use native.Mathlib.Omega.{arith}
use mathlib.Core.Path.{◌≡◌, refl, ◌∙◌, ap}
use mathlib.Core.List.{[], ◌∷◌, ◌++◌}
use lib.ListN.{length}
use Rattle.decode.specs.Decode.{places}

pub length_places : (a k : ℕ) → length (places a k) ≡ k
unfolding places
length_places a zero = refl
length_places a (suc k) = ap suc (length_places (a + 1) k)

pub places_on : (a k : ℕ) → places a (suc k) ≡ places a k ++ ((a + k) ∷ [])
unfolding places
places_on a zero = let e : a ≡ a + 0 = omega arith in ap (λ i. i ∷ []) e
places_on a (suc k) =
    let e : a + 1 + k ≡ a + suc k = omega arith in
    ap (λ l. a ∷ l) (places_on (a + 1) k ∙ ap (λ i. places (a + 1) k ++ (i ∷ [])) e)

pub places_step : (a b : ℕ) → a < b → places a (b - a) ≡ a ∷ places (a + 1) (b - (a + 1))
unfolding places
places_step a b h = let e : b - a ≡ suc (b - (a + 1)) = omega arith in ap (places a) e

pub places_end : (a b : ℕ) → b ≤ a → places a (b - a) ≡ []
unfolding places
places_end a b h = let e : b - a ≡ 0 = omega arith in ap (places a) e
