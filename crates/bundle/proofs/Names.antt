-- Names of texts, as the code goes through them.
use Prim.Native.Nat.{ℕ, ◌+◌}
use mathlib.Core.Path.{◌≡◌, refl, sym, ◌∙◌, ap}
use mathlib.Core.Bool.{Bool, true, false}
use mathlib.Core.List.{List, [], ◌∷◌, map}
use Rattle.base.specs.Bytes.{Bytes, same, within}
use Rattle.base.specs.Choice.{pick, by-test}
use Rattle.base.specs.Map.{Entry, Map, key_of, member}
use Rattle.group.specs.Pair.{Ranges, named}
use Rattle.bundle.specs.Bundle.{good_name, good_names, find_in}
use Rattle.std.specs.Prelude.{Some, None}
use Rattle.std.specs.List.{list_any}

-- a name is that of a text just where it is a key
pub named_in : (s name : Bytes) (ps : List Ranges) → list_any (λ p. same name (within p.0 s)) ps ≡ member name (map key_of (map (named s) ps))
unfolding member pick
named_in s name [] = refl
named_in s name (p ∷ ps) = by-test (same name (within p.0 s)) (λ e. rw e) (λ e. rw e (named_in s name ps))

-- no text further on
module _ (m : Map Bytes) (e : m ≡ []) where
  pub good_end : true ≡ good_names (map key_of m)
  unfolding good_names
  good_end = rw e

-- one text further on
module _ (m m' : Map Bytes) (a : Entry Bytes) (e : m ≡ a ∷ m') where
  module _ (y : Bytes) (r : Bool) (p : y ≡ a.key) (q : r ≡ good_name y (map key_of m')) where
    pub good_not : r ≡ false → false ≡ good_names (map key_of m)
    unfolding good_names pick
    good_not t =
        let h : good_name a.key (map key_of m') ≡ false = ap (λ (x : Bytes). good_name x (map key_of m')) (sym p) ∙ sym q ∙ t in
        rw (e, h)

    pub good_next : r ≡ true → good_names (map key_of m') ≡ good_names (map key_of m)
    unfolding good_names pick
    good_next t =
        let h : good_name a.key (map key_of m') ≡ true = ap (λ (x : Bytes). good_name x (map key_of m')) (sym p) ∙ sym q ∙ t in
        rw (e, h)

-- the text of a name, among the texts that are left
module _ (s name : Bytes) (k : ℕ) (ps : List Ranges) where
  pub find_end : ps ≡ [] → None ≡ find_in s name k ps
  unfolding find_in
  find_end e = rw e

  module _ (p : Ranges) (qs : List Ranges) (e : ps ≡ p ∷ qs) (y : Bytes) (r : Bool) (u : y ≡ within p.0 s) (v : r ≡ same name y) where
    pub find_here : r ≡ true → Some (k, p.1) ≡ find_in s name k ps
    unfolding find_in pick
    find_here t = let g : same name (within p.0 s) ≡ true = ap (same name) (sym u) ∙ sym v ∙ t in rw (e, g)

    pub find_next : r ≡ false → find_in s name (k + 1) qs ≡ find_in s name k ps
    unfolding find_in pick
    find_next t = let g : same name (within p.0 s) ≡ false = ap (same name) (sym u) ∙ sym v ∙ t in rw (e, g)
