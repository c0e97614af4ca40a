-- The order of keys, as the code goes through them.
use Rattle.std.proofs.Common.{◌≡◌, sym, ◌∙◌, ap, subst, Bool, true, false, List, [], ◌∷◌, ◌++◌, map, inl, inr}
use Rattle.std.specs.Prelude.{Some, None}
use Rattle.std.specs.Fn.{Mut, CalledAtTwo}
use Rattle.std.specs.Borrow.{Bor}
use Rattle.std.specs.List.{FoldsTo}
use Rattle.std.specs.Iterator.{YieldsFirst, Yields}
use Rattle.std.specs.Iterator.Order.{ActsAsAtTwo, OrderTurn, ChecksNeighbours}
use Rattle.base.specs.Bytes.{Bytes, precedes, within}
use Rattle.base.specs.Choice.{pick}
use Rattle.base.specs.Map.{key_of}
use Rattle.group.specs.Pair.{Ranges, named, pairs_left}
use Rattle.group.specs.declared.Pairs.{Pairs}
use Rattle.entity.specs.Layout.{rises_from, rising}

-- what is given stood at the front of what was left
left_over : (p t : Pairs) (xs : List Ranges) → Yields (YieldsFirst pairs_left) p xs t → pairs_left p ≡ xs ++ pairs_left t
left_over p t [] e = ap pairs_left e
left_over p t (x ∷ xs) e = e.1 ∙ ap (λ ys. x ∷ ys) (left_over e.0 t xs e.2)

-- whether the key of one pair comes before that of another
abbrev pub key_rises : Bytes → Ranges → Ranges → Bool
key_rises s p q = precedes (within p.0 s) (within q.0 s)

abbrev rises : Bytes → Ranges → List Ranges → Bool
rises s p ps = rises_from (within p.0 s) (map key_of (map (named s) ps))

module _ {F : Type 0} (g : Mut F (Bor Ranges × (Bor Ranges × Unit {0})) Bool) (f : F) (s : Bytes) (acts : ActsAsAtTwo g f (key_rises s)) where
  turns : (p : Ranges) (ps rest : List Ranges) (q : F × Ranges) → FoldsTo {P = F × Ranges} (OrderTurn g) (f, p) ps q → (q.0 ≡ f) × (rises s p (ps ++ rest) ≡ rises s q.1 rest)
  unfolding rises_from pick
  turns p [] rest q e = (sym (ap (λ j. j.0) e), ap (λ (j : F × Ranges). rises s j.1 rest) e)
  turns p (x ∷ ps) rest q e =
      let a = acts p x true e.0.0 e.1.0 in
      let j : ◌≡◌ {A = F × Ranges} e.0 (f, x) = λ i. (a.0 i, e.1.1 i) in
      let more = turns x ps rest q (subst (λ j. FoldsTo {P = F × Ranges} (OrderTurn g) j ps q) j e.2) in
      let h : key_rises s p x ≡ true = sym a.1 in (more.0, rw h more.1)

  pub keys_sorted : (p : Pairs) (r : Bool) → ChecksNeighbours g (YieldsFirst pairs_left) p f r → r ≡ rising (map key_of (map (named s) (pairs_left p)))
  unfolding rises_from rising pick
  keys_sorted p r (inl (d, e)) = let h : pairs_left p ≡ [] = ap pairs_left d.1.1 ∙ d.1.2.0 in rw (h, e)
  keys_sorted p r (inr (x, xs, None, u, q, y, d, e)) =
      let h : pairs_left p ≡ x ∷ (xs ++ []) = left_over p y.0 (x ∷ xs) y.1 ∙ ap (λ ys. x ∷ (xs ++ ys)) y.2.0 in
      rw (h, e) (sym (turns x xs [] q d).1)
  keys_sorted p r (inr (x, xs, Some z, u, q, y, d, e)) =
      let h : pairs_left p ≡ x ∷ (xs ++ (z ∷ pairs_left u)) = left_over p y.0 (x ∷ xs) y.1 ∙ ap (λ ys. x ∷ (xs ++ ys)) y.2 in
      let t = turns x xs (z ∷ pairs_left u) q d in
      let c = subst (λ k. CalledAtTwo g k q.1 z false e.1.0) t.0 e.1.1 in
      let n : key_rises s q.1 z ≡ false = sym (acts q.1 z false e.1.0 c).1 in
      rw (h, e.0) (sym (t.1 ∙ (rw n)))
