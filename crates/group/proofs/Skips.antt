-- The place behind pairs, as a fold over their count comes to it.
use Rattle.std.proofs.Common.{◌≡◌, sym, ◌∙◌, ap, subst, ℕ, suc, ◌+◌, ◌-◌, List, [], ◌∷◌, length, arith}
use Rattle.std.specs.Prelude.{Option, Some, None}
use Rattle.std.specs.Fn.{Mut, Called}
use Rattle.std.specs.List.{FoldsTo}
use Rattle.std.specs.ControlFlow.{continue_value}
use Rattle.std.specs.declared.ops.Range.{Range}
use Rattle.std.specs.declared.ops.ControlFlow.{ControlFlow}
use Rattle.std.specs.Iterator.{Yields, TryFoldsItems}
use Rattle.std.proofs.iter.Yields.{nat_range_steps}
use Rattle.base.specs.Bytes.{Bytes}
use Rattle.base.specs.Option.{on_option}
use Rattle.base.proofs.Options.{by_option2}
use Rattle.group.specs.Pair.{pair_at, behind, skip_of}

skip_step : (n : ℕ) (s : Bytes) (at : ℕ) → skip_of (suc n) s at ≡ on_option (behind s at) None (skip_of n s)
unfolding skip_of on_option behind
skip_step n s at = by_option2 (pair_at s at) (λ q. rw q) (λ a b q. rw q)

counted : (r t : Range ℕ) (xs : List ℕ) → Yields nat_range_steps r xs t → length xs + (t.end - t.start) ≡ r.end - r.start
counted r t [] e = let h = ap (λ (r : Range ℕ). r.end - r.start) e in omega (arith, h)
counted r t (x ∷ xs) e = let h = counted e.0 t xs e.2 in omega (arith, h, e.1.0, e.1.1.0, e.1.1.2)

module _ {F : Type 0} (g : Mut F (ℕ × (ℕ × Unit {0})) (Option ℕ)) (f : F) (s : Bytes) (acts : (at x : ℕ) (v : Option ℕ) (h : F) → Called g f (at, (x, tt)) v h → (h ≡ f) × (v ≡ behind s at)) where
  abbrev Turn : F × ℕ → ℕ → F × ℕ → Type 0
  Turn p x q = (v : Option ℕ) × Called g p.0 (p.1, (x, tt)) v q.0 × (v ≡ Some q.1)

  turns : (n m at : ℕ) (xs : List ℕ) (q : F × ℕ) → length xs + m ≡ n → FoldsTo {P = F × ℕ} Turn (f, at) xs q → (q.0 ≡ f) × (skip_of n s at ≡ skip_of m s q.1)
  unfolding on_option
  turns n m at [] q l e =
      let k : n ≡ m = omega arith in (
        sym (ap (λ j. j.0) e),
        ap (λ k. skip_of k s at) k ∙ ap (λ (j : F × ℕ). skip_of m s j.1) e,
      )
  turns n m at (x ∷ xs) q l e =
      let a = acts at x e.1.0 e.0.0 e.1.1 in
      let j : ◌≡◌ {A = F × ℕ} e.0 (f, e.0.1) = ap (λ h. (h, e.0.1)) a.0 in
      let more = turns (n - 1) m e.0.1 xs q (omega arith) (subst (λ j. FoldsTo {P = F × ℕ} Turn j xs q) j e.2) in
      let p : behind s at ≡ Some e.0.1 = sym a.1 ∙ e.1.2 in
      let k : n ≡ suc (n - 1) = omega arith in (
        more.0,
        ap (λ k. skip_of k s at) k ∙ skip_step (n - 1) s at ∙ (rw p more.1),
      )

  pub skip_folded :
      {E : Type 0} (r u : Range ℕ) (n at : ℕ) (v : Option ℕ)
      → r.end - r.start ≡ n
      → TryFoldsItems nat_range_steps g (λ v (c : ControlFlow E ℕ). v ≡ continue_value c) (λ _ v. v ≡ None) r f at v u
      → v ≡ skip_of n s at
  unfolding skip_of on_option
  skip_folded r u n at v l (xs, None, q, a, y, d, e) =
      let h = counted r y.0 xs y.1 in
      e ∙ sym (turns n 0 at xs (q, a) (omega (arith, h, y.2.1.0)) d).1
  skip_folded r u n at v l (xs, Some x, q, a, y, d, e) =
      let h = counted r y.0 xs y.1 in
      let m = y.0.end - y.0.start - 1 in
      let t = turns n (suc m) at xs (q, a) (omega (arith, h, y.2.1.0)) d in
      let c = subst (λ k. Called g k (a, (x, tt)) e.0 e.1) t.0 e.3 in
      let z : behind s a ≡ None = sym (acts a x e.0 e.1 c).1 ∙ e.4 in
      e.5 ∙ sym (t.1 ∙ skip_step m s a ∙ (rw z))
