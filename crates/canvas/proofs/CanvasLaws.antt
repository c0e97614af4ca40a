-- Laws of the canvas colour, one for each way through the code, over plain lists and numbers.
use Prim.Native.Nat.{ℕ, zero, suc, ◌+◌, ◌-◌, ◌≤◌, ◌<◌}
use mathlib.Core.Path.{◌≡◌, refl, sym, ◌∙◌, ap}
use mathlib.Core.Bool.{Bool, true, false}
use mathlib.Core.List.{List}
use lib.Ieee.{Float}
use lib.ListN.{length}
use lib.Dec.{eqb}
use borrow.Author.Tests.{eqb-true}
use Rattle.base.specs.Bytes.{Bytes, same, within}
use Rattle.base.specs.Choice.{pick, by-test, via, if_true, if_false}
use Rattle.table.specs.Kind.{object_kind}
use Rattle.table.specs.declared.kind.ObjectKind.{ObjectKind}
use Rattle.table.specs.declared.kind.ObjectKind.TheVariants.{Canvas}
use Rattle.base.specs.Refusal.{refusal}
use Rattle.base.specs.declared.refusal.Refusal.{Refusal}
use Rattle.base.specs.declared.Range.{Range}
use Rattle.table.specs.Value.{word_at, range_at, value_at}
use Rattle.table.specs.declared.PropertyValue.{PropertyValue}
use Rattle.valid.specs.Valid.{tables_sound}
use Rattle.valid.specs.declared.Counts.{Counts}
use Rattle.decode.specs.Decode.{name_at, places, places_in}
use Rattle.decode.proofs.Places.{places_step, places_end}
use Rattle.std.specs.List.{list_any, range_with_len}
use Rattle.style.specs.declared.StyleType.{StyleType}
use Rattle.canvas.specs.Canvas.{or_color, shade_of, color_at, first_color, any_canvas, rule_color, rules_color, canvas_name, canvas_of}
use Rattle.std.specs.Prelude.{Option, None, Ok, Err}
use Rattle.color.specs.declared.Color.{Color}

-- ---- the first colour

or_is : (r x k d : Option Color) → r ≡ x → r ≡ k → or_color k d ≡ or_color x d
or_is r x k d e q = ap (λ y. or_color y d) (sym q ∙ e)

module _ (bundle : Bytes) (properties : List ℕ) (numbers : List Float) (name : Bytes) (to p : ℕ) where
  pub colors_end : to ≤ p → None ≡ first_color bundle properties numbers name (places p (to - p))
  unfolding first_color
  colors_end h = ap (first_color bundle properties numbers name) (sym (places_end p to h))

  module _ (h : p < to) (r : Option Color) (e : r ≡ color_at bundle properties numbers name p) where
    pub colors_step :
        (k : Option Color)
        → r ≡ k
        → or_color k (first_color bundle properties numbers name (places (p + 1) (to - (p + 1))))
        ≡ first_color bundle properties numbers name (places p (to - p))
    unfolding first_color
    colors_step k q = or_is r _ k _ e q ∙ ap (first_color bundle properties numbers name) (sym (places_step p to h))

module _ (bundle : Bytes) (rules selectors properties : List ℕ) (numbers : List Float) (name : Bytes) where
  abbrev among : List ℕ → Option Color
  among = rules_color bundle rules selectors properties numbers name

  pub rules_end : (total i : ℕ) → total ≤ i → None ≡ among (places i (total - i))
  unfolding rules_color
  rules_end total i h = ap among (sym (places_end i total h))

  pub rules_step :
      (total i : ℕ)
      → i < total
      → (r k : Option Color)
      → r ≡ rule_color bundle rules selectors properties numbers name i
      → r ≡ k
      → or_color k (among (places (i + 1) (total - (i + 1)))) ≡ among (places i (total - i))
  unfolding rules_color
  rules_step total i h r k e q = or_is r _ k _ e q ∙ ap among (sym (places_step i total h))

  -- the ranges of a rule
  module _ (i : ℕ) (a : Range) (p : a ≡ range_at rules i 1) (t : Bool) (e : t ≡ any_canvas selectors (places_in a)) where
    pub rule_canvas :
        t ≡ true
        → (b : Range) (r : Option Color)
        → b ≡ range_at rules i 3
        → r ≡ first_color bundle properties numbers name (places_in b)
        → r ≡ rule_color bundle rules selectors properties numbers name i
    unfolding rule_color
    rule_canvas y b r f q =
        if_true _ _ _ (via (e ∙ ap (λ a. any_canvas selectors (places_in a)) p) y)
        (q ∙ ap (λ b. first_color bundle properties numbers name (places_in b)) f)

    pub rule_other : t ≡ false → None ≡ rule_color bundle rules selectors properties numbers name i
    unfolding rule_color
    rule_other y = if_false _ _ _ (via (e ∙ ap (λ a. any_canvas selectors (places_in a)) p) y) refl

-- ---- one of several selectors

canvas_kind : ObjectKind → Bool
canvas_kind Canvas = true
canvas_kind k = false

-- of all kinds 2 alone is `canvas`
kind_is : (k : ℕ) → canvas_kind (object_kind k) ≡ eqb k 2
unfolding object_kind pick canvas_kind
kind_is k =
    by-test (eqb k 2)
    (λ a. let e : k ≡ 2 = eqb-true k 2 a in rw e)
    (λ a.
    by-test (eqb k 1) (λ b. rw (b, a))
    (λ b.
    by-test (eqb k 3) (λ c. rw (b, a, c))
    (λ c. by-test (eqb k 4) (λ d. rw (b, a, c, d)) (λ d. by-test (eqb k 5) (λ f. rw (b, a, c, d, f)) (λ f. rw (b, a, c, d, f))))))

module _ (k : ℕ) (r : ObjectKind) (e : r ≡ object_kind k) where
  pub canvas_there : r ≡ Canvas → true ≡ eqb k 2
  unfolding canvas_kind
  canvas_there q = ap canvas_kind (sym q ∙ e) ∙ kind_is k

  pub canvas_other : (r ≡ Canvas → ⊥) → false ≡ eqb k 2
  unfolding canvas_kind
  canvas_other h = other r h ∙ ap canvas_kind e ∙ kind_is k
    where
      other : (r : ObjectKind) → (r ≡ Canvas → ⊥) → false ≡ canvas_kind r
      other Canvas h = absurd (h refl)
      other r h = refl

pub canvas_among :
    (selectors : List ℕ) (a n : ℕ)
    → list_any (λ s. eqb (word_at selectors s 0) 2) (range_with_len a n) ≡ any_canvas selectors (places a n)
unfolding any_canvas places pick
canvas_among selectors a zero = refl
canvas_among selectors a (suc n) =
    by-test (eqb (word_at selectors a 0) 2) (λ e. rw e) (λ e. rw (e, canvas_among selectors (a + 1) n))

-- ---- one property

module _ (bundle : Bytes) (properties : List ℕ) (numbers : List Float) (name : Bytes) (p : ℕ) (a : Range) (b : a ≡ range_at properties p 1)
    (part : Bytes) (e : part ≡ within a bundle) (t : Bool) (f : t ≡ same part name) where
  named : name_at bundle properties p ≡ part
  named = sym (e ∙ ap (λ a. within a bundle) b)

  pub color_named_lem :
      t ≡ true
      → (v : PropertyValue) (r : Option Color)
      → v ≡ value_at properties numbers p
      → r ≡ shade_of v
      → r ≡ color_at bundle properties numbers name p
  unfolding color_at pick
  color_named_lem y v r g q = rw (named, ← f, y, ← g) q

  pub color_other : t ≡ false → None ≡ color_at bundle properties numbers name p
  unfolding color_at pick
  color_other y = rw (named, ← f, y)

-- ---- the whole

module _ (bundle : Bytes) (rules selectors tests properties : List ℕ) (numbers : List Float) (n : Counts) (t : StyleType) where
  abbrev sound : Bool
  sound = tables_sound rules selectors tests properties numbers n (length bundle)

  pub canvas_broken :
      sound ≡ false
      → (e : Refusal)
      → e ≡ refusal 22 0 0 0 0
      → Err e ≡ canvas_of bundle rules selectors tests properties numbers n t
  unfolding canvas_of
  canvas_broken y e q = if_false _ _ _ y (ap Err q)

  pub canvas_colored :
      sound ≡ true
      → (k : StyleType) (r : Option Color)
      → t ≡ k
      → r ≡ rules_color bundle rules selectors properties numbers (canvas_name k) (places 0 n.rules)
      → Ok r ≡ canvas_of bundle rules selectors tests properties numbers n t
  unfolding canvas_of
  canvas_colored y k r q e =
      if_true _ _ _ y
      (ap Ok
      (e ∙ ap (λ x. rules_color bundle rules selectors properties numbers (canvas_name x) (places 0 n.rules)) (sym q)))
