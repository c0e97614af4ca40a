-- Rows that pass the check of handed tables, word by word.
use Prim.Native.Nat.{ℕ, ◌*◌, ◌<◌, ◌≤◌}
use native.Mathlib.Omega.{arith}
use mathlib.Core.Path.{◌≡◌, refl}
use mathlib.Core.Bool.{true, false}
use mathlib.Core.List.{List, [], ◌∷◌, ◌++◌}
use lib.Dec.{eqb, leb}
use lib.Ieee.{Float}
use lib.ListN.{length, get_or}
use borrow.Author.Tests.{le-leb, lt-leb, leb-true}
use Rattle.base.specs.Choice.{pick, by-test}
use Rattle.base.specs.Table.{zero_float}
use Rattle.base.specs.declared.Range.{Range}
use Rattle.color.specs.declared.Color.{Color}
use Rattle.sheet.specs.Digits.{is_whole}
use Rattle.table.specs.Value.{word_at, word}
use Rattle.entries.specs.Words.{first_of, joined_word, second_from, second_to, layer_word, layer_from, layer_to}
use Rattle.table.specs.declared.Name.{Name}
use Rattle.table.specs.declared.Name.TheVariants.{Plain, Joined}
use Rattle.valid.specs.Valid.{
  span_in,
  marked_span,
  rule_sound,
  selector_sound,
  named_entry,
  two_zeros,
  number_value,
  test_value,
  test_sound,
  one_span,
  two_spans,
  color_words,
  delta_words,
  value_sound,
  property_sound,
}
use Rattle.input.specs.Text.{Small}
use Rattle.sound.specs.Lies.{Span, Lies, Layer}
use Rattle.keep.proofs.Tints.{word_behind}
use Rattle.std.specs.Prelude.{Option, Some, None}

-- the eight words of entry i
pub record Row (t : List ℕ) (i a b c d e f g h : ℕ) : Type 0 where
  pub w₀ : word_at t i 0 ≡ a
  pub w₁ : word_at t i 1 ≡ b
  pub w₂ : word_at t i 2 ≡ c
  pub w₃ : word_at t i 3 ≡ d
  pub w₄ : word_at t i 4 ≡ e
  pub w₅ : word_at t i 5 ≡ f
  pub w₆ : word_at t i 6 ≡ g
  pub w₇ : word_at t i 7 ≡ h

pub row_there :
    (pre : List ℕ) (i a b c d e f g h : ℕ) (z : List ℕ)
    → length pre ≡ i * 8
    → Row (pre ++ ((a ∷ b ∷ c ∷ d ∷ e ∷ f ∷ g ∷ h ∷ []) ++ z)) i a b c d e f g h
row_there pre i a b c d e f g h z p =
    let w : List ℕ = (a ∷ b ∷ c ∷ d ∷ e ∷ f ∷ g ∷ h ∷ []) ++ z in
    record {
      w₀ = word_behind pre w i 0 p;
      w₁ = word_behind pre w i 1 p;
      w₂ = word_behind pre w i 2 p;
      w₃ = word_behind pre w i 3 p;
      w₄ = word_behind pre w i 4 p;
      w₅ = word_behind pre w i 5 p;
      w₆ = word_behind pre w i 6 p;
      w₇ = word_behind pre w i 7 p;
    }

-- ---- ranges

pub span : (a b n : ℕ) → a ≤ b → b ≤ n → span_in a b n ≡ true
unfolding span_in pick
span a b n h g = rw (le-leb a b h, le-leb b n g) refl

pub span_words : (a b n : ℕ) → a ≤ b → b ≤ n → n < 4294967296 → span_in (word a) (word b) n ≡ true
span_words a b n h g s = span (word a) (word b) n (omega arith) (omega arith)

-- ---- rules

pub rule_row :
    (t : List ℕ) (i a b c d s p : ℕ)
    → Row t i 1 a b c d 0 0 0
    → span_in a b s ≡ true
    → span_in c d p ≡ true
    → rule_sound t s p i ≡ true
unfolding rule_sound pick
rule_row t i a b c d s p r h g = rw (r.w₀, r.w₁, r.w₂, r.w₃, r.w₄, r.w₅, r.w₆, r.w₇, h, g) refl

module _ (bundle : ℕ) (short : bundle < 4294967296) where
  ranged : (r : Range) → Span bundle r → span_in (word r.from) (word r.to) bundle ≡ true
  ranged r s = span_words r.from r.to bundle s.0 s.1 short

  -- ---- selectors

  pub selector_row :
      (t : List ℕ) (i k lo hi a b m : ℕ) (n : Option Range)
      → Row t i k lo hi a b (layer_word n) (layer_from n) (layer_to n)
      → 1 ≤ k
      → k ≤ 6
      → span_in a b m ≡ true
      → Layer bundle n
      → selector_sound t m bundle i ≡ true
  unfolding selector_sound marked_span pick
  selector_row t i k lo hi a b m None r h g p q =
      rw (r.w₀, span 1 k 6 h g, r.w₃, r.w₄, p, r.w₅, r.w₆, r.w₇) refl
  selector_row t i k lo hi a b m (Some n) r h g p q =
      rw (r.w₀, span 1 k 6 h g, r.w₃, r.w₄, p, r.w₅, r.w₆, r.w₇) (ranged n q)

  -- ---- tests

  pub test_row_lem :
      (t : List ℕ) (xs : List Float) (i k a b m : ℕ) (key : Name)
      → Row t i k (word (first_of key).from) (word (first_of key).to) (joined_word key) (second_from key) (second_to key) a b
      → 1 ≤ k
      → k ≤ 12
      → Lies bundle key
      → test_value t xs m bundle i ≡ true
      → test_sound t xs m bundle i ≡ true
  unfolding test_sound named_entry marked_span pick
  test_row_lem t xs i k a b m (Plain x) r h g q v =
      rw (v, r.w₀, span 1 k 12 h g, r.w₁, r.w₂, ranged x q, r.w₃, r.w₄, r.w₅) refl
  test_row_lem t xs i k a b m (Joined x y) r h g q v =
      rw (v, r.w₀, span 1 k 12 h g, r.w₁, r.w₂, ranged x q.0, r.w₃, r.w₄, r.w₅, ranged y q.1) refl

  module _ (t : List ℕ) (xs : List Float) (i k m : ℕ) {b c d e f : ℕ} where
    pub unary_value : Row t i k b c d e f 0 0 → k ≤ 4 → test_value t xs m bundle i ≡ true
    unfolding test_value two_zeros pick
    unary_value r h = rw (r.w₀, le-leb k 4 h, r.w₆, r.w₇) refl

    pub word_value_lem :
        (x : Range)
        → Row t i k b c d e f (word x.from) (word x.to)
        → 4 < k
        → k ≤ 6
        → Span bundle x
        → test_value t xs m bundle i ≡ true
    unfolding test_value pick
    word_value_lem x r h g q = rw (r.w₀, lt-leb k 4 h, le-leb k 6 g, r.w₆, r.w₇, ranged x q) refl

    pub number_value_lem :
        (x : ℕ)
        → Row t i k b c d e f x 0
        → 6 < k
        → x < m
        → (k ≤ 8 → is_whole (get_or xs x zero_float) ≡ true)
        → test_value t xs m bundle i ≡ true
    unfolding test_value number_value pick
    number_value_lem x r h g w =
        let n : 4 < k = omega arith in
        by-test (leb k 8)
        (λ p. rw (r.w₀, lt-leb k 4 n, lt-leb k 6 h, r.w₆, r.w₇, lt-leb m x g, p, w (leb-true k 8 p)) refl)
        (λ p. rw (r.w₀, lt-leb k 4 n, lt-leb k 6 h, r.w₆, r.w₇, lt-leb m x g, p) refl)

  -- ---- properties

  pub property_row :
      (t : List ℕ) (i k a b c d m : ℕ) (name : Range)
      → Row t i k (word name.from) (word name.to) a b c d 0
      → 1 ≤ k
      → k ≤ 6
      → Span bundle name
      → value_sound t m bundle i ≡ true
      → property_sound t m bundle i ≡ true
  unfolding property_sound named_entry pick
  property_row t i k a b c d m name r h g q v =
      rw (v, r.w₀, span 1 k 6 h g, r.w₁, r.w₂, ranged name q, r.w₇) refl

  module _ (t : List ℕ) (i m : ℕ) {b c : ℕ} where
    -- kinds 1 and 3
    pub one_value :
        (k : ℕ) (x : Range)
        → Row t i k b c (word x.from) (word x.to) 0 0 0
        → eqb k 2 ≡ false
        → eqb k 4 ≡ false
        → eqb k 5 ≡ false
        → eqb k 6 ≡ false
        → Span bundle x
        → value_sound t m bundle i ≡ true
    unfolding value_sound one_span two_zeros pick
    one_value k x r p₂ p₄ p₅ p₆ q = rw (r.w₀, p₂, p₄, p₅, p₆, r.w₃, r.w₄, ranged x q, r.w₅, r.w₆) refl

    pub two_value :
        (x y : Range)
        → Row t i 2 b c (word x.from) (word x.to) (word y.from) (word y.to) 0
        → Span bundle x
        → Span bundle y
        → value_sound t m bundle i ≡ true
    unfolding value_sound two_spans pick
    two_value x y r p q = rw (r.w₀, r.w₃, r.w₄, ranged x p, r.w₅, r.w₆, ranged y q) refl

    pub color_value_lem : (x : Color) → Row t i 4 b c (word x.r) (word x.g) (word x.b) 0 0 → Small x → value_sound t m bundle i ≡ true
    unfolding value_sound color_words pick
    color_value_lem x r s =
        let h = s.0 in
        let g = s.1.0 in
        let f = s.1.1 in
        rw (
          r.w₀,
          r.w₃,
          le-leb (word x.r) 255 (omega arith),
          r.w₄,
          le-leb (word x.g) 255 (omega arith),
          r.w₅,
          le-leb (word x.b) 255 (omega arith),
          r.w₆,
        )
        refl

    pub numbers_value_lem : (x y : ℕ) → Row t i 5 b c x y 0 0 0 → span_in x y m ≡ true → value_sound t m bundle i ≡ true
    unfolding value_sound one_span two_zeros pick
    numbers_value_lem x y r p = rw (r.w₀, r.w₃, r.w₄, p, r.w₅, r.w₆) refl

    pub delta_value : (x : ℕ) → Row t i 6 b c x 0 0 0 0 → x < m → value_sound t m bundle i ≡ true
    unfolding value_sound delta_words two_zeros pick
    delta_value x r h = rw (r.w₀, r.w₃, lt-leb m x h, r.w₄, r.w₅, r.w₆) refl
