-- Entries of the tables read back from their words: a key, a test, a layer name, a selector, a value.
use Prim.Native.Nat.{ℕ, suc, ◌+◌, ◌-◌, ◌%◌, ◌<◌, ◌≤◌}
use native.Mathlib.Numerals.{add-one}
use native.Mathlib.Omega.{arith}
use mathlib.Core.Path.{◌≡◌, refl, sym, ◌∙◌, ap, ap₂}
use mathlib.Core.List.{List, [], ◌∷◌, ◌++◌, map}
use mathlib.Core.Option.{Option, none, some}
use Rattle.std.proofs.lemmas.List.{map-append}
use lib.Ieee.{Float}
use lib.ListN.{length, get_or}
use Rattle.base.specs.Bytes.{Bytes, within}
use Rattle.base.specs.Choice.{pick}
use Rattle.base.specs.Table.{zero_float}
use Rattle.base.specs.declared.Range.{Range}
use Rattle.color.specs.declared.Color.{Color}
use Rattle.sheet.specs.Digits.{digits_for}
use Rattle.sheet.specs.Sheet.{ObjectType, all, UnaryTest, exists, not_exists, is_true, is_false, TextTest, equal, not_equal, NumericTest, less, less_or_equal, greater, greater_or_equal, unary as unary', text as text', numeric as numeric'}
use Rattle.table.specs.Value.{word_at, range_at, value_at, word}
use Rattle.entries.specs.Words.{first_of, joined_word, second_from, second_to, level_word, layer_word, layer_from, layer_to}
use Rattle.table.specs.declared.Name.{Name}
use Rattle.table.specs.declared.Name.TheVariants.{Plain, Joined}
use Rattle.table.specs.declared.PropertyValue.TheVariants.{Identifier, Text, Shade, Numbers, WidthDelta}
use Rattle.grammar.specs.Token.{Name as Name'}
use Rattle.grammar.specs.Rules.{layer_of}
use Rattle.keep.specs.Lent.{range, type_number, level_in, layer_in, unary_kind, word_kind, digits_kind, numeric_kind}
use Rattle.input.specs.Text.{Small}
use Rattle.sound.proofs.Checked.{Row}
use Rattle.sound.specs.Lies.{Span, Lies}
use Rattle.decode.specs.Decode.{places, level_at, type_at, key_at, test_at, layer_at}
use Rattle.decode.proofs.Places.{places_on, places_end}
use Rattle.sound.proofs.Drawn.{bytes_at, LayerDrawn}

-- ---- places

module _ {A : Type 0} (f : ℕ → A) where
  -- one place more
  places_suc : (a k b : ℕ) → a + k ≡ b → map f (places a (suc k)) ≡ map f (places a k) ++ (f b ∷ [])
  places_suc a k b e =
      ap (map f) (places_on a k)
      ∙ map-append f (places a k) ((a + k) ∷ [])
      ∙ ap (λ i. map f (places a k) ++ (f i ∷ [])) e

  pub places_more : (a b : ℕ) → a ≤ b → map f (places a (b + 1 - a)) ≡ map f (places a (b - a)) ++ (f b ∷ [])
  places_more a b h =
      let e : b + 1 - a ≡ suc (b - a) = omega arith in
      ap (λ k. map f (places a k)) e ∙ places_suc a (b - a) b (omega arith)

  pub places_next : (n : ℕ) → map f (places 0 (n + 1)) ≡ map f (places 0 n) ++ (f n ∷ [])
  places_next n = let e : n + 1 ≡ suc n = omega arith in ap (λ k. map f (places 0 k)) e ∙ places_suc 0 n n (omega arith)

  pub places_none : (a : ℕ) → map f (places a (a - a)) ≡ []
  places_none a = ap (map f) (places_end a a (omega arith))

-- ---- ranges

pub range_back :
    (t : List ℕ) (i j : ℕ) (r : Range)
    → word_at t i j ≡ word r.from
    → word_at t i (j + 1) ≡ word r.to
    → r.from < 4294967296
    → r.to < 4294967296
    → range_at t i j ≡ r
range_back t i j r p q h g =
    let a : word_at t i j ≡ r.from = p ∙ omega arith in
    let b : word_at t i (j + 1) ≡ r.to = q ∙ omega arith in
    ap₂ (λ (x y : ℕ). record { from = x; to = y }) a b

-- ---- types and zoom levels

pub type_back : (o : ObjectType) → type_at (type_number o) ≡ o
unfolding type_at pick
type_back all = refl
type_back o = refl

pub level_back : (n : Option ℕ) → level_at (level_word (level_in n)) ≡ n
level_back none = refl
level_back (some n) = rw add-one refl

module _ (bundle : Bytes) (short : length bundle < 4294967296) where
  spanned :
      (t : List ℕ) (i j : ℕ) (r : Range)
      → word_at t i j ≡ word r.from
      → word_at t i (j + 1) ≡ word r.to
      → Span (length bundle) r
      → range_at t i j ≡ r
  spanned t i j r p q s =
      let a = s.0 in
      let b = s.1 in
      range_back t i j r p q (omega arith) (omega arith)

  pub within_back :
      (t : List ℕ) (i j : ℕ) (r : Range)
      → word_at t i j ≡ word r.from
      → word_at t i (j + 1) ≡ word r.to
      → Span (length bundle) r
      → within (range_at t i j) bundle ≡ within r bundle
  within_back t i j r p q s = ap (λ r. within r bundle) (spanned t i j r p q s)

  -- ---- tests

  pub key_back :
      (t : List ℕ) (i : ℕ) (key : Name) {k a b : ℕ}
      → Row t i k (word (first_of key).from) (word (first_of key).to) (joined_word key) (second_from key) (second_to key) a b
      → Lies (length bundle) key
      → key_at bundle t i ≡ bytes_at bundle key
  unfolding key_at pick
  key_back t i (Plain x) r s = rw r.w₃ (within_back t i 1 x r.w₁ r.w₂ s)
  key_back t i (Joined x y) r s =
      rw r.w₃
      (ap₂ (λ (a b : Range). bytes_at bundle (Joined a b)) (spanned t i 1 x r.w₁ r.w₂ s.0) (spanned t i 4 y r.w₄ r.w₅ s.1))

  module _ (t : List ℕ) (xs : List Float) (i : ℕ) (key : Bytes) (k : key_at bundle t i ≡ key) where
    pub unary_back : (o : UnaryTest) → word_at t i 0 ≡ unary_kind o → test_at bundle t xs i ≡ unary' o key
    unfolding test_at pick
    unary_back exists w = rw w (ap (unary' exists) k)
    unary_back not_exists w = rw w (ap (unary' not_exists) k)
    unary_back is_true w = rw w (ap (unary' is_true) k)
    unary_back is_false w = rw w (ap (unary' is_false) k)

    pub word_back :
        (o : TextTest) (b : Bytes)
        → word_at t i 0 ≡ word_kind o
        → within (range_at t i 6) bundle ≡ b
        → test_at bundle t xs i ≡ text' o key b
    unfolding test_at pick
    word_back equal b w v = rw w (ap₂ (text' equal) k v)
    word_back not_equal b w v = rw w (ap₂ (text' not_equal) k v)

    pub digits_back :
        (o : TextTest) (x : Float)
        → word_at t i 0 ≡ digits_kind o
        → get_or xs (word_at t i 6) zero_float ≡ x
        → test_at bundle t xs i ≡ text' o key (digits_for x)
    unfolding test_at pick
    digits_back equal x w v = rw w (ap₂ (λ k x. text' equal k (digits_for x)) k v)
    digits_back not_equal x w v = rw w (ap₂ (λ k x. text' not_equal k (digits_for x)) k v)

    pub numeric_back :
        (o : NumericTest) (x : Float)
        → word_at t i 0 ≡ numeric_kind o
        → get_or xs (word_at t i 6) zero_float ≡ x
        → test_at bundle t xs i ≡ numeric' o key x
    unfolding test_at pick
    numeric_back less x w v = rw w (ap₂ (numeric' less) k v)
    numeric_back less_or_equal x w v = rw w (ap₂ (numeric' less_or_equal) k v)
    numeric_back greater x w v = rw w (ap₂ (numeric' greater) k v)
    numeric_back greater_or_equal x w v = rw w (ap₂ (numeric' greater_or_equal) k v)

  -- ---- selectors

  pub layer_back :
      (t : List ℕ) (i : ℕ) (n : Option Name') {k lo hi a b : ℕ}
      → Row t i k lo hi a b (layer_word (layer_in n)) (layer_from (layer_in n)) (layer_to (layer_in n))
      → LayerDrawn bundle n
      → layer_at bundle t i ≡ layer_of digits_for n
  unfolding layer_at pick
  layer_back t i none r d = rw r.w₅ refl
  layer_back t i (some a) r d = rw r.w₅ (ap some (within_back t i 6 _ r.w₆ r.w₇ d.1 ∙ sym d.0))

  -- ---- values

  module _ (t : List ℕ) (xs : List Float) (i : ℕ) {b c : ℕ} where
    pub plain_back :
        (x : Range)
        → Row t i 1 b c (word x.from) (word x.to) 0 0 0
        → Span (length bundle) x
        → value_at t xs i ≡ Identifier (Plain x)
    unfolding value_at pick
    plain_back x r s = rw r.w₀ (ap (λ x. Identifier (Plain x)) (spanned t i 3 x r.w₃ r.w₄ s))

    pub joined_back :
        (x y : Range)
        → Row t i 2 b c (word x.from) (word x.to) (word y.from) (word y.to) 0
        → Span (length bundle) x
        → Span (length bundle) y
        → value_at t xs i ≡ Identifier (Joined x y)
    unfolding value_at pick
    joined_back x y r s u =
        rw r.w₀
        (ap₂ (λ x y. Identifier (Joined x y)) (spanned t i 3 x r.w₃ r.w₄ s) (spanned t i 5 y r.w₅ r.w₆ u))

    pub string_back :
        (x : Range)
        → Row t i 3 b c (word x.from) (word x.to) 0 0 0
        → Span (length bundle) x
        → value_at t xs i ≡ Text x
    unfolding value_at pick
    string_back x r s = rw r.w₀ (ap Text (spanned t i 3 x r.w₃ r.w₄ s))

    pub color_back :
        (x : Color)
        → Row t i 4 b c (word x.r) (word x.g) (word x.b) 0 0
        → Small x
        → value_at t xs i ≡ Shade x
    unfolding value_at pick
    color_back x r s =
        let h = s.0 in
        let g = s.1.0 in
        let f = s.1.1 in
        let p : word_at t i 3 % 256 ≡ x.r = ap (λ x. x % 256) r.w₃ ∙ omega arith in
        let q : word_at t i 4 % 256 ≡ x.g = ap (λ x. x % 256) r.w₄ ∙ omega arith in
        let o : word_at t i 5 % 256 ≡ x.b = ap (λ x. x % 256) r.w₅ ∙ omega arith in
        rw (r.w₀, p, q, o) refl

    pub numbers_back :
        (x y : ℕ)
        → Row t i 5 b c (word x) (word y) 0 0 0
        → x < 4294967296
        → y < 4294967296
        → value_at t xs i ≡ Numbers (range x y)
    unfolding value_at pick
    numbers_back x y r h g = rw r.w₀ (ap Numbers (range_back t i 3 (range x y) r.w₃ r.w₄ h g))

    pub delta_back :
        (x : ℕ) (d : Float)
        → Row t i 6 b c (word x) 0 0 0 0
        → x < 4294967296
        → get_or xs x zero_float ≡ d
        → value_at t xs i ≡ WidthDelta d
    unfolding value_at pick
    delta_back x d r h v =
        let p : word_at t i 3 ≡ x = r.w₃ ∙ omega arith in
        rw r.w₀ (ap WidthDelta (ap (λ j. get_or xs j zero_float) p ∙ v))
