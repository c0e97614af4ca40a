-- What a reading of a bundle's text holds is drawn from its tokens: its names stand in the bundle and have the bytes of their places,
-- its colours have three bytes.
use Prim.Native.Nat.{ℕ}
use mathlib.Core.Path.{◌≡◌, refl, sym, ◌∙◌, ap, ap₂, subst}
use mathlib.Core.Bool.{true}
use mathlib.Core.List.{List, [], ◌∷◌, ◌++◌}
use mathlib.Core.Option.{Option, none, some}
use lib.ListN.{length}
use Rattle.base.specs.Bytes.{Bytes, ascii, within, same}
use Rattle.base.specs.Choice.{by-test, different}
use Rattle.color.specs.declared.Color.{Color}
use Rattle.sheet.specs.Digits.{is_whole}
use Rattle.table.specs.declared.Name.{Name}
use Rattle.table.specs.declared.Name.TheVariants.{Plain, Joined}
use Rattle.grammar.specs.Token.{Name as Name', joined, Token}
use Rattle.grammar.specs.Reading.{plain, digits, Test, unary, text, numeric, Value, word, quoted, colored, numbers, width_delta, Selector, Property, Rule, Item, rule_item, color_item, Reading, ColorDef, Colors, define, color_named, colors_after}
use Rattle.grammar.specs.Accepted.{Reads}
use Rattle.grammar.specs.Input.{Store}
use Rattle.grammar.specs.Stream.{Gives, here, ◌▸◌}
use Rattle.grammar.specs.Grammar.{IsName, single, double, IsKey, named, quoted_key, quoted_double, plain_operand, digits_operand, IsTest, there, true_tag, false_tag, missing, untrue, compared, measured, IsValue, one_word, two_words, a_string, a_color, reference, list, eval, IsProperties, closed, assign, HasParts, nothing, zooms, tested, class, layer, IsSelector, typed, IsRule, body, auxiliary, last_selector, selector_then, IsSheet, finish, a_rule, defined, dropped, imported}
use Rattle.keep.specs.Lent.{layer_in, name_shown}
use Rattle.input.specs.Text.{Small, range_of}
use Rattle.input.specs.Source.{Spot, input_of}
use Rattle.input.proofs.Genuine.{Genuine, Holds, next_holds}
use Rattle.sound.specs.Lies.{Each, none_left, and_then, Span, Lies, Layer, TestLies, ValueLies, PropertyLies, SelectorLies, ItemLies}

-- ---- lists

module _ {A : Type 0} {P : A → Type 0} where
  each_left : (xs ys : List A) → Each P (xs ++ ys) → Each P xs
  each_left [] ys h = none_left
  each_left (x ∷ xs) ys (and_then p h) = and_then p (each_left xs ys h)

  each_right : (xs ys : List A) → Each P (xs ++ ys) → Each P ys
  each_right [] ys h = h
  each_right (x ∷ xs) ys (and_then p h) = each_right xs ys h

  each_append : (xs ys : List A) → Each P xs → Each P ys → Each P (xs ++ ys)
  each_append [] ys h g = g
  each_append (x ∷ xs) ys (and_then p h) g = and_then p (each_append xs ys h g)

  each_to : {Q : A → Type 0} → ((x : A) → P x → Q x) → (xs : List A) → Each P xs → Each Q xs
  each_to f [] none_left = none_left
  each_to f (x ∷ xs) (and_then p h) = and_then (f x p) (each_to f xs h)

  each_head : {x : A} {xs : List A} → Each P (x ∷ xs) → P x
  each_head (and_then p h) = p

  each_tail : {x : A} {xs : List A} → Each P (x ∷ xs) → Each P xs
  each_tail (and_then p h) = h

-- ---- colours

abbrev SmallAll : Colors → Type 0
SmallAll Γ = Each (λ (d : ColorDef). Small d.color) Γ

define_small : (Γ : Colors) (n : Name') (c : Color) → Small c → SmallAll Γ → SmallAll (define Γ n c)
unfolding define
define_small [] n c s none_left = and_then s none_left
define_small (d ∷ Γ) n c s (and_then p h) =
    by-test (same n.bytes d.name.bytes) (λ q. rw q (and_then s h)) (λ q. rw q (and_then p (define_small Γ n c s h)))

named_small : (Γ : Colors) (n : Name') (c : Color) → SmallAll Γ → color_named n Γ ≡ some c → Small c
unfolding color_named
named_small [] n c none_left e = different cc
named_small (d ∷ Γ) n c (and_then p h) e =
    by-test (same n.bytes d.name.bytes)
    (λ q. let m : some d.color ≡ some c = rw q at e in let k : d.color ≡ c = cc in subst Small k p)
    (λ q. named_small Γ n c h (rw q at e))

after_append : (js ks : Reading) (Γ : Colors) → colors_after Γ (js ++ ks) ≡ colors_after (colors_after Γ js) ks
unfolding colors_after
after_append [] ks Γ = refl
after_append (rule_item r ∷ js) ks Γ = after_append js ks Γ
after_append (color_item n c ∷ js) ks Γ = after_append js ks (define Γ n c)

module _ (bundle : Bytes) where
  abbrev L : ℕ
  L = length bundle

  -- ---- what is drawn

  -- the bytes in one place, or in two with a colon between them
  abbrev pub bytes_at : Name → Bytes
  bytes_at (Plain a) = within a bundle
  bytes_at (Joined a b) = within a bundle ++ ascii ":" ++ within b bundle

  -- a name of one part or two
  abbrev pub Drawn : Name' → Type 0
  Drawn a = (a.bytes ≡ bytes_at (name_shown a)) × Lies L (name_shown a)

  -- a name of one part
  abbrev pub DrawnOnce : Name' → Type 0
  DrawnOnce a = (a.bytes ≡ within (range_of a) bundle) × Span L (range_of a)

  abbrev pub TestDrawn : Test → Type 0
  TestDrawn (unary o a) = Drawn a
  TestDrawn (text o a (plain b)) = Drawn a × DrawnOnce b
  TestDrawn (text o a (digits x)) = Drawn a × (is_whole x ≡ true)
  TestDrawn (numeric o a x) = Drawn a

  abbrev pub LayerDrawn : Option Name' → Type 0
  LayerDrawn none = Unit {0}
  LayerDrawn (some a) = DrawnOnce a

  abbrev pub SelectorDrawn : Selector → Type 0
  SelectorDrawn σ = LayerDrawn σ.layer_id × Each TestDrawn σ.tests

  abbrev pub ValueDrawn : Value → Type 0
  ValueDrawn (word a) = Drawn a
  ValueDrawn (quoted a) = DrawnOnce a
  ValueDrawn (colored c) = Small c
  ValueDrawn (numbers xs) = Unit {0}
  ValueDrawn (width_delta x) = Unit {0}

  abbrev pub PropertyDrawn : Property → Type 0
  PropertyDrawn p = DrawnOnce p.name × ValueDrawn p.value

  abbrev pub RuleDrawn : Rule → Type 0
  RuleDrawn r = Each SelectorDrawn r.selectors × Each PropertyDrawn r.properties

  abbrev pub ItemDrawn : Item → Type 0
  ItemDrawn (rule_item r) = RuleDrawn r
  ItemDrawn (color_item n c) = Unit {0}

  -- the tokens hold what was read of the bundle
  abbrev All : List Token → Type 0
  All p = Each (Holds bundle) p

  -- ---- names

  once : (a : Name') → Genuine bundle a → DrawnOnce a
  once a g = (g.spelled, (g.ordered, g.ends))

  one_drawn : (a : Name') → Genuine bundle a → Drawn a
  one_drawn a g =
      let e : name_shown a ≡ Plain (range_of a) = ap (λ rs. name_shown (record { bytes = a.bytes; ranges = rs })) g.single in
      (g.spelled ∙ ap bytes_at (sym e), subst (Lies L) (sym e) (g.ordered, g.ends))

  two_drawn : (a b : Name') → Genuine bundle a → Genuine bundle b → Drawn (joined a b)
  two_drawn a b g h =
      let e : name_shown (joined a b) ≡ Joined (range_of a) (range_of b) =
      ap₂ (λ rs ss. name_shown (record { bytes = a.bytes; ranges = rs ++ ss })) g.single h.single in (
        ap₂ (λ (x y : Bytes). x ++ ascii ":" ++ y) g.spelled h.spelled ∙ ap bytes_at (sym e),
        subst (Lies L) (sym e) ((g.ordered, g.ends), (h.ordered, h.ends)),
      )

  name_drawn : {p : List Token} {a : Name'} → IsName p a → All p → Drawn a
  name_drawn (single a) (and_then g h) = one_drawn a g
  name_drawn (double a b) (and_then g (and_then x (and_then h y))) = two_drawn a b g h

  key_drawn : {p : List Token} {a : Name'} → IsKey p a → All p → Drawn a
  key_drawn (named n) h = name_drawn n h
  key_drawn (quoted_key a) (and_then g h) = one_drawn a g
  key_drawn (quoted_double a b) (and_then g (and_then x (and_then h y))) = two_drawn a b g h

  -- ---- tests

  test_drawn : {p : List Token} {x : Test} → IsTest is_whole p x → All p → TestDrawn x
  test_drawn (there {p = p} k) h = key_drawn k (each_left p _ h)
  test_drawn (true_tag {p = p} k) h = key_drawn k (each_left p _ h)
  test_drawn (false_tag {p = p} k) h = key_drawn k (each_left p _ h)
  test_drawn (missing {p = p} n) h = name_drawn n (each_left p _ (each_tail h))
  test_drawn (untrue {p = p} n) h = name_drawn n (each_left p _ (each_tail h))
  test_drawn (compared {p = p} k e (plain_operand b)) h =
      (key_drawn k (each_left p _ h), once b (each_head (each_tail (each_right p _ h))))
  test_drawn (compared {p = p} k e (digits_operand x w)) h = (key_drawn k (each_left p _ h), w)
  test_drawn (measured {p = p} k c x) h = key_drawn k (each_left p _ h)

  -- ---- selectors

  parts_drawn : {σ τ : Selector} {p : List Token} → HasParts is_whole σ p τ → All p → SelectorDrawn σ → SelectorDrawn τ
  parts_drawn nothing h y = y
  parts_drawn (zooms a b r) h y = parts_drawn r (each_tail h) y
  parts_drawn (tested {σ = σ} {p = p} {q = q} {x = x} t r) h y =
      parts_drawn r (each_right p q (each_tail h))
      (y.0, each_append σ.tests (x ∷ []) y.1 (and_then (test_drawn t (each_left p q (each_tail h))) none_left))
  parts_drawn (class a r) h y = parts_drawn r (each_tail (each_tail h)) y
  parts_drawn (layer a r) h y = parts_drawn r (each_tail (each_tail h)) (once a (each_head (each_tail h)), y.1)

  selector_drawn : {p : List Token} {σ : Selector} → IsSelector is_whole p σ → All p → SelectorDrawn σ
  selector_drawn (typed a y e r) h = parts_drawn r (each_tail h) (tt, none_left)

  -- ---- properties

  value_drawn : {Γ : Colors} {p : List Token} {x : Value} → IsValue Γ p x → SmallAll Γ → All p → ValueDrawn x
  value_drawn (one_word a e) s h = one_drawn a (each_head h)
  value_drawn (two_words a b e) s h = two_drawn a b (each_head h) (each_head (each_tail (each_tail h)))
  value_drawn (a_string a) s h = once a (each_head h)
  value_drawn (a_color c) s h = each_head h
  value_drawn {Γ = Γ} (reference n c e) s h = named_small Γ n c s e
  value_drawn (list n) s h = tt
  value_drawn (eval a e d) s h = tt

  properties_drawn :
      {Γ : Colors} {p : List Token} {ps : List Property}
      → IsProperties Γ p ps
      → SmallAll Γ
      → All p
      → Each PropertyDrawn ps
  properties_drawn closed s h = none_left
  properties_drawn (assign {p = p} {q = q} a v r) s h =
      let w = each_tail (each_tail h) in
      and_then (once a (each_head h), value_drawn v s (each_left p q w)) (properties_drawn r s (each_right p q w))

  -- ---- rules and sheets

  rule_drawn : {Γ : Colors} {p : List Token} {r : Rule} → IsRule is_whole Γ p r → SmallAll Γ → All p → RuleDrawn r
  rule_drawn (body b) s h = (none_left, properties_drawn b s (each_tail h))
  rule_drawn (auxiliary a e k) s h = (none_left, none_left)
  rule_drawn (last_selector {p = p} {q = q} σ b) s h =
      (and_then (selector_drawn σ (each_left p _ h)) none_left, properties_drawn b s (each_tail (each_right p _ h)))
  rule_drawn (selector_then {p = p} {q = q} σ r) s h =
      let w = rule_drawn r s (each_tail (each_right p _ h)) in
      (and_then (selector_drawn σ (each_left p _ h)) w.0, w.1)

  module _ {Texts : Bytes → List Token → Type 0} (from-tokens : (n : Bytes) (q : List Token) → Texts n q → All q) where
    sheet_drawn :
        {d : ℕ} {Γ : Colors} {p : List Token} {js : Reading}
        → IsSheet is_whole Texts d Γ p js
        → SmallAll Γ
        → All p
        → Each ItemDrawn js × SmallAll (colors_after Γ js)
    unfolding colors_after
    sheet_drawn finish s h = (none_left, s)
    sheet_drawn (a_rule {p = p} {q = q} r k) s h =
        let w = sheet_drawn k s (each_right p q h) in
        (and_then (rule_drawn r s (each_left p q h)) w.0, w.1)
    sheet_drawn {Γ = Γ} (defined n c k) s h =
        let g = each_tail (each_tail h) in
        let w = sheet_drawn k (define_small Γ n c (each_head g) s) (each_tail (each_tail g)) in
        (and_then tt w.0, w.1)
    sheet_drawn (dropped n t e k) s h = sheet_drawn k s (each_tail (each_tail (each_tail (each_tail h))))
    sheet_drawn {Γ = Γ} (imported {q = q} {js = js} {ks = ks} n x d k) s h =
        let v = sheet_drawn d s (from-tokens n.bytes q x) in
        let w = sheet_drawn k v.1 (each_tail (each_tail h)) in
        (each_append js ks v.0 w.0, subst SmallAll (sym (after_append js ks Γ)) w.1)

  -- ---- texts of the bundle

  module _ {T : Type 0} (st : Store T) where
    given_hold : {c d : Spot} {p : List Token} → Gives (input_of bundle st) c p d → All p
    given_hold here = none_left
    given_hold (◌▸◌ {c = c} {d = d} {o = o} {t = t} e h) = and_then (next_holds bundle c.source c.cursor d t o e) (given_hold h)

    pub reading_drawn : (c : Spot) (js : Reading) → Reads (input_of bundle st) c js → Each ItemDrawn js
    reading_drawn c js r =
        (sheet_drawn (λ n q x. given_hold x.1.1.1.1.0) r.1.1 none_left (given_hold r.1.0.1.1.0)).0

  -- ---- what is drawn lies within the bundle

  test_lies : (x : Test) → TestDrawn x → TestLies L x
  test_lies (unary o a) d = d.1
  test_lies (text o a (plain b)) d = (d.0.1, d.1.1)
  test_lies (text o a (digits x)) d = (d.0.1, d.1)
  test_lies (numeric o a x) d = d.1

  layer_lies : (n : Option Name') → LayerDrawn n → Layer L (layer_in n)
  layer_lies none d = tt
  layer_lies (some a) d = d.1

  selector_lies : (σ : Selector) → SelectorDrawn σ → SelectorLies L σ
  selector_lies σ d = (layer_lies σ.layer_id d.0, each_to test_lies σ.tests d.1)

  value_lies : (x : Value) → ValueDrawn x → ValueLies L x
  value_lies (word a) d = d.1
  value_lies (quoted a) d = d.1
  value_lies (colored c) d = d
  value_lies (numbers xs) d = tt
  value_lies (width_delta x) d = tt

  property_lies : (p : Property) → PropertyDrawn p → PropertyLies L p
  property_lies p d = (d.0.1, value_lies p.value d.1)

  item_lies : (j : Item) → ItemDrawn j → ItemLies L j
  item_lies (rule_item r) d = (each_to selector_lies r.selectors d.0, each_to property_lies r.properties d.1)
  item_lies (color_item n c) d = tt

  pub reading_lies : {T : Type 0} (st : Store T) (c : Spot) (js : Reading) → Reads (input_of bundle st) c js → Each (ItemLies L) js
  reading_lies st c js r = each_to item_lies js (reading_drawn st c js r)
