-- One test: its key, its kind, and its answer on an absent tag and on a value.
use Prim.Native.Nat.{ℕ}
use mathlib.Core.Path.{◌≡◌, refl, sym, ◌∙◌, ap}
use mathlib.Core.Bool.{Bool, true, false, not}
use mathlib.Core.List.{List, [], ◌∷◌, ◌++◌, append_assoc}
use mathlib.Core.Option.{Option as Option', none, some}
use lib.Dec.{eqb}
use lib.Ieee.{Float}
use lib.ListN.{get_or}
use borrow.Author.Tests.{eq-eqb, ne_eqb}
use Rattle.base.specs.Bytes.{Bytes, ascii, same, within}
use Rattle.base.specs.Choice.{pick, if_true, if_false, via}
use Rattle.base.proofs.Spelled.{Spelled, spelled, missed}
use Rattle.base.specs.Table.{zero_float}
use Rattle.base.specs.declared.Range.{Range}
use Rattle.group.specs.Pair.{Ranges, pairs_at}
use Rattle.entity.specs.Layout.{value_of}
use Rattle.entity.specs.declared.EntityRange.{EntityRange}
use Rattle.sheet.specs.Digits.{digits_for}
use Rattle.sheet.specs.Sheet.{NumericTest, Test, unary, text, numeric, exists, not_exists, is_true, is_false, equal, not_equal, less, less_or_equal, greater, greater_or_equal}
use Rattle.table.specs.Kind.{test_kind}
use Rattle.table.specs.declared.kind.TestKind.{TestKind}
use Rattle.table.specs.declared.kind.TestKind.TheVariants.{Exists, NotExists, True, False, TextEqual, TextNotEqual, NumberEqual, NumberNotEqual, Less, LessOrEqual, Greater, GreaterOrEqual}
use Rattle.table.specs.Value.{word_at, range_at}
use Rattle.cascade.specs.Number.{reads, malformed, out_of_range, tag_number, TagNumber as Number}
use Rattle.cascade.specs.Match.{tag, of_bool, present, true_value, unary_holds, equals, text_holds, compares, number_verdict, numeric_verdict, test_key, test_verdict, verdict_on}
use Rattle.reader.specs.Tags.{value_in}
use Rattle.tag_number.specs.Told.{told}
use Rattle.tag_number.specs.declared.NumberError.{NumberError}
use Rattle.tag_number.specs.declared.NumberError.TheVariants.{Malformed as Misspelt, OutOfRange as BeyondExact}
use Rattle.reader.proofs.Lookup.{tag_value}
use Rattle.decode.specs.Decode.{key_at, test_at}
use Rattle.matching.specs.Matching.{out_of_range as beyond_range, fit_of, comparison_of, absent_of}
use Rattle.matching.specs.declared.OutOfRange.{OutOfRange}
use Rattle.std.specs.Prelude.{Option, Some, None, Result, Ok, Err}
use Rattle.base.specs.Option.{on_option}

abbrev pub Not : ℕ → ℕ → Type 0
Not k n = k ≡ n → ⊥

-- a value that says yes, and every other
pub true_yes : (v : Bytes) → Spelled v (ascii "yes") (true ≡ true_value (some v))
unfolding true_value same
true_yes v = spelled (λ v. true_value (some v)) v (ascii "yes")

pub true_true : (v : Bytes) → Spelled v (ascii "true") (true ≡ true_value (some v))
unfolding true_value same
true_true v = spelled (λ v. true_value (some v)) v (ascii "true")

pub true_one : (v : Bytes) → Spelled v (ascii "1") (true ≡ true_value (some v))
unfolding true_value same
true_one v = spelled (λ v. true_value (some v)) v (ascii "1")

pub not_true :
    (v : Bytes)
    → Spelled v (ascii "yes") ⊥
    → Spelled v (ascii "true") ⊥
    → Spelled v (ascii "1") ⊥
    → false ≡ true_value (some v)
unfolding true_value
not_true v y t o = rw (missed v (ascii "yes") y, missed v (ascii "true") t, missed v (ascii "1") o) refl

pub ruleset truths = (true_yes, true_true, true_one, not_true)

-- a test that reads no number
pub ok_fit : (b : Bool) → Ok b ≡ fit_of (of_bool b)
ok_fit true = refl
ok_fit false = refl

-- a numeric test, by what the tag's value reads as
module _ (c : NumericTest) (y : Float) where
  abbrev pub number_fit : Result Float NumberError → Result Bool OutOfRange
  number_fit (Ok x) = Ok (compares c x y)
  number_fit (Err Misspelt) = Ok false
  number_fit (Err BeyondExact) = Err beyond_range

  told_fit : (n : Number) → number_fit (told n) ≡ fit_of (number_verdict c y n)
  unfolding told number_verdict
  told_fit (reads x) = ok_fit (compares c x y)
  told_fit malformed = refl
  told_fit out_of_range = refl

  pub number_fit_lem : (n : Number) (r k : Result Float NumberError) → r ≡ told n → r ≡ k → number_fit k ≡ fit_of (number_verdict c y n)
  number_fit_lem n r k e h = ap number_fit (sym h ∙ e) ∙ told_fit n

-- the key of a test, of one part or two, and the tag that has it
module _ (bundle : Bytes) (t : List ℕ) (s : Bytes) (ps : List Ranges) (i w : ℕ) (p : w ≡ word_at t i 3) where
  module _ (a : Range) (x : Bytes) (v : Option Range) (e : a ≡ range_at t i 1) (q : x ≡ within a bundle) where
    first_is : x ≡ within (range_at t i 1) bundle
    first_is = q ∙ ap (λ r. within r bundle) e

    pub tag_plain : Not w 1 → v ≡ value_in s x ps → v ≡ value_in s (key_at bundle t i) ps
    unfolding key_at
    tag_plain h g =
        g
        ∙ ap (λ k. value_in s k ps)
        (if_false (eqb (word_at t i 3) 1) _ _ (ap (λ k. eqb k 1) (sym p) ∙ ne_eqb w 1 h) first_is)

    pub tag_joined :
        (b : Range) (y : Bytes)
        → b ≡ range_at t i 4
        → y ≡ within b bundle
        → w ≡ 1
        → v ≡ value_in s (x ++ (58 ∷ y)) ps
        → v ≡ value_in s (key_at bundle t i) ps
    unfolding key_at
    tag_joined b y f r h g =
        g
        ∙ ap (λ k. value_in s k ps)
        (if_true (eqb (word_at t i 3) 1) _ (within (range_at t i 1) bundle) (ap (λ k. eqb k 1) (sym p) ∙ eq-eqb w 1 h)
        (ap (λ z. z ++ (58 ∷ y)) first_is
        ∙ ap (λ z. within (range_at t i 1) bundle ++ (58 ∷ z)) (r ∙ ap (λ z. within z bundle) f)
        ∙ sym (append_assoc (within (range_at t i 1) bundle) (58 ∷ []) (within (range_at t i 4) bundle))))

pub picked :
    {A B : Type 0} (f : A → B) (b : Bool) (x y : A) {u w : B}
    → u ≡ f x
    → w ≡ f y
    → pick b u w ≡ f (pick b x y)
unfolding pick
picked f true x y p q = p
picked f false x y p q = q

-- what a test of a kind asks of a tag: a text, or a number
abbrev test_of : TestKind → Bytes → Bytes → Float → Test
test_of Exists k s x = unary exists k
test_of NotExists k s x = unary not_exists k
test_of True k s x = unary is_true k
test_of False k s x = unary is_false k
test_of TextEqual k s x = text equal k s
test_of TextNotEqual k s x = text not_equal k s
test_of NumberEqual k s x = text equal k (digits_for x)
test_of NumberNotEqual k s x = text not_equal k (digits_for x)
test_of Less k s x = numeric less k x
test_of LessOrEqual k s x = numeric less_or_equal k x
test_of Greater k s x = numeric greater k x
test_of GreaterOrEqual k s x = numeric greater_or_equal k x

-- a kind that is none of the first eight compares numbers
pub compares_numbers :
    (n : TestKind) (k s : Bytes) (x : Float)
    → (n ≡ Exists → ⊥)
    → (n ≡ NotExists → ⊥)
    → (n ≡ True → ⊥)
    → (n ≡ False → ⊥)
    → (n ≡ TextEqual → ⊥)
    → (n ≡ TextNotEqual → ⊥)
    → (n ≡ NumberEqual → ⊥)
    → (n ≡ NumberNotEqual → ⊥)
    → test_of n k s x ≡ numeric (comparison_of n) k x
compares_numbers Exists k s x a b c d e f g h = absurd (a refl)
compares_numbers NotExists k s x a b c d e f g h = absurd (b refl)
compares_numbers True k s x a b c d e f g h = absurd (c refl)
compares_numbers False k s x a b c d e f g h = absurd (d refl)
compares_numbers TextEqual k s x a b c d e f g h = absurd (e refl)
compares_numbers TextNotEqual k s x a b c d e f g h = absurd (f refl)
compares_numbers NumberEqual k s x a b c d e f g h = absurd (g refl)
compares_numbers NumberNotEqual k s x a b c d e f g h = absurd (h refl)
compares_numbers n k s x a b c d e f g h = refl

module _ (bundle : Bytes) (t : List ℕ) (xs : List Float) (i : ℕ) where
  abbrev bound : Float
  bound = get_or xs (word_at t i 6) zero_float

  abbrev key : Bytes
  key = key_at bundle t i

  abbrev text_there : Bytes
  text_there = within (range_at t i 6) bundle

  test_is : test_at bundle t xs i ≡ test_of (test_kind (word_at t i 0)) key text_there bound
  unfolding test_at test_kind
  test_is =
      let f : TestKind → Test = λ k. test_of k key text_there bound in
      picked f _ _ _ refl
      (picked f _ _ _ refl
      (picked f _ _ _ refl
      (picked f _ _ _ refl
      (picked f _ _ _ refl
      (picked f _ _ _ refl
      (picked f _ _ _ refl
      (picked f _ _ _ refl
      (picked f _ _ _ refl
      (picked f _ _ _ refl
      (picked f _ _ _ refl refl))))))))))

  test_key_of : (k : TestKind) → test_key (test_of k key text_there bound) ≡ key
  test_key_of Exists = refl
  test_key_of k = refl

  test_key_lem : test_key (test_at bundle t xs i) ≡ key
  test_key_lem = ap test_key test_is ∙ test_key_of (test_kind (word_at t i 0))

  -- on an absent tag
  abbrev none_fit : Result Bool OutOfRange
  none_fit = fit_of (test_verdict (test_at bundle t xs i) none)

  absent_kind : (k : TestKind) → Ok (absent_of k) ≡ fit_of (test_verdict (test_of k key text_there bound) none)
  unfolding test_verdict unary_holds text_holds equals numeric_verdict present true_value
  absent_kind Exists = refl
  absent_kind k = refl

  absent_is : Ok (absent_of (test_kind (word_at t i 0))) ≡ none_fit
  absent_is = absent_kind (test_kind (word_at t i 0)) ∙ ap (λ z. fit_of (test_verdict z none)) (sym test_is)

  -- on a value
  module _ (v : Bytes) (k : TestKind) (p : k ≡ test_kind (word_at t i 0)) where
    abbrev some_fit : Result Bool OutOfRange
    some_fit = fit_of (test_verdict (test_at bundle t xs i) (some v))

    asks : (n : TestKind) → k ≡ n → test_at bundle t xs i ≡ test_of n key text_there bound
    asks n h = test_is ∙ ap (λ z. test_of z key text_there bound) (via p h)

    pub value_exists : k ≡ Exists → Ok true ≡ some_fit
    unfolding test_verdict unary_holds present
    value_exists h = rw (asks Exists h)

    pub value_not_exists : k ≡ NotExists → Ok false ≡ some_fit
    unfolding test_verdict unary_holds present
    value_not_exists h = rw (asks NotExists h)

    module _ (b : Bool) where
      pub value_true : k ≡ True → b ≡ true_value (some v) → Ok b ≡ some_fit
      unfolding test_verdict unary_holds
      value_true h e = rw (asks True h, ← e) (ok_fit b)

      pub value_false : k ≡ False → b ≡ true_value (some v) → Ok (not b) ≡ some_fit
      unfolding test_verdict unary_holds
      value_false h e = rw (asks False h, ← e) (ok_fit (not b))

      module _ (x : Bytes) (f : x ≡ text_there) (g : b ≡ same v x) where
        same_text : b ≡ same v text_there
        same_text = g ∙ ap (same v) f

        pub value_equal : k ≡ TextEqual → Ok b ≡ some_fit
        unfolding test_verdict text_holds equals
        value_equal h = rw (asks TextEqual h, ← same_text) (ok_fit b)

        pub value_not_equal : k ≡ TextNotEqual → Ok (not b) ≡ some_fit
        unfolding test_verdict text_holds equals
        value_not_equal h = rw (asks TextNotEqual h, ← same_text) (ok_fit (not b))

      module _ (y : Float) (e : y ≡ bound) (g : b ≡ same v (digits_for y)) where
        same_digits : b ≡ same v (digits_for bound)
        same_digits = g ∙ ap (λ z. same v (digits_for z)) e

        pub value_digits : k ≡ NumberEqual → Ok b ≡ some_fit
        unfolding test_verdict text_holds equals
        value_digits h = rw (asks NumberEqual h, ← same_digits) (ok_fit b)

        pub value_not_digits : k ≡ NumberNotEqual → Ok (not b) ≡ some_fit
        unfolding test_verdict text_holds equals
        value_not_digits h = rw (asks NumberNotEqual h, ← same_digits) (ok_fit (not b))

    pub value_number :
        (y : Float) (r : Result Bool OutOfRange)
        → test_of k key text_there bound ≡ numeric (comparison_of k) key bound
        → y ≡ bound
        → r ≡ fit_of (number_verdict (comparison_of k) y (tag_number v))
        → r ≡ some_fit
    unfolding test_verdict numeric_verdict
    value_number y r h e q = rw (asks k refl, h, ← e) q

  -- on the tag that it names
  module _ (s : Bytes) (e : EntityRange) (v : Option Range) (g : v ≡ value_in s key (pairs_at e.count s e.tags)) where
    abbrev test_fit : Result Bool OutOfRange
    test_fit = fit_of (verdict_on (value_of s e) (test_at bundle t xs i))

    abbrev read : Option Range → Option' Bytes
    read z = on_option z none (λ a. some (within a s))

    tag_is : (d : Option Range) → v ≡ d → fit_of (test_verdict (test_at bundle t xs i) (read d)) ≡ test_fit
    tag_is d h =
        ap (λ o. fit_of (test_verdict (test_at bundle t xs i) o))
        (sym (ap (tag (value_of s e)) test_key_lem ∙ tag_value s key e ∙ ap read (sym g ∙ h)))

    pub test_absent : v ≡ None → (k : TestKind) → k ≡ test_kind (word_at t i 0) → (b : Bool) → b ≡ absent_of k → Ok b ≡ test_fit
    unfolding on_option
    test_absent h k p b q = ap Ok (q ∙ ap absent_of p) ∙ absent_is ∙ tag_is None h

    pub test_value_lem :
        (r : Result Bool OutOfRange) (a : Range)
        → v ≡ Some a
        → (x : Bytes)
        → x ≡ within a s
        → r ≡ fit_of (test_verdict (test_at bundle t xs i) (some x))
        → r ≡ test_fit
    unfolding on_option
    test_value_lem r a h x f q = q ∙ ap (λ z. fit_of (test_verdict (test_at bundle t xs i) (some z))) f ∙ tag_is (Some a) h
