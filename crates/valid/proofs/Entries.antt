-- A table of words cut into entries: word j of the entry at place i, and what is judged of that entry.
use Prim.Native.Nat.{ℕ, zero, suc, ◌+◌, ◌*◌, ◌/◌, ◌<◌, ◌≤◌}
use native.Mathlib.Omega.{arith}
use mathlib.Core.Path.{◌≡◌, refl, ◌∙◌, ap}
use mathlib.Core.List.{List, [], reverse}
use lib.Ieee.{Float}
use lib.ListN.{length, get_or, take, drop}
use Rattle.std.proofs.lemmas.List.{get_or-take, get_or-drop, drop-drop}
use Rattle.std.specs.Simd.{first_chunks}
use Rattle.table.specs.Value.{word_at}
use Rattle.std.specs.List.{list_all}
use Rattle.valid.proofs.Below.{all_is, all_reverse}
use mathlib.Core.Bool.{Bool}
use lib.ListN.{length-take}
use lib.Dec.{leb}
use borrow.Author.Tests.{leb-false}
use Rattle.base.specs.Choice.{pick, by-test}
use Rattle.base.specs.Table.{zero_float}
use Rattle.valid.specs.Valid.{all_below, two_zeros, marked_span, rule_sound, selector_sound, named_entry, number_value, test_value, test_sound, one_span, two_spans, color_words, delta_words, value_sound, property_sound}

-- an entry is the words from its place on
entry_is : (t : List ℕ) (k i : ℕ) → i < k → get_or (first_chunks 8 k t) i [] ≡ take 8 (drop (i * 8) t)
entry_is t zero i h = absurd (omega arith)
entry_is t (suc k) zero h = refl
entry_is t (suc k) (suc i) h =
    entry_is (drop 8 t) k i (omega arith) ∙ ap (take 8) (drop-drop (i * 8) 8 t ∙ ap (λ (n : ℕ). drop n t) (let e : 8 + i * 8 ≡ suc i * 8 = omega arith in e))

module _ (t : List ℕ) (n i : ℕ) (room : n * 8 ≤ length t) (below : i < n) where
  abbrev entry : List ℕ
  entry = get_or (first_chunks 8 (length t / 8) t) i []

  at : (j : ℕ) → j < 8 → word_at entry 0 j ≡ word_at t i j
  at j g =
      ap (λ (x : ℕ). get_or entry x 0) (let e : 0 * 8 + j ≡ j = omega arith in e)
      ∙ ap (λ (e : List ℕ). get_or e j 0) (entry_is t (length t / 8) i (omega arith))
      ∙ get_or-take 8 (drop (i * 8) t) j 0 g
      ∙ get_or-drop (i * 8) t j 0

  pub rule_entry : (s p : ℕ) → rule_sound entry s p 0 ≡ rule_sound t s p i
  unfolding rule_sound
  rule_entry s p = simp (at 0 (omega arith), at 1 (omega arith), at 2 (omega arith), at 3 (omega arith), at 4 (omega arith), at 5 (omega arith), at 6 (omega arith), at 7 (omega arith)) refl

  pub selector_entry : (s b : ℕ) → selector_sound entry s b 0 ≡ selector_sound t s b i
  unfolding selector_sound marked_span
  selector_entry s b = simp (at 0 (omega arith), at 3 (omega arith), at 4 (omega arith), at 5 (omega arith), at 6 (omega arith), at 7 (omega arith)) refl

  pub test_entry : (xs : List Float) (m b : ℕ) → test_sound entry xs m b 0 ≡ test_sound t xs m b i
  unfolding test_sound named_entry marked_span test_value two_zeros number_value
  test_entry xs m b = simp (at 0 (omega arith), at 1 (omega arith), at 2 (omega arith), at 3 (omega arith), at 4 (omega arith), at 5 (omega arith), at 6 (omega arith), at 7 (omega arith)) refl

  pub property_entry : (m b : ℕ) → property_sound entry m b 0 ≡ property_sound t m b i
  unfolding property_sound named_entry value_sound one_span two_spans color_words delta_words two_zeros
  property_entry m b = simp (at 0 (omega arith), at 1 (omega arith), at 2 (omega arith), at 3 (omega arith), at 4 (omega arith), at 5 (omega arith), at 6 (omega arith), at 7 (omega arith)) refl

-- the numbers below a count, in place of all of them and the count
module _ (xs : List Float) (m : ℕ) (room : m ≤ length xs) where
  count_is : length (take m xs) ≡ m
  count_is = omega (arith, length-take m xs)

  first_number : (t : List ℕ) (k i : ℕ) → number_value t (take m xs) k (length (take m xs)) i ≡ number_value t xs k m i
  unfolding number_value pick
  first_number t k i =
      by-test (leb m (word_at t i 6))
      (λ a. rw (count_is, a))
      (λ a. rw (count_is, a, get_or-take m xs (word_at t i 6) zero_float (omega (arith, leb-false m (word_at t i 6) a))))

  pub first_numbers : (t : List ℕ) (b i : ℕ) → test_sound t (take m xs) (length (take m xs)) b i ≡ test_sound t xs m b i
  unfolding test_sound test_value
  first_numbers t b i = rw (first_number t (word_at t i 0) i)

-- the entries of a table that are judged one after another
module _ (t : List ℕ) (n : ℕ) (room : n * 8 ≤ length t) (xs : List (List ℕ)) (front : xs ≡ first_chunks 8 (length t / 8) t)
    (len : length xs ≡ length t / 8) (r : Bool) where
  there : length (take n xs) ≡ n
  there = omega (arith, length-take n xs)

  judged :
      (test : List ℕ → Bool) (p : ℕ → Bool)
      → ((i : ℕ) → i < n → test (get_or (first_chunks 8 (length t / 8) t) i []) ≡ p i)
      → r ≡ list_all test (take n xs)
      → r ≡ all_below p n
  judged test p h e =
      e
      ∙ all_is [] test (take n xs) p
      (λ i g.
      let below : i < n = omega (arith, there) in
      ap test (get_or-take n xs i [] below ∙ ap (λ (x : List (List ℕ)). get_or x i []) front) ∙ h i below)
      ∙ ap (all_below p) there

  pub rules_are : (s p : ℕ) → r ≡ list_all (λ e. rule_sound e s p 0) (take n xs) → r ≡ all_below (rule_sound t s p) n
  rules_are s p = judged (λ e. rule_sound e s p 0) (rule_sound t s p) (λ i g. rule_entry t n i room g s p)

  pub selectors_are : (s b : ℕ) → r ≡ list_all (λ e. selector_sound e s b 0) (take n xs) → r ≡ all_below (selector_sound t s b) n
  selectors_are s b = judged (λ e. selector_sound e s b 0) (selector_sound t s b) (λ i g. selector_entry t n i room g s b)

  pub tests_are :
      (ys : List Float) (m b : ℕ)
      → m ≤ length ys
      → r ≡ list_all (λ e. test_sound e (take m ys) (length (take m ys)) b 0) (take n xs)
      → r ≡ all_below (test_sound t ys m b) n
  tests_are ys m b h =
      judged
      (λ e. test_sound e (take m ys) (length (take m ys)) b 0) (test_sound t ys m b)
      (λ i g. first_numbers ys m h (get_or (first_chunks 8 (length t / 8) t) i []) b 0 ∙ test_entry t n i room g ys m b)

  pub properties_are : (m b : ℕ) → r ≡ list_all (λ e. property_sound e m b 0) (take n xs) → r ≡ all_below (property_sound t m b) n
  properties_are m b = judged (λ e. property_sound e m b 0) (property_sound t m b) (λ i g. property_entry t n i room g m b)

  -- judged from the last entry down
  pub rules_reversed : (s p : ℕ) → r ≡ list_all (λ e. rule_sound e s p 0) (reverse (take n xs)) → r ≡ all_below (rule_sound t s p) n
  rules_reversed s p e = rules_are s p (e ∙ all_reverse (λ e. rule_sound e s p 0) (take n xs))

  pub selectors_reversed : (s b : ℕ) → r ≡ list_all (λ e. selector_sound e s b 0) (reverse (take n xs)) → r ≡ all_below (selector_sound t s b) n
  selectors_reversed s b e = selectors_are s b (e ∙ all_reverse (λ e. selector_sound e s b 0) (take n xs))

  pub tests_reversed :
      (ys : List Float) (m b : ℕ)
      → m ≤ length ys
      → r ≡ list_all (λ e. test_sound e (take m ys) (length (take m ys)) b 0) (reverse (take n xs))
      → r ≡ all_below (test_sound t ys m b) n
  tests_reversed ys m b h e = tests_are ys m b h (e ∙ all_reverse (λ e. test_sound e (take m ys) (length (take m ys)) b 0) (take n xs))

  pub properties_reversed : (m b : ℕ) → r ≡ list_all (λ e. property_sound e m b 0) (reverse (take n xs)) → r ≡ all_below (property_sound t m b) n
  properties_reversed m b e = properties_are m b (e ∙ all_reverse (λ e. property_sound e m b 0) (take n xs))
