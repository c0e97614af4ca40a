-- The lent tables stand for bare lists with their capacities: what they hold is what entries fill, padded with zeros.
use Prim.Native.Nat.{ℕ, ◌+◌, ◌-◌, ◌*◌, ◌<◌, ◌≤◌}
use native.Mathlib.Nat.{div-one}
use native.Mathlib.Omega.{arith}
use mathlib.Core.Path.{◌≡◌, refl, sym, ◌∙◌, ap, ap₂, subst}
use mathlib.Core.Bool.{true, false, cond}
use mathlib.Core.List.{List, [], ◌∷◌, ◌++◌}
use mathlib.Core.Option.{none, some}
use lib.Dec.{eqb, leb, ltb}
use lib.Ieee.{Float}
use lib.ListN.{length, replicate, length-append, length-replicate}
use borrow.Author.Tests.{lt-ltb, le-ltb, le-leb, lt-leb, ltb-true, ltb-false}
use Rattle.base.specs.Bytes.{Bytes}
use Rattle.base.specs.Choice.{by-test, if_true, if_false}
use Rattle.base.specs.Table.{zero_float, capacity_of, padded}
use Rattle.base.proofs.Tables.{padded_stored, padded_none}
use Rattle.color.specs.declared.Color.{Color}
use Rattle.entries.specs.Put.{put_of}
use Rattle.entries.specs.Words.{color_words}
use Rattle.grammar.specs.Token.{Name as Name'}
use Rattle.grammar.specs.Reading.{Test, Selector, Property, Colors, color_def, define}
use Rattle.grammar.specs.Input.{Entry, rule_entry, selector_entry, test_entry, property_entry, number_entry, color_entry, table_of}
use Rattle.grammar.specs.Entries.{count}
use Rattle.grammar.specs.Capacity.{Tables, tables, empty, add, taken as taken_of, limited, Fits}
use Rattle.grammar.proofs.CapacityLaws.{last_count, onward}
use Rattle.grammar.specs.Alike.{BothPut, both_full, both_take, Proper, Stands}
use Rattle.keep.specs.Encode.{Lengths, capacities, Rows, no_rows, add_row, add_rows, rows_of, color_rows, tally_of, lent_of}
use Rattle.keep.specs.Lent.{Lent, lent, none_yet, keep_of, one_color, keep_number_of, keep_test_of, keep_property_of, keep_selector_of, keep_rule_of, recolored, add_color_of, colors_of, place_from, keep_color_of, taken, put_entry, lent_store, value_shown, fresh_numbers}
use Rattle.input.specs.Text.{Small, range_of}
use Rattle.keep.specs.declared.Tally.{Tally}
use Rattle.input.proofs.Genuine.{Genuine}
use Rattle.keep.proofs.Rows.{test_eight, value_eight, rows_even, rows_counted, rows_last}
use Rattle.keep.proofs.Tints.{rows_long, rows_more, AllGenuine, none as noColor, define_genuine, colors_back, Sought, new, old, color_sought}
use Rattle.std.specs.Prelude.{Some, None, Option}
use Rattle.base.specs.Option.{on_option, with_option}

-- ---- an entry put behind the elements of a padded table

pub padded_long : {A : Type 0} (z : A) (len : ℕ) (es : List A) → length es ≤ len → length (padded z len es) ≡ len
padded_long z len es h =
    let p = length-append es (replicate (len - length es) z) in
    let q = length-replicate (len - length es) z in
    omega arith

module _ {A : Type 0} (z : A) (k len n : ℕ) (es vs : List A) where
  module _ {B : Type 0} (f : ℕ → Tally) (g : Tally → List A → B) where
    takes :
        length es ≡ n * k
        → length es ≤ len
        → n * k + length vs ≤ len
        → n < capacity_of k len
        → taken (keep_of k (padded z len es) n vs f) g ≡ some (g (f (n + 1)) (padded z len (es ++ vs)))
    unfolding taken keep_of with_option on_option put_of
    takes p w q h =
        let m : ltb n (capacity_of k (length (padded z len es))) ≡ true =
        ap (λ x. ltb n (capacity_of k x)) (padded_long z len es w) ∙ lt-ltb n (capacity_of k len) h in
        let put : put_of k (padded z len es) n vs ≡ (Some (n + 1), padded z len (es ++ vs)) =
        sym (if_true _ _ _ m refl) ∙ ap (λ t. (Some (n + 1), t)) (padded_stored z len es (n * k) vs p q) in
        ap (λ x. taken (with_option x (λ t. (None, t)) λ m t. (Some (f m), t)) g) put

    is_full : length es ≤ len → capacity_of k len ≤ n → taken (keep_of k (padded z len es) n vs f) g ≡ none
    unfolding taken keep_of with_option on_option put_of
    is_full w h =
        let m : ltb n (capacity_of k (length (padded z len es))) ≡ false =
        ap (λ x. ltb n (capacity_of k x)) (padded_long z len es w) ∙ le-ltb n (capacity_of k len) h in
        let put : put_of k (padded z len es) n vs ≡ (None, padded z len es) = sym (if_false _ _ _ m refl) in
        ap (λ x. taken (with_option x (λ t. (None, t)) λ m t. (Some (f m), t)) g) put

-- both take an entry, or both are full; m: the entries with this one
module _ {A : Type 0} (z : A) (k len n m : ℕ) (es vs : List A) (f : ℕ → Tally) (g : Tally → List A → Lent)
    (Rel : Lent → Tables → Type 0) (υ : Tables) where
  both_put :
      length es ≡ n * k
      → length es ≤ len
      → (n < capacity_of k len → n * k + length vs ≤ len)
      → m ≡ n + 1
      → (n < capacity_of k len → Rel (g (f (n + 1)) (padded z len (es ++ vs))) υ)
      → BothPut Rel (taken (keep_of k (padded z len es) n vs f) g) (cond (leb m (capacity_of k len)) (some υ) none)
  both_put p w q e r =
      by-test (ltb n (capacity_of k len))
      (λ y.
      let h = ltb-true n (capacity_of k len) y in
      rw (takes z k len n es vs f g p w (q h) h, le-leb m (capacity_of k len) (omega arith)) (both_take (r h)))
      (λ y.
      let h = ltb-false n (capacity_of k len) y in
      rw (is_full z k len n es vs f g w h, lt-leb m (capacity_of k len) (omega arith)) both_full)

-- strides of eight and of one
pub eight_in : (len n : ℕ) → n ≤ capacity_of 8 len → n * 8 ≤ len
unfolding capacity_of
eight_in len n h = omega arith

eight_more : (len n : ℕ) → n < capacity_of 8 len → n * 8 + 8 ≤ len
unfolding capacity_of
eight_more len n h = omega arith

pub one_in : (len n : ℕ) → n ≤ capacity_of 1 len → n * 1 ≤ len
unfolding capacity_of
one_in len n h = let e = div-one len in omega arith

one_more : (len n : ℕ) → n < capacity_of 1 len → n * 1 + 1 ≤ len
unfolding capacity_of
one_more len n h = let e = div-one len in omega arith

-- ---- what the tables hold

abbrev lent_from : Lengths → Rows → Colors → Lent
lent_from l ρ Γ =
    lent (one_color ρ.tally (length Γ))
    (padded 0 l.rules ρ.rules)
    (padded 0 l.selectors ρ.selectors)
    (padded 0 l.tests ρ.tests)
    (padded 0 l.properties ρ.properties)
    (padded zero_float l.numbers ρ.numbers)
    (padded 0 l.colors (color_rows Γ))

module _ (bundle : Bytes) (l : Lengths) where
  -- τ holds the entries and colours of υ, which are within its capacities
  pub record Written (τ : Lent) (υ : Tables) : Type 0 where
    pub is : τ ≡ lent_of l υ
    pub fits : Fits (capacities l) υ
    pub genuine : AllGenuine bundle υ.colors

  -- one row more
  written_row :
      (υ : Tables) (e : Entry)
      → Written (lent_of l υ) υ
      → add υ e ≡ tables (υ.entries ++ (e ∷ [])) υ.colors
      → taken_of (table_of e) (add υ e) ≤ capacities l (table_of e)
      → Written (lent_from l (add_row (rows_of υ) e) υ.colors) (tables (υ.entries ++ (e ∷ [])) υ.colors)
  written_row υ e w p h =
      record {
        is = ap (λ ρ. lent_from l ρ υ.colors) (sym (rows_last υ.entries e no_rows));
        fits =
            subst (Fits (capacities l)) p
            (onward (capacities l) e υ w.fits (le-leb (taken_of (table_of e) (add υ e)) (capacities l (table_of e)) h));
        genuine = w.genuine;
      }

  abbrev Puts : Tables → Entry → Type 0
  Puts υ e = BothPut Written (put_entry bundle e (lent_of l υ)) ((limited (capacities l)).put e υ)

  put_rule : (υ : Tables) → Written (lent_of l υ) υ → Puts υ rule_entry
  unfolding put_entry keep_rule_of add
  put_rule υ w =
      let ρ = rows_of υ in
      let n = ρ.tally.rules in
      let p = (rows_even υ).rules in
      let c = (rows_counted υ).rules in
      let f = w.fits 1 in
      let i = eight_in l.rules n (omega arith) in
      let m = last_count rule_entry υ.entries 1 in
      both_put 0 8 l.rules n (taken_of 1 (add υ rule_entry)) ρ.rules _ _ _ Written (add υ rule_entry) p
      (omega arith)
      (eight_more l.rules n)
      (omega arith)
      (λ h. written_row υ rule_entry w refl (omega arith))

  put_selector : (υ : Tables) (σ : Selector) → Written (lent_of l υ) υ → Puts υ (selector_entry σ)
  unfolding put_entry keep_selector_of add
  put_selector υ σ w =
      let ρ = rows_of υ in
      let n = ρ.tally.selectors in
      let p = (rows_even υ).selectors in
      let c = (rows_counted υ).selectors in
      let f = w.fits 2 in
      let i = eight_in l.selectors n (omega arith) in
      let m = last_count (selector_entry σ) υ.entries 2 in
      both_put 0 8 l.selectors n (taken_of 2 (add υ (selector_entry σ))) ρ.selectors _ _ _ Written (add υ (selector_entry σ)) p
      (omega arith)
      (eight_more l.selectors n)
      (omega arith)
      (λ h. written_row υ (selector_entry σ) w refl (omega arith))

  put_test : (υ : Tables) (x : Test) → Written (lent_of l υ) υ → Puts υ (test_entry x)
  unfolding put_entry keep_test_of add
  put_test υ x w =
      let ρ = rows_of υ in
      let n = ρ.tally.tests in
      let p = (rows_even υ).tests in
      let c = (rows_counted υ).tests in
      let f = w.fits 3 in
      let i = eight_in l.tests n (omega arith) in
      let m = last_count (test_entry x) υ.entries 3 in
      let e = test_eight x ρ.tally.number in
      both_put 0 8 l.tests n (taken_of 3 (add υ (test_entry x))) ρ.tests _ _ _ Written (add υ (test_entry x)) p
      (omega arith)
      (λ h. let g = eight_more l.tests n h in omega arith)
      (omega arith)
      (λ h. written_row υ (test_entry x) w refl (omega arith))

  put_property : (υ : Tables) (y : Property) → Written (lent_of l υ) υ → Puts υ (property_entry y)
  unfolding put_entry keep_property_of add
  put_property υ y w =
      let ρ = rows_of υ in
      let n = ρ.tally.properties in
      let p = (rows_even υ).properties in
      let c = (rows_counted υ).properties in
      let f = w.fits 4 in
      let i = eight_in l.properties n (omega arith) in
      let m = last_count (property_entry y) υ.entries 4 in
      let e = value_eight (range_of y.name) (value_shown y.value (fresh_numbers ρ.tally)) ρ.tally.number in
      both_put 0 8 l.properties n (taken_of 4 (add υ (property_entry y))) ρ.properties _ _ _ Written (add υ (property_entry y)) p
      (omega arith)
      (λ h. let g = eight_more l.properties n h in omega arith)
      (omega arith)
      (λ h. written_row υ (property_entry y) w refl (omega arith))

  put_number : (υ : Tables) (x : Float) → Written (lent_of l υ) υ → Puts υ (number_entry x)
  unfolding put_entry keep_number_of add
  put_number υ x w =
      let ρ = rows_of υ in
      let n = ρ.tally.numbers in
      let p = (rows_even υ).numbers in
      let c = (rows_counted υ).numbers in
      let f = w.fits 5 in
      let i = one_in l.numbers n (omega arith) in
      let m = last_count (number_entry x) υ.entries 5 in
      both_put zero_float 1 l.numbers n (taken_of 5 (add υ (number_entry x))) ρ.numbers _ _ _ Written (add υ (number_entry x)) p
      (omega arith)
      (one_more l.numbers n)
      (omega arith)
      (λ h. written_row υ (number_entry x) w refl (omega arith))

  -- other counts and colours
  abbrev around : Tables → Tally → List ℕ → Lent
  around υ n cs =
      let ρ = rows_of υ in
      lent n
      (padded 0 l.rules ρ.rules)
      (padded 0 l.selectors ρ.selectors)
      (padded 0 l.tests ρ.tests)
      (padded 0 l.properties ρ.properties)
      (padded zero_float l.numbers ρ.numbers)
      cs

  abbrev beside : Tables → ℕ → List ℕ → Lent
  beside υ m cs = around υ (one_color (rows_of υ).tally m) cs

  module _ (short : length bundle < 4294967296) where
    put_color : (υ : Tables) (a : Name') (c : Color) → Written (lent_of l υ) υ → Genuine bundle a → Small c → Puts υ (color_entry a c)
    unfolding put_entry keep_color_of add_color_of add on_option taken with_option
    put_color υ a c w g s = go (place_from bundle a.bytes table 0 (length Γ)) (color_sought bundle short a c Γ rest w.genuine)
      where
        Γ : Colors
        Γ = υ.colors

        rest : List ℕ
        rest = replicate (l.colors - length (color_rows Γ)) 0

        table : List ℕ
        table = color_rows Γ ++ rest

        Δ : Colors
        Δ = define Γ a c

        written :
            taken_of 6 (add υ (color_entry a c)) ≤ capacities l 6
            → {τ : Lent}
            → τ ≡ lent_of l (tables υ.entries Δ)
            → Written τ (tables υ.entries Δ)
        written h e =
            record {
              is = e;
              fits = onward (capacities l) (color_entry a c) υ w.fits (le-leb (taken_of 6 (add υ (color_entry a c))) (capacities l 6) h);
              genuine = define_genuine bundle Γ a c g s w.genuine;
            }

        go :
            (k : Option ℕ)
            → Sought bundle short a c table [] rest Γ k
            → BothPut Written
            (taken
            (on_option k
            (keep_of 8 table (length Γ) (color_words (range_of a) c) (one_color (tally_of υ))) λ i.
            (Some (tally_of υ), recolored table i c))
            (around υ))
            (cond (leb (length Δ) (capacity_of 8 l.colors)) (some (tables υ.entries Δ)) none)
        go None (new q) =
            let f = w.fits 6 in
            let n = rows_long Γ in
            let i = eight_in l.colors (length Γ) f in
            let m : length Δ ≡ length Γ + 1 = ap length q ∙ length-append Γ (color_def a c ∷ []) in
            both_put 0 8 l.colors (length Γ) (length Δ) (color_rows Γ) (color_words (range_of a) c)
            (one_color (tally_of υ)) (around υ) Written
            (tables υ.entries Δ) n
            (omega arith)
            (eight_more l.colors (length Γ))
            m
            (λ h.
            written (omega arith)
            (ap₂ (λ k cs. beside υ k (padded 0 l.colors cs)) (sym m) (sym (ap color_rows q ∙ rows_more Γ a c))))
        go (Some j) (old m q) =
            let f = w.fits 6 in
            let n = rows_long Γ in
            let o = rows_long Δ in
            let e : length (color_rows Γ) ≡ length (color_rows Δ) = omega arith in
            let h : length Δ ≤ capacity_of 8 l.colors = omega arith in
            rw (le-leb (length Δ) (capacity_of 8 l.colors) h)
            (both_take
            (written h (ap₂ (beside υ) (sym m) (q ∙ ap (λ k. color_rows Δ ++ replicate (l.colors - k) 0) e))))

    put_any : (υ : Tables) (e : Entry) → Proper (Genuine bundle) Small e → Written (lent_of l υ) υ → Puts υ e
    put_any υ rule_entry p w = put_rule υ w
    put_any υ (selector_entry σ) p w = put_selector υ σ w
    put_any υ (test_entry x) p w = put_test υ x w
    put_any υ (property_entry y) p w = put_property υ y w
    put_any υ (number_entry x) p w = put_number υ x w
    put_any υ (color_entry a c) p w = put_color υ a c w p.0 p.1

    pub standing : Stands (Genuine bundle) Small Written (lent_store bundle) (limited (capacities l))
    standing =
        record {
          puts =
              λ τ υ e p w.
              subst (λ τ. BothPut Written (put_entry bundle e τ) ((limited (capacities l)).put e υ)) (sym w.is)
              (put_any υ e p (record { is = refl; fits = w.fits; genuine = w.genuine }));
          shows =
              λ τ υ w.
              ap (λ τ. colors_of bundle τ.colors τ.tally.colors) w.is
              ∙ colors_back bundle short υ.colors (replicate (l.colors - length (color_rows υ.colors)) 0) w.genuine;
        }

  -- tables of zeros hold nothing
  pub written_empty : Written (lent_of l empty) empty
  unfolding count
  written_empty =
      record {
        is = refl;
        fits = λ k. by-test (eqb 6 k) (λ p. rw p (omega arith)) (λ p. rw p (omega arith));
        genuine = noColor;
      }

-- all zeros
pub lent_empty :
    (l : Lengths)
    → lent_of l empty
    ≡ lent none_yet (replicate l.rules 0) (replicate l.selectors 0) (replicate l.tests 0) (replicate l.properties 0)
    (replicate l.numbers zero_float) (replicate l.colors 0)
unfolding add_rows color_rows
lent_empty l =
    rw (
      padded_none {A = ℕ} 0 l.rules,
      padded_none {A = ℕ} 0 l.selectors,
      padded_none {A = ℕ} 0 l.tests,
      padded_none {A = ℕ} 0 l.properties,
      padded_none zero_float l.numbers,
      padded_none {A = ℕ} 0 l.colors,
    )
    refl
