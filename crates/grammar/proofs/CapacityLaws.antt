-- Within the capacities exactly the grammar's texts are loaded, and the tables hold what they store.
use Prim.Native.Nat.{ℕ, suc, ◌+◌, ◌≤◌}
use Rattle.std.proofs.Common.{arith, sym, ◌∙◌, ap, subst}
use Rattle.std.specs.Prelude.{◌≡◌, refl, Bool, true, false, cond, eqb}
use mathlib.Core.List.{List, [], ◌∷◌, ◌++◌}
use Rattle.std.proofs.Math.Option.{Option, none, some}
use Rattle.std.proofs.Math.ListN.{length}
use borrow.Author.Tests.{eqb-true, leb-true, leb-false, le-leb}
use Rattle.base.specs.Bytes.{same}
use Rattle.base.specs.Choice.{by-test, different}
use Rattle.color.specs.declared.Color.{Color}
use Rattle.grammar.specs.Token.{Name, Token}
use Rattle.grammar.specs.Reading.{Reading, Colors, define, color_named}
use Rattle.grammar.specs.Input.{Entry, color_entry, table_of, Input, read}
use Rattle.grammar.specs.Reader.{load}
use Rattle.grammar.specs.Entries.{entries_of, one, count, tint, tints}
use Rattle.grammar.specs.Capacity.{Tables, tables, empty, add, add_all, tables_of, taken, stores, room, limited, Bounded, Fits}
use Rattle.grammar.specs.Stream.{WholeTo, Sheet, Fueled}
use Rattle.grammar.proofs.Laws.{Puts, kept, ◌◂◌}
use Rattle.grammar.proofs.Sound.{reading_tints, load_sound}
use Rattle.grammar.proofs.Complete.{load_complete}

-- ---- counting

pub last_count : (e : Entry) (es : List Entry) (k : ℕ) → count k (es ++ (e ∷ [])) ≡ count k es + one (eqb (table_of e) k)
unfolding count
last_count e [] k = omega arith
last_count e (x ∷ es) k = let h = last_count e es k in omega (arith, h)

define_grows : (Γ : Colors) (n : Name) (c : Color) → length Γ ≤ length (define Γ n c)
unfolding define
define_grows [] n c = omega arith
define_grows (e ∷ Γ) n c =
    by-test (same n.bytes e.name.bytes)
    (λ p. rw p (omega arith))
    (λ p. let h = define_grows Γ n c in rw p (omega (arith, h)))

define_most : (Γ : Colors) (n : Name) (c : Color) → length (define Γ n c) ≤ suc (length Γ)
unfolding define
define_most [] n c = omega arith
define_most (e ∷ Γ) n c =
    by-test (same n.bytes e.name.bytes)
    (λ p. rw p (omega arith))
    (λ p. let h = define_most Γ n c in rw p (omega (arith, h)))

-- one entry more in one of the first five tables
abbrev further : Tables → Entry → Tables
further τ e = tables (τ.entries ++ (e ∷ [])) τ.colors

further_grows : (e : Entry) (τ : Tables) (k : ℕ) → taken k τ ≤ taken k (further τ e)
further_grows e τ k = by-test (eqb 6 k) (λ p. rw p (omega arith)) (λ p. rw (p, last_count e τ.entries k) (omega arith))

further_other : (e : Entry) (τ : Tables) (k : ℕ) → eqb (table_of e) k ≡ false → taken k (further τ e) ≡ taken k τ
further_other e τ k n = by-test (eqb 6 k) (λ p. rw p refl) (λ p. rw (p, last_count e τ.entries k, n) (omega arith))

further_most : (e : Entry) (τ : Tables) (k : ℕ) → taken k (further τ e) ≤ suc (taken k τ)
further_most e τ k = by-test (eqb 6 k) (λ p. rw p (omega arith)) (λ p. rw (p, last_count e τ.entries k) (at_most (eqb (table_of e) k)))
  where
    at_most : (b : Bool) → count k τ.entries + one b ≤ suc (count k τ.entries)
    at_most true = omega arith
    at_most false = omega arith

add_grows : (e : Entry) (τ : Tables) (k : ℕ) → taken k τ ≤ taken k (add τ e)
unfolding add
add_grows (color_entry n c) τ k = by-test (eqb 6 k) (λ p. rw p (define_grows τ.colors n c)) (λ p. rw p (omega arith))
add_grows e τ k = further_grows e τ k

add_other : (e : Entry) (τ : Tables) (k : ℕ) → eqb (table_of e) k ≡ false → taken k (add τ e) ≡ taken k τ
unfolding add
add_other (color_entry n c) τ k p = rw p refl
add_other e τ k p = further_other e τ k p

add_most : (e : Entry) (τ : Tables) (k : ℕ) → taken k (add τ e) ≤ suc (taken k τ)
unfolding add
add_most (color_entry n c) τ k = by-test (eqb 6 k) (λ p. rw p (define_most τ.colors n c)) (λ p. rw p (omega arith))
add_most e τ k = further_most e τ k

-- ---- the colours that entries leave

pub add_tints : (e : Entry) (τ : Tables) → (add τ e).colors ≡ tint τ.colors e
unfolding add
add_tints (color_entry n c) τ = refl
add_tints e τ = refl

all_tint : (es : List Entry) (τ : Tables) → (add_all τ es).colors ≡ tints τ.colors es
unfolding add_all tints
all_tint [] τ = refl
all_tint (e ∷ es) τ = all_tint es (add τ e) ∙ ap (λ Γ. tints Γ es) (add_tints e τ)

-- ---- what a reading stores is what its tables have taken

add_counts :
    (e : Entry) (τ : Tables) (k : ℕ)
    → eqb 6 k ≡ false
    → count k (add τ e).entries ≡ count k τ.entries + one (eqb (table_of e) k)
unfolding add
add_counts (color_entry n c) τ k p = rw p (omega arith)
add_counts e τ k p = last_count e τ.entries k

all_count : (es : List Entry) (τ : Tables) (k : ℕ) → eqb 6 k ≡ false → count k (add_all τ es).entries ≡ count k τ.entries + count k es
unfolding add_all count
all_count [] τ k p = omega arith
all_count (e ∷ es) τ k p =
    let h = all_count es (add τ e) k p in
    let g = add_counts e τ k p in
    omega (arith, h, g)

pub reading_takes : (js : Reading) (k : ℕ) → taken k (tables_of js) ≡ stores k js
unfolding count
reading_takes js k = by-test (eqb 6 k)
    (λ p. rw p (ap length (all_tint (entries_of js) empty ∙ reading_tints [] js)))
    (λ p. rw p (let h = all_count (entries_of js) empty k p in omega (arith, h)))

module _ (capacity : ℕ → ℕ) where
  -- ---- room

  roomy : (e : Entry) (τ : Tables) → Fits capacity (add τ e) → room capacity e τ ≡ true
  roomy e τ f = le-leb (taken (table_of e) (add τ e)) (capacity (table_of e)) (f (table_of e))

  back : (e : Entry) (τ : Tables) → Fits capacity (add τ e) → Fits capacity τ
  back e τ f k = let h = f k in let g = add_grows e τ k in omega (arith, h, g)

  pub onward : (e : Entry) (τ : Tables) → Fits capacity τ → room capacity e τ ≡ true → Fits capacity (add τ e)
  onward e τ f r k = by-test (eqb (table_of e) k)
      (λ p.
      subst
      (λ k. taken k (add τ e) ≤ capacity k)
      (eqb-true (table_of e) k p)
      (leb-true (taken (table_of e) (add τ e)) (capacity (table_of e)) r))
      (λ p. rw (add_other e τ k p) (f k))

  all_back : (es : List Entry) (τ : Tables) → Fits capacity (add_all τ es) → Fits capacity τ
  unfolding add_all
  all_back [] τ f = f
  all_back (e ∷ es) τ f = back e τ (all_back es (add τ e) f)

  -- a table is reported full only when no entry of it is free
  pub full_only : (e : Entry) (τ : Tables) → room capacity e τ ≡ false → capacity (table_of e) ≤ taken (table_of e) τ
  full_only e τ r =
      let h = leb-false (taken (table_of e) (add τ e)) (capacity (table_of e)) r in
      let g = add_most e τ (table_of e) in
      omega (arith, h, g)

  -- redefining a colour takes no entry, so there is always room
  pub redefined_room :
      (n : Name) (c x : Color) (τ : Tables)
      → Fits capacity τ
      → color_named n τ.colors ≡ some x
      → room capacity (color_entry n c) τ ≡ true
  unfolding add define color_named
  redefined_room n c x τ f e = le-leb (length (define τ.colors n c)) (capacity 6) (rw (redefined τ.colors e) (f 6))
    where
      redefined : (Γ : Colors) → color_named n Γ ≡ some x → length (define Γ n c) ≡ length Γ
      redefined [] q = different cc
      redefined (d ∷ Γ) q = by-test (same n.bytes d.name.bytes) (λ p. rw p refl) (λ p. rw p (ap suc (redefined Γ (rw p at q))))

  module _ {C P R : Type 0} (i : Input C Tables P R) (law : i.store ≡ limited capacity) where
    put_is : (e : Entry) (τ : Tables) → i.store.put e τ ≡ cond (room capacity e τ) (some (add τ e)) none
    put_is e τ = ap (λ s. s.put e τ) law

    shown : (τ : Tables) → i.store.colors τ ≡ τ.colors
    shown τ = ap (λ s. s.colors τ) law

    -- an entry that is taken had room
    put_added : (e : Entry) (τ υ : Tables) → i.store.put e τ ≡ some υ → (room capacity e τ ≡ true) × (add τ e ≡ υ)
    put_added e τ υ m = by-test (room capacity e τ)
        (λ r. let q : some (add τ e) ≡ some υ = rw r at (sym (put_is e τ) ∙ m) in
        let p : add τ e ≡ υ = cc in
        (r, p))
        (λ r.
        let q : ◌≡◌ {A = Option Tables} none (some υ) = rw r at (sym (put_is e τ) ∙ m) in
        different cc)

    tinted : (e : Entry) (τ υ : Tables) → i.store.put e τ ≡ some υ → i.store.colors υ ≡ tint (i.store.colors τ) e
    tinted e τ υ m = shown υ ∙ ap (λ υ. υ.colors) (sym (put_added e τ υ m).1) ∙ add_tints e τ ∙ ap (λ Γ. tint Γ e) (sym (shown τ))

    -- entries that fit in the end are all taken
    fits_puts : (es : List Entry) (τ : Tables) → Fits capacity (add_all τ es) → Puts i τ es (add_all τ es)
    unfolding add_all
    fits_puts [] τ f = kept
    fits_puts (e ∷ es) τ f =
        let m : i.store.put e τ ≡ some (add τ e) = put_is e τ ∙ rw (roomy e τ (all_back es (add τ e) f)) in
        m ◂ fits_puts es (add τ e) f

    -- entries that are taken fit, and leave what they leave without a bound
    puts_fit : (es : List Entry) (τ υ : Tables) → Fits capacity τ → Puts i τ es υ → (υ ≡ add_all τ es) × Fits capacity υ
    unfolding add_all
    puts_fit [] τ υ f kept = (refl, f)
    puts_fit (e ∷ es) τ υ f (◌◂◌ {υ = φ} m ms) =
        let p = put_added e τ φ m in
        puts_fit es (add τ e) υ (onward e τ f p.0) (subst (λ φ. Puts i φ es υ) (sym p.1) ms)

    nothing_fits : Fits capacity empty
    unfolding count
    nothing_fits k = by-test (eqb 6 k) (λ p. rw p (omega arith)) (λ p. rw p (omega arith))

    bounded_fits : (js : Reading) → Bounded capacity js → Fits capacity (tables_of js)
    bounded_fits js b k = rw (reading_takes js k) (b k)

    fits_bounded : (js : Reading) → Fits capacity (tables_of js) → Bounded capacity js
    fits_bounded js f k = rw (← reading_takes js k) (f k)

    -- ---- within the bounds exactly the grammar's texts are loaded, and the tables hold what they store

    -- what is loaded: the grammar has it, it is within the capacities, and the tables are those that it fills
    pub loaded :
        (c : C) (js : Reading) (f : C) (υ : Tables)
        → load i c empty ≡ read js f υ
        → (p : List Token) × (WholeTo i c p f × (Sheet i 8 [] p js × (Bounded capacity js × (υ ≡ tables_of js))))
    loaded c js f υ q =
        let h = load_sound i tinted c empty js f υ q in
        let g = puts_fit (entries_of js) empty υ nothing_fits h.1.1.0 in (
          h.0,
          (
            h.1.0,
            (
              subst (λ Γ. Sheet i 8 Γ h.0 js) (shown empty) h.1.1.1,
              (fits_bounded js (subst (Fits capacity) g.0 g.1), g.0),
            ),
          ),
        )

    -- what the grammar has, within the capacities, is loaded, and the tables are those that it fills
    pub loads :
        Fueled i
        → (c f : C) (p : List Token) (js : Reading)
        → WholeTo i c p f
        → Sheet i 8 [] p js
        → Bounded capacity js
        → load i c empty ≡ read js f (tables_of js)
    loads fueled c f p js w d b =
        load_complete i tinted fueled c f empty (tables_of js) w (fits_puts (entries_of js) empty (bounded_fits js b))
        (subst (λ Γ. Sheet i 8 Γ p js) (sym (shown empty)) d)
