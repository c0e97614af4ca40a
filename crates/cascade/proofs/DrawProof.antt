-- The drawing list is a permutation of the entries, sorted and stable; the Rust's merge of two sorted lists gives it; no NaN comes to be sorted.
use Prim.Native.Nat.{ℕ, suc, ◌+◌, compare, Ordering}
use native.Mathlib.Omega.{arith}
use Rattle.std.proofs.Common.{sym, ◌∙◌, ap₂, eqb-true, ne_eqb, ⊎_elim, leb-true, leb-false, le-leb}
use Rattle.std.proofs.Math.Path.{◌≡◌, refl, ap}
use Rattle.std.specs.Prelude.{◌↔◌, Bool, true, false, ◌&&◌, ◌||◌, not, cond, eqb, leb, ℤ, pos, negsuc, Float}
use Rattle.std.specs.Bool.{beq}
use mathlib.Core.List.{List, [], ◌∷◌, ◌++◌, append_assoc}
use Rattle.std.proofs.Math.Dec.{is_le}
use Rattle.std.proofs.Math.ListN.{length}
use Rattle.std.specs.Float.Ieee.{lt, eq, is_nan, of_int, neg}
use Rattle.std.proofs.lemmas.Bool.{eqb-false, lt-leb, not-true}
use Rattle.std.proofs.lemmas.Float.{eq-not_lt, eq_flip, le_of_not-lt, lt-or-eq, T_from_true, T_from_false}
use Rattle.base.specs.Choice.{by-test, clash, different, holds, or_left, or_right}
use Rattle.base.specs.Map.{Map}
use Rattle.base.specs.Entity.{Entity}
use Rattle.base.specs.Refusal.{of_entity}
use Rattle.base.specs.declared.refusal.Refusal.{Refusal}
use Rattle.sheet.specs.Sheet.{Rule, Value}
use Rattle.cascade.specs.Map.{All}
use Rattle.cascade.specs.Number.{whole}
use Rattle.cascade.specs.Cascade.{Layers}
use Rattle.cascade.specs.Walk.{Answer, refused, layers, property_maps}
use Rattle.cascade.specs.Style.{Style, Settings, styles}
use Rattle.cascade.specs.Order.{TotalPreorder, int_le, bool_le, float_le}
use Rattle.cascade.proofs.OrderLaws.{by_key, and_then, nat_order, int_order, bool_order, float_order, lt_asym}
use Rattle.cascade.specs.Sort.{sort, merge, tied}
use Rattle.cascade.proofs.SortLaws.{sort_permutes, sort_sorted, sort_stable, stable_one, merge_sort, all_sort, sort_alike, merge_alike}
use Rattle.cascade.specs.Draw.{Drawn, Drawing, declined, entries, layer_rank, fill_rank, z_rank, id_rank, not_after, some_nan, drawn_from, entity_drawing, join, stream, style_entities, style_areas, Ordered, Declines}
use Rattle.cascade.specs.RustDraw.{same_int, compare_int, compare_bool, compare_float, fill, compare_styled, not_greater, rust_entities, rust_areas}

-- ---- the order

pub drawing_order : (for_labels : Bool) → TotalPreorder (not_after for_labels)
drawing_order for_labels =
    and_then _ _ (by_key layer_rank int_le int_order)
    (and_then _ _ (by_key (fill_rank for_labels) bool_le bool_order)
    (and_then _ _ (by_key z_rank float_le float_order) (by_key id_rank leb nat_order)))

sort_ordered : (for_labels : Bool) (given ds : List Drawn) → ds ≡ sort (not_after for_labels) given → Ordered for_labels given ds
sort_ordered for_labels given ds e =
    rw e
    (record {
      permutes = sort_permutes (not_after for_labels) given;
      sorted = sort_sorted (not_after for_labels) (drawing_order for_labels) given;
      stable = λ d. sort_stable (not_after for_labels) (drawing_order for_labels) d given;
    })

-- and leaves no choice: any sort that is stable gives this list
pub ordered_one : (for_labels : Bool) (given ds es : List Drawn) → Ordered for_labels given ds → Ordered for_labels given es → ds ≡ es
ordered_one for_labels given ds es a b =
    stable_one (not_after for_labels) (drawing_order for_labels) ds es a.sorted b.sorted (λ d. a.stable d ∙ sym (b.stable d))

-- -0 and 0 rank equal
pub zeros_tie : tied float_le (whole 0) (neg (whole 0)) ≡ true
unfolding float_le lt is_nan of_int neg
zeros_tie = refl

-- ---- no NaN

abbrev pub no_nan : Drawn → Bool
no_nan d = not (is_nan (z_rank d))

all_append : {A : Type 0} (p : A → Bool) (xs ys : List A) → All p xs → All p ys → All p (xs ++ ys)
unfolding All
all_append p [] ys a b = b
all_append p (x ∷ xs) ys a b = (a.0, all_append p xs ys a.1 b)

pub joined :
    (f : List Drawn → List Drawn → List Drawn) (a b : Drawing) (ds : List Drawn)
    → join f a b ≡ entries ds
    → (xs : List Drawn) × (ys : List Drawn) × (a ≡ entries xs) × (b ≡ entries ys) × (ds ≡ f xs ys)
unfolding join
joined f (declined r) b ds p = different cc
joined f (entries xs) (declined r) ds p = different cc
joined f (entries xs) (entries ys) ds p = (xs, ys, refl, refl, cc)

module _ (mp : Bool) (s : Settings) where
  shown :
      (i : ℕ) (e : Entity) (k : ℕ) (ls : Map Style)
      → some_nan ls ≡ false
      → All no_nan (drawn_from mp i e k ls)
  unfolding All some_nan drawn_from
  shown i e k [] h = tt
  shown i e k (l ∷ ls) h = (
    (rw (or_left (is_nan l.value.z_index) (some_nan ls) h)),
    shown i e (suc k) ls (or_right (is_nan l.value.z_index) (some_nan ls) h),
  )

  entity_shown : (i : ℕ) (e : Entity) (a : Answer Value) (ds : List Drawn) → entity_drawing mp s i e a ≡ entries ds → All no_nan ds
  unfolding entity_drawing
  entity_shown i e (refused n) ds p = different cc
  entity_shown i e (layers v) ds p =
      by-test (some_nan (styles s e v))
      (λ h. let q = rw h at p in different cc)
      (λ h.
      let q = rw h at p in
      let r : drawn_from mp i e 0 (styles s e v) ≡ ds = cc in
      rw (← r) (shown i e 0 (styles s e v) h))

  -- a NaN never comes to be sorted
  pub stream_shown :
      (z : ℕ) (rs : List (Rule Value)) (i : ℕ) (es : List Entity) (ds : List Drawn)
      → stream mp s z rs i es ≡ entries ds
      → All no_nan ds
  unfolding stream All
  stream_shown z rs i [] ds p = let q : [] ≡ ds = cc in rw (← q) tt
  stream_shown z rs i (e ∷ es) ds p =
      let j = joined ◌++◌ (entity_drawing mp s i e (property_maps z e rs)) (stream mp s z rs (suc i) es) ds p in
      rw j.4
      (all_append no_nan j.0 j.1 (entity_shown i e (property_maps z e rs) j.0 j.2)
      (stream_shown z rs (suc i) es j.1 j.3))

-- ---- the first refused entity decides

pub join_nil : (d : Drawing) → join ◌++◌ (entries []) d ≡ d
unfolding join
join_nil (declined r) = refl
join_nil (entries xs) = refl

pub join_assoc : (a b c : Drawing) → join ◌++◌ a (join ◌++◌ b c) ≡ join ◌++◌ (join ◌++◌ a b) c
unfolding join
join_assoc (declined r) b c = refl
join_assoc (entries xs) (declined r) c = refl
join_assoc (entries xs) (entries ys) (declined r) = refl
join_assoc (entries xs) (entries ys) (entries zs) = ap entries (sym (append_assoc xs ys zs))

module _ (mp : Bool) (s : Settings) (z : ℕ) (rs : List (Rule Value)) where
  abbrev one : ℕ → Entity → Drawing
  one i e = entity_drawing mp s i e (property_maps z e rs)

  stream_append :
      (i : ℕ) (bs es : List Entity)
      → stream mp s z rs i (bs ++ es) ≡ join ◌++◌ (stream mp s z rs i bs) (stream mp s z rs (i + length bs) es)
  unfolding stream
  stream_append i [] es = let n : i + 0 ≡ i = omega arith in rw n (sym (join_nil (stream mp s z rs i es)))
  stream_append i (b ∷ bs) es =
      let n : i + suc (length bs) ≡ suc i + length bs = omega arith in
      ap (join ◌++◌ (one i b)) (stream_append (suc i) bs es)
      ∙ join_assoc (one i b) (stream mp s z rs (suc i) bs) (stream mp s z rs (suc i + length bs) es)
      ∙ ap (λ k. join ◌++◌ (join ◌++◌ (one i b) (stream mp s z rs (suc i) bs)) (stream mp s z rs k es)) (sym n)

  past :
      (i : ℕ) (e : Entity) (es : List Entity) (r : Refusal) (xs : List Drawn)
      → one i e ≡ entries xs
      → Declines mp s z rs (suc i) es r
      → Declines mp s z rs i (e ∷ es) r
  unfolding stream join
  past i e es r xs p a =
      let n : i + suc (length a.before) ≡ suc i + length a.before = omega arith in
      record {
        before = e ∷ a.before;
        here = a.here;
        after = a.after;
        stands = ap (λ l. e ∷ l) a.stands;
        sofar = xs ++ a.sofar;
        quiet = rw (p, a.quiet);
        refuses = rw n a.refuses;
      }

  declining :
      (i : ℕ) (e : Entity) (es : List Entity) (r : Refusal) (d : Drawing)
      → one i e ≡ d
      → (stream mp s z rs (suc i) es ≡ declined r → Declines mp s z rs (suc i) es r)
      → stream mp s z rs i (e ∷ es) ≡ declined r
      → Declines mp s z rs i (e ∷ es) r
  unfolding stream join
  declining i e es r (declined q) p ih h =
      let n : i + 0 ≡ i = omega arith in
      let x = rw p at h in
      let y : q ≡ r = cc in
      record { before = []; here = e; after = es; stands = refl; sofar = []; quiet = refl; refuses = rw (n, ← y) p }
  declining i e es r (entries xs) p ih h = go (stream mp s z rs (suc i) es) refl
    where
      go : (d : Drawing) → stream mp s z rs (suc i) es ≡ d → Declines mp s z rs i (e ∷ es) r
      go (entries ys) q = let x = rw (p, q) at h in different cc
      go (declined q') q =
          let x = rw (p, q) at h in
          let y : q' ≡ r = cc in
          past i e es r xs p (ih (rw y at q))

  pub declined_first : (i : ℕ) (es : List Entity) (r : Refusal) → stream mp s z rs i es ≡ declined r → Declines mp s z rs i es r
  unfolding stream
  declined_first i [] r h = different cc
  declined_first i (e ∷ es) r h = declining i e es r (one i e) refl (declined_first (suc i) es r) h

  pub first_declines : (i : ℕ) (es : List Entity) (r : Refusal) → Declines mp s z rs i es r → stream mp s z rs i es ≡ declined r
  unfolding stream join
  first_declines i es r a =
      rw (a.stands, stream_append i a.before (a.here ∷ a.after), a.quiet, a.refuses)

-- an entity is refused as its walk is, or with 9 if a z-index of its styles is NaN
pub entity_declined :
    (mp : Bool) (s : Settings) (i : ℕ) (e : Entity) (v : Layers Value)
    → (entity_drawing mp s i e (layers v) ≡ declined (of_entity 9 mp i)) ↔ (some_nan (styles s e v) ≡ true)
unfolding entity_drawing
entity_declined mp s i e v = (there, back)
  where
    there : entity_drawing mp s i e (layers v) ≡ declined (of_entity 9 mp i) → some_nan (styles s e v) ≡ true
    there p =
        by-test (some_nan (styles s e v))
        (λ h. h)
        (λ h. let q = rw h at p in different cc)

    back : some_nan (styles s e v) ≡ true → entity_drawing mp s i e (layers v) ≡ declined (of_entity 9 mp i)
    back h = rw h

-- ---- the promise of a drawing list

pub entities_ordered :
    (s : Settings) (z : ℕ) (rs : List (Rule Value)) (es : List Entity) (ds : List Drawn)
    → style_entities s z rs es ≡ entries ds
    → (xs : List Drawn) × (stream false s z rs 0 es ≡ entries xs) × Ordered s.for_labels xs ds
entities_ordered s z rs es ds p =
    let j = joined (λ xs ys. sort (not_after s.for_labels) xs) (stream false s z rs 0 es) (entries []) ds p in
    (j.0, j.2, sort_ordered s.for_labels j.0 ds j.4)

-- the multipolygons' entries before the ways'
pub areas_ordered :
    (s : Settings) (z : ℕ) (rs : List (Rule Value)) (ways multipolygons : List Entity) (ds : List Drawn)
    → style_areas s z rs ways multipolygons ≡ entries ds
    → (ws : List Drawn) × (ms : List Drawn) × (stream false s z rs 0 ways ≡ entries ws) ×
    (stream true s z rs 0 multipolygons ≡ entries ms) × Ordered s.for_labels (ms ++ ws) ds
areas_ordered s z rs ways multipolygons ds p =
    let j =
    joined
    (λ ws ms. sort (not_after s.for_labels) (ms ++ ws))
    (stream false s z rs 0 ways) (stream true s z rs 0 multipolygons) ds p in
    (j.0, j.1, j.2, j.3, sort_ordered s.for_labels (j.1 ++ j.0) ds j.4)

-- ---- the Rust's comparison

-- one key: equal keys leave it to the rest, others decide
by_one :
    (same le ge : Bool) (o rest : Ordering) (rest' : Bool)
    → (same ≡ true → (le ≡ true) × (ge ≡ true))
    → (same ≡ false → (is_le o ≡ le) × (ge ≡ not le))
    → is_le rest ≡ rest'
    → is_le (cond (not same) o rest) ≡ (le && (not ge || rest'))
by_one true le ge o rest rest' h k r = rw ((h refl).0, (h refl).1, r)
by_one false le ge o rest rest' h k r = rw ((k refl).0, (k refl).1) (both le)
  where
    both : (b : Bool) → b ≡ (b && (not (not b) || rest'))
    both true = refl
    both false = refl

nat_same : (a b : ℕ) → eqb a b ≡ true → (leb a b ≡ true) × (leb b a ≡ true)
nat_same a b e = let q = eqb-true a b e in (le-leb a b (omega arith), le-leb b a (omega arith))

nat_differ : (a b : ℕ) → eqb a b ≡ false → leb b a ≡ not (leb a b)
nat_differ a b e =
    let q = eqb-false a b e in
    by-test (leb a b)
    (λ p. let l = leb-true a b p in rw (p, lt-leb b a (omega arith)))
    (λ p. let l = leb-false a b p in rw (p, le-leb b a (omega arith)))

int_same : (a b : ℤ) → same_int a b ≡ true → (int_le a b ≡ true) × (int_le b a ≡ true)
unfolding same_int int_le
int_same (pos a) (pos b) e = nat_same a b e
int_same (pos a) (negsuc b) e = clash e refl
int_same (negsuc a) (pos b) e = clash e refl
int_same (negsuc a) (negsuc b) e = let r = nat_same a b e in (r.1, r.0)

int_differ : (a b : ℤ) → same_int a b ≡ false → (is_le (compare_int a b) ≡ int_le a b) × (int_le b a ≡ not (int_le a b))
unfolding same_int int_le compare_int
int_differ (pos a) (pos b) e = (refl, nat_differ a b e)
int_differ (pos a) (negsuc b) e = (refl, refl)
int_differ (negsuc a) (pos b) e = (refl, refl)
int_differ (negsuc a) (negsuc b) e = (refl, nat_differ b a (same_nat_sym a b e))
  where
    same_nat_sym : (a b : ℕ) → eqb a b ≡ false → eqb b a ≡ false
    same_nat_sym a b e = let q = eqb-false a b e in ne_eqb b a (λ p. omega arith)

-- floats: equal exactly if neither is below the other
module _ (x y : Float) (m : is_nan x ≡ false) (n : is_nan y ≡ false) where
  float_same : eq x y ≡ true → (float_le x y ≡ true) × (float_le y x ≡ true)
  unfolding float_le
  float_same e =
      by-test (lt x y)
      (λ p. absurd (eq-not_lt x y (T_from_true (eq x y) e) (T_from_true (lt x y) p)))
      (λ p.
      by-test (lt y x)
      (λ q. absurd (eq-not_lt y x (eq_flip x y (T_from_true (eq x y) e)) (T_from_true (lt y x) q)))
      (λ q. ((rw (float_le, m, n, q)), (rw (float_le, m, n, p)))))

  float_differ : eq x y ≡ false → (is_le (compare_float x y) ≡ float_le x y) × (float_le y x ≡ not (float_le x y))
  unfolding float_le compare_float
  float_differ e =
      by-test (lt x y)
      (λ p.
      by-test (lt y x)
      (λ q. absurd (lt_asym x y (T_from_true (lt x y) p) (T_from_true (lt y x) q)))
      (λ q. ((rw (compare_float, float_le, m, n, p, q)), (rw (float_le, m, n, p, q)))))
      (λ p.
      by-test (lt y x)
      (λ q. ((rw (compare_float, float_le, m, n, p, q)), (rw (float_le, m, n, p, q))))
      (λ q.
      ⊎_elim
      (λ l. clash (holds (lt x y) l) p)
      (λ l. clash (holds (eq x y) l) e)
      (lt-or-eq x y (le_of_not-lt y x (T_from_false (is_nan y) n) (T_from_false (is_nan x) m) (T_from_false (lt y x) q)))))

-- background first, unless for labels
fill_key :
    (l f g : Bool) (rest : Ordering) (rest' : Bool)
    → is_le rest ≡ rest'
    → is_le (cond (not l && not (beq f g)) (compare_bool f g) rest) ≡
    (bool_le (not l && f) (not l && g) && (not (bool_le (not l && g) (not l && f)) || rest'))
unfolding bool_le compare_bool
fill_key true f g rest rest' r = r
fill_key false true true rest rest' r = r
fill_key false true false rest rest' r = refl
fill_key false false true rest rest' r = refl
fill_key false false false rest rest' r = r

-- the Rust's comparison is the order
pub rust_compare : (for_labels : Bool) (a b : Drawn) → no_nan a ≡ true → no_nan b ≡ true → not_greater for_labels a b ≡ not_after for_labels a b
unfolding compare_styled
rust_compare for_labels a b m n =
    let p = not-true (is_nan (z_rank a)) m in
    let q = not-true (is_nan (z_rank b)) n in
    by_one (same_int (layer_rank a) (layer_rank b)) (int_le (layer_rank a) (layer_rank b)) (int_le (layer_rank b) (layer_rank a))
    (compare_int (layer_rank a) (layer_rank b)) _ _ (int_same (layer_rank a) (layer_rank b))
    (int_differ (layer_rank a) (layer_rank b))
    (fill_key for_labels (fill a) (fill b) _ _
    (by_one (eq (z_rank a) (z_rank b)) (float_le (z_rank a) (z_rank b)) (float_le (z_rank b) (z_rank a))
    (compare_float (z_rank a) (z_rank b)) (compare (id_rank a) (id_rank b)) (leb (id_rank a) (id_rank b))
    (float_same (z_rank a) (z_rank b) p q) (float_differ (z_rank a) (z_rank b) p q) refl))

-- each stream sorted by itself and the two merged, as the Rust does it, is the one sort
merged :
    (for_labels : Bool) (ms ws : List Drawn)
    → All no_nan ms
    → All no_nan ws
    → merge (not_greater for_labels) (sort (not_greater for_labels) ms) (sort (not_greater for_labels) ws) ≡ sort (not_after for_labels) (ms ++ ws)
merged l ms ws a b =
    merge_alike (not_greater l) (not_after l) no_nan (rust_compare l) (sort (not_greater l) ms) (sort (not_greater l) ws)
    (all_sort (not_greater l) (not_after l) no_nan (rust_compare l) ms a)
    (all_sort (not_greater l) (not_after l) no_nan (rust_compare l) ws b)
    ∙ ap₂ (merge (not_after l))
    (sort_alike (not_greater l) (not_after l) no_nan (rust_compare l) ms a)
    (sort_alike (not_greater l) (not_after l) no_nan (rust_compare l) ws b)
    ∙ merge_sort (not_after l) (drawing_order l) ms ws

pub rust_entities_lem :
    (s : Settings) (z : ℕ) (rs : List (Rule Value)) (es : List Entity)
    → rust_entities s z rs es ≡ style_entities s z rs es
unfolding join
rust_entities_lem s z rs es = go (stream false s z rs 0 es) refl
  where
    go :
        (a : Drawing)
        → stream false s z rs 0 es ≡ a
        → join
        (λ xs ys. sort (not_greater s.for_labels) xs)
        a (entries []) ≡ join
        (λ xs ys. sort (not_after s.for_labels) xs)
        a (entries [])
    go (declined r) p = refl
    go (entries xs) p =
        ap entries
        (sort_alike (not_greater s.for_labels) (not_after s.for_labels) no_nan (rust_compare s.for_labels) xs
        (stream_shown false s z rs 0 es xs p))

pub rust_areas_lem :
    (s : Settings) (z : ℕ) (rs : List (Rule Value)) (ways multipolygons : List Entity)
    → rust_areas s z rs ways multipolygons ≡ style_areas s z rs ways multipolygons
unfolding join
rust_areas_lem s z rs ways multipolygons = go (stream false s z rs 0 ways) (stream true s z rs 0 multipolygons) refl refl
  where
    f : List Drawn → List Drawn → List Drawn
    f ws ms = merge (not_greater s.for_labels) (sort (not_greater s.for_labels) ms) (sort (not_greater s.for_labels) ws)

    g : List Drawn → List Drawn → List Drawn
    g ws ms = sort (not_after s.for_labels) (ms ++ ws)

    go :
        (a b : Drawing)
        → stream false s z rs 0 ways ≡ a
        → stream true s z rs 0 multipolygons ≡ b
        → join f a b ≡ join g a b
    go (declined r) b p q = refl
    go (entries ws) (declined r) p q = refl
    go (entries ws) (entries ms) p q =
        ap entries
        (merged s.for_labels ms ws (stream_shown true s z rs 0 multipolygons ms q)
        (stream_shown false s z rs 0 ways ws p))
