-- The rows of colours: read back they are the colours, and a colour defined anew is another colour in the row of its name.
use Prim.Native.Nat.{ℕ, suc, ◌+◌, ◌*◌, ◌%◌, ◌<◌}
use native.Mathlib.Omega.{arith}
use mathlib.Core.Path.{◌≡◌, refl, sym, ◌∙◌, ap, ap₂, subst}
use mathlib.Core.Bool.{false}
use mathlib.Core.List.{List, [], ◌∷◌, ◌++◌, append_assoc}
use lib.ListN.{length, get_or, set, length-append}
use lib.Seq.{get_or-append-add, set_at}
use Rattle.base.specs.Bytes.{Bytes, same, within}
use Rattle.base.specs.Choice.{by-test, if_true, if_false}
use Rattle.base.specs.Table.{stored}
use Rattle.base.specs.declared.Range.{Range}
use Rattle.color.specs.declared.Color.{Color}
use Rattle.table.specs.Value.{word_at, range_at, color_at, word}
use Rattle.entries.specs.Words.{color_words}
use Rattle.grammar.specs.Token.{Name as Name'}
use Rattle.grammar.specs.Reading.{ColorDef, color_def, Colors, define}
use Rattle.keep.specs.Encode.{color_rows}
use Rattle.keep.specs.Lent.{recolored, colors_from, colors_of, place_from}
use Rattle.input.specs.Text.{Small, name_in, range_of}
use Rattle.input.proofs.Genuine.{Genuine}
use Rattle.std.specs.Prelude.{Option, Some, None}

-- ---- words of a row

-- words behind so many rows
pub word_behind : (pre w : List ℕ) (i j : ℕ) → length pre ≡ i * 8 → word_at (pre ++ w) i j ≡ get_or w j 0
word_behind pre w i j e = let p : i * 8 + j ≡ length pre + j = omega arith in rw p (get_or-append-add pre w j 0)

-- three elements stored over three
stored_three :
    (p : List ℕ) (n : ℕ) (x y w x' y' w' : ℕ) (q : List ℕ)
    → length p ≡ n
    → stored (p ++ x ∷ y ∷ w ∷ q) n (x' ∷ y' ∷ w' ∷ []) ≡ p ++ x' ∷ y' ∷ w' ∷ q
stored_three p n x y w x' y' w' q e =
    let l₁ : length (p ++ (x' ∷ [])) ≡ n + 1 = length-append p (x' ∷ []) ∙ omega arith in
    let l₂ : length (p ++ (x' ∷ y' ∷ [])) ≡ n + 1 + 1 = length-append p (x' ∷ y' ∷ []) ∙ omega arith in
    ap (λ t. set (set t (n + 1) y') (n + 1 + 1) w')
    (set_at p x (y ∷ w ∷ q) x' n e ∙ sym (append_assoc p (x' ∷ []) (y ∷ w ∷ q)))
    ∙ ap (λ t. set t (n + 1 + 1) w')
    (set_at (p ++ (x' ∷ [])) y (w ∷ q) y' (n + 1) l₁ ∙ append_assoc p (x' ∷ []) (y' ∷ w ∷ q) ∙ sym (append_assoc p (x' ∷ y' ∷ []) (w ∷ q)))
    ∙ set_at (p ++ (x' ∷ y' ∷ [])) w q w' (n + 1 + 1) l₂
    ∙ append_assoc p (x' ∷ y' ∷ []) (w' ∷ q)

-- ---- rows

pub rows_long : (Γ : Colors) → length (color_rows Γ) ≡ length Γ * 8
unfolding color_rows
rows_long [] = refl
rows_long (d ∷ Γ) =
    let h = rows_long Γ in
    let g = length-append (color_words (range_of d.name) d.color) (color_rows Γ) in
    omega arith

pub rows_more : (Γ : Colors) (a : Name') (c : Color) → color_rows (Γ ++ (color_def a c ∷ [])) ≡ color_rows Γ ++ color_words (range_of a) c
unfolding color_rows
rows_more [] a c = refl
rows_more (d ∷ Γ) a c =
    ap (λ r. color_words (range_of d.name) d.color ++ r) (rows_more Γ a c)
    ∙ sym (append_assoc (color_words (range_of d.name) d.color) (color_rows Γ) (color_words (range_of a) c))

-- ---- colours as the tokenizer makes them

module _ (bundle : Bytes) where
  pub data AllGenuine : Colors → Type 0 where
    none : AllGenuine []
    next : {d : ColorDef} {Γ : Colors} → Genuine bundle d.name → Small d.color → AllGenuine Γ → AllGenuine (d ∷ Γ)

  pub define_genuine : (Γ : Colors) (a : Name') (c : Color) → Genuine bundle a → Small c → AllGenuine Γ → AllGenuine (define Γ a c)
  unfolding define
  define_genuine [] a c g s none = next g s none
  define_genuine (d ∷ Γ) a c g s (next h k r) =
      by-test (same a.bytes d.name.bytes)
      (λ p. rw p (next h s r))
      (λ p. rw p (next h k (define_genuine Γ a c g s r)))

  module _ (short : length bundle < 4294967296) where
    -- the range and the colour in a row
    range_there :
        (pre : List ℕ) (i : ℕ) (d : ColorDef) (w : List ℕ)
        → length pre ≡ i * 8
        → Genuine bundle d.name
        → range_at (pre ++ (color_words (range_of d.name) d.color ++ w)) i 1 ≡ range_of d.name
    range_there pre i d w e g =
        let r = range_of d.name in
        let v = color_words r d.color ++ w in
        let o = g.ordered in
        let n = g.ends in
        let p : word_at (pre ++ v) i 1 ≡ r.from = word_behind pre v i 1 e ∙ omega arith in
        let q : word_at (pre ++ v) i 2 ≡ r.to = word_behind pre v i 2 e ∙ omega arith in
        ap₂ (λ (x y : ℕ). record { from = x; to = y }) p q

    color_there :
        (pre : List ℕ) (i : ℕ) (d : ColorDef) (w : List ℕ)
        → length pre ≡ i * 8
        → Small d.color
        → color_at (pre ++ (color_words (range_of d.name) d.color ++ w)) i ≡ d.color
    color_there pre i d w e s =
        let c = d.color in
        let v = color_words (range_of d.name) c ++ w in
        let a = s.0 in
        let b = s.1.0 in
        let f = s.1.1 in
        let p : word_at (pre ++ v) i 3 % 256 ≡ c.r = ap (λ x. x % 256) (word_behind pre v i 3 e) ∙ omega arith in
        let q : word_at (pre ++ v) i 4 % 256 ≡ c.g = ap (λ x. x % 256) (word_behind pre v i 4 e) ∙ omega arith in
        let o : word_at (pre ++ v) i 5 % 256 ≡ c.b = ap (λ x. x % 256) (word_behind pre v i 5 e) ∙ omega arith in
        rw (p, q, o) refl

    name_there : (a : Name') → Genuine bundle a → name_in bundle (range_of a) ≡ a
    name_there a g = sym (ap₂ (λ (x : Bytes) (y : List Range). record { bytes = x; ranges = y }) g.spelled g.single)

    -- a row less at the front, where it is known
    shift :
        (pre : List ℕ) (i : ℕ) (d : ColorDef) (Γ : Colors) (z : List ℕ)
        → pre ++ (color_rows (d ∷ Γ) ++ z) ≡ pre ++ (color_words (range_of d.name) d.color ++ (color_rows Γ ++ z))
    unfolding color_rows
    shift pre i d Γ z = ap (λ r. pre ++ r) (append_assoc (color_words (range_of d.name) d.color) (color_rows Γ) z)

    front :
        (pre : List ℕ) (d : ColorDef) (w : List ℕ)
        → (pre ++ color_words (range_of d.name) d.color) ++ w ≡ pre ++ (color_words (range_of d.name) d.color ++ w)
    front pre d w = append_assoc pre (color_words (range_of d.name) d.color) w

    front_long :
        (pre : List ℕ) (i : ℕ) (d : ColorDef)
        → length pre ≡ i * 8
        → length (pre ++ color_words (range_of d.name) d.color) ≡ (i + 1) * 8
    front_long pre i d e = let h = length-append pre (color_words (range_of d.name) d.color) in omega arith

    -- read back
    back :
        (pre : List ℕ) (i : ℕ) (Γ : Colors) (z : List ℕ)
        → length pre ≡ i * 8
        → AllGenuine Γ
        → colors_from bundle (pre ++ (color_rows Γ ++ z)) i (length Γ) ≡ Γ
    unfolding colors_from color_rows
    back pre i [] z e none = refl
    back pre i (d ∷ Γ) z e (next g s r) =
        let w = color_rows Γ ++ z in
        let t = pre ++ (color_words (range_of d.name) d.color ++ w) in
        let n : name_in bundle (range_at t i 1) ≡ d.name = ap (name_in bundle) (range_there pre i d w e g) ∙ name_there d.name g in
        let c : color_at t i ≡ d.color = color_there pre i d w e s in
        let m : colors_from bundle t (i + 1) (length Γ) ≡ Γ =
        ap (λ t. colors_from bundle t (i + 1) (length Γ)) (sym (front pre d w))
        ∙ back (pre ++ color_words (range_of d.name) d.color) (i + 1) Γ z (front_long pre i d e) r in
        rw (shift pre i d Γ z) (ap₂ ◌∷◌ (ap₂ color_def n c) m)

    pub colors_back : (Γ : Colors) (z : List ℕ) → AllGenuine Γ → colors_of bundle (color_rows Γ ++ z) (length Γ) ≡ Γ
    colors_back Γ z g = back [] 0 Γ z refl g

    -- a colour's place among the rows, and what it does there
    pub data Sought (a : Name') (c : Color) (t pre z : List ℕ) (Γ : Colors) : Option ℕ → Type 0 where
      new : define Γ a c ≡ Γ ++ (color_def a c ∷ []) → Sought a c t pre z Γ None
      old :
          {j : ℕ}
          → length (define Γ a c) ≡ length Γ
          → recolored t j c ≡ pre ++ (color_rows (define Γ a c) ++ z)
          → Sought a c t pre z Γ (Some j)

    recolor :
        (pre : List ℕ) (i : ℕ) (d : ColorDef) (c : Color) (w : List ℕ)
        → length pre ≡ i * 8
        → recolored (pre ++ (color_words (range_of d.name) d.color ++ w)) i c
        ≡ pre ++ (color_words (range_of d.name) c ++ w)
    recolor pre i d c w e =
        let r = range_of d.name in
        let x = d.color in
        let head : List ℕ = 1 ∷ word r.from ∷ word r.to ∷ [] in
        let l : length (pre ++ head) ≡ i * 8 + 3 = length-append pre head ∙ omega arith in
        ap (λ t. recolored t i c) (sym (append_assoc pre head (x.r ∷ x.g ∷ x.b ∷ 0 ∷ 0 ∷ w)))
        ∙ stored_three (pre ++ head) (i * 8 + 3) x.r x.g x.b c.r c.g c.b (0 ∷ 0 ∷ w) l
        ∙ append_assoc pre head (c.r ∷ c.g ∷ c.b ∷ 0 ∷ 0 ∷ w)

    -- a row with another name in front
    sought_further :
        (a : Name') (c : Color) (t pre : List ℕ) (i : ℕ) (d : ColorDef) (Γ : Colors) (z : List ℕ) (k : Option ℕ)
        → same a.bytes d.name.bytes ≡ false
        → Sought a c t (pre ++ color_words (range_of d.name) d.color) z Γ k
        → Sought a c t pre z (d ∷ Γ) k
    unfolding define
    sought_further a c t pre i d Γ z None p (new q) = new (rw p (ap (λ Δ. d ∷ Δ) q))
    sought_further a c t pre i d Γ z (Some j) p (old l q) =
        old {j = j} (rw p (ap suc l))
        (rw p (q ∙ front pre d (color_rows (define Γ a c) ++ z) ∙ sym (shift pre i d (define Γ a c) z)))

    seek :
        (a : Name') (c : Color) (pre : List ℕ) (i : ℕ) (Γ : Colors) (z : List ℕ)
        → length pre ≡ i * 8
        → AllGenuine Γ
        → Sought a c (pre ++ (color_rows Γ ++ z)) pre z Γ (place_from bundle a.bytes (pre ++ (color_rows Γ ++ z)) i (length Γ))
    unfolding place_from define color_rows
    seek a c pre i [] z e none = new refl
    seek a c pre i (d ∷ Γ) z e (next g s r) =
        let w = color_rows Γ ++ z in
        let row = color_words (range_of d.name) d.color in
        let t = pre ++ (row ++ w) in
        let m : same a.bytes (within (range_at t i 1) bundle) ≡ same a.bytes d.name.bytes =
        ap (λ r. same a.bytes (within r bundle)) (range_there pre i d w e g)
        ∙ ap (same a.bytes) (sym g.spelled) in
        let rest = place_from bundle a.bytes t (i + 1) (length Γ) in
        rw (shift pre i d Γ z)
        (by-test (same a.bytes d.name.bytes)
        (λ p.
        subst (Sought a c t pre z (d ∷ Γ)) (if_true _ (Some i) rest (m ∙ p) refl)
        (old {j = i} (rw p refl) (rw p (recolor pre i d c w e ∙ sym (shift pre i (color_def d.name c) Γ z)))))
        (λ p.
        subst (Sought a c t pre z (d ∷ Γ)) (if_false _ (Some i) rest (m ∙ p) refl)
        (sought_further a c t pre i d Γ z rest p
        (subst (λ u. Sought a c u (pre ++ row) z Γ (place_from bundle a.bytes u (i + 1) (length Γ))) (front pre d w)
        (seek a c (pre ++ row) (i + 1) Γ z (front_long pre i d e) r)))))

    pub color_sought :
        (a : Name') (c : Color) (Γ : Colors) (z : List ℕ)
        → AllGenuine Γ
        → Sought a c (color_rows Γ ++ z) [] z Γ (place_from bundle a.bytes (color_rows Γ ++ z) 0 (length Γ))
    color_sought a c Γ z g = seek a c [] 0 Γ z refl g
