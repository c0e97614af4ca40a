-- The readers of zoom ranges and colours: each token that is read is one by the lexical grammar.
use Prim.Native.Nat.{ℕ, suc, ◌+◌, ◌*◌, ◌<◌, ◌≤◌}
use native.Mathlib.Omega.{arith}
use mathlib.Core.Path.{◌≡◌, refl, sym, ◌∙◌, ap, subst}
use mathlib.Core.Bool.{Bool, true, false}
use mathlib.Core.List.{[], ◌∷◌, ◌++◌}
use lib.Dec.{eqb, ltb}
use lib.ListN.{length}
use borrow.Author.Tests.{eqb-true, ltb-true}
use Rattle.base.proofs.Options.{split_option, split_result2}
use Rattle.base.specs.Bytes.{Bytes}
use Rattle.base.specs.Choice.{pick, pick_split, clash}
use Rattle.color.specs.Named.{rgb}
use Rattle.cursor.specs.Class.{digit_value, to_digit}
use Rattle.cursor.specs.Cursor.{most, bump, next_char}
use Rattle.cursor.specs.declared.Cursor.{Cursor}
use Rattle.token_zoom.specs.Zoom.{
  read_digit,
  hex,
  hex_added,
  hex_turn,
  read_hex_digits,
  six_digits,
  three_digits,
  read_color,
  read_zoom_level,
  read_hyphen,
  ranged,
  zoom_range,
  read_levels,
  read_zoom_range,
}
use Rattle.token_kind.specs.declared.Token.{Token}
use Rattle.token_kind.specs.declared.Token.TheVariants.{Color, ZoomRange}
use Rattle.token_zoom.specs.declared.Hex.{Hex}
use Rattle.token_laws.proofs.Colors.{six_digits_lem, three_digits_lem as doubled-digits}
use Rattle.lexical.specs.Lexical.{
  Chars,
  is_digit,
  is_hex_digit,
  is_hyphen,
  begins,
  Run,
  none,
  one,
  IsLevel,
  one_digit,
  two_digits,
  exactly,
  unsaid,
  up_from,
  up_to,
  between,
  IsToken,
  zoom_range as zooms,
  six_digits as sixHex,
  three_digits as threeHex,
}
use Rattle.lexical.specs.Lexed.{characters_at}
use Rattle.lexical.proofs.Characters.{
  characters_got,
  Walk,
  here,
  step,
  walk_one,
  walk_on,
  walk_characters,
  stops_done,
  stops_got,
}
use Rattle.lexical.proofs.SoundWords.{Goes, turns_go, left, left_falls, got_as, Readied, Known}
use Rattle.std.specs.Prelude.{Option, Some, None, Ok}
use Rattle.base.specs.Option.{on_option, on_option2}

-- a token of characters alone
pub bare :
    {s : Bytes} {b d : Cursor} {ks : Chars} {t : Token}
    → IsToken ks [] [] (characters_at s d.at) (λ r. t)
    → Walk s b ks d
    → Readied s b t d
bare {d = d} {ks = ks} {t = t} i w =
    record { before = ks; name = []; after = []; word = λ r. t; from = d; end = d; is_token = i; opened = w; named = here; closed = here; is = refl }

-- ---- digits

abbrev pub below : ℕ → ℕ → Bool
below radix k = ltb (digit_value k) radix

abbrev pub Valued : ℕ → ℕ → Option ℕ → Type 0
Valued radix k None = below radix k ≡ false
Valued radix k (Some v) = (below radix k ≡ true) × (v ≡ digit_value k)

pub valued : (radix k : ℕ) → Valued radix k (to_digit k radix)
unfolding to_digit
valued radix k = pick_split (Valued radix k) (ltb (digit_value k) radix) _ _ (λ t. (t, refl)) (λ t. t)

record DigitAt (s : Bytes) (radix : ℕ) (c : Cursor) (v : ℕ) (d : Cursor) : Type 0 where
  pub ch : ℕ
  pub char : next_char s c ≡ Ok (ch, d)
  pub fits : below radix ch ≡ true
  pub is : v ≡ digit_value ch

abbrev DigitKnown : Bytes → ℕ → Cursor → Option (ℕ × Cursor) → Type 0
DigitKnown s radix c None = begins (below radix) (characters_at s c.at) ≡ false
DigitKnown s radix c (Some (v, d)) = DigitAt s radix c v d

reads_digit : (s : Bytes) (radix : ℕ) (c : Cursor) → DigitKnown s radix c (read_digit s radix c)
unfolding read_digit
reads_digit s radix c =
    let P : Option (ℕ × Cursor) → Type 0 = DigitKnown s radix c in
    split_result2 P (next_char s c) _ _ (λ d q. stops_done s c d (below radix) q) λ k d q.
    split_option P (to_digit k radix) _ _
    (λ m. stops_got s c d (below radix) q (subst (Valued radix k) m (valued radix k)))
    λ v m.
    let h = subst (Valued radix k) m (valued radix k) in
    record { ch = k; char = q; fits = h.0; is = h.1 }

module _ {B : Type 0} (P : B → Type 0) (s : Bytes) (radix : ℕ) (c : Cursor) (a : B) (g : ℕ → Cursor → B) where
  split_digit :
      (begins (below radix) (characters_at s c.at) ≡ false → P a)
      → ((v : ℕ) (d : Cursor) → DigitAt s radix c v d → P (g v d))
      → P (on_option2 (read_digit s radix c) a g)
  unfolding on_option
  split_digit p q = go (read_digit s radix c) (reads_digit s radix c)
    where
      go : (x : Option (ℕ × Cursor)) → DigitKnown s radix c x → P (on_option2 x a g)
      go None h = p h
      go (Some (v, d)) h = q v d h

-- ---- zoom ranges

record LevelAt (s : Bytes) (c : Cursor) (m : ℕ) (d : Cursor) : Type 0 where
  pub chars : Chars
  pub walk : Walk s c chars d
  pub is : IsLevel chars (characters_at s d.at) m

abbrev Leveled : Bytes → Cursor → Option ℕ → Cursor → Type 0
Leveled s c None d = (d ≡ c) × (begins is_digit (characters_at s c.at) ≡ false)
Leveled s c (Some m) d = LevelAt s c m d

reads_level : (s : Bytes) (c : Cursor) → Leveled s c (read_zoom_level s c).0 (read_zoom_level s c).1
unfolding read_zoom_level
reads_level s c =
    let P : Option ℕ × Cursor → Type 0 = λ x. Leveled s c x.0 x.1 in
    split_digit P s 10 c _ _ (λ n. (refl, n)) λ a d x.
    split_digit P s 10 d _ _
    (λ n.
    record {
      chars = x.ch ∷ [];
      walk = walk_one x.char;
      is = subst (IsLevel (x.ch ∷ []) (characters_at s d.at)) (sym x.is) (one_digit x.fits n);
    })
    λ b e y.
    record {
      chars = x.ch ∷ y.ch ∷ [];
      walk = step x.char (walk_one y.char);
      is =
          subst (λ m. IsLevel (x.ch ∷ y.ch ∷ []) (characters_at s e.at) (10 * m + b)) (sym x.is)
          (subst (λ m. IsLevel (x.ch ∷ y.ch ∷ []) (characters_at s e.at) (10 * digit_value x.ch + m)) (sym y.is)
          (two_digits x.fits y.fits));
    }

abbrev Hyphened : Bytes → Cursor → Bool → Cursor → Type 0
Hyphened s c true d = next_char s c ≡ Ok (45, d)
Hyphened s c false d = (d ≡ c) × (begins is_hyphen (characters_at s c.at) ≡ false)

reads_hyphen : (s : Bytes) (c : Cursor) → Hyphened s c (read_hyphen s c).0 (read_hyphen s c).1
unfolding read_hyphen
reads_hyphen s c =
    let P : Bool × Cursor → Type 0 = λ x. Hyphened s c x.0 x.1 in
    split_result2 P (next_char s c) _ _ (λ d q. (refl, stops_done s c d is_hyphen q)) λ k d q.
    pick_split P (eqb k 45) _ _ (λ t. got_as 45 q t) (λ t. (refl, stops_got s c d is_hyphen q t))

level_begins : {ks rest : Chars} {m : ℕ} → IsLevel ks rest m → begins is_digit (ks ++ rest) ≡ true
level_begins (one_digit t n) = t
level_begins (two_digits t u) = t

level_digit : {s : Bytes} {c d : Cursor} {m : ℕ} → LevelAt s c m d → begins is_digit (characters_at s c.at) ≡ true
level_digit x = ap (begins is_digit) (walk_characters x.walk) ∙ level_begins x.is

module _ (s : Bytes) (b c : Cursor) (o : Walk s b (124 ∷ 122 ∷ []) c) where
  reads_zooms :
      (min : Option ℕ) (had : Bool) (max : Option ℕ) (x y z : Cursor)
      → Leveled s c min x
      → Hyphened s x had y
      → Leveled s y max z
      → Known s b (zoom_range min had max z)
  unfolding zoom_range ranged pick
  reads_zooms None true None x y z l h m = tt
  reads_zooms None false None x y z l h m = tt
  reads_zooms None true (Some n) x y z l h m =
      bare (zooms (up_to m.is)) (walk_on o (step (subst (λ (e : Cursor). next_char s e ≡ Ok (45, y)) l.0 h) m.walk))
  reads_zooms None false (Some n) x y z l h m =
      clash (subst (λ (e : Cursor). begins is_digit (characters_at s e.at) ≡ true) (h.0 ∙ l.0) (level_digit m)) l.1
  reads_zooms (Some k) true None x y z l h m =
      let i : IsLevel l.chars (45 ∷ characters_at s y.at) k = subst (λ rest. IsLevel l.chars rest k) (characters_got s x y h) l.is in
      subst (λ e. Known s b (Ok (ZoomRange (Some k) None, e))) (sym m.0)
      (bare (zooms (up_from i m.1)) (walk_on o (walk_on l.walk (walk_one h))))
  reads_zooms (Some k) true (Some n) x y z l h m =
      let i = subst (λ rest. IsLevel l.chars rest k) (characters_got s x y h ∙ ap (λ ks. 45 ∷ ks) (walk_characters m.walk)) l.is in
      bare (zooms (between i m.is)) (walk_on o (walk_on l.walk (step h m.walk)))
  reads_zooms (Some k) false None x y z l h m =
      let n = subst (λ (e : Cursor). begins is_digit (characters_at s e.at) ≡ false) h.0 m.1 in
      subst (λ e. Known s b (Ok (ZoomRange (Some k) (Some k), e))) (sym (m.0 ∙ h.0))
      (bare (zooms (exactly l.is n h.1)) (walk_on o l.walk))
  reads_zooms (Some k) false (Some n) x y z l h m =
      let w = subst (λ e. Walk s e m.chars z) h.0 m.walk in
      let i = subst (λ rest. IsLevel l.chars rest k) (walk_characters w) l.is in
      bare (zooms (unsaid i m.is)) (walk_on o (walk_on l.walk w))

pub reads_zoom : (s : Bytes) (b c : Cursor) → next_char s b ≡ Ok (124, c) → Known s b (read_zoom_range s c)
unfolding read_zoom_range read_levels
reads_zoom s b c q =
    split_result2 (Known s b) (next_char s c) _ _ (λ d m. tt) λ k d m.
    pick_split (Known s b) (eqb k 122) _ _
    (λ t.
    let min = read_zoom_level s d in
    let h = read_hyphen s min.1 in
    let max = read_zoom_level s h.1 in
    reads_zooms s b d (step q (walk_one (got_as 122 m t))) min.0 h.0 max.0 min.1 h.1 max.1
    (reads_level s d) (reads_hyphen s min.1) (reads_level s h.1))
    (λ t. tt)

-- ---- colours

unfoldable counted : ℕ → Chars → ℕ
counted n [] = n
counted n (k ∷ ks) = counted (bump n) ks

unfoldable packed : ℕ → Chars → ℕ
packed v [] = v
packed v (k ∷ ks) = packed (hex_added v (digit_value k)) ks

record Packed (s : Bytes) (x r : Hex) : Type 0 where
  pub chars : Chars
  pub walk : Walk s x.end chars r.end
  pub run : Run is_hex_digit true chars
  pub stops : begins is_hex_digit (characters_at s r.end.at) ≡ false
  pub counts : r.count ≡ counted x.count chars
  pub packs : r.value ≡ packed x.value chars

packed_digit :
    (s : Bytes) (x r : Hex) (v : ℕ) (d : Cursor)
    → DigitAt s 16 x.end v d
    → Packed s (hex (bump x.count) (hex_added x.value v) d) r
    → Packed s x r
unfolding counted packed
packed_digit s x r v d q h =
    record {
      chars = q.ch ∷ h.chars;
      walk = step q.char h.walk;
      run = one q.fits h.run;
      stops = h.stops;
      counts = h.counts;
      packs = h.packs ∙ ap (λ n. packed (hex_added x.value n) h.chars) q.is;
    }

hex_turn_lem : (s : Bytes) (x : Hex) → Goes (Packed s) (λ y. left s y.end) x (hex_turn s x)
unfolding counted packed
hex_turn_lem s x =
    split_digit (Goes (Packed s) (λ y. left s y.end) x) s 16 x.end _ _
    (λ n. record { chars = []; walk = here; run = none; stops = n; counts = refl; packs = refl })
    (λ v d q. (left_falls s x.end d q.ch q.char, λ r. packed_digit s x r v d q))

hex_packed : (s : Bytes) (c : Cursor) → Packed s (hex 0 0 c) (read_hex_digits s c)
unfolding read_hex_digits
hex_packed s c = turns_go (Packed s) (λ y. left s y.end) (hex_turn s) (hex 0 0 c) (hex_turn_lem s) (suc (length s)) (hex 0 0 c) (omega arith)

counted_grows : (n : ℕ) (ks : Chars) → n ≤ counted n ks
unfolding counted bump
counted_grows n [] = omega arith
counted_grows n (k ∷ ks) =
    let h : n ≤ bump n = pick_split (λ m. n ≤ m) (ltb n most) _ _ (λ t. omega arith) (λ t. omega arith) in
    let g = counted_grows (bump n) ks in
    omega arith

pub three_digits_lem :
    (a b c : ℕ)
    → a < 16 → b < 16 → c < 16
    → three_digits (hex_added (hex_added (hex_added 0 a) b) c) ≡ rgb (17 * a) (17 * b) (17 * c)
three_digits_lem a b c p q r =
    let x : 16 * a + a ≡ 17 * a = omega arith in
    let y : 16 * b + b ≡ 17 * b = omega arith in
    let z : 16 * c + c ≡ 17 * c = omega arith in
    doubled-digits a b c p q r ∙ rw (x, y, z) refl

module _ (s : Bytes) (b c d : Cursor) (q : next_char s b ≡ Ok (35, c)) (n : begins is_hex_digit (characters_at s d.at) ≡ false) (v : ℕ) where
  six_color :
      (ks : Chars)
      → Walk s c ks d
      → Run is_hex_digit true ks
      → 6 ≡ counted 0 ks
      → v ≡ packed 0 ks
      → Readied s b (Color (six_digits v)) d
  unfolding counted packed bump pick
  six_color (k₁ ∷ k₂ ∷ k₃ ∷ k₄ ∷ k₅ ∷ k₆ ∷ []) w (one t₁ (one t₂ (one t₃ (one t₄ (one t₅ (one t₆ none)))))) e p =
      let x =
      six_digits_lem (digit_value k₁) (digit_value k₂) (digit_value k₃)
      (ltb-true (digit_value k₁) 16 t₁) (ltb-true (digit_value k₂) 16 t₂) (ltb-true (digit_value k₃) 16 t₃)
      (digit_value k₄) (digit_value k₅) (digit_value k₆)
      (ltb-true (digit_value k₄) 16 t₄) (ltb-true (digit_value k₅) 16 t₅) (ltb-true (digit_value k₆) 16 t₆)
      in
      subst (λ t. Readied s b t d) (sym (ap (λ v. Color (six_digits v)) p ∙ ap (λ z. Color z) x))
      (bare (sixHex (one t₁ (one t₂ (one t₃ (one t₄ (one t₅ (one t₆ none)))))) n) (step q w))
  six_color (k₁ ∷ k₂ ∷ k₃ ∷ k₄ ∷ k₅ ∷ k₆ ∷ k₇ ∷ ks) w r e p = let g = counted_grows 7 ks in absurd (omega arith)
  six_color ks w r e p = absurd (omega arith)

  three_color :
      (ks : Chars)
      → Walk s c ks d
      → Run is_hex_digit true ks
      → 3 ≡ counted 0 ks
      → v ≡ packed 0 ks
      → Readied s b (Color (three_digits v)) d
  unfolding counted packed bump pick
  three_color (k₁ ∷ k₂ ∷ k₃ ∷ []) w (one t₁ (one t₂ (one t₃ none))) e p =
      let x =
      three_digits_lem (digit_value k₁) (digit_value k₂) (digit_value k₃)
      (ltb-true (digit_value k₁) 16 t₁) (ltb-true (digit_value k₂) 16 t₂) (ltb-true (digit_value k₃) 16 t₃)
      in
      subst (λ t. Readied s b t d) (sym (ap (λ v. Color (three_digits v)) p ∙ ap (λ z. Color z) x))
      (bare (threeHex (one t₁ (one t₂ (one t₃ none))) n) (step q w))
  three_color (k₁ ∷ k₂ ∷ k₃ ∷ k₄ ∷ ks) w r e p = let g = counted_grows 4 ks in absurd (omega arith)
  three_color ks w r e p = absurd (omega arith)

pub reads_color : (s : Bytes) (b c : Cursor) → next_char s b ≡ Ok (35, c) → Known s b (read_color s c)
unfolding read_color
reads_color s b c q =
    let h = read_hex_digits s c in
    let x = hex_packed s c in
    pick_split (Known s b) (eqb h.count 6) _ _
    (λ t.
    six_color s b c h.end q x.stops h.value x.chars x.walk x.run (sym (eqb-true h.count 6 t) ∙ x.counts) x.packs)
    λ t.
    pick_split (Known s b) (eqb h.count 3) _ _
    (λ u.
    three_color s b c h.end q x.stops h.value x.chars x.walk x.run (sym (eqb-true h.count 3 u) ∙ x.counts) x.packs)
    (λ u. tt)
