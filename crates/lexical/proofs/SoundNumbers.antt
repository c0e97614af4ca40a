-- The reader of numbers: each number that is read is one by the lexical grammar.
use Prim.Native.Nat.{ℕ, suc}
use native.Mathlib.Omega.{arith}
use mathlib.Core.Path.{◌≡◌, refl, sym, ◌∙◌, ap, subst}
use mathlib.Core.Bool.{Bool, true, false}
use mathlib.Core.List.{[], ◌∷◌, ◌++◌}
use lib.Dec.{eqb}
use lib.ListN.{length}
use borrow.Author.Tests.{eqb-true}
use Rattle.base.proofs.Options.{split_option, split_result2}
use Rattle.base.specs.Bytes.{Bytes}
use Rattle.base.specs.Choice.{pick, pick_split, clash}
use Rattle.base.specs.Turns.{Turn}
use Rattle.cursor.specs.Class.{digit_value, to_digit}
use Rattle.cursor.specs.Cursor.{next_char}
use Rattle.cursor.specs.Number.{value, dotted, digit_added, takes_dot, digits, digits_turn, read_digits}
use Rattle.cursor.specs.declared.Cursor.{Cursor}
use Rattle.cursor.specs.declared.number.Digits.{Digits}
use Rattle.cursor.specs.declared.number.Sum.{Sum}
use Rattle.token_number.specs.Number.{is_bare_dot, finish_number, first_digit, read_unsigned, read_signed, read_number}
use Rattle.token.specs.Read.{starts_number}
use Rattle.token_kind.specs.Reason.{Reading}
use Rattle.token_kind.specs.declared.Token.{Token}
use Rattle.token_kind.specs.declared.Token.TheVariants.{Number}
use Rattle.lexical.specs.Lexical.{
  Chars,
  is_digit,
  is_dot,
  begins,
  Run,
  none,
  one,
  IsUnsigned,
  whole,
  mixed,
  fraction,
  begun,
  added_all,
  number_of,
  number,
  plus,
  minus,
}
use Rattle.lexical.specs.Lexed.{characters_at}
use Rattle.lexical.proofs.Characters.{Walk, here, step, stops_done, stops_got}
use Rattle.lexical.proofs.SoundWords.{Goes, turns_go, left, left_falls, got_as, got_same, Readied, Known}
use Rattle.lexical.proofs.SoundZoom.{bare, Valued, valued}
use Rattle.std.specs.Prelude.{Some, None, Ok, Err}
use Rattle.base.specs.Option.{on_option}

-- what follows a digit or a dot of a number; the test says whether the dot was read
data Digited : Bool → Chars → Chars → Type 0 where
  behind : {ks rest : Chars} → Run is_digit true ks → begins is_digit rest ≡ false → Digited true ks rest
  ahead : {ks rest : Chars} → Run is_digit true ks → begins is_digit rest ≡ false → begins is_dot rest ≡ false → Digited false ks rest
  around :
      {ks js rest : Chars}
      → Run is_digit true ks
      → Run is_digit true js
      → begins is_digit rest ≡ false
      → Digited false (ks ++ (46 ∷ js)) rest

digited_none : (b : Bool) {rest : Chars} → begins is_digit rest ≡ false → (b ≡ false → begins is_dot rest ≡ false) → Digited b [] rest
digited_none true n m = behind none n
digited_none false n m = ahead none n (m refl)

digited_digit : {b : Bool} {ks rest : Chars} (k : ℕ) → is_digit k ≡ true → Digited b ks rest → Digited b (k ∷ ks) rest
digited_digit k t (behind r n) = behind (one t r) n
digited_digit k t (ahead r n m) = ahead (one t r) n m
digited_digit k t (around r q n) = around (one t r) q n

digited_dot : {ks rest : Chars} → Digited true ks rest → Digited false (46 ∷ ks) rest
digited_dot (behind r n) = around none r n

record Summed (s : Bytes) (x r : Digits) : Type 0 where
  pub chars : Chars
  pub walk : Walk s x.end chars r.end
  pub adds : r.sum ≡ added_all x.sum chars
  pub shape : Digited x.sum.dot chars (characters_at s r.end.at)

pub digit_dot : (x : Sum) (v : ℕ) → (digit_added x v).dot ≡ x.dot
unfolding digit_added
digit_dot x v = pick_split (λ (y : Sum). y.dot ≡ x.dot) x.dot _ _ (λ t. sym t) (λ t. sym t)

added_places : (x : Sum) (v : ℕ) → x.dot ≡ false → (digit_added x v).places ≡ x.places
unfolding digit_added
added_places x v h = pick_split (λ (y : Sum). y.places ≡ x.places) x.dot _ _ (λ t. clash t h) (λ t. refl)

-- whether a sum takes a dot
takes : (x : Sum) (k : ℕ) → takes_dot x k ≡ true → (x.dot ≡ false) × (eqb k 46 ≡ true)
unfolding takes_dot pick
takes x k t = go x.dot refl t
  where
    go : (b : Bool) → x.dot ≡ b → pick b false (eqb k 46) ≡ true → (x.dot ≡ false) × (eqb k 46 ≡ true)
    go true e t = clash t refl
    go false e t = (e, t)

takes_not : (x : Sum) (k : ℕ) → takes_dot x k ≡ false → x.dot ≡ false → eqb k 46 ≡ false
unfolding takes_dot pick
takes_not x k t e = sym (ap (λ b. pick b false (eqb k 46)) e) ∙ t

summed_none :
    (s : Bytes) (x : Digits)
    → begins is_digit (characters_at s x.end.at) ≡ false
    → (x.sum.dot ≡ false → begins is_dot (characters_at s x.end.at) ≡ false)
    → Summed s x x
unfolding added_all
summed_none s x n m = record { chars = []; walk = here; adds = refl; shape = digited_none x.sum.dot n m }

summed_dot :
    (s : Bytes) (x r : Digits) (d : Cursor)
    → next_char s x.end ≡ Ok (46, d)
    → x.sum.dot ≡ false
    → Summed s (digits (dotted x.sum) d) r
    → Summed s x r
unfolding added_all on_option to_digit digit_value pick
summed_dot s x r d q e h =
    record {
      chars = 46 ∷ h.chars;
      walk = step q h.walk;
      adds = h.adds;
      shape = subst (λ b. Digited b (46 ∷ h.chars) (characters_at s r.end.at)) (sym e) (digited_dot h.shape);
    }

summed_digit :
    (s : Bytes) (x r : Digits) (d : Cursor) (k v : ℕ)
    → next_char s x.end ≡ Ok (k, d)
    → to_digit k 10 ≡ Some v
    → Summed s (digits (digit_added x.sum v) d) r
    → Summed s x r
unfolding added_all on_option
summed_digit s x r d k v q m h =
    record {
      chars = k ∷ h.chars;
      walk = step q h.walk;
      adds = h.adds ∙ ap (λ y. added_all (on_option y (dotted x.sum) λ v. digit_added x.sum v) h.chars) (sym m);
      shape =
          digited_digit k (subst (Valued 10 k) m (valued 10 k)).0
          (subst (λ b. Digited b h.chars (characters_at s r.end.at)) (digit_dot x.sum v) h.shape);
    }

digits_turn_lem : (s : Bytes) (x : Digits) → Goes (Summed s) (λ y. left s y.end) x (digits_turn s x)
digits_turn_lem s x =
    let P : Turn Digits Digits → Type 0 = Goes (Summed s) (λ y. left s y.end) x in
    split_result2 P (next_char s x.end) _ _
    (λ d q. summed_none s x (stops_done s x.end d is_digit q) (λ e. stops_done s x.end d is_dot q))
    λ k d q.
    split_option P (to_digit k 10) _ _
    (λ m.
    pick_split P (takes_dot x.sum k) _ _
    (λ t.
    let y = takes x.sum k t in
    (left_falls s x.end d k q, λ r. summed_dot s x r d (got_as 46 q y.1) y.0))
    (λ t.
    summed_none s x (stops_got s x.end d is_digit q (subst (Valued 10 k) m (valued 10 k)))
    (λ e. stops_got s x.end d is_dot q (takes_not x.sum k t e))))
    (λ v m. (left_falls s x.end d k q, λ r. summed_digit s x r d k v q m))

summed : (s : Bytes) (c : Cursor) (x : Sum) → Summed s (digits x c) (read_digits s c x)
unfolding read_digits
summed s c x =
    turns_go (Summed s) (λ y. left s y.end) (digits_turn s) (digits x c) (digits_turn_lem s) (suc (length s)) (digits x c) (omega arith)

-- digits and a dot, and nothing behind it
bare_dot : {ks : Chars} (x : Sum) → Run is_digit true ks → x.dot ≡ false → x.places ≡ 0 → is_bare_dot (added_all x (ks ++ (46 ∷ []))) ≡ true
unfolding is_bare_dot added_all on_option to_digit digit_value pick
bare_dot x none e p = ap (λ n. eqb n 0) p
bare_dot x (one {k = k} {ks = ks} t r) e p =
    let y = digit_added x (digit_value k) in
    ap (λ b. is_bare_dot (added_all (on_option (pick b (Some (digit_value k)) None) (dotted x) λ v. digit_added x v) (ks ++ (46 ∷ [])))) t
    ∙ bare_dot y r (digit_dot x (digit_value k) ∙ e) (added_places x (digit_value k) e ∙ p)

-- a number without a sign, that begins with a character at a cursor
record Unsigned (s : Bytes) (negative : Bool) (b : Cursor) (k : ℕ) (t : Token) (d : Cursor) : Type 0 where
  pub chars : Chars
  pub walk : Walk s b (k ∷ chars) d
  pub is_number : IsUnsigned (k ∷ chars) (characters_at s d.at)
  pub is : t ≡ Number (number_of negative (k ∷ chars))

abbrev UnsignedKnown : Bytes → Bool → Cursor → ℕ → Reading → Type 0
UnsignedKnown s negative b k (Err e) = Unit {0}
UnsignedKnown s negative b k (Ok (t, d)) = Unsigned s negative b k t d

digit_unsigned :
    {ks rest : Chars} (k : ℕ) (x : Sum)
    → is_digit k ≡ true
    → x.dot ≡ false
    → x.places ≡ 0
    → is_bare_dot (added_all x ks) ≡ false
    → Digited false ks rest
    → IsUnsigned (k ∷ ks) rest
digit_unsigned k x t e p f (ahead r n m) = whole (one t r) n m
digit_unsigned k x t e p f (around r none n) = clash (bare_dot x r e p) f
digit_unsigned k x t e p f (around r (one u q) n) = mixed (one t r) (one u q) n

dot_unsigned : {ks rest : Chars} → is_bare_dot (added_all (first_digit 0 true) ks) ≡ false → Digited true ks rest → IsUnsigned (46 ∷ ks) rest
unfolding is_bare_dot added_all pick
dot_unsigned f (behind none n) = clash refl f
dot_unsigned f (behind (one u q) n) = fraction (one u q) n

finished :
    (s : Bytes) (negative : Bool) (b c : Cursor) (k : ℕ) (x : Sum)
    → next_char s b ≡ Ok (k, c)
    → x ≡ begun k
    → ((ks : Chars) (rest : Chars) → is_bare_dot (added_all x ks) ≡ false → Digited x.dot ks rest → IsUnsigned (k ∷ ks) rest)
    → UnsignedKnown s negative b k (finish_number negative (read_digits s c x))
unfolding finish_number
finished s negative b c k x q e h =
    let r = read_digits s c x in
    let y = summed s c x in
    pick_split (UnsignedKnown s negative b k) (is_bare_dot r.sum) _ _ (λ t. tt) λ t.
    record {
      chars = y.chars;
      walk = step q y.walk;
      is_number = h y.chars (characters_at s r.end.at) (sym (ap is_bare_dot y.adds) ∙ t) y.shape;
      is = ap (λ z. Number (value z negative)) (y.adds ∙ ap (λ z. added_all z y.chars) e);
    }

reads_unsigned :
    (s : Bytes) (negative : Bool) (b c : Cursor) (k : ℕ)
    → next_char s b ≡ Ok (k, c)
    → UnsignedKnown s negative b k (read_unsigned s negative k c)
unfolding read_unsigned on_option
reads_unsigned s negative b c k q =
    let P : Reading → Type 0 = UnsignedKnown s negative b k in
    split_option P (to_digit k 10) _ _
    (λ m.
    pick_split P (eqb k 46) _ _
    (λ t.
    finished s negative b c k (first_digit 0 true) q (ap (λ y. on_option y (first_digit 0 true) λ v. first_digit v false) (sym m))
    (λ ks rest f g. subst (λ n. IsUnsigned (n ∷ ks) rest) (sym (eqb-true k 46 t)) (dot_unsigned f g)))
    (λ t. tt))
    (λ v m.
    finished s negative b c k (first_digit v false) q (ap (λ y. on_option y (first_digit 0 true) λ v. first_digit v false) (sym m))
    (λ ks rest f g. digit_unsigned k (first_digit v false) (subst (Valued 10 k) m (valued 10 k)).0 refl refl f g))

-- with no sign, a plus, a minus
number_none : (s : Bytes) (b : Cursor) (k : ℕ) (x : Reading) → UnsignedKnown s false b k x → Known s b x
number_none s b k (Err e) h = tt
number_none s b k (Ok (t, d)) h = subst (λ t. Readied s b t d) (sym h.is) (bare (number h.is_number) h.walk)

number_plus : (s : Bytes) (b c : Cursor) (k : ℕ) → next_char s b ≡ Ok (43, c) → (x : Reading) → UnsignedKnown s false c k x → Known s b x
number_plus s b c k q (Err e) h = tt
number_plus s b c k q (Ok (t, d)) h = subst (λ t. Readied s b t d) (sym h.is) (bare (plus h.is_number) (step q h.walk))

number_minus :
    (s : Bytes) (b c : Cursor) (k : ℕ)
    → next_char s b ≡ Ok (45, c)
    → is_digit k ≡ true
    → (x : Reading) → UnsignedKnown s true c k x
    → Known s b x
number_minus s b c k q t (Err e) h = tt
number_minus s b c k q t (Ok (u, d)) h = subst (λ t. Readied s b t d) (sym h.is) (bare (minus t h.is_number) (step q h.walk))

pub reads_number : (s : Bytes) (b c : Cursor) (k : ℕ) → next_char s b ≡ Ok (k, c) → starts_number k ≡ true → Known s b (read_number s k c)
unfolding read_number read_signed starts_number pick
reads_number s b c k q h =
    pick_split (Known s b) (eqb k 45) _ _ (λ t. clash h (ap starts_number (eqb-true k 45 t))) λ t.
    pick_split (Known s b) (eqb k 43) _ _
    (λ u.
    split_result2 (Known s b) (next_char s c) _ _ (λ d m. tt) λ j d m.
    number_plus s b c j (got_as 43 q u) (read_unsigned s false j d) (reads_unsigned s false c d j m))
    (λ u. number_none s b k (read_unsigned s false k c) (reads_unsigned s false b c k q))

pub reads_minus :
    (s : Bytes) (b c d : Cursor) (k : ℕ)
    → next_char s b ≡ Ok (45, c)
    → next_char s c ≡ Ok (k, d)
    → is_digit k ≡ true
    → Known s b (read_number s 45 c)
unfolding read_number read_signed pick
reads_minus s b c d k q m t =
    split_result2 (Known s b) (next_char s c) _ _ (λ e n. tt) λ j e n.
    number_minus s b c j q (ap is_digit (got_same n m).0 ∙ t) (read_unsigned s true j e) (reads_unsigned s true c e j n)
