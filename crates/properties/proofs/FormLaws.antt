-- The form of an eval: token by token it is the grammar's, and so are the tokens up to the semicolon and the value.
use Prim.Native.Nat.{ℕ, zero, suc, ◌≤◌}
use native.Mathlib.Omega.{arith}
use mathlib.Core.Path.{◌≡◌, refl, sym, ap, subst, ◌∙◌}
use mathlib.Core.Bool.{Bool, true, false, cond}
use mathlib.Core.List.{List, [], ◌∷◌}
use mathlib.Core.Option.{Option, none, some}
use lib.Ieee.{Float}
use Rattle.base.specs.Bytes.{Bytes, ascii, same}
use Rattle.base.specs.declared.refusal.Refusal.{Refusal}
use Rattle.cursor.specs.declared.Cursor.{Cursor}
use Rattle.token_kind.specs.declared.Token.{Token}
use Rattle.grammar.specs.Token.{Sign, Token as Token', identifier, string, number, sign, left_paren, right_paren, semi_colon}
use Rattle.grammar.specs.View.{is_sign, on_sign, on_identifier, on_string, on_number}
use Rattle.grammar.specs.Reading.{Value, width_delta}
use Rattle.grammar.specs.Input.{Answer, refused, read, number_entry, eval_form, on_option, after, fail, keep}
use Rattle.grammar.specs.Reader.{want, want_word, want_string, suffix, width_increment, tokens_to_semi_colon}
use Rattle.keep.specs.Lent.{Lent}
use Rattle.keep.specs.Source.{reading}
use Rattle.input.specs.Source.{Spot, spot}
use Rattle.input.specs.Text.{token_of, left, mandatory_of, refusal_at}
use Rattle.input.specs.declared.Place.{Place}
use Rattle.input.specs.declared.Source.{Source}
use Rattle.properties.specs.Eval.{no_number, sign_form, word_form, prop_form, width_form, last_form, form_next, form_all, form_result, Forms, unformed, formed, FormsFrom}
use Rattle.properties.specs.declared.Form.{Form}
use Rattle.properties.specs.declared.Form.TheVariants.{Empty, Opening, PropName, PropOpening, WidthName, PropClosing, Increment, Whole, Failed}
use Rattle.keep.proofs.Laws.{no_token, got, yes_way, no_way}
use Rattle.std.specs.Prelude.{Result, Ok, Err}

-- ---- one token

abbrev pub Is : Form → Form → Type 0
Is r f = r ≡ f

-- a token that is known
pub form_as : (f : Token' → Form) (bundle : Bytes) {t v : Token} {r : Form} → t ≡ v → r ≡ f (token_of bundle v) → r ≡ f (token_of bundle t)
form_as f bundle e h = h ∙ ap (λ t. f (token_of bundle t)) (sym e)

-- a form that is known
pub next_as : {f g r : Form} (t : Token') → f ≡ g → r ≡ form_next g t → r ≡ form_next f t
next_as t e h = h ∙ ap (λ f. form_next f t) (sym e)

-- a form that takes no more
pub no_more :
    (f : Form) (t : Token')
    → (f ≡ Empty → ⊥)
    → (f ≡ Opening → ⊥)
    → (f ≡ PropName → ⊥)
    → (f ≡ PropOpening → ⊥)
    → (f ≡ WidthName → ⊥)
    → (f ≡ PropClosing → ⊥)
    → ((x : Float) → f ≡ Increment x → ⊥)
    → Failed ≡ form_next f t
unfolding form_next
no_more Empty t a b c d e g h = absurd (a refl)
no_more Opening t a b c d e g h = absurd (b refl)
no_more PropName t a b c d e g h = absurd (c refl)
no_more PropOpening t a b c d e g h = absurd (d refl)
no_more WidthName t a b c d e g h = absurd (e refl)
no_more PropClosing t a b c d e g h = absurd (g refl)
no_more (Increment x) t a b c d e g h = absurd (h x refl)
no_more (Whole x) t a b c d e g h = refl
no_more Failed t a b c d e g h = refl

pub same_part : {b k : Bool} (p q w : Bytes) → b ≡ same p w → p ≡ q → b ≡ k → same q w ≡ k
same_part p q w e h m = ap (λ p. same p w) (sym h) ∙ sym e ∙ m

-- ---- all tokens

abbrev result_of : Form → List Token' → Option Float
result_of f ts = form_result (form_all f ts)

failed_none : (ts : List Token') → none ≡ result_of Failed ts
unfolding form_result form_all form_next
failed_none [] = refl
failed_none (t ∷ ts) = failed_none ts

choose : (b : Bool) (x : Option Float) (f : Form) (ts : List Token') → x ≡ result_of f ts → cond b x none ≡ result_of (cond b f Failed) ts
choose true x f ts h = h
choose false x f ts h = failed_none ts

cond_none : (b : Bool) → ◌≡◌ {A = Option Float} (cond b none none) none
cond_none true = refl
cond_none false = refl

-- behind a form that ended, another token
ended : (b : Bool) (x : Float) (t : Token') (ts : List Token') → none ≡ result_of (form_next (cond b (Whole x) Failed) t) ts
unfolding form_next
ended true x t ts = failed_none ts
ended false x t ts = failed_none ts

ended_more : (b : Bool) (t u : Token') (ts : List Token') → none ≡ result_of (form_next (form_next (cond b (Whole no_number) Failed) t) u) ts
unfolding form_next
ended_more true t u ts = failed_none ts
ended_more false t u ts = failed_none ts

last_one : (t : Token') → on_sign right_paren t (some no_number) none ≡ result_of (last_form t) []
unfolding form_result form_all last_form is_sign on_number
last_one (sign g) = choose (is_sign right_paren (sign g)) (some no_number) (Whole no_number) [] refl
last_one t = refl

last_two : (t u : Token') → on_sign right_paren u (on_number t some none) none ≡ result_of (form_next (last_form t) u) []
unfolding form_result form_all form_next sign_form last_form is_sign on_number
last_two (number x) u = choose (is_sign right_paren u) (some x) (Whole x) [] refl
last_two (sign g) u = cond_none (is_sign right_paren u) ∙ ended (is_sign right_paren (sign g)) no_number u []
last_two t u = cond_none (is_sign right_paren u)

last_more : (t u v : Token') (ts : List Token') → none ≡ result_of (form_next (form_next (last_form t) u) v) ts
unfolding form_next sign_form last_form is_sign on_number
last_more (number x) u v ts = ended (is_sign right_paren u) x v ts
last_more (sign g) u v ts = ended_more (is_sign right_paren (sign g)) u v ts
last_more t u v ts = failed_none ts

suffix_is : (ts : List Token') → suffix ts ≡ result_of PropClosing ts
unfolding form_result form_all form_next
suffix_is [] = refl
suffix_is (t ∷ []) = last_one t
suffix_is (t ∷ u ∷ []) = last_two t u
suffix_is (t ∷ u ∷ v ∷ ts) = last_more t u v ts

-- a token that must come: f before it, n behind it
module _ (f n : Form) (z : none ≡ form_result f) (k : List Token' → Option Float) (h : (ts : List Token') → k ts ≡ result_of n ts) where
  want_is : (g : Sign) → ((t : Token') → form_next f t ≡ on_sign g t n Failed) → (ts : List Token') → want g ts k ≡ result_of f ts
  unfolding form_all
  want_is g e [] = z
  want_is g e (t ∷ ts) = choose (is_sign g t) (k ts) n ts (h ts) ∙ ap (λ f. result_of f ts) (sym (e t))

  word_chosen :
      (w : Bytes) (t : Token') (ts : List Token')
      → on_identifier t (λ a. cond (same a.bytes w) (k ts) none) none ≡ result_of (on_identifier t (λ a. cond (same a.bytes w) n Failed) Failed) ts
  unfolding on_identifier
  word_chosen w (identifier x) ts = choose (same x.bytes w) (k ts) n ts (h ts)
  word_chosen w t ts = failed_none ts

  word_is :
      (w : Bytes)
      → ((t : Token') → form_next f t ≡ on_identifier t (λ a. cond (same a.bytes w) n Failed) Failed)
      → (ts : List Token')
      → want_word w ts k ≡ result_of f ts
  unfolding form_all
  word_is w e [] = z
  word_is w e (t ∷ ts) = word_chosen w t ts ∙ ap (λ f. result_of f ts) (sym (e t))

  string_chosen :
      (w : Bytes) (t : Token') (ts : List Token')
      → on_string t (λ a. cond (same a.bytes w) (k ts) none) none ≡ result_of (on_string t (λ a. cond (same a.bytes w) n Failed) Failed) ts
  unfolding on_string
  string_chosen w (string x) ts = choose (same x.bytes w) (k ts) n ts (h ts)
  string_chosen w t ts = failed_none ts

  string_is :
      (w : Bytes)
      → ((t : Token') → form_next f t ≡ on_string t (λ a. cond (same a.bytes w) n Failed) Failed)
      → (ts : List Token')
      → want_string w ts k ≡ result_of f ts
  unfolding form_all
  string_is w e [] = z
  string_is w e (t ∷ ts) = string_chosen w t ts ∙ ap (λ f. result_of f ts) (sym (e t))

behind_4 : (ts : List Token') → want right_paren ts suffix ≡ result_of WidthName ts
unfolding form_result form_next sign_form
behind_4 = want_is WidthName PropClosing refl suffix suffix_is right_paren λ t. refl

behind_3 : (ts : List Token') → want_string (ascii "width") ts (λ ts. want right_paren ts suffix) ≡ result_of PropOpening ts
unfolding form_result form_next width_form word_form
behind_3 = string_is PropOpening WidthName refl (λ ts. want right_paren ts suffix) behind_4 (ascii "width") λ t. refl

behind_2 : (ts : List Token') → want left_paren ts (λ ts. want_string (ascii "width") ts λ ts. want right_paren ts suffix) ≡ result_of PropName ts
unfolding form_result form_next sign_form
behind_2 =
    want_is PropName PropOpening refl (λ ts. want_string (ascii "width") ts λ ts. want right_paren ts suffix) behind_3 left_paren λ t. refl

behind_1 :
    (ts : List Token')
    → want_word (ascii "prop") ts (λ ts. want left_paren ts λ ts. want_string (ascii "width") ts λ ts. want right_paren ts suffix)
    ≡ result_of Opening ts
unfolding form_result form_next prop_form word_form
behind_1 =
    word_is Opening PropName refl (λ ts. want left_paren ts λ ts. want_string (ascii "width") ts λ ts. want right_paren ts suffix) behind_2 (ascii "prop") λ t. refl

pub form_is : (ts : List Token') → width_increment ts ≡ form_result (form_all Empty ts)
unfolding width_increment form_result form_next sign_form
form_is =
    want_is Empty Opening refl
    (λ ts. want_word (ascii "prop") ts λ ts. want left_paren ts λ ts. want_string (ascii "width") ts λ ts. want right_paren ts suffix)
    behind_1 left_paren λ t. refl

-- ---- the tokens up to the semicolon

module _ (bundle : Bytes) (s : Source) (b : ℕ) where
  consed :
      (τ : Lent) (f : Form) (t : Token') {r : Result (Form × Cursor) Refusal} {a : Answer (List Token') Spot Lent Refusal}
      → Forms bundle s b τ (form_next f t) r a
      → Forms bundle s b τ f r (after a λ ts e τ. read (t ∷ ts) e τ)
  unfolding after form_all
  consed τ f t unformed = unformed
  consed τ f t (formed ts d e l) = formed (t ∷ ts) d e l

  pub form_none : (f : Form) (c : Cursor) {e : Refusal} → mandatory_of bundle s c ≡ Err e → FormsFrom bundle s b f c (Err e)
  unfolding tokens_to_semi_colon
  form_none f c h τ zero l = absurd (omega (arith, l))
  form_none f c {e} h τ (suc k) l = no_token (Forms bundle s b τ f (Err e)) bundle s c τ _ h unformed

  pub form_last :
      (f : Form) (c : Cursor) {d : Cursor} {t : Token} {o : Place}
      → mandatory_of bundle s c ≡ Ok (t, o, d)
      → is_sign semi_colon (token_of bundle t) ≡ true
      → left bundle s c ≤ b
      → FormsFrom bundle s b f c (Ok (f, d))
  unfolding tokens_to_semi_colon form_all
  form_last f c h n p τ zero l = absurd (omega (arith, l))
  form_last f c {d} h n p τ (suc k) l =
      got (Forms bundle s b τ f (Ok (f, d))) bundle s c τ _ h λ m. yes_way (Forms bundle s b τ f (Ok (f, d))) _ _ _ n (formed [] d refl (omega (arith, m, p)))

  pub form_more :
      (f : Form) (c : Cursor) {g : Form} {d : Cursor} {t : Token} {o : Place} (r : Result (Form × Cursor) Refusal)
      → mandatory_of bundle s c ≡ Ok (t, o, d)
      → is_sign semi_colon (token_of bundle t) ≡ false
      → g ≡ form_next f (token_of bundle t)
      → FormsFrom bundle s b g d r
      → FormsFrom bundle s b f c r
  unfolding tokens_to_semi_colon
  form_more f c r h n e q τ zero l = absurd (omega (arith, l))
  form_more f c {d = d} {t = t} r h n e q τ (suc k) l =
      got (Forms bundle s b τ f r) bundle s c τ _ h λ m. no_way (Forms bundle s b τ f r) _ _ _ n
      (consed τ f (token_of bundle t) (subst (λ g. Forms bundle s b τ g r (tokens_to_semi_colon (reading bundle) k (spot s d) τ)) e (q τ k (omega (arith, m, l)))))

-- ---- the value

unfinished : (f : Form) → ((x : Float) → f ≡ Whole x → ⊥) → form_result f ≡ none
unfolding form_result
unfinished (Whole x) n = absurd (n x refl)
unfinished f n = refl

module _ (Q : Answer Value Spot Lent Refusal → Type 0) (bundle : Bytes) (s : Source) (b : ℕ) (o : Place) (τ : Lent) where
  -- what is made of the tokens
  abbrev made : List Token' → Spot → Lent → Answer Value Spot Lent Refusal
  made ts d τ =
      on_option (width_increment ts) (fail (reading bundle) eval_form o τ) λ x.
      keep (reading bundle) (number_entry x) d τ λ τ. read (width_delta x) d τ

  pub eval_refused :
      {r : Result (Form × Cursor) Refusal} {a : Answer (List Token') Spot Lent Refusal} {e : Refusal}
      → Forms bundle s b τ Empty r a
      → r ≡ Err e
      → Q (refused e τ)
      → Q (after a made)
  unfolding after
  eval_refused {e = e} h i q = go (rw i at h)
    where
      go : {a : Answer (List Token') Spot Lent Refusal} → Forms bundle s b τ Empty (Err e) a → Q (after a made)
      go unformed = q

  pub eval_made :
      {r : Result (Form × Cursor) Refusal} {a : Answer (List Token') Spot Lent Refusal} {f : Form} {x : Float} {d : Cursor}
      → Forms bundle s b τ Empty r a
      → r ≡ Ok (f, d)
      → f ≡ Whole x
      → (left bundle s d ≤ b → Q (keep (reading bundle) (number_entry x) (spot s d) τ λ τ. read (width_delta x) (spot s d) τ))
      → Q (after a made)
  unfolding after on_option form_result
  eval_made {f = f} {d = d} h i n q = go (rw i at h)
    where
      go : {a : Answer (List Token') Spot Lent Refusal} → Forms bundle s b τ Empty (Ok (f, d)) a → Q (after a made)
      go (formed ts d e l) =
          subst (λ x. Q (on_option x (fail (reading bundle) eval_form o τ) λ x. keep (reading bundle) (number_entry x) (spot s d) τ λ τ. read (width_delta x) (spot s d) τ))
          (sym (form_is ts ∙ ap form_result (sym e ∙ n)))
          (q l)

  pub eval_unmade :
      {r : Result (Form × Cursor) Refusal} {a : Answer (List Token') Spot Lent Refusal} {f : Form} {d : Cursor}
      → Forms bundle s b τ Empty r a
      → r ≡ Ok (f, d)
      → ((x : Float) → f ≡ Whole x → ⊥)
      → Q (refused (refusal_at 4 6 o) τ)
      → Q (after a made)
  unfolding after on_option
  eval_unmade {f = f} {d = d} h i n q = go (rw i at h)
    where
      go : {a : Answer (List Token') Spot Lent Refusal} → Forms bundle s b τ Empty (Ok (f, d)) a → Q (after a made)
      go (formed ts d e l) =
          subst (λ x. Q (on_option x (fail (reading bundle) eval_form o τ) λ x. keep (reading bundle) (number_entry x) (spot s d) τ λ τ. read (width_delta x) (spot s d) τ))
          (sym (form_is ts ∙ ap form_result (sym e) ∙ unfinished f n))
          q
