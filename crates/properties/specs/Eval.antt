-- What is promised of evals.
use Rattle.std.specs.Prelude.{ℕ, ◌<◌, ◌≤◌, ◌≡◌, cond, List, [], ◌∷◌, Float, Result, Ok, Err}
use Rattle.std.proofs.Math.Option.{Option, none, some}
use Rattle.std.specs.Float.Ieee.{of_bits}
use Rattle.std.specs.Float.{binary64}
use Rattle.base.specs.Bytes.{Bytes, ascii, same}
use Rattle.base.specs.declared.refusal.Refusal.{Refusal}
use Rattle.cursor.specs.declared.Cursor.{Cursor}
use Rattle.table.specs.declared.PropertyValue.{PropertyValue}
use Rattle.grammar.specs.Token.{Sign, Token as Token', left_paren, right_paren}
use Rattle.grammar.specs.View.{on_sign, on_identifier, on_string, on_number}
use Rattle.grammar.specs.Input.{Answer, refused, read}
use Rattle.grammar.specs.Reader.{tokens_to_semi_colon, keep_delta, read_simple_eval}
use Rattle.keep.specs.Lent.{Lent}
use Rattle.keep.specs.Source.{reading}
use Rattle.input.specs.Source.{Spot, spot}
use Rattle.properties.specs.Answers.{Values}
use Rattle.input.specs.Text.{left}
use Rattle.input.specs.declared.Place.{Place}
use Rattle.input.specs.declared.Source.{Source}
use Rattle.properties.specs.declared.Form.{Form}
use Rattle.properties.specs.declared.Form.TheVariants.{Empty, Opening, PropName, PropOpening, WidthName, PropClosing, Increment, Whole, Failed}

-- ---- the form of an eval, token by token: (prop("width")), with a number before the last bracket or none

abbrev pub no_number : Float
no_number = of_bits binary64 0

unfoldable pub sign_form : Sign → Form → Token' → Form
sign_form g n t = on_sign g t n Failed

unfoldable pub word_form : Form → Bytes → Bytes → Form
word_form n w a = cond (same a w) n Failed

unfoldable pub prop_form : Token' → Form
prop_form t = on_identifier t (λ a. word_form PropName (ascii "prop") a.bytes) Failed

unfoldable pub width_form : Token' → Form
width_form t = on_string t (λ a. word_form WidthName (ascii "width") a.bytes) Failed

unfoldable pub last_form : Token' → Form
last_form t = on_sign right_paren t (Whole no_number) (on_number t (λ x. Increment x) Failed)

unfoldable pub form_next : Form → Token' → Form
form_next Empty t = sign_form left_paren Opening t
form_next Opening t = prop_form t
form_next PropName t = sign_form left_paren PropOpening t
form_next PropOpening t = width_form t
form_next WidthName t = sign_form right_paren PropClosing t
form_next PropClosing t = last_form t
form_next (Increment x) t = sign_form right_paren (Whole x) t
form_next f t = Failed

unfoldable pub form_all : Form → List Token' → Form
form_all f [] = f
form_all f (t ∷ ts) = form_all (form_next f t) ts

-- the number of a whole form
unfoldable pub form_result : Form → Option Float
form_result (Whole x) = some x
form_result f = none

-- ---- the tokens up to the semicolon

-- the answer is the reader's: its refusal, or its cursor, and the form of its tokens behind the form f
pub data Forms (bundle : Bytes) (s : Source) (bound : ℕ) (τ : Lent) (f : Form) : Result (Form × Cursor) Refusal → Answer (List Token') Spot Lent Refusal → Type 0 where
  unformed : {e : Refusal} → Forms bundle s bound τ f (Err e) (refused e τ)
  formed : (ts : List Token') (d : Cursor) {g : Form} → g ≡ form_all f ts → left bundle s d ≤ bound → Forms bundle s bound τ f (Ok (g, d)) (read ts (spot s d) τ)

abbrev pub FormsFrom : Bytes → Source → ℕ → Form → Cursor → Result (Form × Cursor) Refusal → Type 0
FormsFrom bundle s bound f c r = (τ : Lent) (k : ℕ) → left bundle s c < k → Forms bundle s bound τ f r (tokens_to_semi_colon (reading bundle) k (spot s c) τ)

abbrev pub FormAnswer : Bytes → Source → Cursor → Result (Form × Cursor) Refusal → Type 0
FormAnswer bundle s c r = FormsFrom bundle s (left bundle s c) Empty c r

-- ---- width deltas

-- the number of a width delta is stored
abbrev pub DeltaKept : Source → Float → Cursor → Lent → Lent → Result (PropertyValue × Cursor) Refusal → Type 0
DeltaKept s x c τ τ' r =
    (bundle : Bytes)
    → Values bundle s (left bundle s c) τ' r (keep_delta (reading bundle) x (spot s c) τ)

-- with any fuel that is enough
abbrev pub EvalRead : Bytes → Source → Place → Cursor → Lent → Lent → Result (PropertyValue × Cursor) Refusal → Type 0
EvalRead bundle s o c τ τ' r =
    (k : ℕ)
    → left bundle s c < k
    → Values bundle s (left bundle s c) τ' r (read_simple_eval (reading bundle) k o (spot s c) τ)
