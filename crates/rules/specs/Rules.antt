-- What the readers of selectors and rules promise.
use Rattle.std.specs.Prelude.{ℕ, suc, ◌<◌, ◌≤◌, ◌≡◌, Bool, true, false, cond, List, Option, Some, None, Result, Ok, Err}
use Rattle.std.proofs.Math.Option.{Option as Option'}
use Rattle.base.specs.Bytes.{Bytes, within}
use Rattle.base.specs.Option.{on_result}
use Rattle.base.specs.declared.Range.{Range}
use Rattle.base.specs.declared.refusal.Refusal.{Refusal}
use Rattle.cursor.specs.declared.Cursor.{Cursor}
use Rattle.sheet.specs.Sheet.{ObjectType}
use Rattle.token_kind.specs.declared.Token.{Token}
use Rattle.token_kind.specs.declared.Token.TheVariants.{Identifier}
use Rattle.grammar.specs.Token.{Name, Token as Token', left_bracket, left_brace, colon, double_colon, comma}
use Rattle.grammar.specs.View.{on_sign, on_identifier, on_zoom_range}
use Rattle.grammar.specs.Reading.{Selector, Property, Rule, Colors, bare, id_to_object_type}
use Rattle.grammar.specs.Input.{object_type, Answer, refused, read, on_option, after, fail}
use Rattle.grammar.specs.Reader.{is_colors, read_mandatory_token, unexpected_token, read_identifier, keep_selector, read_parts, keep_rule, read_body, read_block, read_rule}
use Rattle.keep.specs.Lent.{Lent, type_number, level_in, layer_in, colors_of}
use Rattle.keep.specs.Source.{reading}
use Rattle.input.specs.Source.{Spot, spot}
use Rattle.input.specs.Text.{left, name_in, level_of, token_of}
use Rattle.input.specs.declared.Place.{Place}
use Rattle.input.specs.declared.Source.{Source}
use Rattle.keep.specs.Answers.{Reads}
use Rattle.rules.specs.declared.Part.{Part}
use Rattle.rules.specs.declared.Part.TheVariants.{Closing, Zoom, Bracket, Class, Layer}
use Rattle.rules.specs.declared.Start.{Start}
use Rattle.table.specs.Kind.{object_number}
use Rattle.table.specs.declared.kind.ObjectKind.{ObjectKind}
use Rattle.rules.specs.declared.Start.TheVariants.{Body, ColorsBlock, Object}

abbrev Ans : Type 0 → Type 0
Ans A = Answer A Spot Lent Refusal

-- ---- the parts of a selector, and what each leads to

pub record Ways : Type 0 where
  pub end : Bool → Spot → Ans (Selector × Bool)
  pub zoom : Option' ℕ → Option' ℕ → Spot → Ans (Selector × Bool)
  pub bracket : Spot → Ans (Selector × Bool)
  pub class : Spot → Ans (Selector × Bool)
  pub layer : Name → Spot → Ans (Selector × Bool)

pub data Parts (bundle : Bytes) (s : Source) (bound : ℕ) (w : Ways) : Result Part Refusal → Ans (Selector × Bool) → Type 0 where
  bad_part : {e e' : Refusal} {τ : Lent} → e ≡ e' → Parts bundle s bound w (Err e) (refused e' τ)
  is_closing : (b : Bool) (d : Cursor) → left bundle s d < bound → Parts bundle s bound w (Ok (Closing b d)) (w.end b (spot s d))
  is_zoom : (x y : Option ℕ) (d : Cursor) → left bundle s d < bound → Parts bundle s bound w (Ok (Zoom x y d)) (w.zoom (level_of x) (level_of y) (spot s d))
  is_bracket : (d : Cursor) → left bundle s d < bound → Parts bundle s bound w (Ok (Bracket d)) (w.bracket (spot s d))
  is_class : (d : Cursor) → left bundle s d < bound → Parts bundle s bound w (Ok (Class d)) (w.class (spot s d))
  is_layer : (a : Range) (d : Cursor) → left bundle s d < bound → Parts bundle s bound w (Ok (Layer a d)) (w.layer (name_in bundle a) (spot s d))

abbrev pub AfterColon : Bytes → Source → Cursor → Result Part Refusal → Type 0
AfterColon bundle s c r =
    (τ : Lent) (w : Ways) → Parts bundle s (left bundle s c) w r (read_identifier (reading bundle) (spot s c) τ λ a e. w.class e)

abbrev pub AfterColons : Bytes → Source → Cursor → Result Part Refusal → Type 0
AfterColons bundle s c r =
    (τ : Lent) (w : Ways) → Parts bundle s (left bundle s c) w r (read_identifier (reading bundle) (spot s c) τ λ a e. w.layer a e)

abbrev pub PartRead : Bytes → Source → Cursor → Result Part Refusal → Type 0
PartRead bundle s c r =
    (τ : Lent) (w : Ways)
    → Parts bundle s (left bundle s c) w r
    (read_mandatory_token (reading bundle) (spot s c) τ λ t o d.
    on_sign left_brace t (w.end false d)
    (on_sign comma t (w.end true d)
    (on_zoom_range t (λ a b. w.zoom a b d)
    (on_sign left_bracket t (w.bracket d)
    (on_sign colon t (read_identifier (reading bundle) d τ λ a e. w.class e)
    (on_sign double_colon t (read_identifier (reading bundle) d τ λ a e. w.layer a e)
    (unexpected_token (reading bundle) o τ)))))))

-- ---- selectors

-- the words of a selector, but its tests
pub record Shown (σ : Selector) (kind : ℕ) (min max : Option ℕ) (layer : Option Range) : Type 0 where
  pub type_is : type_number σ.object_type ≡ kind
  pub min_is : level_in σ.min_zoom ≡ min
  pub max_is : level_in σ.max_zoom ≡ max
  pub layer_is : layer_in σ.layer_id ≡ layer

pub data Selects (bundle : Bytes) (s : Source) (bound : ℕ) (then : Lent) : Result (Bool × Cursor) Refusal → Ans (Selector × Bool) → Type 0 where
  no_selector : {e e' : Refusal} {τ : Lent} → e ≡ e' → Selects bundle s bound then (Err e) (refused e' τ)
  one_selector :
      {σ : Selector} (b : Bool) (d : Cursor)
      → left bundle s d ≤ bound
      → Selects bundle s bound then (Ok (b, d)) (read (σ, b) (spot s d) then)

-- from the tables τ to the tables τ', whether more selectors come or not
abbrev pub SelectorKept : Source → ℕ → Option ℕ → Option ℕ → Option Range → Cursor → Lent → Lent → Result Cursor Refusal → Type 0
SelectorKept s kind min max layer c τ τ' r =
    (bundle : Bytes) (σ : Selector) (more : Bool)
    → Shown σ kind min max layer
    → Selects bundle s (left bundle s c) τ' (on_result r Err λ d. Ok (more, d)) (keep_selector (reading bundle) σ more (spot s c) τ)

abbrev pub SelectorRead : Bytes → Source → ℕ → Cursor → Lent → Lent → Result (Bool × Cursor) Refusal → Type 0
SelectorRead bundle s kind c τ τ' r =
    (k : ℕ) (y : ObjectType)
    → type_number y ≡ kind
    → left bundle s c < k
    → Selects bundle s (left bundle s c) τ' r (read_parts (reading bundle) k (bare y) (spot s c) τ)

-- the first token of the next selector and where that begins, or none behind the last; and how far the text is read
abbrev pub Choice : Type 0
Choice = Option (Token × Place) × Cursor

-- what the last selector and the start of another lead to
pub data Chooses (bundle : Bytes) (s : Source) (bound : ℕ) (then : Lent) (L : Selector → Spot → Lent → Ans Rule) (N : Selector → Token' → Place → Spot → Lent → Ans Rule) : Result Choice Refusal → Ans Rule → Type 0 where
  unchosen : {e e' : Refusal} {τ : Lent} → e ≡ e' → Chooses bundle s bound then L N (Err e) (refused e' τ)
  last_chosen :
      (σ : Selector) (d : Cursor)
      → left bundle s d ≤ bound
      → Chooses bundle s bound then L N (Ok (None, d)) (L σ (spot s d) then)
  next_chosen :
      (σ : Selector) (t : Token) (o : Place) (d : Cursor)
      → left bundle s d < bound
      → Chooses bundle s bound then L N (Ok (Some (t, o), d)) (N σ (token_of bundle t) o (spot s d) then)

abbrev pub NextRead : Bytes → Source → Cursor → Result Choice Refusal → Type 0
NextRead bundle s c r =
    (τ : Lent) (L : Selector → Spot → Lent → Ans Rule) (N : Selector → Token' → Place → Spot → Lent → Ans Rule) (σ : Selector)
    → Chooses bundle s (left bundle s c) τ L N r
    (read_mandatory_token (reading bundle) (spot s c) τ λ t o f. N σ t o f τ)

abbrev pub ChoiceRead : Bytes → Source → ℕ → Cursor → Lent → Lent → Result Choice Refusal → Type 0
ChoiceRead bundle s kind c τ τ' r =
    (k : ℕ) (y : ObjectType) (L : Selector → Spot → Lent → Ans Rule) (N : Selector → Token' → Place → Spot → Lent → Ans Rule)
    → type_number y ≡ kind
    → left bundle s c < k
    → Chooses bundle s (left bundle s c) τ' L N r
    (after (read_parts (reading bundle) k (bare y) (spot s c) τ) λ σ e τ.
    cond σ.1 (read_mandatory_token (reading bundle) e τ λ t o f. N σ.0 t o f τ) (L σ.0 e τ))

-- ---- the start of a selector

pub data Starts (B C : Ans Rule) (O : ObjectType → Ans (Selector × Bool)) (K : Selector × Bool → Spot → Lent → Ans Rule) : Result Start Refusal → Ans Rule → Type 0 where
  bad_start : {e e' : Refusal} {τ : Lent} → e ≡ e' → Starts B C O K (Err e) (refused e' τ)
  body : Starts B C O K (Ok Body) B
  colors_block : Starts B C O K (Ok ColorsBlock) C
  object : (y : ObjectType) {kind : ObjectKind} → type_number y ≡ object_number kind → Starts B C O K (Ok (Object kind)) (after (O y) K)

abbrev pub WordStart : Bytes → Range → Place → Result Start Refusal → Type 0
WordStart bundle a o r =
    (τ : Lent) (B C : Ans Rule) (O : ObjectType → Ans (Selector × Bool)) (K : Selector × Bool → Spot → Lent → Ans Rule)
    → Starts B C O K r
    (cond (is_colors (token_of bundle (Identifier a))) C
    (after (on_option (id_to_object_type (within a bundle)) (fail (reading bundle) object_type o τ) O) K))

unfoldable pub start_of : Bytes → Place → Lent → Ans Rule → Ans Rule → (ObjectType → Ans (Selector × Bool)) → (Selector × Bool → Spot → Lent → Ans Rule) → Token' → Ans Rule
start_of bundle o τ B C O K t =
    on_sign left_brace t B
    (cond (is_colors t) C
    (after
    (on_identifier t (λ a. on_option (id_to_object_type a.bytes) (fail (reading bundle) object_type o τ) O) (unexpected_token (reading bundle) o τ))
    K))

abbrev pub StartRead : Bytes → Token → Place → Result Start Refusal → Type 0
StartRead bundle t o r =
    (τ : Lent) (B C : Ans Rule) (O : ObjectType → Ans (Selector × Bool)) (K : Selector × Bool → Spot → Lent → Ans Rule)
    → Starts B C O K r (start_of bundle o τ B C O K (token_of bundle t))

-- ---- rules

abbrev pub RuleKept : Source → Cursor → Lent → Lent → Result Cursor Refusal → Type 0
RuleKept s c τ τ' r =
    (bundle : Bytes) (ss : List Selector) (ps : List Property)
    → Reads bundle s (left bundle s c) τ' r (keep_rule (reading bundle) ss ps (spot s c) τ)

-- the colours are Γ
abbrev pub BodyRead : Bytes → Source → Cursor → Colors → Lent → Lent → Result Cursor Refusal → Type 0
BodyRead bundle s c Γ τ τ' r =
    (k : ℕ) (ss : List Selector)
    → left bundle s c < k
    → Reads bundle s (left bundle s c) τ' r (read_body (reading bundle) k Γ ss (spot s c) τ)

abbrev pub BlockRead : Bytes → Source → Cursor → Lent → Lent → Result Cursor Refusal → Type 0
BlockRead bundle s c τ τ' r =
    (k : ℕ)
    → left bundle s c < k
    → Reads bundle s (left bundle s c) τ' r (read_block (reading bundle) k (spot s c) τ)

-- at the start t of a selector, which begins at o; the colours are those of the table
abbrev pub RuleRead : Bytes → Source → Token → Place → Cursor → Lent → Lent → Result Cursor Refusal → Type 0
RuleRead bundle s t o c τ τ' r =
    (k : ℕ)
    → left bundle s c < k
    → Reads bundle s (left bundle s c) τ' r
    (read_rule (reading bundle) (suc k) (colors_of bundle τ.colors τ.tally.colors) τ (token_of bundle t) o (spot s c))
