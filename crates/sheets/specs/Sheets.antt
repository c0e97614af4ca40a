-- What is promised of colour definitions, statements, imports and sheets.
use Rattle.std.specs.Prelude.{ℕ, suc, ◌<◌, ◌≡◌, Result, Ok, Err}
use Rattle.base.specs.Bytes.{Bytes}
use Rattle.base.specs.declared.Range.{Range}
use Rattle.base.specs.declared.refusal.Refusal.{Refusal}
use Rattle.cursor.specs.Cursor.{start}
use Rattle.cursor.specs.declared.Cursor.{Cursor}
use Rattle.token_kind.specs.declared.Token.{Token}
use Rattle.grammar.specs.Token.{Name as Name', Token as Token', semi_colon}
use Rattle.grammar.specs.View.{on_import, on_color_ref}
use Rattle.grammar.specs.Reading.{Reading}
use Rattle.grammar.specs.Input.{Answer, refused, read, on_next, after}
use Rattle.grammar.specs.Reader.{expect_simple_token, definition, keep_color, read_color_def, parse, import_file}
use Rattle.keep.specs.Lent.{Lent}
use Rattle.keep.specs.Source.{reading}
use Rattle.input.specs.Source.{Spot, spot}
use Rattle.input.specs.Text.{left, name_in, token_of}
use Rattle.input.specs.declared.Place.{Place}
use Rattle.input.specs.declared.Source.{Source}
use Rattle.keep.specs.Answers.{Reads}
use Rattle.properties.specs.Answers.{Leads}
use Rattle.sheets.specs.declared.Statement.{Statement}
use Rattle.sheets.specs.declared.Statement.TheVariants.{EndOfText, ImportOf, ColorOf, RuleAt}

-- ---- colour definitions

-- behind the semicolon of a definition whose value is t, from the tables τ to the tables τ'
abbrev pub DefinitionKept : Bytes → Source → Range → Token → Cursor → Lent → Lent → Result Cursor Refusal → Type 0
DefinitionKept bundle s name t c τ τ' r =
    Reads bundle s (left bundle s c) τ' r
    (keep_color (reading bundle) (name_in bundle name) (token_of bundle t) (spot s c) τ λ τ.
    read (definition (name_in bundle name) (token_of bundle t)) (spot s c) τ)

-- behind its name
abbrev pub DefinitionRead : Bytes → Source → Range → Cursor → Lent → Lent → Result Cursor Refusal → Type 0
DefinitionRead bundle s name c τ τ' r = Reads bundle s (left bundle s c) τ' r (read_color_def (reading bundle) (name_in bundle name) (spot s c) τ)

-- ---- statements

-- the beginning of a statement: E is what the end of the text leads to, I an import, C a colour definition, R a rule
pub data Statements {A : Type 0} (bundle : Bytes) (s : Source) (bound : ℕ) (E : Spot → Answer A Spot Lent Refusal) (I C : Name' → Spot → Answer A Spot Lent Refusal) (R : Token' → Place → Spot → Answer A Spot Lent Refusal) : Result Statement Refusal → Answer A Spot Lent Refusal → Type 0 where
  bad_statement : {e e' : Refusal} {τ : Lent} → e ≡ e' → Statements bundle s bound E I C R (Err e) (refused e' τ)
  end_of_text : (d : Cursor) → Statements bundle s bound E I C R (Ok EndOfText) (E (spot s d))
  import_of : (a : Range) (d : Cursor) → left bundle s d < bound → Statements bundle s bound E I C R (Ok (ImportOf a d)) (I (name_in bundle a) (spot s d))
  color_of : (a : Range) (d : Cursor) → left bundle s d < bound → Statements bundle s bound E I C R (Ok (ColorOf a d)) (C (name_in bundle a) (spot s d))
  rule_at : (t : Token) (o : Place) (d : Cursor) → left bundle s d < bound → Statements bundle s bound E I C R (Ok (RuleAt t o d)) (R (token_of bundle t) o (spot s d))

abbrev pub StatementRead : Bytes → Source → Cursor → Result Statement Refusal → Type 0
StatementRead bundle s c r =
    (τ : Lent) (E : Spot → Answer Reading Spot Lent Refusal) (I C : Name' → Spot → Answer Reading Spot Lent Refusal) (R : Token' → Place → Spot → Answer Reading Spot Lent Refusal)
    → Statements bundle s (left bundle s c) E I C R r
    (on_next ((reading bundle).next (spot s c)) (λ r. refused r τ) E λ t o d.
    on_import t (λ n. I n d) (on_color_ref t (λ n. C n d) (R t o d)))

-- ---- sheets and imports

-- the answer of a whole text: the reader's refusal, or nothing beside its tables
pub data Parses (then : Lent) : Result Unit Refusal → Answer Reading Spot Lent Refusal → Type 0 where
  stopped : {e e' : Refusal} {τ : Lent} → e ≡ e' → Parses then (Err e) (refused e' τ)
  ended : {js : Reading} {p : Spot} → Parses then (Ok tt) (read js p then)

-- from the tables τ to the tables τ'
abbrev pub SheetRead : Bytes → Source → ℕ → Lent → Lent → Result Unit Refusal → Type 0
SheetRead bundle s depth τ τ' r =
    Parses τ' r (parse (reading bundle) (import_file (reading bundle) depth) (suc (left bundle s start)) (spot s start) τ)

-- behind the name of an import; K is what comes next, from behind the semicolon
abbrev pub ImportRead : Bytes → Range → Source → Cursor → ℕ → Lent → Lent → Result Cursor Refusal → Type 0
ImportRead bundle name s c depth τ τ' r =
    (K : Reading → Spot → Lent → Answer Reading Spot Lent Refusal)
    → Leads bundle s (left bundle s c) τ' K r
    (expect_simple_token (reading bundle) semi_colon (spot s c) τ λ e.
    after (import_file (reading bundle) depth (name_in bundle name) e τ) λ js f τ. K js e τ)
