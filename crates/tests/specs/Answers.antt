-- What the readers of tests promise: their answers are those of the grammar's reader over the bundle and the lent tables.
use Rattle.std.specs.Prelude.{ℕ, ◌≡◌, List, Float, Result}
use Rattle.base.specs.Bytes.{Bytes}
use Rattle.base.specs.declared.Range.{Range}
use Rattle.base.specs.declared.refusal.Refusal.{Refusal}
use Rattle.cursor.specs.declared.Cursor.{Cursor}
use Rattle.sheet.specs.Sheet.{TextTest, NumericTest}
use Rattle.entries.specs.Words.{test_words}
use Rattle.table.specs.declared.Name.{Name}
use Rattle.grammar.specs.Reading.{Test}
use Rattle.grammar.specs.Input.{Answer}
use Rattle.grammar.specs.Reader.{keep_number_test, read_word_operand, read_digits_operand, keep_test, read_operand, read_number}
use Rattle.keep.specs.Lent.{Lent, test_row, word_kind, digits_kind, numeric_kind}
use Rattle.keep.specs.Source.{reading}
use Rattle.input.specs.Source.{Spot, spot}
use Rattle.input.specs.Text.{left, name_in, name_of}
use Rattle.input.specs.declared.Source.{Source}
use Rattle.keep.specs.Answers.{Reads}

-- what is read from a cursor on, from the tables τ to the tables τ'
abbrev pub TestsRead : {A : Type 0} → Bytes → Source → Cursor → Lent → Lent → (Lent → Answer A Spot Lent Refusal) → Result Cursor Refusal → Type 0
TestsRead bundle s c τ τ' f r = Reads bundle s (left bundle s c) τ' r (f τ)

-- a test whose words are these is stored
abbrev pub TestKept : Source → Cursor → List ℕ → Lent → Lent → Result Cursor Refusal → Type 0
TestKept s c row τ τ' r =
    (bundle : Bytes) (x : Test)
    → test_row x τ.tally.number ≡ row
    → TestsRead bundle s c τ τ' (keep_test (reading bundle) x (spot s c)) r

-- a test with the number x is stored, behind the number
abbrev pub NumberTestKept : Source → Cursor → ℕ → Name → Float → Lent → Lent → Result Cursor Refusal → Type 0
NumberTestKept s c kind key x τ τ' r =
    (bundle : Bytes) (y : Test)
    → ((p : ℕ) → test_row y p ≡ test_words kind key p 0)
    → TestsRead bundle s c τ τ' (keep_number_test (reading bundle) x y (spot s c)) r

-- behind the word b, by the kind of the test
abbrev pub WordRead : Bytes → Source → Name → ℕ → Range → Cursor → Lent → Lent → Result Cursor Refusal → Type 0
WordRead bundle s key kind b c τ τ' r =
    (op : TextTest)
    → word_kind op ≡ kind
    → TestsRead bundle s c τ τ' (read_word_operand (reading bundle) op (name_of bundle key) (name_in bundle b) (spot s c)) r

-- behind the number x
abbrev pub DigitsRead : Bytes → Source → Name → ℕ → Float → Cursor → Lent → Lent → Result Cursor Refusal → Type 0
DigitsRead bundle s key kind x c τ τ' r =
    (op : TextTest)
    → digits_kind op ≡ kind
    → TestsRead bundle s c τ τ' (read_digits_operand (reading bundle) op (name_of bundle key) x (spot s c)) r

abbrev pub OperandRead : Bytes → Source → Name → ℕ → ℕ → Cursor → Lent → Lent → Result Cursor Refusal → Type 0
OperandRead bundle s key words figures c τ τ' r =
    (op : TextTest)
    → word_kind op ≡ words
    → digits_kind op ≡ figures
    → TestsRead bundle s c τ τ' (read_operand (reading bundle) op (name_of bundle key) (spot s c)) r

abbrev pub NumericRead : Bytes → Source → Name → ℕ → Cursor → Lent → Lent → Result Cursor Refusal → Type 0
NumericRead bundle s key kind c τ τ' r =
    (op : NumericTest)
    → numeric_kind op ≡ kind
    → TestsRead bundle s c τ τ' (read_number (reading bundle) op (name_of bundle key) (spot s c)) r
