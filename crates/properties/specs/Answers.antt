-- What the readers of properties promise: their answers are those of the grammar's reader over the bundle and the lent tables.
use Rattle.std.specs.Prelude.{ℕ, ◌<◌, ◌≤◌, ◌≡◌, List, Float, Option, Some, None, Result, Ok, Err}
use Rattle.base.specs.Bytes.{Bytes}
use Rattle.base.specs.declared.Range.{Range}
use Rattle.base.specs.declared.refusal.Refusal.{Refusal}
use Rattle.cursor.specs.declared.Cursor.{Cursor}
use Rattle.table.specs.declared.PropertyValue.{PropertyValue}
use Rattle.grammar.specs.Token.{Name as Name', right_brace, semi_colon, comma}
use Rattle.grammar.specs.View.{on_sign, on_identifier, on_number}
use Rattle.grammar.specs.Reading.{Value, Property, property, Colors}
use Rattle.grammar.specs.Input.{Answer, refused, read, property_entry, keep}
use Rattle.grammar.specs.Reader.{end_value, read_property, read_mandatory_token, unexpected_token, read_number_list, read_properties}
use Rattle.keep.specs.Lent.{Lent, value_shown, fresh_numbers}
use Rattle.keep.specs.Source.{reading}
use Rattle.input.specs.Source.{Spot, spot}
use Rattle.input.specs.Text.{left, name_in}
use Rattle.input.specs.declared.Source.{Source}
use Rattle.keep.specs.Answers.{Reads}

-- the next of several, or their end: K is what the end leads to, N the next
pub data Nexts {A X : Type 0} (bundle : Bytes) (s : Source) (bound : ℕ) (K : Spot → Answer A Spot Lent Refusal) (N : X → Spot → Answer A Spot Lent Refusal) : Result (Option X × Cursor) Refusal → Answer A Spot Lent Refusal → Type 0 where
  no_next : {e e' : Refusal} {τ : Lent} → e ≡ e' → Nexts bundle s bound K N (Err e) (refused e' τ)
  at_end : (d : Cursor) → left bundle s d < bound → Nexts bundle s bound K N (Ok (None, d)) (K (spot s d))
  a_next : (x : X) (d : Cursor) → left bundle s d < bound → Nexts bundle s bound K N (Ok (Some x, d)) (N x (spot s d))

-- behind a number of a list
abbrev pub ListedRead : Bytes → Source → Cursor → Result (Option Float × Cursor) Refusal → Type 0
ListedRead bundle s c r =
    (τ : Lent) (K : Spot → Answer (List Float) Spot Lent Refusal) (N : Float → Spot → Answer (List Float) Spot Lent Refusal)
    → Nexts bundle s (left bundle s c) K N r
    (read_mandatory_token (reading bundle) (spot s c) τ λ t o d.
    on_sign semi_colon t (K d)
    (on_sign comma t (read_mandatory_token (reading bundle) d τ λ t o e. on_number t (λ y. N y e) (unexpected_token (reading bundle) o τ))
    (unexpected_token (reading bundle) o τ)))

-- from the tables τ to the tables τ'
abbrev pub NumbersRead : Bytes → Source → Float → Cursor → Lent → Lent → Result Cursor Refusal → Type 0
NumbersRead bundle s x c τ τ' r =
    (k : ℕ)
    → left bundle s c < k
    → Reads bundle s (left bundle s c) τ' r (read_number_list (reading bundle) k x (spot s c) τ)

-- the value v, shown with the numbers that no entry has
pub data Values (bundle : Bytes) (s : Source) (bound : ℕ) (then : Lent) : Result (PropertyValue × Cursor) Refusal → Answer Value Spot Lent Refusal → Type 0 where
  bad_value : {e e' : Refusal} {τ : Lent} → e ≡ e' → Values bundle s bound then (Err e) (refused e' τ)
  good_value :
      (v : Value) (d : Cursor) {p : PropertyValue}
      → left bundle s d ≤ bound
      → value_shown v (fresh_numbers then.tally) ≡ p
      → Values bundle s bound then (Ok (p, d)) (read v (spot s d) then)

-- with nothing stored, whatever the tables
abbrev pub ValueAnswer : Bytes → Source → Cursor → (Lent → Answer Value Spot Lent Refusal) → Result (PropertyValue × Cursor) Refusal → Type 0
ValueAnswer bundle s c f r = (τ : Lent) → Values bundle s (left bundle s c) τ r (f τ)

abbrev pub NumbersAnswer : Bytes → Source → Cursor → Lent → Lent → (ℕ → Lent → Answer Value Spot Lent Refusal) → Result (PropertyValue × Cursor) Refusal → Type 0
NumbersAnswer bundle s c τ τ' f r =
    (k : ℕ)
    → left bundle s c < k
    → Values bundle s (left bundle s c) τ' r (f k τ)

-- a value before its semicolon
abbrev pub ValueEnd : Bytes → Source → PropertyValue → Cursor → Result (PropertyValue × Cursor) Refusal → Type 0
ValueEnd bundle s p c r =
    (τ : Lent) (v : Value)
    → value_shown v (fresh_numbers τ.tally) ≡ p
    → Values bundle s (left bundle s c) τ r (end_value (reading bundle) v (spot s c) τ)

-- what was read leads on: K is what comes next
pub data Leads {A X : Type 0} (bundle : Bytes) (s : Source) (bound : ℕ) (then : Lent) (K : X → Spot → Lent → Answer A Spot Lent Refusal) : Result Cursor Refusal → Answer A Spot Lent Refusal → Type 0 where
  stops : {e e' : Refusal} {τ : Lent} → e ≡ e' → Leads bundle s bound then K (Err e) (refused e' τ)
  leads : (x : X) (d : Cursor) → left bundle s d ≤ bound → Leads bundle s bound then K (Ok d) (K x (spot s d) then)

-- a property is stored
abbrev pub PropertyKept : Source → Cursor → Range → PropertyValue → Lent → Lent → Result Cursor Refusal → Type 0
PropertyKept s c name p τ τ' r =
    (bundle : Bytes) (x : Value) (K : Value → Spot → Lent → Answer (List Property) Spot Lent Refusal)
    → value_shown x (fresh_numbers τ.tally) ≡ p
    → Leads bundle s (left bundle s c) τ' K r
    (keep (reading bundle) (property_entry (property (name_in bundle name) x)) (spot s c) τ λ τ. K x (spot s c) τ)

-- behind the name of a property
abbrev pub PropertyRead : Bytes → Source → Range → Cursor → Colors → Lent → Lent → Result Cursor Refusal → Type 0
PropertyRead bundle s a c Γ τ τ' r =
    (k : ℕ) (K : Value → Spot → Lent → Answer (List Property) Spot Lent Refusal)
    → left bundle s c < k
    → Leads bundle s (left bundle s c) τ' K r (read_property (reading bundle) k Γ (name_in bundle a) (spot s c) τ K)

-- the beginning of a property: the closing brace is the end
abbrev pub HeadRead : Bytes → Source → Cursor → Result (Option Range × Cursor) Refusal → Type 0
HeadRead bundle s c r =
    (τ : Lent) (K : Spot → Answer (List Property) Spot Lent Refusal) (N : Name' → Spot → Answer (List Property) Spot Lent Refusal)
    → Nexts bundle s (left bundle s c) K (λ a. N (name_in bundle a)) r
    (read_mandatory_token (reading bundle) (spot s c) τ λ t o d.
    on_identifier t (λ a. N a d) (on_sign right_brace t (K d) (unexpected_token (reading bundle) o τ)))

abbrev pub PropertiesRead : Bytes → Source → Cursor → Colors → Lent → Lent → Result Cursor Refusal → Type 0
PropertiesRead bundle s c Γ τ τ' r =
    (k : ℕ)
    → left bundle s c < k
    → Reads bundle s (left bundle s c) τ' r (read_properties (reading bundle) k Γ (spot s c) τ)
