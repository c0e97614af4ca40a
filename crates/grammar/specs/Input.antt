-- What a reader reads from and stores into: any tokenizer, and any tables that take entries and may be full.
use Rattle.std.specs.Prelude.{ℕ, Bool, Float}
use Rattle.std.proofs.Math.Option.{Option, none, some}
use Rattle.base.specs.Bytes.{Bytes}
use Rattle.color.specs.declared.Color.{Color}
use Rattle.grammar.specs.Token.{Name, Token}
use Rattle.grammar.specs.Reading.{Test, Selector, Property, Colors}

-- what is stored; a selector takes the tests stored since the last, a rule the selectors and properties
pub data Entry : Type 0 where
  rule_entry : Entry
  selector_entry : Selector → Entry
  test_entry : Test → Entry
  property_entry : Property → Entry
  number_entry : Float → Entry
  color_entry : Name → Color → Entry

-- T: the tables
pub record Store (T : Type 0) : Type 0 where
  pub put : Entry → T → Option T
  -- the colours that the tables hold
  pub colors : T → Colors

-- a lexer error; the end, and the place reached by reading it; a token, where it begins, and the place behind it
pub data Next (C P R : Type 0) : Type 0 where
  broken : R → Next C P R
  end : C → Next C P R
  token : Token → P → C → Next C P R

pub data Reason : Type 0 where
  end_of_file object_type unexpected expected color_reference eval_form : Reason
  no_text not_whole too_deep : Reason
  full : Entry → Reason

-- the numbers of a table are the reasons of refusal 20
abbrev pub table_of : Entry → ℕ
table_of rule_entry = 1
table_of (selector_entry s) = 2
table_of (test_entry t) = 3
table_of (property_entry p) = 4
table_of (number_entry x) = 5
table_of (color_entry n c) = 6

-- number and reason of the refusal, as the paper has them
abbrev pub number_of : Reason → ℕ × ℕ
number_of end_of_file = (4, 1)
number_of object_type = (4, 2)
number_of unexpected = (4, 3)
number_of expected = (4, 4)
number_of color_reference = (4, 5)
number_of eval_form = (4, 6)
number_of no_text = (5, 0)
number_of not_whole = (6, 0)
number_of too_deep = (21, 0)
number_of (full e) = (20, table_of e)

-- C: a cursor in a text. T: the tables. P: a place, with the text that it is in. R: what a refusal holds.
pub record Input (C T P R : Type 0) : Type 0 where
  pub next : C → Next C P R
  -- the place reached
  pub reached : C → P
  pub why : Reason → P → R
  -- the text of the bundle with this name
  pub text : Bytes → Option C
  -- more than the number of tokens that are left
  pub fuel : C → ℕ
  -- a number that an = or != test may have: whole, and at most 9,007,199,254,740,991 in size
  pub countable : Float → Bool
  pub store : Store T

-- the same texts, with other fuel and other tables
abbrev pub over : {C T U P R : Type 0} → Input C T P R → (C → ℕ) → Store U → Input C U P R
over i g s = record { next = i.next; reached = i.reached; why = i.why; text = i.text; fuel = g; countable = i.countable; store = s }

pub data Answer (A C T R : Type 0) : Type 0 where
  refused : R → T → Answer A C T R
  read : A → C → T → Answer A C T R

module _ {C P R B : Type 0} where
  unfoldable pub on_next : Next C P R → (R → B) → (C → B) → (Token → P → C → B) → B
  on_next (broken r) f g k = f r
  on_next (end d) f g k = g d
  on_next (token t o d) f g k = k t o d

module _ {A B : Type 0} where
  unfoldable pub on_option : Option A → B → (A → B) → B
  on_option none f g = f
  on_option (some x) f g = g x

-- the Rust's `?`
module _ {A B C T R : Type 0} where
  unfoldable pub after : Answer A C T R → (A → C → T → Answer B C T R) → Answer B C T R
  after (refused r τ) k = refused r τ
  after (read x c τ) k = k x c τ

module _ {A C T P R : Type 0} (i : Input C T P R) where
  abbrev pub fail : Reason → P → T → Answer A C T R
  fail r o τ = refused (i.why r o) τ

  -- store an entry, at the place reached
  abbrev pub keep : Entry → C → T → (T → Answer A C T R) → Answer A C T R
  keep e c τ k = on_option (i.store.put e τ) (fail (full e) (i.reached c) τ) k
