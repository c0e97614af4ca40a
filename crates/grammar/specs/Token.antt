-- Tokens, as the tokenizer hands them over, with the names that they spell.
use Rattle.std.specs.Prelude.{ℕ, List, ◌++◌, Float}
use Rattle.std.proofs.Math.Option.{Option}
use Rattle.base.specs.declared.Range.{Range}
use Rattle.base.specs.Bytes.{Bytes, ascii}
use Rattle.color.specs.declared.Color.{Color}

-- a name: its bytes, and where they stand in the bundle
pub record Name : Type 0 where
  pub bytes : Bytes
  pub ranges : List Range

-- a joined name stands in two places
abbrev pub joined : Name → Name → Name
joined a b = record { bytes = a.bytes ++ ascii ":" ++ b.bytes; ranges = a.ranges ++ b.ranges }

pub data Sign : Type 0 where
  left_paren right_paren left_bracket right_bracket left_brace right_brace : Sign
  equal_sign not_equal_sign less_sign greater_sign less_or_equal_sign greater_or_equal_sign regex_match : Sign
  bang question_mark colon double_colon semi_colon comma : Sign
  deriving Discrete as Sign-discrete

pub data Token : Type 0 where
  import identifier string color_ref : Name → Token
  number : Float → Token
  zoom_range : Option ℕ → Option ℕ → Token
  color : Color → Token
  sign : Sign → Token
