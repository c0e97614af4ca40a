-- Sheets as characters: the texts of a bundle that the two grammars have, and what they read as.
use Rattle.std.specs.Prelude.{ℕ, ◌≡◌, List, [], ◌∷◌, Some}
use Rattle.base.specs.Bytes.{Bytes}
use Rattle.base.specs.declared.Range.{Range}
use Rattle.bundle.specs.Bundle.{find_of}
use Rattle.token_kind.specs.declared.Token.{Token}
use Rattle.lexical.specs.Lexical.{IsBlank}
use Rattle.lexical.specs.Lexed.{characters_at, Lexed}
use Rattle.sheet.specs.Digits.{is_whole}
use Rattle.grammar.specs.Grammar.{IsSheet}
use Rattle.grammar.specs.Reading.{Reading}
use Rattle.grammar.specs.Token.{Token as Token'}
use Rattle.input.specs.Source.{source}
use Rattle.input.specs.Text.{placed, text_of, token_of}
use Rattle.input.specs.declared.Source.{Source}
use Rattle.parser.specs.Load.{first_text}

module _ (bundle : Bytes) where
  -- From this place on the characters of a text are these tokens, with blanks before each and behind the last. A token's name has
  -- its bytes, and its place in the bundle.
  pub data HasTokens (s : Source) : ℕ → List Token' → Type 0 where
    last : {at : ℕ} → IsBlank (characters_at (text_of bundle s) at) [] → HasTokens s at []
    then :
        {at to : ℕ} {t : Token} {p : List Token'}
        → Lexed (text_of bundle s) at t to
        → HasTokens s to p
        → HasTokens s at (token_of bundle (placed s.range.from t) ∷ p)

  -- the bundle's text of this name has these tokens
  abbrev pub HasText : Bytes → List Token' → Type 0
  HasText name q = (k : ℕ) × ((r : Range) × ((find_of bundle name ≡ Some (k, r)) × HasTokens (source k r) 0 q))

  -- The sheet of a bundle, its text 0, is the grammar's, and js is its reading. At most eight imports lead to a text.
  abbrev pub ReadsAs : Reading → Type 0
  ReadsAs js = (p : List Token') × (HasTokens (source 0 (first_text bundle)) 0 p × IsSheet is_whole HasText 8 [] p js)
