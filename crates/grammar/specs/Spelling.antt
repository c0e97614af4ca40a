-- Token lists for examples, spelt as words parted by blanks.
use Rattle.std.specs.Prelude.{ℕ, ◌-◌, cond, List, [], ◌∷◌, map, eqb, Float}
use Prim.Native.String.{String}
use Rattle.std.proofs.Math.Option.{none, some}
use Rattle.std.specs.Float.Ieee.{of_bits}
use Rattle.std.specs.Float.{binary64}
use Rattle.base.specs.Bytes.{Bytes, ascii}
use Rattle.base.specs.Map.{Map, entry, lookup}
use Rattle.color.specs.declared.Color.{Color}
use Rattle.grammar.specs.Token.{Name, Sign, Token, import, identifier, string, color_ref, number, zoom_range, color, sign, left_paren, right_paren, left_bracket, right_bracket, left_brace, right_brace, equal_sign, not_equal_sign, less_sign, greater_sign, less_or_equal_sign, greater_or_equal_sign, regex_match, bang, question_mark, colon, double_colon, semi_colon, comma}
use Rattle.grammar.specs.Input.{on_option}

abbrev pub name_of : Bytes → Name
name_of a = record { bytes = a; ranges = [] }

abbrev pub name : String → Name
name s = name_of (ascii s)

abbrev pub nought : Float
nought = of_bits binary64 0

abbrev pub black : Color
black = record { r = 0; g = 0; b = 0 }

abbrev pub signs : Map Sign
signs =
    entry (ascii "(") left_paren ∷ entry (ascii ")") right_paren ∷ entry (ascii "[") left_bracket ∷ entry (ascii "]")
    right_bracket ∷ entry (ascii "{") left_brace ∷ entry (ascii "}") right_brace
    ∷ entry (ascii "=") equal_sign ∷ entry (ascii "!=") not_equal_sign ∷ entry (ascii "<") less_sign ∷ entry (ascii ">")
    greater_sign ∷ entry (ascii "<=") less_or_equal_sign ∷ entry (ascii ">=") greater_or_equal_sign
    ∷ entry (ascii "=~") regex_match ∷ entry (ascii "!") bang ∷ entry (ascii "?") question_mark ∷ entry (ascii ":") colon
    ∷ entry (ascii "::") double_colon ∷ entry (ascii ";") semi_colon ∷ entry (ascii ",") comma ∷ []

-- 0 is the number, # the colour black, |1 the zoom range 1 to 1, @a a reference, 'a the string "a", &a an import of "a"
abbrev pub word_token : Bytes → Token
word_token [] = identifier (name_of [])
word_token (b ∷ a) =
    cond (eqb b 48) (number nought)
    (cond (eqb b 35) (color black)
    (cond (eqb b 124) (zoom_level a)
    (cond (eqb b 64) (color_ref (name_of a))
    (cond (eqb b 39) (string (name_of a))
    (cond (eqb b 38) (import (name_of a))
    (identifier (name_of (b ∷ a))))))))
  where
    zoom_level : Bytes → Token
    zoom_level [] = zoom_range none none
    zoom_level (d ∷ a) = zoom_range (some (d - 48)) (some (d - 48))

abbrev pub spelt : Bytes → Token
spelt w = on_option (lookup w signs) (word_token w) sign

-- one character before some words
abbrev pub push : ℕ → List Bytes → List Bytes
push b [] = []
push b (w ∷ ws) = cond (eqb b 32) ([] ∷ w ∷ ws) ((b ∷ w) ∷ ws)

abbrev pub words : Bytes → List Bytes
words [] = [] ∷ []
words (b ∷ s) = push b (words s)

abbrev pub tokens : String → List Token
tokens s = map spelt (words (ascii s))
