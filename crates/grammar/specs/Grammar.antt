-- The grammar, over tokens: one relation for each nonterminal, one constructor for each production.
-- IsX p x says: the tokens p are an X, and read as x. docs/GRAMMAR.md has the same in EBNF.
use Rattle.std.specs.Prelude.{ℕ, suc, ◌≡◌, Bool, true, false, List, [], ◌∷◌, ◌++◌, Float}
use Rattle.std.proofs.Math.Option.{Option, none, some}
use Rattle.std.specs.Float.Ieee.{of_bits}
use Rattle.std.specs.Float.{binary64}
use Rattle.base.specs.Bytes.{Bytes, ascii, same}
use Rattle.color.specs.declared.Color.{Color}
use Rattle.sheet.specs.Sheet.{ObjectType, exists, not_exists, is_true, is_false, TextTest, equal, not_equal, NumericTest, less, less_or_equal, greater, greater_or_equal}
use Rattle.grammar.specs.Token.{Name, joined, Sign, Token, import, identifier, string, color_ref, number, zoom_range, color, sign, left_paren, right_paren, left_bracket, right_bracket, left_brace, right_brace, equal_sign, not_equal_sign, less_sign, greater_sign, less_or_equal_sign, greater_or_equal_sign, bang, question_mark, colon, double_colon, semi_colon, comma}
use Rattle.grammar.specs.View.{is_sign, color_of}
use Rattle.grammar.specs.Reading.{Operand, plain, digits, Test, unary, text, numeric, Value, word, quoted, colored, numbers, width_delta, Selector, Property, property, Rule, rule, rule_item, color_item, Reading, Colors, define, color_named, colors_after, bare, with_zoom, with_test, with_layer, id_to_object_type}

-- name = identifier [ ":" identifier ]
pub data IsName : List Token → Name → Type 0 where
  single : (a : Name) → IsName (identifier a ∷ []) a
  double : (a b : Name) → IsName (identifier a ∷ sign colon ∷ identifier b ∷ []) (joined a b)

-- key = name | string [ ":" identifier ]
pub data IsKey : List Token → Name → Type 0 where
  named : {p : List Token} {a : Name} → IsName p a → IsKey p a
  quoted_key : (a : Name) → IsKey (string a ∷ []) a
  quoted_double : (a b : Name) → IsKey (string a ∷ sign colon ∷ identifier b ∷ []) (joined a b)

-- equality = "=" | "!="
pub data IsEquality : Sign → TextTest → Type 0 where
  eq : IsEquality equal_sign equal
  ne : IsEquality not_equal_sign not_equal

-- comparison = "<" | "<=" | ">" | ">="
pub data IsComparison : Sign → NumericTest → Type 0 where
  lt : IsComparison less_sign less
  le : IsComparison less_or_equal_sign less_or_equal
  gt : IsComparison greater_sign greater
  ge : IsComparison greater_or_equal_sign greater_or_equal

-- numbers = number { "," number } ";"
pub data IsNumbers : List Token → List Float → Type 0 where
  last_number : (x : Float) → IsNumbers (number x ∷ sign semi_colon ∷ []) (x ∷ [])
  more_numbers : {p : List Token} {xs : List Float} (x : Float) → IsNumbers p xs → IsNumbers (number x ∷ sign comma ∷ p) (x ∷ xs)

-- delta = "(" "prop" "(" "width" ")" [ number ] ")"      ("width" is a string)
pub data IsDelta : List Token → Float → Type 0 where
  zero_delta :
      (a b : Name)
      → a.bytes ≡ ascii "prop"
      → b.bytes ≡ ascii "width"
      → IsDelta (sign left_paren ∷ identifier a ∷ sign left_paren ∷ string b ∷ sign right_paren ∷ sign right_paren ∷ []) (of_bits binary64 0)
  some_delta :
      (a b : Name) (x : Float)
      → a.bytes ≡ ascii "prop"
      → b.bytes ≡ ascii "width"
      → IsDelta (sign left_paren ∷ identifier a ∷ sign left_paren ∷ string b ∷ sign right_paren ∷ number x ∷ sign right_paren ∷ []) x

-- value = word ";" | word ":" identifier ";" | string ";" | color ";" | reference ";" | numbers | "eval" delta ";"
-- A word is an identifier other than eval. A reference stands for the colour that Γ has by that name.
pub data IsValue (Γ : Colors) : List Token → Value → Type 0 where
  one_word : (a : Name) → same a.bytes (ascii "eval") ≡ false → IsValue Γ (identifier a ∷ sign semi_colon ∷ []) (word a)
  two_words :
      (a b : Name)
      → same a.bytes (ascii "eval") ≡ false
      → IsValue Γ (identifier a ∷ sign colon ∷ identifier b ∷ sign semi_colon ∷ []) (word (joined a b))
  a_string : (a : Name) → IsValue Γ (string a ∷ sign semi_colon ∷ []) (quoted a)
  a_color : (c : Color) → IsValue Γ (color c ∷ sign semi_colon ∷ []) (colored c)
  reference : (n : Name) (c : Color) → color_named n Γ ≡ some c → IsValue Γ (color_ref n ∷ sign semi_colon ∷ []) (colored c)
  list : {p : List Token} {xs : List Float} → IsNumbers p xs → IsValue Γ p (numbers xs)
  eval :
      {p : List Token} {x : Float} (a : Name)
      → a.bytes ≡ ascii "eval"
      → IsDelta p x
      → IsValue Γ (identifier a ∷ p ++ (sign semi_colon ∷ [])) (width_delta x)

-- properties = { identifier ":" value } "}"
pub data IsProperties (Γ : Colors) : List Token → List Property → Type 0 where
  closed : IsProperties Γ (sign right_brace ∷ []) []
  assign :
      {p q : List Token} {x : Value} {ps : List Property} (a : Name)
      → IsValue Γ p x
      → IsProperties Γ q ps
      → IsProperties Γ (identifier a ∷ sign colon ∷ p ++ q) (property a x ∷ ps)

-- skipped = { any token but "}" } "}"
pub data IsSkipped : List Token → Type 0 where
  stop : IsSkipped (sign right_brace ∷ [])
  over : {p : List Token} (t : Token) → is_sign right_brace t ≡ false → IsSkipped p → IsSkipped (t ∷ p)

-- countable: a number that an = or != test may have
module _ (countable : Float → Bool) where
  -- operand = identifier | number
  pub data IsOperand : Token → Operand → Type 0 where
    plain_operand : (b : Name) → IsOperand (identifier b) (plain b)
    digits_operand : (x : Float) → countable x ≡ true → IsOperand (number x) (digits x)

  -- test = ( key | key "?" | key "?" "!" | "!" name | "!" name "?" | key equality operand | key comparison number ) "]"
  pub data IsTest : List Token → Test → Type 0 where
    there : {p : List Token} {a : Name} → IsKey p a → IsTest (p ++ (sign right_bracket ∷ [])) (unary exists a)
    true_tag : {p : List Token} {a : Name} → IsKey p a → IsTest (p ++ (sign question_mark ∷ sign right_bracket ∷ [])) (unary is_true a)
    false_tag :
        {p : List Token} {a : Name}
        → IsKey p a
        → IsTest (p ++ (sign question_mark ∷ sign bang ∷ sign right_bracket ∷ [])) (unary is_false a)
    missing : {p : List Token} {a : Name} → IsName p a → IsTest (sign bang ∷ p ++ (sign right_bracket ∷ [])) (unary not_exists a)
    untrue :
        {p : List Token} {a : Name}
        → IsName p a
        → IsTest (sign bang ∷ p ++ (sign question_mark ∷ sign right_bracket ∷ [])) (unary is_false a)
    compared :
        {p : List Token} {a : Name} {c : Sign} {op : TextTest} {t : Token} {o : Operand}
        → IsKey p a
        → IsEquality c op
        → IsOperand t o
        → IsTest (p ++ (sign c ∷ t ∷ sign right_bracket ∷ [])) (text op a o)
    measured :
        {p : List Token} {a : Name} {c : Sign} {op : NumericTest}
        → IsKey p a
        → IsComparison c op
        → (x : Float)
        → IsTest (p ++ (sign c ∷ number x ∷ sign right_bracket ∷ [])) (numeric op a x)

  -- parts = { zoomRange | "[" test | ":" identifier | "::" identifier }
  -- HasParts σ p τ: the parts p turn the selector σ into τ.
  pub data HasParts : Selector → List Token → Selector → Type 0 where
    nothing : {σ : Selector} → HasParts σ [] σ
    zooms : {σ τ : Selector} {p : List Token} (a b : Option ℕ) → HasParts (with_zoom σ a b) p τ → HasParts σ (zoom_range a b ∷ p) τ
    tested :
        {σ τ : Selector} {p q : List Token} {x : Test}
        → IsTest p x
        → HasParts (with_test σ x) q τ
        → HasParts σ (sign left_bracket ∷ p ++ q) τ
    class : {σ τ : Selector} {p : List Token} (a : Name) → HasParts σ p τ → HasParts σ (sign colon ∷ identifier a ∷ p) τ
    layer : {σ τ : Selector} {p : List Token} (a : Name) → HasParts (with_layer σ a) p τ → HasParts σ (sign double_colon ∷ identifier a ∷ p) τ

  -- selector = type parts
  pub data IsSelector : List Token → Selector → Type 0 where
    typed :
        {p : List Token} {σ : Selector} (a : Name) (y : ObjectType)
        → id_to_object_type a.bytes ≡ some y
        → HasParts (bare y) p σ
        → IsSelector (identifier a ∷ p) σ

  -- rule = "{" properties | "colors" skipped | selector "{" properties | selector "," rule
  pub data IsRule (Γ : Colors) : List Token → Rule → Type 0 where
    body : {p : List Token} {ps : List Property} → IsProperties Γ p ps → IsRule Γ (sign left_brace ∷ p) (rule [] ps)
    auxiliary : {p : List Token} (a : Name) → a.bytes ≡ ascii "colors" → IsSkipped p → IsRule Γ (identifier a ∷ p) (rule [] [])
    last_selector :
        {p q : List Token} {σ : Selector} {ps : List Property}
        → IsSelector p σ
        → IsProperties Γ q ps
        → IsRule Γ (p ++ (sign left_brace ∷ q)) (rule (σ ∷ []) ps)
    selector_then :
        {p q : List Token} {σ : Selector} {ss : List Selector} {ps : List Property}
        → IsSelector p σ
        → IsRule Γ q (rule ss ps)
        → IsRule Γ (p ++ (sign comma ∷ q)) (rule (σ ∷ ss) ps)

  -- sheet = { rule | reference ":" color ";" | reference ":" any token but a color ";" | import ";" }
  -- IsSheet Text d Γ p js: with the colours Γ, and d more levels of import allowed, p reads as js.
  -- Text n q: the bundle's text named n has the tokens q.
  pub data IsSheet (Text : Bytes → List Token → Type 0) : ℕ → Colors → List Token → Reading → Type 0 where
    finish : {d : ℕ} {Γ : Colors} → IsSheet Text d Γ [] []
    a_rule :
        {d : ℕ} {Γ : Colors} {p q : List Token} {r : Rule} {js : Reading}
        → IsRule Γ p r
        → IsSheet Text d Γ q js
        → IsSheet Text d Γ (p ++ q) (rule_item r ∷ js)
    defined :
        {d : ℕ} {Γ : Colors} {p : List Token} {js : Reading} (n : Name) (c : Color)
        → IsSheet Text d (define Γ n c) p js
        → IsSheet Text d Γ (color_ref n ∷ sign colon ∷ color c ∷ sign semi_colon ∷ p) (color_item n c ∷ js)
    dropped :
        {d : ℕ} {Γ : Colors} {p : List Token} {js : Reading} (n : Name) (t : Token)
        → color_of t ≡ none
        → IsSheet Text d Γ p js
        → IsSheet Text d Γ (color_ref n ∷ sign colon ∷ t ∷ sign semi_colon ∷ p) js
    imported :
        {d : ℕ} {Γ : Colors} {p q : List Token} {js ks : Reading} (n : Name)
        → Text n.bytes q
        → IsSheet Text d Γ q js
        → IsSheet Text (suc d) (colors_after Γ js) p ks
        → IsSheet Text (suc d) Γ (import n ∷ sign semi_colon ∷ p) (js ++ ks)
