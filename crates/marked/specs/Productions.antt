-- For each production that readers of MapCSS may stumble on: three sheets that are loaded, and three near misses that are not.
use Rattle.std.specs.Prelude.{◌≡◌, Bool, true, false, List, [], ◌∷◌, ◌++◌, Result, Ok, Err}
use Rattle.base.specs.Bytes.{Bytes, ascii}
use Rattle.keep.specs.Encode.{Lengths, lengths}
use Rattle.parser.specs.Load.{load_of}
use Rattle.marked.specs.Cases.{alone}
use Rattle.base.specs.declared.refusal.Refusal.{Refusal}
use Rattle.parser.specs.declared.Counts.{Counts}

-- room for four entries in each table
abbrev pub roomy : Lengths
roomy = lengths 32 32 32 32 4 32

abbrev pub is_sheet : Result Counts Refusal → Bool
is_sheet (Err e) = false
is_sheet (Ok n) = true

abbrev pub loads : Bytes → Bool
loads s = is_sheet (load_of (alone s) roomy).0

pub record Production : Type 0 where
  pub has : List Bytes
  pub has_not_lem : List Bytes

abbrev pub production : Bytes → Bytes → Bytes → Bytes → Bytes → Bytes → Production
production a b c d e f = record { has = a ∷ b ∷ c ∷ []; has_not_lem = d ∷ e ∷ f ∷ [] }

-- the value in a property of a rule
abbrev pub valued : Bytes → Bytes
valued v = ascii "way{a:" ++ v ++ ascii "}"

-- eval with a word in quotation marks, which are byte 34
abbrev pub eval_of : Bytes → Bytes → Bytes
eval_of w rest = valued (ascii "eval(prop(" ++ (34 ∷ []) ++ w ++ (34 ∷ []) ++ ascii ")" ++ rest ++ ascii ");")

abbrev pub productions : List Production
productions =
    production (ascii "way,{}") (ascii "way,node,{}") (ascii "way,{width:1;}") (ascii ",{}") (ascii "way,,{}") (ascii "way,}")
    ∷ production (ascii "{}") (ascii "{width:1;}") (ascii "{}{}") (ascii "{") (ascii "{width}") (ascii "{width:1}")
    ∷ production (ascii "way[x?!]{}") (ascii "way[!x?]{}") (ascii "way[x?]{}") (ascii "way[!x?!]{}") (ascii "way[x!?]{}") (ascii "way[x?!{}")
    ∷ production (ascii "way|z123{}") (ascii "way|z12-{}") (ascii "way|z1-2{}") (ascii "way|z{}") (ascii "way|z-{}") (ascii "way|z12345{}")
    ∷ production (ascii "@c:};") (ascii "@c:#fff;") (ascii "@c:@d;") (ascii "@c:;") (ascii "@c};") (ascii "@c:#fff")
    ∷ production (eval_of (ascii "width") []) (eval_of (ascii "width") (ascii "+2")) (eval_of (ascii "width") (ascii "2"))
    (eval_of (ascii "height") []) (valued (ascii "eval(width);")) (eval_of (ascii "width") (ascii "+2+3"))
    ∷ production (ascii "colors{x y}") (ascii "way,colors{}") (ascii "colors}") (ascii "colors") (ascii "colours{}") (ascii "way colors{}")
    ∷ []

pub data Each (P : Bytes → Type 0) : List Bytes → Type 0 where
  none_left : Each P []
  and_then : {s : Bytes} {ss : List Bytes} → P s → Each P ss → Each P (s ∷ ss)

pub data Hold : List Production → Type 0 where
  no_more : Hold []
  one_more :
      {p : Production} {ps : List Production}
      → Each (λ s. loads s ≡ true) p.has
      → Each (λ s. loads s ≡ false) p.has_not_lem
      → Hold ps
      → Hold (p ∷ ps)
