-- The tokens of a text, and the texts of a bundle, as the grammar sees them.
use Rattle.std.specs.Prelude.{ℕ, ◌<◌, ◌≡◌, List, [], ◌∷◌, length}
use Rattle.std.proofs.Math.Option.{some}
use Rattle.base.specs.Bytes.{Bytes}
use Rattle.grammar.specs.Token.{Token}
use Rattle.grammar.specs.Reading.{Reading, Colors}
use Rattle.grammar.specs.Input.{Input, token, end}
use Rattle.grammar.specs.Grammar.{IsSheet}

module _ {C T P R : Type 0} (i : Input C T P R) where
  infixr 60 ◌▸◌
  -- from c the text gives the tokens p, and stands at e
  pub data Gives : C → List Token → C → Type 0 where
    here : {c : C} → Gives c [] c
    ◌▸◌ : {c d e : C} {o : P} {t : Token} {p : List Token} → i.next c ≡ token t o d → Gives d p e → Gives c (t ∷ p) e

  -- from c to the end of the text, which is read at f
  abbrev pub WholeTo : C → List Token → C → Type 0
  WholeTo c p f = (e : C) × (Gives c p e × (i.next e ≡ end f))

  abbrev pub Whole : C → List Token → Type 0
  Whole c p = (f : C) × WholeTo c p f

  -- the bundle's text named n has the tokens q
  abbrev pub TextOf : Bytes → List Token → Type 0
  TextOf n q = (c : C) × ((i.text n ≡ some c) × Whole c q)

  -- a sheet, its imports taken from the bundle
  abbrev pub Sheet : ℕ → Colors → List Token → Reading → Type 0
  Sheet = IsSheet i.countable TextOf

  -- k is more than the number of tokens from c on
  abbrev pub Ample : C → ℕ → Type 0
  Ample c k = (d : C) (p : List Token) → Gives c p d → length p < k

  -- the fuel is what Input says
  abbrev pub Fueled : Type 0
  Fueled = (c : C) → Ample c (i.fuel c)
