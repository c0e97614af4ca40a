-- Bundles of token lists: the grammar and the reader at their simplest, for examples.
use Rattle.std.specs.Prelude.{ℕ, suc, ◌≡◌, Bool, true, false, cond, List, [], ◌∷◌, length, Float}
use Rattle.std.proofs.Math.Option.{Option, none, some}
use Rattle.base.specs.Bytes.{Bytes, same}
use Rattle.base.specs.Map.{Map, lookup}
use Rattle.grammar.specs.Token.{Token}
use Rattle.grammar.specs.Reading.{Reading}
use Rattle.grammar.specs.Input.{Store, Next, end, token, Reason, Input, Answer, refused, read}
use Rattle.grammar.specs.Reader.{load}
use Rattle.grammar.specs.Grammar.{IsSheet}
use Rattle.grammar.specs.Capacity.{Tables, empty, endless}

-- each text by its name, from text 1 on; text 0 is the one that is read
abbrev pub Bundle : Type 0
Bundle = Map (List Token)

-- a place: the number of the text, and the character in it
abbrev pub Place : Type 0
Place = ℕ × ℕ

pub record Cursor : Type 0 where
  pub text : ℕ
  pub character : ℕ
  pub left : List Token

abbrev pub cursor : ℕ → ℕ → List Token → Cursor
cursor k n p = record { text = k; character = n; left = p }

-- each token is two characters wide; reading at the end adds one
abbrev pub next_from : {R : Type 0} → ℕ → ℕ → List Token → Next Cursor Place R
next_from k n [] = end (cursor k (suc n) [])
next_from k n (t ∷ ts) = token t (k, suc n) (cursor k (suc (suc n)) ts)

-- the text named n, the first of the bundle being text k
unfoldable pub text_named : ℕ → Bytes → Bundle → Option Cursor
text_named k n [] = none
text_named k n (e ∷ b) = cond (same n e.key) (some (cursor k 0 e.value)) (text_named (suc k) n b)

module _ (countable : Float → Bool) where
  -- a refusal tells its reason and its place
  abbrev pub listed : {T : Type 0} → Bundle → Store T → Input Cursor T Place (Reason × Place)
  listed b s =
      record {
        next = λ c. next_from c.text c.character c.left;
        reached = λ c. (c.text, c.character);
        why = λ r o. (r, o);
        text = λ n. text_named 1 n b;
        fuel = λ c. suc (length c.left);
        countable = countable;
        store = s;
      }

  -- the reading of a bundle whose text 0 has the tokens p
  abbrev pub read_bundle : Bundle → List Token → Answer Reading Cursor Tables (Reason × Place)
  read_bundle b p = load (listed b endless) (cursor 0 0 p) empty

  -- the grammar of a bundle
  abbrev pub HasReading : Bundle → List Token → Reading → Type 0
  HasReading b p js = IsSheet countable (λ n q. lookup n b ≡ some q) 8 [] p js

  abbrev pub was_read : {A C T R : Type 0} → Answer A C T R → Bool
  was_read (refused r τ) = false
  was_read (read x c τ) = true

  -- whether the grammar has the tokens p, by reading them
  abbrev pub accepts : List Token → Bool
  accepts p = was_read (read_bundle [] p)

  -- the grammar has each of these, and none of these
  abbrev pub HasAll : List (List Token) → Type 0
  HasAll [] = Unit
  HasAll (p ∷ ps) = ((js : Reading) × HasReading [] p js) × HasAll ps

  abbrev pub HasNone : List (List Token) → Type 0
  HasNone [] = Unit
  HasNone (p ∷ ps) = ((js : Reading) → HasReading [] p js → ⊥) × HasNone ps
