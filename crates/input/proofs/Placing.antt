-- Ranges of a text, moved to where the text stands in the bundle.
use Prim.Native.Nat.{ℕ, ◌+◌, ◌-◌, ◌<◌, ◌≤◌}
use native.Mathlib.Omega.{arith}
use mathlib.Core.Path.{◌≡◌, ap}
use lib.ListN.{length, length-drop, length-take}
use Rattle.base.specs.Bytes.{Bytes, within}
use Rattle.base.specs.declared.Range.{Range}
use Rattle.cursor.specs.declared.Cursor.{Cursor}
use Rattle.token_laws.proofs.Consuming.{steps_consume}
use Rattle.token_laws.specs.Claims.{Between}
use Rattle.token.specs.Step.{step_of}
use Rattle.std.specs.Prelude.{Result, Ok}
use Rattle.token_kind.specs.declared.LexerError.{LexerError}
use Rattle.token.specs.declared.Step.{Step}
use Rattle.token.specs.declared.Step.TheVariants.{Took}
use Rattle.token_kind.specs.declared.Token.{Token}
use Rattle.input.specs.Text.{Fits}

pub both_fit :
    (from a b : ℕ) (r : Range)
    → Between a b r
    → from + b < 0x1_0000_0000_0000_0000
    → (from + r.from < 0x1_0000_0000_0000_0000) × (from + r.to < 0x1_0000_0000_0000_0000)
both_fit from a b r w h =
    let o : r.from ≤ r.to = w.ordered in
    let e : r.to ≤ b = w.ends in
    (omega arith, omega arith)

-- the tokens of a part of a slice
pub next_fits :
    (bundle : Bytes) (r : Range) (c d : Cursor) (t : Token) (line character : ℕ)
    → length bundle < 0x1_0000_0000_0000_0000
    → step_of (within r bundle) c ≡ Ok (Took t line character d)
    → Fits r.from t
next_fits bundle r c d t line character h e =
    let w = steps_consume (within r bundle) c d t line character e in
    let m : w.place < d.at = w.moves in
    let i : d.at ≤ length (within r bundle) = w.in_text in
    let l : length (within r bundle) ≤ length bundle - r.from = length_within in
    (w.place, (d.at, (w.inside, omega arith)))
  where
    length_within : length (within r bundle) ≤ length bundle - r.from
    length_within = simp (length-take, length-drop) (omega arith)

pub took_same : (line character : ℕ) (d : Cursor) {t u : Token} → t ≡ u → ◌≡◌ {A = Result Step LexerError} (Ok (Took t line character d)) (Ok (Took u line character d))
took_same line character d e = ap (λ t. Ok (Took t line character d)) e
