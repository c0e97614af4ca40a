-- An export's answer, told.
use Prim.Native.Nat.{ℕ, ◌≤◌}
use mathlib.Core.Path.{◌≡◌, ap, ◌∙◌}
use mathlib.Core.List.{List, [], map}
use lib.IntN.{ℤ, pos}
use lib.Ieee.{Float}
use lib.ListN.{length, take, replicate}
use lib.Seq.{take_all}
use Rattle.base.specs.Table.{zero_float, padded, stored, flat}
use Rattle.base.specs.declared.refusal.Refusal.{Refusal}
use Rattle.parser.specs.Load.{Held}
use Rattle.styles.specs.declared.EntityStyles.{EntityStyles}
use Rattle.styles.specs.declared.StyledLayer.{StyledLayer}
use Rattle.style_rows.specs.Rows.{row_words, row_floats, row_layer}
use Rattle.answers.specs.Answers.{told_load, told_count, told_styles, styled_layers}
use Rattle.answer_words.specs.declared.Answer.{Answer}
use Rattle.capi.specs.Answered.{Told, LoadAnswered, MapsAnswered, StylesAnswered, ListAnswered}
use Rattle.std.specs.Prelude.{Result, Err}
use Rattle.parser.specs.declared.Counts.{Counts}

-- a load's answer, told
pub load_told :
    {x : Result Counts Refusal × Held} {r : Result Counts Refusal} {h : Held} {s : Answer 6} {k : ℕ} {out out' : List ℕ}
    → (r, h) ≡ x
    → s ≡ told_load r
    → k ≡ s.kind
    → out' ≡ stored out 0 s.words
    → LoadAnswered x k h out out'
load_told {out = out} e f q g =
    let a = f ∙ ap (λ (y : Result Counts Refusal × Held). told_load y.0) e in
    record {
      kind = q ∙ ap (λ (s : Answer 6). s.kind) a;
      left_tables = ap (λ (y : Result Counts Refusal × Held). y.1) e;
      stored_words = g ∙ ap (λ (s : Answer 6). stored out 0 s.words) a;
    }

pub told_five : {s f : Answer 5} {k : ℕ} {out out' : List ℕ} → f ≡ s → k ≡ f.kind → out' ≡ stored out 0 f.words → Told s k out out'
told_five {out = out} e q g =
    record {
      kind = q ∙ ap (λ (s : Answer 5). s.kind) e;
      stored_words = g ∙ ap (λ (s : Answer 5). stored out 0 s.words) e;
    }

pub maps_told :
    {x : Result ℕ Refusal × List ℕ} {r : Result ℕ Refusal} {t : List ℕ} {s : Answer 5} {k : ℕ} {out out' : List ℕ}
    → (r, t) ≡ x
    → s ≡ told_count r
    → k ≡ s.kind
    → out' ≡ stored out 0 s.words
    → MapsAnswered x k t out out'
maps_told e f q g =
    record {
      told = told_five (f ∙ ap (λ (y : Result ℕ Refusal × List ℕ). told_count y.0) e) q g;
      left_maps = ap (λ (y : Result ℕ Refusal × List ℕ). y.1) e;
    }

pub styles_told :
    {x y : Result EntityStyles Refusal} {ls : List StyledLayer} {f : Answer 5} {k : ℕ} {words out out' : List ℕ} {floats : List Float}
    {layers : List ℤ}
    → y ≡ x
    → ls ≡ styled_layers y
    → length ls ≤ 32
    → words ≡ padded 0 1664 (flat (map row_words (take 32 ls)))
    → floats ≡ padded zero_float 192 (flat (map row_floats (take 32 ls)))
    → layers ≡ padded (pos 0) 32 (map row_layer (take 32 ls))
    → f ≡ told_styles y
    → k ≡ f.kind
    → out' ≡ stored out 0 f.words
    → StylesAnswered x k words floats layers out out'
styles_told {x} {y} {ls} e c h w f l a q o =
    let t : take 32 ls ≡ styled_layers x = take_all 32 ls h ∙ c ∙ ap styled_layers e in
    record {
      told = told_five (a ∙ ap told_styles e) q o;
      left_words = w ∙ ap (λ (ls : List StyledLayer). padded 0 1664 (flat (map row_words ls))) t;
      left_floats = f ∙ ap (λ (ls : List StyledLayer). padded zero_float 192 (flat (map row_floats ls))) t;
      left_layers = l ∙ ap (λ (ls : List StyledLayer). padded (pos 0) 32 (map row_layer ls)) t;
    }

-- after a refusal all that was lent for styles is zero
pub refused_zero :
    {x : Result EntityStyles Refusal} {e : Refusal} {r : ℕ} {words : List ℕ} {floats : List Float} {layers : List ℤ} {out out' : List ℕ}
    → x ≡ Err e
    → StylesAnswered x r words floats layers out out'
    → (words ≡ replicate 1664 0) × ((floats ≡ replicate 192 zero_float) × (layers ≡ replicate 32 (pos 0)))
unfolding styled_layers
refused_zero {x} q s =
    let t : styled_layers x ≡ [] = ap styled_layers q in (
      s.left_words ∙ ap (λ (ls : List StyledLayer). padded 0 1664 (flat (map row_words ls))) t,
      (
        s.left_floats ∙ ap (λ (ls : List StyledLayer). padded zero_float 192 (flat (map row_floats ls))) t,
        s.left_layers ∙ ap (λ (ls : List StyledLayer). padded (pos 0) 32 (map row_layer ls)) t,
      ),
    )

pub list_told :
    {x : Result ℕ Refusal × List ℕ} {q : Result ℕ Refusal} {list : List ℕ} {f : Answer 5} {k : ℕ} {out out' : List ℕ}
    → (q, list) ≡ x
    → f ≡ told_count q
    → k ≡ f.kind
    → out' ≡ stored out 0 f.words
    → ListAnswered x k list out out'
list_told e a k o =
    record {
      told = told_five (a ∙ ap (λ (y : Result ℕ Refusal × List ℕ). told_count y.0) e) k o;
      left_list = ap (λ (y : Result ℕ Refusal × List ℕ). y.1) e;
    }
