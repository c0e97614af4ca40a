-- What each answer is in numbers: crates/capi/src/lib.rt has them as a table.
use Rattle.std.specs.Prelude.{ℕ, List, [], take, Option, Some, None, Result, Ok, Err}
use Rattle.answer_words.specs.Words.{five, six, refused, counted}
use Rattle.answer_words.specs.declared.Answer.{Answer}
use Rattle.color.specs.declared.Color.{Color}
use Rattle.base.specs.declared.refusal.Refusal.{Refusal}
use Rattle.parser.specs.declared.Counts.{Counts}
use Rattle.styles.specs.declared.EntityStyles.{EntityStyles}
use Rattle.styles.specs.declared.StyledLayer.{StyledLayer}

unfoldable pub told_load : Result Counts Refusal → Answer 6
told_load (Err x) = six x.number x.number x.reason x.text x.line x.character 0
told_load (Ok n) = six 0 n.rules n.selectors n.tests n.properties n.numbers n.colors

-- of maps how many layers, of a list how many entries
unfoldable pub told_count : Result ℕ Refusal → Answer 5
told_count (Err x) = refused x
told_count (Ok n) = counted n

-- how many layers are styled
unfoldable pub told_styles : Result EntityStyles Refusal → Answer 5
told_styles (Err x) = refused x
told_styles (Ok s) = counted s.count

-- the styled layers: none after a refusal
unfoldable pub styled_layers : Result EntityStyles Refusal → List StyledLayer
styled_layers (Err x) = []
styled_layers (Ok s) = take s.count s.layers

unfoldable pub told_color : Option Color → Answer 5
told_color None = five 0 0 0 0 0 0
told_color (Some c) = five 0 1 c.r c.g c.b 0

unfoldable pub told_canvas : Result (Option Color) Refusal → Answer 5
told_canvas (Err e) = refused e
told_canvas (Ok c) = told_color c
