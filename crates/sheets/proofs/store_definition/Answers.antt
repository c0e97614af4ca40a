use mathlib.Core.Path.{◌∙◌}
use Rattle.base.proofs.Options.{handed_on, or_some, or_none, or_err}
use Rattle.sheets.proofs.SheetLaws.{no_room_color, room_color, defined_as, no_definition}
use Rattle.keep.specs.Answers.{Reads, refuses, done}
use Rattle.input.specs.Text.{token_of, name_in}
use Rattle.input.specs.Source.{spot}
use Rattle.grammar.specs.Reader.{definition}
use Rattle.grammar.specs.Input.{read, on_option}
use Rattle.grammar.specs.View.{on_color, color_of}
use Rattle.base.specs.Choice.{via_with}
use mathlib.Core.List.{[], ◌∷◌}
use native.Mathlib.Omega.{arith}
use borrow.Enum.Refused.{opened}
use Rattle.sheets.proofs.store_definition.Goals as goal

pub returns-in_err-ok_or-clause-read : goal.returns-in_err-ok_or-clause-read
unfolding token_of color_of on_color on_option
returns-in_err-ok_or-clause-read c = rw (handed_on _ c.from_residual.ensures) (defined_as (Reads _ _ _ _ _) c.args.text.bundle.now c.args.text.source c.args.name c.args.c _ (λ t τ. read (definition (name_in c.args.text.bundle.now c.args.name) t) (spot c.args.text.source c.args.c) τ) c.in-Color.is (no_room_color (Reads _ _ _ _ _) c.args.text.bundle.now c.args.text.source c.args.name c.in-Color.x c.args.c _ _ (via_with c.keep_color.ensures.kept (or_none c.ok_or.ensures.ok_part c.in_err-ok_or.was)) (refuses (or_err _ c.ok_or.ensures.value c.in_err-ok_or.was ∙ c.refuse_reached.ensures))))

pub returns-in_ok-ok_or-clause-read : goal.returns-in_ok-ok_or-clause-read
unfolding token_of color_of on_color on_option
returns-in_ok-ok_or-clause-read c = defined_as (Reads _ _ _ _ _) c.args.text.bundle.now c.args.text.source c.args.name c.args.c _ (λ t τ. read (definition (name_in c.args.text.bundle.now c.args.name) t) (spot c.args.text.source c.args.c) τ) c.in-Color.is (room_color (Reads _ _ _ _ _) c.args.text.bundle.now c.args.text.source c.args.name c.in-Color.x c.args.c _ _ (via_with c.keep_color.ensures.kept (or_some c.ok_or.ensures.ok_part c.in_ok-ok_or.was)) (done _ (omega arith)))

pub returns-in_default-clause-read : goal.returns-in_default-clause-read
returns-in_default-clause-read c = no_definition (Reads _ _ _ _ _) c.args.text.bundle.now c.args.text.source (6 ∷ []) c.args.t c.args.name c.args.c _ (λ τ. read (definition (name_in c.args.text.bundle.now c.args.name) (token_of c.args.text.bundle.now c.args.t)) (spot c.args.text.source c.args.c) τ) (opened c.in_default.in_default-own.keys2) tt (done _ (omega arith))
