use mathlib.Core.Path.{◌∙◌}
use Rattle.base.proofs.Options.{handed_on, or_some, or_none, or_err}
use Rattle.base.specs.Choice.{via}
use Rattle.keep.proofs.Laws.{yes_way, no_way}
use Rattle.rules.specs.Rules.{Starts, bad_start, colors_block, object}
use Rattle.grammar.specs.View.{on_identifier}
use Rattle.input.specs.Text.{token_of}
use Rattle.grammar.specs.Reader.{is_colors}
use Rattle.grammar.specs.Input.{after}
use Rattle.rules.proofs.RuleLaws.{no_object, an_object}
use Rattle.rules.proofs.word_start.Goals as goal

pub returns-then-is_colors : goal.returns-then-is_colors
unfolding is_colors token_of on_identifier after
returns-then-is_colors c = λ τ B C O K. yes_way (Starts _ _ _ _ _) _ _ _ (via c.is_colors.ensures c.if-is_colors.true) (colors_block)

pub returns-in_err-kind : goal.returns-in_err-kind
unfolding is_colors token_of on_identifier after
returns-in_err-kind c = rw (handed_on _ c.from_residual.ensures) (λ τ B C O K. no_way (Starts _ _ _ _ _) _ _ _ (via c.is_colors.ensures c.if-is_colors.false) (no_object (Starts _ _ _ _ _) _ _ _ _ (via c.object_type.ensures (or_none c.ok_or.ensures.ok_part c.in_err-kind.was)) (bad_start (or_err _ c.ok_or.ensures.value c.in_err-kind.was ∙ c.refuse.ensures))))

pub returns : goal.returns
unfolding is_colors token_of on_identifier after
returns c = λ τ B C O K. no_way (Starts _ _ _ _ _) _ _ _ (via c.is_colors.ensures c.if-is_colors.false) (an_object (Starts _ _ _ _ _) _ _ _ _ (via c.object_type.ensures (or_some c.ok_or.ensures.ok_part c.in_ok-kind.was)) (λ y p. object y p))
