use Rattle.std.proofs.Common.{◌∙◌}
use Rattle.style.specs.Style.{style_at, base_width}
use Rattle.style.proofs.GetLaws.{or_else}
use Rattle.style.proofs.property_map_to_style.Goals as goal

pub returns : goal.returns
unfolding style_at base_width
returns c = simp (
  ← c.text_style.ensures,
  ← c.text-2.ensures,
  ← c.text.ensures,
  ← c.line_cap-2.ensures,
  ← c.dashes-2.ensures,
  ← c.color-4.ensures,
  ← c.line_cap.ensures,
  ← c.dashes.ensures,
  ← c.color-3.ensures,
  ← c.is_foreground_fill.ensures,
  ← c.color-2.ensures,
  ← c.color.ensures,
  ← c.z_index.ensures,
  ← c.casing_width-casing.ensures,
  ← (c.unwrap_or-base.ensures ∙ or_else c.number-width.result c.args.default_width),
  ← c.number-width.ensures,
  ← c.number-fill_opacity.ensures,
  ← c.number-opacity.ensures,
)
