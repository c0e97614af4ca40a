use native.Mathlib.Omega.{arith}
use mathlib.Core.Path.{◌∙◌, ap}
use Rattle.styles.specs.Styles.{blank_layer, default_width}
use Rattle.styles.proofs.StylesLaws.{filled_none, star_next, layer_next, filled_all}
use Rattle.styles.proofs.filled_layers.Goals as goal

pub loop-i-init : goal.loop-i-init
unfolding blank_layer
loop-i-init c =
    let h = c.default-layers.ensures in
    -- the style's fields, six at a time
    let a = h.1 in
    let b = a.1.1.1.1.1.1 in
    let d = b.1.1.1.1.1.1 in (
      omega arith,
      filled_none _ _ _ λ k. record {
        selector = h.0 k;
        style =
            record {
              layer = a.0 k;
              z_index = a.1.0 k;
              color = a.1.1.0 k;
              fill_color = a.1.1.1.0 k;
              is_foreground_fill = a.1.1.1.1.0 k;
              background_color = a.1.1.1.1.1.0 k;
              opacity = b.0 k;
              fill_opacity = b.1.0 k;
              width = b.1.1.0 k;
              dashes = b.1.1.1.0 k;
              line_cap = b.1.1.1.1.0 k;
              casing_color = b.1.1.1.1.1.0 k;
              casing_width = d.0 k;
              casing_dashes = d.1.0 k;
              casing_line_cap = d.1.1.0 k;
              icon_image = d.1.1.1.0 k;
              fill_image = d.1.1.1.1.0 k;
              text_style = d.1.1.1.1.1 k;
            };
      },
    )

pub loop-i-preserved-then-not-is_styled : goal.loop-i-preserved-then-not-is_styled
loop-i-preserved-then-not-is_styled c = let a = c.args in
    let loop = c.loop-i in (
      omega arith,
      star_next a.tables.now.bundle.now a.tables.now.selectors.now a.tables.now.properties.now a.tables.now.numbers.now a.maps.now a.m a.kind a.layer
          a.settings loop.i loop.count _ loop.invariant.1 _ c.is_styled.ensures c.if-not-is_styled.true,
    )

pub loop-i-preserved : goal.loop-i-preserved
loop-i-preserved c = let a = c.args in
    let s = c.property_map_to_style.ensures in
    let z = rw c.at-row.ensures.of_tables at s in
    let loop = c.loop-i in (
      omega arith,
      layer_next a.tables.now.bundle.now a.tables.now.selectors.now a.tables.now.properties.now a.tables.now.numbers.now a.maps.now a.m a.kind a.layer
          a.settings loop.i loop.count _ loop.invariant.1 _
          c.is_styled.ensures
          c.if-not-is_styled.false
          (omega arith) _
          c.selector_at.ensures _
          (c.default_width-base.ensures
          ∙ ap (default_width a.tables.now.bundle.now a.tables.now.selectors.now a.tables.now.properties.now a.tables.now.numbers.now a.maps.now) c.m.view_is) _
          c.at-row.ensures.numbers _ z,
    )

pub returns : goal.returns
returns c = let a = c.args in
    let loop = c.loop-i in
    filled_all a.tables.now.bundle.now a.tables.now.selectors.now a.tables.now.properties.now a.tables.now.numbers.now a.maps.now a.m
    a.kind a.layer a.settings
    loop.i loop.count _ (omega arith) loop.invariant.1
