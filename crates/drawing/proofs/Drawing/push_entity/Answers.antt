use mathlib.Core.Path.{refl, ◌∙◌}
use mathlib.Core.List.{[]}
use lib.ListN.{length}
use Rattle.base.proofs.Options.{handed_on}
use Rattle.entity.specs.Layout.{value_of}
use Rattle.cascade.specs.Style.{layer_tag}
use Rattle.tag_number.specs.Told.{layer_told}
use Rattle.drawing.proofs.GatherLaws.{told_stopped, entity_refused, entity_nan, entity_pushed}
use Rattle.drawing.proofs.Drawing.push_entity.Goals as goal

pub returns-in_err-m-clause-keys_after : goal.returns-in_err-m-clause-keys_after
returns-in_err-m-clause-keys_after c = let a = c.args in let t = a.self.now.tables.now in
    told_stopped _ _ _ _ refl (handed_on _ c.from_residual.ensures)
    ∙ entity_refused t.bundle.now t.selectors.now t.properties.now t.numbers.now a.self.now.for_labels
    a.place.multipolygons a.place.place a.entity.range.kind
    a.entity.range.id (layer_told (layer_tag (value_of a.entity.bytes.now a.entity.range))) (length a.keys.now) []
    _ _ _ c.walk_entity.ensures _ c.in_err-m.was

pub returns-then-any_nan-clause-keys_after : goal.returns-then-any_nan-clause-keys_after
returns-then-any_nan-clause-keys_after c = let a = c.args in let t = a.self.now.tables.now in
    entity_nan t.bundle.now t.selectors.now t.properties.now t.numbers.now a.self.now.for_labels
    a.place.multipolygons a.place.place a.entity.range.kind
    a.entity.range.id (layer_told (layer_tag (value_of a.entity.bytes.now a.entity.range))) (length a.keys.now) []
    _ _ _ c.walk_entity.ensures
    _ c.in_ok-m.was _ c.any_nan.ensures c.if-any_nan.true _ c.refuse.ensures

pub returns-clause-keys_after : goal.returns-clause-keys_after
returns-clause-keys_after c = let a = c.args in let t = a.self.now.tables.now in
    entity_pushed t.bundle.now t.selectors.now t.properties.now t.numbers.now a.self.now.for_labels
    a.place.multipolygons a.place.place a.entity.range.kind
    a.entity.range.id (layer_told (layer_tag (value_of a.entity.bytes.now a.entity.range))) (length a.keys.now) []
    _ _ _ c.walk_entity.ensures
    _ c.in_ok-m.was _ c.any_nan.ensures c.if-any_nan.false _ c.push_layers.ensures.keys_after
