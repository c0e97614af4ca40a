use mathlib.Core.Path.{◌∙◌, ap}
use Rattle.walk.specs.Maps.{maps_of}
use Rattle.capi.proofs.AnswerLaws.{maps_told}
use Rattle.capi.proofs.mapcss_property_maps.Goals as goal

pub returns : goal.returns
returns c = let a = c.args in maps_told (c.property_maps.ensures.maps_after ∙ ap (λ n. maps_of a.bundle.now a.rules.now a.selectors.now a.tests.now a.properties.now a.numbers.now n a.zoom a.entity.now) c.counts_at-n.ensures) c.told_count.ensures c.tell.ensures.kind c.tell.ensures.stored_words
