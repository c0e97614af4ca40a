use mathlib.Core.Path.{◌∙◌, sym, ap}
use mathlib.Core.List.{map}
use Rattle.entity.specs.Layout.{value_of}
use Rattle.cascade.specs.Match.{fits_type, tests_verdict}
use Rattle.decode.specs.Decode.{test_at, places_in, selector_in}
use Rattle.matching.specs.Matching.{fit_of, type_of}
use Rattle.table.specs.Kind.{object_kind}
use Rattle.matching.proofs.Selectors.{beyond, other_type, right_type, type_is}
use Rattle.matching.proofs.matches.Goals.{else-fits_zoom-via-then-fits_zoom+else-fits_type, else-fits_zoom-via-else-fits_zoom}
use Rattle.matching.proofs.matches.Goals as goal

pub returns-then-fits_type : goal.returns-then-fits_type
unfolding value_of
returns-then-fits_type c = right_type
    c.args.zoom
    (value_of
    c.args.entity.bytes.now
    c.args.entity.range)
    (selector_in
    c.args.tables.now.bundle.now
    c.args.tables.now.selectors.now
    c.args.tables.now.tests.now
    c.args.tables.now.numbers.now
    c.args.i)
    _
    c.fits_zoom.ensures
    c.if-fits_zoom.true _
    (c.fits_type.ensures ∙ ap (λ o. fits_type o c.args.entity.range.kind) (ap type_of (c.of.ensures ∙ ap object_kind c.word_of.ensures) ∙ sym (type_is _)))
    c.if-fits_type.true _
    (c.tests_fit.ensures
    ∙ ap
    (λ r.
    fit_of
    (tests_verdict
    (value_of
    c.args.entity.bytes.now
    c.args.entity.range)
    (map
    (test_at
    c.args.tables.now.bundle.now
    c.args.tables.now.tests.now
    c.args.tables.now.numbers.now) (places_in r)))) c.range_of.ensures)

pub returns : goal.returns
unfolding value_of
returns c = elim c.else-fits_zoom.branch [
  | else-fits_zoom-via-then-fits_zoom+else-fits_type w ↦ other_type
      c.args.zoom
      (value_of c.args.entity.bytes.now c.args.entity.range)
      (selector_in
      c.args.tables.now.bundle.now
      c.args.tables.now.selectors.now
      c.args.tables.now.tests.now
      c.args.tables.now.numbers.now
      c.args.i) _
      c.fits_zoom.ensures w.if-fits_zoom.true _
      (w.fits_type.ensures ∙ ap (λ o. fits_type o c.args.entity.range.kind) (ap type_of (w.of.ensures ∙ ap object_kind w.word_of.ensures) ∙ sym (type_is _))) w.if-fits_type.false
  | else-fits_zoom-via-else-fits_zoom w ↦ beyond
      c.args.zoom
      (value_of c.args.entity.bytes.now c.args.entity.range)
      (selector_in
      c.args.tables.now.bundle.now
      c.args.tables.now.selectors.now
      c.args.tables.now.tests.now
      c.args.tables.now.numbers.now
      c.args.i) _
      c.fits_zoom.ensures w.if-fits_zoom.false
]
