use mathlib.Core.Path.{◌∙◌, ap}
use Rattle.std.specs.Prelude.{Ok, Err}
use Rattle.cascade.specs.Number.{tag_number}
use Rattle.matching.specs.Matching.{comparison_of}
use Rattle.matching.proofs.Tests.{number_fit_lem}
use Rattle.matching.proofs.number_fits.Goals as goal

pub returns-in-Err-Malformed : goal.returns-in-Err-Malformed
returns-in-Err-Malformed c = number_fit_lem
    (comparison_of c.args.kind)
    c.args.bound
    (tag_number c.args.v.now) _ _ c.tag_number.ensures
    (c.in-Err-Malformed.is ∙ ap Err c.in-Err-Malformed.field-0-is)

pub returns-in-Err-OutOfRange : goal.returns-in-Err-OutOfRange
returns-in-Err-OutOfRange c = number_fit_lem
    (comparison_of c.args.kind)
    c.args.bound
    (tag_number c.args.v.now) _ _ c.tag_number.ensures
    (c.in-Err-OutOfRange.is ∙ ap Err c.in-Err-OutOfRange.field-0-is)

pub returns-in-Ok : goal.returns-in-Ok
returns-in-Ok c = ap Ok c.compare.ensures
    ∙ number_fit_lem
    (comparison_of c.args.kind)
    c.args.bound
    (tag_number c.args.v.now) _ _
    c.tag_number.ensures
    c.in-Ok.is
