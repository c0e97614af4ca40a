-- `import_file` and `parse` fall by the imports that are left, `parse` after `import_file`; the loop of `parse` falls by what is left of the text.
use Rattle.std.proofs.Common.{◌+◌, ◌*◌, ◌≡◌}
use Rattle.keep.specs.Lent.{lent_in, lends}
use Rattle.input.specs.Text.{left}
use Rattle.sheets.proofs.SheetLaws.{Parsing}
use Rattle.sheets.proofs.+import_file_parse.Given as goal

abbrev pub decreases-import_file : goal.decreases-import_file
decreases-import_file l = 2 * l.depth

abbrev pub decreases-parse : goal.decreases-parse
decreases-parse l = 2 * l.depth + 1

abbrev pub invariant-parse-loop-name : goal.invariant-parse-loop-name
invariant-parse-loop-name l =
    Parsing l.text.bundle.now l.text.source l.depth
    (lent_in l.initial.store) l.at
    (lent_in l.store)
    × (lends l.store ≡ lends l.initial.store)

abbrev pub decreases-parse-loop-name : goal.decreases-parse-loop-name
decreases-parse-loop-name l = left l.text.bundle.now l.text.source l.at
