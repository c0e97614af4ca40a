use Prim.Native.Nat.{◌+◌, ◌*◌}
use borrow.Author.Rules.{rules}
use mathlib.Core.Path.{◌∙◌, ap}
use lib.ListN.{get_or}
use Rattle.line.specs.Lines.{blank_number}
use Rattle.line.specs.Put.{put_all}
use Rattle.line.proofs.LineLaws.{property_done}
use Rattle.line.proofs.property_line.Goals as goal

pub returns : goal.returns
returns c =
    let a = c.args in
    ap (λ o. (c.put_byte.new.self.n, o)) (search rules)
    ∙ property_done a.out.now a.tables.now.bundle.now a.tables.now.properties.now (get_or a.maps.now (a.i * 131 + 2 + a.j) 0) _ _
    c.property_number-p.ensures
    c.name_of.ensures
    c.put_bytes.ensures.put
    (c.put_number.ensures.put ∙ ap (λ x. put_all (c.put_bytes.new.self.n, c.put_bytes.new.self.out.now) (blank_number x)) c.from.ensures)
    c.put_byte.ensures.put
