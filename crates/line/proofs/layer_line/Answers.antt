use borrow.Author.Rules.{rules}
use mathlib.Core.Path.{◌∙◌, ap}
use Rattle.line.specs.Put.{put_all}
use Rattle.line.proofs.LineLaws.{layer_done}
use Rattle.line.proofs.layer_line.Goals as goal

pub returns : goal.returns
returns c =
    let a = c.args in
    ap (λ o. (c.put_byte.new.self.n, o)) (search rules)
    ∙ layer_done a.out.now a.tables.now.bundle.now a.tables.now.selectors.now a.maps.now a.i _
    c.put_bytes.ensures.put
    c.selector_at.ensures
    (c.put_bytes-2.ensures.put ∙ ap (put_all _) c.layer_name.ensures)
    c.put_byte.ensures.put
