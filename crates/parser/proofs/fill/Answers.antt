use Rattle.keep.specs.Encode.{lengths_by}
use Rattle.keep.specs.Lent.{lent_in}
use Rattle.keep.proofs.Lending.{lengths_stay}
use Rattle.parser.specs.Load.{held_by}
use Rattle.parser.specs.declared.Counts.{Counts}
use Rattle.std.specs.Prelude.{Ok}
use Rattle.parser.proofs.LoadLaws.{load_stopped, load_ended, again_zero}
use mathlib.Core.Path.{◌∙◌, ap}
use Rattle.parser.proofs.fill.Goals as goal

pub returns-in-Err-clause-loaded : goal.returns-in-Err-clause-loaded
returns-in-Err-clause-loaded c = again_zero (lengths_by c.args.store.now) (lengths_by c.read_bundle.new.store) c.blank-in-Err.ensures.zero (lengths_stay c.read_bundle.new.store c.args.store.now (c.read_bundle.ensures.lends ∙ c.blank.ensures.lends))
    (load_stopped c.args.bundle.now (lengths_by c.args.store.now) (lent_in c.blank.new.store) (lent_in c.read_bundle.new.store) c.blank.ensures.zero c.blank.ensures.tally c.read_bundle.ensures.read c.in-Err.e c.in-Err.is)

pub returns-in-Ok-clause-loaded : goal.returns-in-Ok-clause-loaded
returns-in-Ok-clause-loaded c = ap (λ (k : Counts). (Ok k, held_by c.read_bundle.new.store)) c.from.ensures ∙ load_ended c.args.bundle.now (lengths_by c.args.store.now) (lent_in c.blank.new.store) (lent_in c.read_bundle.new.store) c.blank.ensures.zero c.blank.ensures.tally c.read_bundle.ensures.read c.in-Ok.is
