use native.Mathlib.Omega.{arith}
use mathlib.Core.Path.{◌≡◌, ◌∙◌}
use mathlib.Core.Bool.{false}
use Rattle.base.specs.Choice.{pick}
use Rattle.space.proofs.Spaces.{white_space_runs, white_space_beyond}
use Rattle.space.specs.Space.{is_white_space, among, rising, all_runs, general_runs}
use Rattle.space.proofs.is_white_space.Goals as goal

pub returns-in-32 : goal.returns-in-32
unfolding is_white_space among
returns-in-32 c = grind arith

pub returns-in-32-2 : goal.returns-in-32-2
unfolding is_white_space among
returns-in-32-2 c = grind arith

pub returns-in-32-3 : goal.returns-in-32-3
unfolding is_white_space among
returns-in-32-3 c = grind arith

pub returns-in-32-4 : goal.returns-in-32-4
unfolding is_white_space among
returns-in-32-4 c = grind arith

pub returns-in_default : goal.returns-in_default
unfolding rising pick
returns-in_default c = let p : false ≡ rising all_runs c.args.k = grind arith in p ∙ white_space_runs c.args.k

pub returns-in_default-2 : goal.returns-in_default-2
unfolding rising pick
returns-in_default-2 c = let p : false ≡ rising all_runs c.args.k = grind arith in p ∙ white_space_runs c.args.k

pub returns-in_default-3 : goal.returns-in_default-3
unfolding rising pick
returns-in_default-3 c = let p : false ≡ rising general_runs c.args.k = grind arith in p ∙ white_space_beyond c.args.k (omega arith)

pub returns-in_default-4 : goal.returns-in_default-4
unfolding rising pick
returns-in_default-4 c = let p : false ≡ rising general_runs c.args.k = grind arith in p ∙ white_space_beyond c.args.k (omega arith)
