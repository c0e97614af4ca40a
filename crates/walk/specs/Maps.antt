-- The property maps of one entity, from tables, a bundle and bytes that may be anything: refusals 22, 7, 2, then those of the walk.
use Rattle.std.specs.Prelude.{ℕ, ◌≤◌, Bool, false, List, ltb, Float, length, replicate, Result, Ok, Err}
use Rattle.base.specs.Bytes.{Bytes}
use Rattle.base.specs.Choice.{pick}
use Rattle.base.specs.Refusal.{refusal, of_entity}
use Rattle.base.specs.declared.refusal.Refusal.{Refusal}
use Rattle.entity.specs.Layout.{single_of, value_of}
use Rattle.entity.specs.declared.EntityRange.{EntityRange}
use Rattle.cascade.specs.Clause.{layer_name}
use Rattle.cascade.specs.Match.{verdict}
use Rattle.valid.specs.Valid.{tables_sound}
use Rattle.valid.specs.declared.Counts.{Counts}
use Rattle.decode.specs.Decode.{selector_in, name_at}
use Rattle.walk.specs.Run.{Run, stop, going, seek, rules_of}
use Rattle.base.specs.Option.{on_result}

-- a table of maps that holds none
abbrev pub no_rows : List ℕ
no_rows = replicate 4323 0

abbrev pub refused_maps : Refusal → Result ℕ Refusal × List ℕ
refused_maps e = (Err e, no_rows)

-- the answer and the table: zero after a refusal, which names the stream of the entity and its place there
unfoldable pub finish : Bool → ℕ → Run → Result ℕ Refusal × List ℕ
finish multipolygons place (stop k) = refused_maps (of_entity k multipolygons place)
finish multipolygons place (going n t) = (Ok n, t)

-- the walk alone, of an entity that is read, through the first `total` rules; more rules than a table takes are 22
unfoldable pub walk_of :
    Bytes → List ℕ → List ℕ → List ℕ → List ℕ → List Float → ℕ → ℕ → Bytes → EntityRange → Bool → ℕ → Result ℕ Refusal × List ℕ
walk_of bundle rules selectors tests properties numbers total zoom entity e multipolygons place =
    pick (ltb 16384 total) (refused_maps (refusal 22 0 0 0 0))
    (finish multipolygons place
    (rules_of
    (name_at bundle properties)
    (λ s. layer_name (selector_in bundle selectors tests numbers s))
    (λ s. verdict zoom (value_of entity e) (selector_in bundle selectors tests numbers s))
    rules no_rows 0 0 total))

unfoldable pub maps_of : Bytes → List ℕ → List ℕ → List ℕ → List ℕ → List Float → Counts → ℕ → Bytes → Result ℕ Refusal × List ℕ
maps_of bundle rules selectors tests properties numbers n zoom entity =
    pick (tables_sound rules selectors tests properties numbers n (length bundle))
    (on_result (single_of entity) refused_maps λ e.
    walk_of bundle rules selectors tests properties numbers n.rules zoom entity e false 0)
    (refused_maps (refusal 22 0 0 0 0))

-- no answer has more than 32 layers
abbrev pub few : Result ℕ Refusal → Type 0
few (Err e) = Unit {0}
few (Ok n) = n ≤ 32

-- the place of a layer's name among the first n of a table of maps, else n; n where there are no so many rows
unfoldable pub layer_place : (ℕ → Bytes) → List ℕ → ℕ → Bytes → ℕ
layer_place layer t n name = pick (ltb 32 n) n (seek layer t name 0 n)
