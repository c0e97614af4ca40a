-- An entity, as a value.
use Rattle.std.specs.Prelude.{ℕ}
use Rattle.base.specs.Bytes.{Bytes}
use Rattle.base.specs.Map.{Map}

pub record Entity : Type 0 where
  -- 0 node, 1 open way or multipolygon, 2 closed
  pub kind : ℕ
  pub id : ℕ
  pub tags : Map Bytes
