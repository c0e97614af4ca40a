-- The style of a layer is that of its map over the default layer, whatever other layers there are.
use Rattle.std.specs.Prelude.{◌≡◌, refl, false, [], ◌∷◌}
use Rattle.std.proofs.Math.Option.{Option, none}
use Rattle.base.specs.Bytes.{Bytes, same}
use Rattle.base.specs.Choice.{by-test}
use Rattle.base.specs.Map.{Map, lookup}
use Rattle.base.specs.Entity.{Entity}
use Rattle.base.proofs.Compare.{same_refl, same_true}
use Rattle.sheet.specs.Sheet.{Value}
use Rattle.cascade.specs.Map.{keep, map_option}
use Rattle.cascade.proofs.MapLaws.{by_option, lookup_map}
use Rattle.cascade.specs.Clause.{star, default_name}
use Rattle.cascade.specs.Cascade.{Layers}
use Rattle.cascade.specs.Style.{Settings, width_of, width_or_zero, base_width, not_star, style_of, styles}

pub lookup_not_star : {A : Type 0} (k : Bytes) (m : Map A) → same star k ≡ false → lookup k (keep not_star m) ≡ lookup k m
unfolding lookup keep
lookup_not_star k [] h = refl
lookup_not_star k (e ∷ m) h =
    by-test (same k e.key)
    (λ p. rw (keep, not_star, ← same_true k e.key p, h, same_refl k))
    (λ p.
    by-test (same star e.key)
    (λ q. rw (keep, q, p) (lookup_not_star k m h))
    (λ q. rw (keep, q, p) (lookup_not_star k m h)))

pub style_is :
    (k : Bytes) (s : Settings) (e : Entity) (v : Layers Value)
    → same star k ≡ false
    → lookup k (styles s e v) ≡ map_option (style_of s e (lookup default_name v)) (lookup k v)
unfolding styles
style_is k s e v h = rw (lookup_map k (style_of s e (lookup default_name v)) (keep not_star v), lookup_not_star k v h)

pub base_alike :
    (m : Map Value) (b c : Option (Map Value))
    → (width_of m ≡ none → width_or_zero b ≡ width_or_zero c)
    → base_width m b ≡ base_width m c
unfolding base_width
base_alike m b c h = by_option (width_of m) (λ q. rw (base_width, q) (h q)) (λ x q. rw (base_width, q))
