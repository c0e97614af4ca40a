-- What exports are handed as numbers: counts and settings.
use Rattle.std.specs.Prelude.{ℕ, Bool, List, [], ◌∷◌, eqb, Float, get_or, Some, None}
use Rattle.base.specs.Choice.{pick}
use Rattle.style.specs.declared.Settings.{Settings}
use Rattle.style.specs.declared.StyleType.{StyleType}
use Rattle.style.specs.declared.StyleType.TheVariants.{Josm, MapsMe}
use Rattle.valid.specs.declared.Counts.{Counts}

-- counts, in the order in which a load stores them
abbrev pub counts_at : List ℕ → Counts
counts_at cs =
    record
    { rules = get_or cs 0 0; selectors = get_or cs 1 0; tests = get_or cs 2 0; properties = get_or cs 3 0; numbers = get_or cs 4 0 }

-- 1 is MapsMe, any other number JOSM
unfoldable pub type_of : ℕ → StyleType
type_of k = pick (eqb k 1) MapsMe Josm

-- the first number, if there is one, is the font size multiplier
unfoldable pub settings_of : ℕ → List Float → Bool → Settings
settings_of k [] for_labels =
    record { style_type = type_of k; font_multiplier = None; for_labels = for_labels }
settings_of k (x ∷ xs) for_labels =
    record { style_type = type_of k; font_multiplier = Some x; for_labels = for_labels }
