-- Counts and settings as the code makes them.
use Prim.Native.Nat.{ℕ}
use mathlib.Core.Path.{◌≡◌, refl}
use mathlib.Core.Bool.{Bool}
use mathlib.Core.List.{List, [], ◌∷◌}
use lib.Ieee.{Float}
use lib.ListN.{get_or}
use Rattle.std.specs.Prelude.{Option, slice_get}
use Rattle.valid.specs.declared.Counts.{Counts}
use Rattle.style.specs.declared.Settings.{Settings}
use Rattle.style.specs.declared.StyleType.{StyleType}
use Rattle.settings.specs.Settings.{counts_at, type_of, settings_of}

pub counts_read :
    (cs : List ℕ) (a b c d e : ℕ)
    → a ≡ get_or cs 0 0
    → b ≡ get_or cs 1 0
    → c ≡ get_or cs 2 0
    → d ≡ get_or cs 3 0
    → e ≡ get_or cs 4 0
    → ◌≡◌ {A = Counts} (record { rules = a; selectors = b; tests = c; properties = d; numbers = e }) (counts_at cs)
counts_read cs a b c d e p q r s t = rw (p, q, r, s, t) refl

pub settings_are :
    (k : ℕ) (font : List Float) (b : Bool) {t : StyleType} {m : Option Float}
    → t ≡ type_of k
    → m ≡ slice_get font 0
    → ◌≡◌ {A = Settings} (record { style_type = t; font_multiplier = m; for_labels = b }) (settings_of k font b)
unfolding settings_of
settings_are k [] b d e = rw (d, e) refl
settings_are k (x ∷ font) b d e = rw (d, e) refl
