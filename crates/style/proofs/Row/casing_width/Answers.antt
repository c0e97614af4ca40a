use Rattle.style.proofs.Row.casing_width.Goals as goal

pub returns : goal.returns
returns c = simp (
  ← c.full_casing.ensures,
  ← c.casing_only.ensures,
  ← c.casing_multiplier.ensures,
  ← c.delta-delta.ensures,
  ← c.number-one.ensures,
)
