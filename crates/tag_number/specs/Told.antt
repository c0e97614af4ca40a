-- The theory's answers as the enums of the code.
use Rattle.std.proofs.Math.Option.{Option as Maybe, none, some}
use Rattle.std.specs.Prelude.{ℤ, Option, Some, None, Result, Ok, Err, Float}
use Rattle.cascade.specs.Number.{reads, malformed, out_of_range, TagNumber as Number}
use Rattle.tag_number.specs.declared.NumberError.{NumberError}
use Rattle.tag_number.specs.declared.NumberError.TheVariants.{Malformed, OutOfRange}

unfoldable pub told : Number → Result Float NumberError
told (reads x) = Ok x
told malformed = Err Malformed
told out_of_range = Err OutOfRange

unfoldable pub layer_told : Maybe ℤ → Option ℤ
layer_told none = None
layer_told (some i) = Some i
