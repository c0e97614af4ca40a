use Prim.Native.Nat.{ℕ, ◌^◌}
use native.Mathlib.Nat.{zero-add}
use mathlib.Core.List.{List, [], ◌∷◌}
use mathlib.Core.Path.{◌≡◌, refl, ◌∙◌, ap}
use lib.Ieee.{Float, nan, binary64, of_bits, of_int}
use lib.ListN.{get_or}
use Rattle.cascade.specs.Number.{whole}
use Rattle.tag_number.proofs.Scaled.{tens_from, tens_at}
use Rattle.tag_number.proofs.ten.Goals as goal

table : List Float
table =
    of_bits binary64 4607182418800017408
    ∷ of_bits binary64 4621819117588971520
    ∷ of_bits binary64 4636737291354636288
    ∷ of_bits binary64 4652007308841189376
    ∷ of_bits binary64 4666723172467343360
    ∷ of_bits binary64 4681608360884174848
    ∷ of_bits binary64 4696837146684686336
    ∷ of_bits binary64 4711630319722168320
    ∷ of_bits binary64 4726483295884279808
    ∷ of_bits binary64 4741671816366391296
    ∷ of_bits binary64 4756540486875873280
    ∷ of_bits binary64 4771362005757984768
    ∷ of_bits binary64 4786511204640096256
    ∷ of_bits binary64 4801453603149578240
    ∷ of_bits binary64 4816244402031689728
    ∷ of_bits binary64 4831355200913801216
    ∷ of_bits binary64 4846369599423283200
    ∷ of_bits binary64 4861130398305394688
    ∷ of_bits binary64 4876203697187506176
    ∷ of_bits binary64 4891288408196988160
    ∷ of_bits binary64 4906019910204099648
    ∷ of_bits binary64 4921056587992461136
    ∷ of_bits binary64 4936209963552724370 ∷ []

table_is : table ≡ tens_from 0 23
unfolding table tens_from of_bits of_int
table_is = refl

pub returns : goal.returns
unfolding table
returns c = ap (λ (l : List Float). get_or l c.args.k nan) table_is
    ∙ tens_at 0 23 c.args.k c.requires
    ∙ ap (λ (i : ℕ). whole (10 ^ i)) (zero-add c.args.k)
