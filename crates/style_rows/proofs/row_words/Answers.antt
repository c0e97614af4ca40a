use mathlib.Core.Path.{◌∙◌, sym, ap}
use Prim.Native.Nat.{ℕ}
use lib.ListN.{length-replicate}
use Rattle.style_rows.specs.Rows.{row_words, color_numbers, text_numbers}
use Rattle.style_rows.proofs.RowLaws.{all_stored, stored_as}
use Rattle.style_rows.proofs.Widths.{row_stored, words_width}
use Rattle.style_rows.proofs.row_words.Goals as goal

pub returns : goal.returns
returns c =
    row_stored c.args.x _ 0
    (stored_as _ 0 c.store_all.ensures c.scalars.ensures)
    (stored_as _ 11 c.store_all-2.ensures c.color_numbers.ensures)
    (stored_as _ 15 c.store_all-3.ensures c.color_numbers-2.ensures)
    (stored_as _ 19 c.store_all-4.ensures c.color_numbers-3.ensures)
    (stored_as _ 23 c.store_all-5.ensures c.color_numbers-4.ensures)
    (stored_as _ 27 c.store_all-6.ensures (c.color_numbers-5.ensures ∙ ap color_numbers c.text_color.ensures))
    (stored_as _ 31 c.store_all-7.ensures c.dash_numbers.ensures)
    (stored_as _ 34 c.store_all-8.ensures c.dash_numbers-2.ensures)
    (stored_as _ 37 c.store_all-9.ensures c.text_numbers.ensures)
    (stored_as _ 42 c.store_all-10.ensures c.text_numbers-2.ensures)
    (stored_as _ 47 c.store_all-11.ensures (c.text_numbers-3.ensures ∙ ap text_numbers c.text.ensures))
    ∙ all_stored _ (row_words c.args.x) (length-replicate {A = ℕ} 52 0 ∙ sym (words_width c.args.x))
