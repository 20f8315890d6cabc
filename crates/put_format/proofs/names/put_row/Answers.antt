-- `names::put_row` meets its contract: a name of two bytes is one word (`two_bytes_put`); of any other the first bytes of two words are its digits. Assumes nothing.
use mathlib.Core.Path.{sym, ◌∙◌}
use native.Mathlib.Omega.{arith}
use lib.ListN.{length}
use lib.Seq.{length-take-le}
use Rattle.format_names.proofs.NameLaws.{name_short}
use Rattle.put_format.proofs.LeafLaws.{word_known, two_bytes_put, words_length, name_text_lem, text_short, row_put}
use Rattle.put_format.proofs.names.put_row.Goals as goal

pub put_word4-requires : goal.put_word4-requires
put_word4-requires c = (word_known _ _ _ (sym c.is_word.ensures ∙ c.if-is_word.true)).1

pub overflow_add-result : goal.overflow_add-result
overflow_add-result c = omega (arith, c.requires.low)

pub returns-then-is_word : goal.returns-then-is_word
returns-then-is_word c = two_bytes_put c.args.i c.requires.known _ c.args.at c.args.out.now _ (word_known (length c.args.out.now) c.args.at c.args.i (sym c.is_word.ensures ∙ c.if-is_word.true)).0 c.low_digits.ensures c.put_word4.ensures

pub overflow_mul-len : goal.overflow_mul-len
overflow_mul-len c = omega (arith, c.name_length-len.ensures, name_short c.args.i c.requires.known)

pub slice_bounds-text-end : goal.slice_bounds-text-end
slice_bounds-text-end c = omega (arith, c.name_length-len.ensures, name_short c.args.i c.requires.known, words_length _ _ c.put_word8.ensures c.put_word8-2.ensures)

pub slice_bounds-put_at-end : goal.slice_bounds-put_at-end
slice_bounds-put_at-end c = sym (length-take-le _ _ (omega (arith, c.name_length-len.ensures, name_short c.args.i c.requires.known, words_length _ _ c.put_word8.ensures c.put_word8-2.ensures)))

pub put_at-end-requires : goal.put_at-end-requires
put_at-end-requires c = omega (arith, c.requires.low, text_short c.args.i c.requires.known (name_text_lem c.args.i c.requires.known c.low_digits-2.ensures c.high_digits.ensures c.name_length-len.ensures c.put_word8.ensures c.put_word8-2.ensures))

pub returns : goal.returns
returns c = row_put c.args.i c.requires.known _ c.args.at _ c.args.out.now _ (name_text_lem c.args.i c.requires.known c.low_digits-2.ensures c.high_digits.ensures c.name_length-len.ensures c.put_word8.ensures c.put_word8-2.ensures) c.put_at-end.ensures
