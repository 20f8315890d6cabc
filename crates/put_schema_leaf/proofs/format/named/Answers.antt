-- `named` meets its contract: digits by numbers are digits by bytes (`digits_text_lem`). Assumes nothing.
use mathlib.Core.Path.{sym, ap, ◌∙◌}
use Rattle.std.specs.Prelude.{Some}
use Prim.Native.Nat.{ℕ, ◌*◌}
use native.Mathlib.Omega.{arith}
use Rattle.sheets.specs.Text.{hex}
use Rattle.hexadecimal.proofs.PartLaws.{length_hex}
use Rattle.words.proofs.DigitLaws.{hex_bytes_small}
use Rattle.format_names.specs.Names.{row_at}
use Rattle.format_names.proofs.NameLaws.{row_bytes, name_short}
use Rattle.put_schema_leaf.proofs.FormatLaws.{digits_text_lem}
use Rattle.put_schema_leaf.proofs.format.named.Goals as goal

pub overflow_mul-result : goal.overflow_mul-result
overflow_mul-result c = omega (arith, c.name_length.ensures, name_short c.args.i c.requires)

pub returns : goal.returns
returns c =
    let name = (row_at c.args.i).name in
    ap Some (digits_text_lem (hex name) (hex_bytes_small name (row_bytes c.args.i)) _ _ _ c.low_digits.ensures c.high_digits.ensures (ap (λ (n : ℕ). 2 * n) c.name_length.ensures ∙ sym (length_hex name)))
