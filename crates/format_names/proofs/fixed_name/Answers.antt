-- `fixed_name` meets its contract: a format finds its row among its candidates. Assumes nothing.
use mathlib.Core.Path.{◌∙◌}
use native.Mathlib.Omega.{arith}
use Rattle.hexadecimal.specs.Hex.{bytes_of}
use Rattle.hexadecimal.proofs.HexLaws.{length_bytes}
use Rattle.format_names.proofs.CandidateLaws.{none_empty, named_nothing, named_one, has_rows, named_rows_lem}
use Rattle.format_names.proofs.fixed_name.Goals as goal

pub returns-then-n-eq0 : goal.returns-then-n-eq0
returns-then-n-eq0 c = (none_empty (bytes_of c.args.f.now) (length_bytes c.args.f.now c.requires ∙ c.if-n-eq0.true), tt)

pub named-requires : goal.named-requires
named-requires c = has_rows _ _ _ (record { is_text = c.requires; some = omega (arith, c.if-n-eq0.false); word = c.word2_at.result; first = c.word2_at.ensures; are = c.candidates_of.ensures }) c.in-Rows.is

pub returns-in-Nothing : goal.returns-in-Nothing
returns-in-Nothing c = (named_nothing _ (record { is_text = c.requires; some = omega (arith, c.if-n-eq0.false); word = c.word2_at.result; first = c.word2_at.ensures; are = c.candidates_of.ensures }) c.in-Nothing.is, tt)

pub returns-in-One : goal.returns-in-One
returns-in-One c = named_one _ _ (record { is_text = c.requires; some = omega (arith, c.if-n-eq0.false); word = c.word2_at.result; first = c.word2_at.ensures; are = c.candidates_of.ensures }) c.in-One.is

pub returns-in-Rows : goal.returns-in-Rows
returns-in-Rows c = (c.named.ensures.0 ∙ named_rows_lem _ _ _ (record { is_text = c.requires; some = omega (arith, c.if-n-eq0.false); word = c.word2_at.result; first = c.word2_at.ensures; are = c.candidates_of.ensures }) c.in-Rows.is, c.named.ensures.1)
