-- `from_integer_type` meets its contract: there is such a place, or it is refused. Assumes nothing.
use mathlib.Core.Path.{refl, sym, ap, ◌∙◌}
use Prim.Native.Nat.{ℕ}
use Rattle.sheets.specs.Refusal.{undefined_mapping}
use Rattle.sheets.specs.Answer.{Answer, given, ◌>>=◌}
use Rattle.sheets.specs.Field.{ArrowDataType}
use Rattle.sheets.specs.FieldSheet.{write_bare_sheet}
use Rattle.sheets.specs.Mappings.{from_integer_type}
use Rattle.sheets.specs.Outcome.{converted, from_integer_type_outcome}
use Rattle.outcome.proofs.AnswerLaws.{told_refused}
use Rattle.datatypes.specs.Places.{integer_place}
use Rattle.datatypes.specs.At.{integer_types}
use Rattle.datatypes.proofs.DtypeLaws.{integer_undefined}
use Rattle.mapping_calls.proofs.ConversionLaws.{place_is}
use Rattle.mapping_calls.proofs.conversions.from_integer_type.Goals as goal

pub returns-in-None : goal.returns-in-None
returns-in-None c =
    let a = c.args in
    told_refused (converted (from_integer_type a.place)) a.out.now a.out.now undefined_mapping _
    (ap (λ (m : Answer ArrowDataType). m >>= λ t. given (write_bare_sheet t)) (integer_undefined a.place (sym c.at.ensures ∙ c.in-None.is)))
    c.refuse.ensures refl

pub returns-in-Some : goal.returns-in-Some
returns-in-Some c =
    let a = c.args in
    c.answer_dtype.ensures (from_integer_type (integer_place c.in-Some.t)) c.from_integer_type.ensures
    ∙ ap (λ (n : ℕ). from_integer_type_outcome n a.out.now) (place_is integer_place a.place integer_types _ (sym c.at.ensures ∙ c.in-Some.is))
