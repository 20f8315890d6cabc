-- `from_primitive_type` meets its contract: there is such a place, or it is refused. Assumes nothing.
use mathlib.Core.Path.{refl, sym, ap, ◌∙◌}
use Prim.Native.Nat.{ℕ}
use Rattle.sheets.specs.Refusal.{undefined_mapping}
use Rattle.sheets.specs.Answer.{Answer, given, ◌>>=◌}
use Rattle.sheets.specs.Field.{ArrowDataType}
use Rattle.sheets.specs.FieldSheet.{write_bare_sheet}
use Rattle.sheets.specs.Mappings.{from_primitive_type}
use Rattle.sheets.specs.Outcome.{converted, from_primitive_type_outcome}
use Rattle.outcome.proofs.AnswerLaws.{told_refused}
use Rattle.datatypes.specs.Places.{primitive_place}
use Rattle.datatypes.specs.At.{primitive_types}
use Rattle.datatypes.proofs.DtypeLaws.{primitive_undefined}
use Rattle.mapping_calls.proofs.ConversionLaws.{place_is}
use Rattle.mapping_calls.proofs.conversions.from_primitive_type.Goals as goal

pub returns-in-None : goal.returns-in-None
returns-in-None c =
    let a = c.args in
    told_refused (converted (from_primitive_type a.place)) a.out.now a.out.now undefined_mapping _
    (ap (λ (m : Answer ArrowDataType). m >>= λ t. given (write_bare_sheet t)) (primitive_undefined a.place (sym c.at.ensures ∙ c.in-None.is)))
    c.refuse.ensures refl

pub returns-in-Some : goal.returns-in-Some
returns-in-Some c =
    let a = c.args in
    c.answer_dtype.ensures (from_primitive_type (primitive_place c.in-Some.t)) c.from_primitive_type.ensures
    ∙ ap (λ (n : ℕ). from_primitive_type_outcome n a.out.now) (place_is primitive_place a.place primitive_types _ (sym c.at.ensures ∙ c.in-Some.is))
