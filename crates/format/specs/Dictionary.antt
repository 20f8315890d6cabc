-- A dictionary's index type. Assumes nothing.
use Rattle.std.specs.Prelude.{Bool, ◌||◌, ◌&&◌, cond, ℕ, ◌-◌, leb, Ok, Err}
use Rattle.sheets.specs.Refusal.{bad_index}
use Rattle.sheets.specs.Answer.{Answer, refused, given}
use Rattle.sheets.specs.Kind
use Rattle.refusal.specs.Refusals.{refusal_of, Refusing}
use Rattle.datatypes.specs.Places.{integer_place}
use Rattle.datatypes.specs.declared.IntegerType.{IntegerType}

-- the index type's place in `IntegerType`
abbrev pub index_answer : Refusing IntegerType → Answer ℕ
index_answer (Ok t) = given (integer_place t)
index_answer (Err r) = refused (refusal_of r)

-- integers of at most 64 bits
abbrev pub is_index_kind : ℕ → Bool
is_index_kind k = (leb Kind.Int8 k && leb k Kind.Int64) || (leb Kind.UInt8 k && leb k Kind.UInt64)

-- 9 "dictionary index format outside `c C s S i I l L`"; the integers stand in `ArrowDataType` in the order of `IntegerType`
abbrev pub index_of : ℕ → Answer ℕ
index_of k = cond (is_index_kind k) (given (k - Kind.Int8)) (refused bad_index)
