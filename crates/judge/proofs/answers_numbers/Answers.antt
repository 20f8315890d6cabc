-- `answers_numbers` meets its contract: the five codes, in the definition's order. Assumes nothing.
use Rattle.std.proofs.Common.{sym, eq-eqb, ne_eqb}
use Rattle.recorded_list.specs.Codes.{to_physical_type_call, is_nested_call, contains_dictionary_call, measure_import_call}
use Rattle.judge.proofs.answers_numbers.Goals as goal

pub returns-then-code-eq-TO_PHYSICAL_TYPE : goal.returns-then-code-eq-TO_PHYSICAL_TYPE
returns-then-code-eq-TO_PHYSICAL_TYPE c = sym (rw (eq-eqb c.args.code to_physical_type_call c.if-code-eq-TO_PHYSICAL_TYPE.true))

pub returns-then-code-eq-IS_NESTED : goal.returns-then-code-eq-IS_NESTED
returns-then-code-eq-IS_NESTED c =
    let code = c.args.code in sym (rw (ne_eqb code to_physical_type_call c.if-code-eq-TO_PHYSICAL_TYPE.false, eq-eqb code is_nested_call c.if-code-eq-IS_NESTED.true))

pub returns-then-code-eq-CONTAINS_DICTIONARY : goal.returns-then-code-eq-CONTAINS_DICTIONARY
returns-then-code-eq-CONTAINS_DICTIONARY c =
    let code = c.args.code in
    sym (rw (ne_eqb code to_physical_type_call c.if-code-eq-TO_PHYSICAL_TYPE.false, ne_eqb code is_nested_call c.if-code-eq-IS_NESTED.false, eq-eqb code contains_dictionary_call c.if-code-eq-CONTAINS_DICTIONARY.true))

pub returns-then-code-eq-MEASURE_IMPORT : goal.returns-then-code-eq-MEASURE_IMPORT
returns-then-code-eq-MEASURE_IMPORT c =
    let code = c.args.code in
    sym (rw (ne_eqb code to_physical_type_call c.if-code-eq-TO_PHYSICAL_TYPE.false, ne_eqb code is_nested_call c.if-code-eq-IS_NESTED.false, ne_eqb code contains_dictionary_call c.if-code-eq-CONTAINS_DICTIONARY.false, eq-eqb code measure_import_call c.if-code-eq-MEASURE_IMPORT.true))

pub returns : goal.returns
returns c =
    let code = c.args.code in
    sym (rw (ne_eqb code to_physical_type_call c.if-code-eq-TO_PHYSICAL_TYPE.false, ne_eqb code is_nested_call c.if-code-eq-IS_NESTED.false, ne_eqb code contains_dictionary_call c.if-code-eq-CONTAINS_DICTIONARY.false, ne_eqb code measure_import_call c.if-code-eq-MEASURE_IMPORT.false))
