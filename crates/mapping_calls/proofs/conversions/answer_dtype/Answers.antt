-- `answer_dtype` meets its contract: the sheet is that of the type (`dtype_answered`). Assumes nothing.
use Rattle.mapping_calls.proofs.ConversionLaws.{dtype_answered}
use Rattle.mapping_calls.proofs.conversions.answer_dtype.Goals as goal

pub returns : goal.returns
returns c =
    let a = c.args in dtype_answered a.d a.out.now c.put_dtype-len.new.out c.written.new.out _ c.written.result c.put_dtype-len.ensures c.written.ensures
