-- `put_timestamp` meets its contract: in each arm the unit is known. Assumes nothing.
use Rattle.put_format.proofs.ArmLaws.{stamped, last_unit}
use Rattle.column_text.specs.ColumnText.{column_text}
use Rattle.put_format.specs.LineFormat.{timestamp_format}
use Rattle.sheets.specs.Format.{or_empty}
use mathlib.Core.Path.{refl}
use mathlib.Core.List.{◌++◌}
use Rattle.put_format.proofs.LeafLaws.{formats_as}
use Rattle.sheets.specs.Answer.{given}
use Rattle.sheets.specs.Bytes.{ascii}
use Rattle.put_format.proofs.put_timestamp.Goals as goal

pub returns-in-0 : goal.returns-in-0
returns-in-0 c =
    let a = c.args in
    let q = c.put_zoned in
    let z = column_text a.zone.now in
    formats_as (given (ascii "tss:" ++ or_empty z)) (timestamp_format a.p z) a.at q.result a.out.now q.new.out (stamped z a.p 0 (ascii "tss:") c.in-0.is refl) q.ensures

pub returns-in-1 : goal.returns-in-1
returns-in-1 c =
    let a = c.args in
    let q = c.put_zoned-in-1 in
    let z = column_text a.zone.now in
    formats_as (given (ascii "tsm:" ++ or_empty z)) (timestamp_format a.p z) a.at q.result a.out.now q.new.out (stamped z a.p 1 (ascii "tsm:") c.in-1.is refl) q.ensures

pub returns-in-2 : goal.returns-in-2
returns-in-2 c =
    let a = c.args in
    let q = c.put_zoned-in-2 in
    let z = column_text a.zone.now in
    formats_as (given (ascii "tsu:" ++ or_empty z)) (timestamp_format a.p z) a.at q.result a.out.now q.new.out (stamped z a.p 2 (ascii "tsu:") c.in-2.is refl) q.ensures

pub returns-in_default : goal.returns-in_default
returns-in_default c =
    let a = c.args in
    let q = c.put_zoned-in_default in
    let z = column_text a.zone.now in
    formats_as (given (ascii "tsn:" ++ or_empty z)) (timestamp_format a.p z) a.at q.result a.out.now q.new.out (stamped z a.p 3 (ascii "tsn:") (last_unit (column_text a.zone.now) a.p c.requires.unit c.in_default.in_default-own.rest) refl) q.ensures
