-- `begin_field` meets its contract: by the laws on what the metadata and the name say, for each of its three returns. Assumes nothing.
use Rattle.std.specs.Prelude.{Ok}
use mathlib.Core.Path.{refl, ap}
use Rattle.node.specs.declared.lines.Shown.{Shown}
use Rattle.node.proofs.BeginLaws.{shown_made, own_there, reads_in, ready_in, put_in, can_show, can_extend, begin_plain, begin_refused, begin_extended}
use Rattle.node.proofs.begin_field.Goals as goal

pub read_own-requires : goal.read_own-requires
read_own-requires c =
    let p = c.requires in
    own_there p.0 _ _ c.column_of-name.ensures c.column_of-metadata.ensures _ _ p.1

pub returns-then-d-eq0 : goal.returns-then-d-eq0
returns-then-d-eq0 c =
    let a = c.args in
    let p = c.requires in
    let name = c.column_of-name in
    let block = c.column_of-metadata in
    let read = c.read_own in
    let reads = reads_in a.big a.s.now a.line _ _ name.ensures block.ensures _ read.result read.ensures in
    λ x w. begin_plain p.0 a.big x w a.bare _ read.result reads a.out.now _ c.in-Ok.is _ (shown_made c.nullable.ensures) c.if-d-eq0.true _ refl

pub put_extension_line-requires : goal.put_extension_line-requires
put_extension_line-requires c =
    let a = c.args in
    let p = c.requires in
    let name = c.column_of-name in
    let block = c.column_of-metadata in
    let read = c.read_own in
    let reads = reads_in a.big a.s.now a.line _ _ name.ensures block.ensures _ read.result read.ensures in
    let x = p.0.line in
    let w = p.0.shows in
    let known = c.in-Ok.is in
    let made = shown_made c.nullable.ensures in
    ready_in a.s.now a.line _ _ _ name.ensures block.ensures c.text_of-m.ensures _ _ _
    (can_show p.0 a.big x w a.bare _ read.result reads a.out.now _ known _ made, can_extend p.0 a.big x w a.bare _ read.result reads a.out.now _ known _ made)

pub returns-in-Err : goal.returns-in-Err
returns-in-Err c =
    let a = c.args in
    let p = c.requires in
    let name = c.column_of-name in
    let block = c.column_of-metadata in
    let read = c.read_own in
    let reads = reads_in a.big a.s.now a.line _ _ name.ensures block.ensures _ read.result read.ensures in
    λ x w. begin_refused p.0 a.big x w a.bare _ read.result reads a.out.now _ c.in-Err.is _ c.refused_later.ensures

pub returns-else-d-eq0 : goal.returns-else-d-eq0
returns-else-d-eq0 c =
    let a = c.args in
    let p = c.requires in
    let name = c.column_of-name in
    let block = c.column_of-metadata in
    let read = c.read_own in
    let reads = reads_in a.big a.s.now a.line _ _ name.ensures block.ensures _ read.result read.ensures in
    let put = c.put_extension_line in
    let laid = put_in a.s.now a.line _ _ _ name.ensures block.ensures c.text_of-m.ensures _ _ _ put.result a.out.now _ put.ensures in
    λ x w. begin_extended p.0 a.big x w a.bare _ read.result reads a.out.now _ c.in-Ok.is _ (shown_made c.nullable.ensures) c.if-d-eq0.false _ _ laid _ (ap (λ (y : Shown). record { len = put.result; shown = y; pending = (Ok tt) }) c.nothing_shown.ensures)
