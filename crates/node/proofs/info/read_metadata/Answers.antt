-- `read_metadata` meets its contract: `~` has no pairs, any other column is a block. Assumes nothing.
use mathlib.Core.Path.{sym, ◌∙◌}
use Rattle.node.proofs.InfoLaws.{column_null, block_ready, column_block}
use Rattle.node.proofs.info.read_metadata.Goals as goal

pub returns-then-same : goal.returns-then-same
returns-then-same c = column_null c.args.big c.args.column.now _ (sym c.same.ensures ∙ c.if-same.true)

pub metadata_from_bytes-requires : goal.metadata_from_bytes-requires
metadata_from_bytes-requires c = block_ready c.args.column.now _ c.text_of.ensures _ _ c.requires

pub returns : goal.returns
returns c =
    let read = c.metadata_from_bytes in
    column_block c.args.big c.args.column.now c.requires.is_text (sym c.same.ensures ∙ c.if-same.false) _ c.text_of.ensures _ read.result read.ensures.result_after read.ensures.metadata_stands
