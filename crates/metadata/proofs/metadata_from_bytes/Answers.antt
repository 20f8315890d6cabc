-- `metadata_from_bytes` meets its contract: the count, the walk over the pairs, and their order. Assumes nothing.
use mathlib.Core.Path.{ap, ◌∙◌}
use Rattle.sheets.specs.Answer.{given}
use Rattle.refusal.proofs.ErrLaws.{passed}
use Rattle.metadata.proofs.MeaningLaws.{cut_off, block_means}
use Rattle.metadata.proofs.SizeLaws.{can_order}
use Rattle.metadata.proofs.metadata_from_bytes.Goals as goal

pub returns-then-m-lt8 : goal.returns-then-m-lt8
returns-then-m-lt8 c = record { result_after = cut_off c.args.big c.args.m.now c.requires.block.is_text c.if-m-lt8.true; metadata_stands = tt }

pub in_order-requires : goal.in_order-requires
in_order-requires c =
    let a = c.args in
    let h = c.requires in
    let n = c.count_of.result in
    let es = c.walk.new.entries in
    let kept = c.in_ok-f.ensures.result_after in
    let standing = c.in_ok-f.ensures.metadata_stands in
    (a.big, can_order a.big a.m.now h.block.is_text n es _ kept a.spare.now h.spare standing)

pub returns-in_err-f : goal.returns-in_err-f
returns-in_err-f c =
    let a = c.args in
    let es = c.walk.new.entries in
    let kept = c.in_err-f.ensures.result_after in
    rw (passed c.from_residual.result _ c.from_residual.ensures.1) record { result_after = block_means a.big a.m.now c.requires.block.is_text c.if-m-lt8.false _ c.count_of.ensures _ kept; metadata_stands = tt }

pub returns : goal.returns
returns c =
    let a = c.args in
    let es = c.walk.new.entries in
    let h = c.requires in
    let kept = c.in_ok-f.ensures.result_after in
    let standing = c.in_ok-f.ensures.metadata_stands in
    let told = c.in_order.ensures a.big (can_order a.big a.m.now h.block.is_text c.count_of.result es _ kept a.spare.now h.spare standing) in
    record { result_after = ap given told.0 ∙ block_means a.big a.m.now c.requires.block.is_text c.if-m-lt8.false _ c.count_of.ensures _ kept; metadata_stands = told.1 }
