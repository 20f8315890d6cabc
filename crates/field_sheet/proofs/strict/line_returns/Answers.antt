-- `line_returns` meets its contract: a law of `StrictLaws` for each way out. Assumes nothing.
use mathlib.Core.Path.{sym, ◌∙◌}
use mathlib.Core.Bool.{true≢false}
use native.Mathlib.Omega.{arith}
use Rattle.field_sheet.proofs.StrictLaws.{line_reserved, line_wide, line_clear, shown_column}
use Rattle.field_sheet.proofs.strict.line_returns.Goals as goal

pub returns-then-not-strict : goal.returns-then-not-strict
returns-then-not-strict c = λ h k own e. absurd (true≢false (sym e ∙ c.if-not-strict.true))

pub slice_bounds-has_reserved-count : goal.slice_bounds-has_reserved-count
slice_bounds-has_reserved-count c =
    let k = c.requires.line_shown.1.pairs in omega (arith, k.some)

pub slice_bounds-has_reserved-start : goal.slice_bounds-has_reserved-start
slice_bounds-has_reserved-start c =
    let k = c.requires.line_shown.1.pairs in omega (arith, k.some)

pub slice_bounds-has_reserved-end : goal.slice_bounds-has_reserved-end
slice_bounds-has_reserved-end c =
    let k = c.requires.line_shown.1.pairs in k.within

pub has_reserved-reserved-requires : goal.has_reserved-reserved-requires
has_reserved-reserved-requires c = shown_column c.requires.line_shown.0 c.requires.line_shown.1 c.requires.line_shown.2 c.requires.s_len_bound

pub returns-then-reserved : goal.returns-then-reserved
returns-then-reserved c = λ h k own. (c.if-not-strict.false, line_reserved h k own k.pairs.is (sym c.has_reserved-reserved.ensures ∙ c.if-reserved.true))

pub returns-then-wide : goal.returns-then-wide
returns-then-wide c = λ h k own. (c.if-not-strict.false, line_wide h k own k.pairs.is (sym c.has_reserved-reserved.ensures ∙ c.if-reserved.false) (sym c.is_wide-wide.ensures ∙ c.if-wide.true))

pub returns : goal.returns
returns c = λ h k own e. line_clear h k own k.pairs.is (sym c.has_reserved-reserved.ensures ∙ c.if-reserved.false) (sym c.is_wide-wide.ensures ∙ c.if-wide.false)
