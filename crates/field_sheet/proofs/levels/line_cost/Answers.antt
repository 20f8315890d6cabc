-- `levels::line_cost` meets its contract, by cases. Assumes nothing.
use mathlib.Core.Path.{◌≡◌}
use mathlib.Core.Bool.{Bool, true, false}
use Rattle.sheets.specs.FieldTrees.{line_cost}
use Rattle.field_sheet.proofs.levels.line_cost.Goals as goal

other : (inside extension : Bool) → extension ≡ false → 1 ≡ line_cost inside extension
other true e h = rw h
other false e h = rw h

within : (inside extension : Bool) → extension ≡ true → inside ≡ true → 1 ≡ line_cost inside extension
within i e h k = rw (h, k)

outermost : (inside extension : Bool) → extension ≡ true → inside ≡ false → 0 ≡ line_cost inside extension
outermost i e h k = rw (h, k)

pub returns-then-not-extension : goal.returns-then-not-extension
returns-then-not-extension c = other c.args.inside c.args.extension (c.if-not-extension.true)

pub returns-then-inside : goal.returns-then-inside
returns-then-inside c = within c.args.inside c.args.extension (c.if-not-extension.false) c.if-inside.true

pub returns : goal.returns
returns c = outermost c.args.inside c.args.extension (c.if-not-extension.false) c.if-inside.false
