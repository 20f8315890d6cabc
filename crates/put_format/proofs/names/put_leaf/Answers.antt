-- `names::put_leaf` meets its contract: the row that is looked at has the leaf's kind exactly if the leaf has a name. Assumes nothing.
use Rattle.std.specs.Prelude.{Err}
use mathlib.Core.Path.{refl, sym, ◌∙◌}
use native.Mathlib.Omega.{arith}
use Rattle.sheets.specs.Refusal.{no_format}
use Rattle.sheets.specs.Answer.{refused, given}
use Rattle.sheets.specs.Field.{leaf}
use Rattle.sheets.specs.Format.{scalar_format}
use Rattle.sheets.proofs.FieldTrees.{leaf_small}
use Rattle.refusal.specs.declared.Refusal.TheVariants as Refusals
use Rattle.format_names.specs.Names.{row_at}
use Rattle.put_format.proofs.LeafLaws.{leaf_row, row_below, leaf_named_lem, leaf_nameless, formats_as}
use Rattle.put_format.proofs.names.put_leaf.Goals as goal

pub bounds-kind : goal.bounds-kind
bounds-kind c = leaf_small c.args.kind c.requires.rule.0

pub overflow_cast-row : goal.overflow_cast-row
overflow_cast-row c = omega (arith, row_below c.args.kind c.args.unit c.requires.rule)

pub overflow_add-row : goal.overflow_add-row
overflow_add-row c = omega (arith, row_below c.args.kind c.args.unit c.requires.rule)

pub row_at-found-requires : goal.row_at-found-requires
row_at-found-requires c = row_below c.args.kind c.args.unit c.requires.rule

pub returns-then-found-kind : goal.returns-then-found-kind
returns-then-found-kind c =
    let a = c.args in
    formats_as (refused no_format) (scalar_format (leaf a.kind a.unit)) a.at (Err Refusals.NoFormat) a.out.now a.out.now
    (leaf_nameless a.kind a.unit c.requires.rule (λ e. c.if-found-kind.true (c.row_at-found.ensures.kind ∙ e))) (refl, refl)

pub put_row-requires : goal.put_row-requires
put_row-requires c = record { known = row_below c.args.kind c.args.unit c.requires.rule; low = c.requires.low }

pub returns : goal.returns
returns c =
    let a = c.args in
    let p = c.put_row in
    formats_as (given (row_at (leaf_row a.kind a.unit)).name) (scalar_format (leaf a.kind a.unit)) a.at p.result a.out.now p.new.out
    (leaf_named_lem a.kind a.unit c.requires.rule (sym c.row_at-found.ensures.kind ∙ c.if-found-kind.false)) p.ensures
