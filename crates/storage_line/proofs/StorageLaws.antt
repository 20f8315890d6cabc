-- One line further into the extensions around a type. By cases of the type that stands: an extension's inner type stands next, directly inside it, with the
-- levels that are left; any other type is what `to_storage` gives of it. Assumes nothing.
use mathlib.Core.Path.{◌≡◌, refl, sym, subst, ◌∙◌}
use mathlib.Core.Bool.{Bool, true, false}
use mathlib.Core.List.{List, ◌∷◌, ◌++◌}
use Rattle.std.specs.Prelude.{Option, None}
use Prim.Native.Nat.{ℕ, suc, ◌+◌, ◌-◌, ◌≤◌, ◌<◌}
use native.Mathlib.Omega.{arith}
use lib.ListN.{drop}
use borrow.Author.Tests.{eq-eqb, ne_eqb}
use Rattle.sheets.specs.Bytes.{Bytes}
use Rattle.sheets.specs.Kind
use Rattle.sheets.specs.Field.{Info, ArrowDataType, scalar, nested, grouped, dictionary, extension, type_levels}
use Rattle.sheets.specs.FieldSheet.{Entry}
use Rattle.sheets.specs.LineTrees.{Standing}
use Rattle.sheets.specs.TreeWalks.{HasTree}
use Rattle.sheets.specs.FieldTrees.{is_extension, line_cost, type_shape, type_below, fields}
use Rattle.sheets.specs.Mappings.{to_storage}
use Rattle.sheets.specs.Walk.{line_measure, extensions_around}
use Rattle.sheets.proofs.Tests.{never}
use Rattle.sheets.proofs.StorageLaws.{storage_levels}
use Rattle.read_field_line.specs.FieldLines.{FieldLineAt}
use Rattle.read_field_line.specs.declared.FieldLine.{FieldLine}
use Rattle.field_sheet.proofs.LevelLaws.{cost_low}
use Rattle.walks.specs.Places.{TypeAt, HasType}
use Rattle.walks.specs.declared.Subtree.{Subtree}
use Rattle.walks.proofs.BeginLaws.{some_level}
use Rattle.line_below.proofs.LineLaws.{line_opened, line_extension}
use Rattle.storage_line.specs.StorageLines.{StorageTold}
use Rattle.storage_line.specs.declared.StorageLine.{StorageLine}

-- a type inside the extension t
record Inner (s : Bytes) (tree : Subtree) (end : ℕ) (t : ArrowDataType) (es : List Entry) : Type 0 where
  type : ArrowDataType
  there : TypeAt s end (tree.levels - line_cost tree.inside true) true None type es
  same : to_storage type ≡ to_storage t
  more : extensions_around t ≡ suc (extensions_around type)

module _ {s : Bytes} (tree : Subtree) {first : FieldLine} (k : FieldLineAt s tree.at first) where
  abbrev There : Option Info → ArrowDataType → List Entry → Type 0
  There i t es = TypeAt s tree.at tree.levels tree.inside i t es

  -- ── no extension

  pub storage_here : (first.kind ≡ Kind.Extension → ⊥) → StorageTold s tree (record { at = tree.at; line = first; passed = 0 })
  storage_here n i t es f =
      let plain : is_extension (type_shape t) ≡ false = sym (line_extension f.stands k) ∙ ne_eqb first.kind Kind.Extension n in
      record {
        info = i;
        type =
            record {
              stands = subst (λ (v : ArrowDataType). Standing fields (drop tree.at s) ((i, v) ∷ es)) (same t plain) f.stands;
              deep = omega (arith, storage_levels t tree.inside, f.deep);
              short = f.short;
            };
        line = k;
        passed = none_around t plain;
        low = omega arith;
      }
    where
      none_around : (v : ArrowDataType) → is_extension (type_shape v) ≡ false → 0 ≡ extensions_around v
      none_around (scalar c) h = refl
      none_around (nested g j v) h = refl
      none_around (grouped g fs) h = refl
      none_around (dictionary ix ordered v) h = refl
      none_around (extension a m v) h = never (sym h)

      same : (v : ArrowDataType) → is_extension (type_shape v) ≡ false → v ≡ to_storage v
      same (scalar c) h = refl
      same (nested g j v) h = refl
      same (grouped g fs) h = refl
      same (dictionary ix ordered v) h = refl
      same (extension a m v) h = never (sym h)

  -- ── an extension

  module _ (e : first.kind ≡ Kind.Extension) where
    one_less : (b : Bool) (v : ArrowDataType) (a : Bytes) (m : Option Bytes) → type_levels (extension a m v) b ≤ tree.levels → type_levels v true ≤ tree.levels - line_cost b true
    one_less true v a m h = omega arith
    one_less false v a m h = omega arith

    inner : {i : Option Info} {t : ArrowDataType} {es : List Entry} → There i t es → Inner s tree first.end t es
    inner {i} {t} {es} f = go t f.deep (sym (line_extension f.stands k) ∙ eq-eqb first.kind Kind.Extension e) (line_opened f.stands k).1
      where
        go : (v : ArrowDataType) → type_levels v tree.inside ≤ tree.levels → is_extension (type_shape v) ≡ true → Standing fields (drop first.end s) (type_below v ++ es) → Inner s tree first.end v es
        go (scalar c) d h w = never h
        go (nested g j v) d h w = never h
        go (grouped g fs) d h w = never h
        go (dictionary ix ordered v) d h w = never h
        go (extension a m v) d h w = record { type = v; there = record { stands = w; deep = one_less tree.inside v a m d; short = f.short }; same = refl; more = refl }

    pub inner_tree : HasType s tree.at tree.levels tree.inside → HasTree fields s first.end
    inner_tree h = let v = inner h.3 in ((None, v.type), h.2, v.there.stands)

    module _ (cost : ℕ) (costs : cost ≡ line_cost tree.inside true) where
      module _ (h : HasType s tree.at tree.levels tree.inside) where
        pub inner_type : HasType s first.end (tree.levels - cost) true
        inner_type =
            let v = inner h.3 in
            (None, v.type, h.2, subst (λ (n : ℕ). TypeAt s first.end (tree.levels - n) true None v.type h.2) (sym costs) v.there)

        pub cost_fits : cost ≤ tree.levels
        cost_fits = omega (arith, costs, cost_low tree.inside true, some_level h.3)

        pub inner_smaller : line_measure (tree.levels - cost) true < line_measure tree.levels tree.inside
        inner_smaller = go tree.inside costs
          where
            go : (b : Bool) → cost ≡ line_cost b true → line_measure (tree.levels - cost) true < line_measure tree.levels b
            go true e = omega (arith, some_level h.3)
            go false e = omega arith

      -- no more lines are passed than there are bytes
      pub passed_few : (r : StorageLine) → StorageTold s (record { at = first.end; levels = tree.levels - cost; inside = true }) r → HasType s tree.at tree.levels tree.inside → r.passed ≤ 65535
      passed_few r told h =
          let v = inner_type h in
          let w = told v.0 v.1 v.2 v.3 in
          omega (arith, w.low, w.line.there.low, w.line.there.high, h.3.short)

      -- what is told of the inner type is told of this one
      pub storage_inside : (r : StorageLine) → StorageTold s (record { at = first.end; levels = tree.levels - cost; inside = true }) r
          → StorageTold s tree (record { at = r.at; line = r.line; passed = r.passed + 1 })
      storage_inside r told i t es f =
          let v = inner f in
          let w = told None v.type es (subst (λ (n : ℕ). TypeAt s first.end (tree.levels - n) true None v.type es) (sym costs) v.there) in
          record {
            info = w.info;
            type =
                record {
                  stands = subst (λ (u : ArrowDataType). Standing fields (drop r.at s) ((w.info, u) ∷ es)) v.same w.type.stands;
                  deep = omega (arith, storage_levels t tree.inside, f.deep);
                  short = f.short;
                };
            line = w.line;
            passed = omega (arith, w.passed, v.more);
            low = omega (arith, w.low, k.there.low);
          }
