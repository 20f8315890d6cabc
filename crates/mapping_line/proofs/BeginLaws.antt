-- What is known at each place of `begin_change`: the columns of the field's first line are those of the type's walk, and what is written for the line of the
-- type in all extensions, and left below, is what its step says (`change_opened`, `becoming`). Assumes nothing.
use mathlib.Core.Path.{◌≡◌, refl, sym, ap, subst, ◌∙◌}
use mathlib.Core.Bool.{Bool, true, false}
use mathlib.Core.List.{List, [], ◌∷◌}
use Rattle.std.specs.Prelude.{Option, None, Ok}
use Prim.Native.Nat.{ℕ, ◌+◌, ◌<◌}
use native.Mathlib.Omega.{arith}
use Rattle.sheets.specs.Refusal.{undefined_mapping}
use Rattle.sheets.specs.Bytes.{Bytes}
use Rattle.sheets.specs.Answer.{Answer, refused, given}
use Rattle.sheets.specs.Sheet.{ended}
use Rattle.sheets.specs.Kind
use Rattle.sheets.specs.Field.{Info, leaf, ArrowDataType}
use Rattle.sheets.specs.FieldSheet.{Entry, of_scalar, columns}
use Rattle.sheets.specs.FieldTrees.{Head, type_shape, type_count}
use Rattle.sheets.specs.Mappings.{to_storage}
use Rattle.sheets.specs.MappingSteps.{Borne, own_written, change_step}
use Rattle.sheets.specs.Walk.{head_with, head_text, skip, writes, Walked, type_walked}
use Rattle.buffer.specs.Over.{PutFirst}
use Rattle.read_field_line.specs.FieldLines.{FieldLineAt}
use Rattle.read_field_line.specs.declared.FieldLine.{FieldLine}
use Rattle.outcome.specs.declared.Size.{Size}
use Rattle.walks.specs.Places.{TypeAt, BeginsAs}
use Rattle.walks.specs.Answers.{begun_answer}
use Rattle.walks.specs.declared.Subtree.{Subtree}
use Rattle.walks.specs.declared.Subtrees.{Subtrees}
use Rattle.storage_line.specs.StorageLines.{StorageAt}
use Rattle.storage_line.specs.Below.{RowLeft}
use Rattle.storage_line.specs.declared.StorageLine.{StorageLine}
use Rattle.line_below.proofs.LineLaws.{line_opened, line_rule_lem, line_kind, line_p}
use Rattle.storage_line.proofs.BelowLaws.{storage_plain, passed, begun}
use Rattle.mapping_line.specs.PutLines.{info_text, HasColumns, Says, columns_of, CanPutLine, line_with, LinePut, CanPutKind, KindPut}
use Rattle.mapping_line.specs.Changes.{change_of, line_change_of}
use Rattle.mapping_line.specs.declared.change.Change.{Change}
use Rattle.mapping_line.specs.declared.change.LineChange.{LineChange}
use Rattle.mapping_line.specs.declared.change.LineChange.TheVariants.{Stays, Becomes, Undefined}
use Rattle.mapping_line.proofs.PutLaws.{columns_there, columns_said}
use Rattle.refusal.specs.Refusals.{Refusing}
use Rattle.mapping_line.proofs.ChangeLaws.{Becoming, becoming, index_small, change_opened}
use Rattle.walks.specs.declared.LineBegun.{LineBegun}
use Rattle.columns.specs.declared.Part.{Part}

module _ {s : Bytes} (tree : Subtree) {i : Option Info} {t : ArrowDataType} {es : List Entry} (f : TypeAt s tree.at tree.levels tree.inside i t es)
    {first : FieldLine} (k : FieldLineAt s tree.at first) {r : StorageLine} (g : StorageAt s tree t es r) where
  -- the columns of the first line are the field's
  says : Says s (columns_of first) i
  says = columns_said k ∙ ap (λ (h : Head). info_text h.info) (sym (line_opened f.stands k).0)

  pub index_fits : r.line.kind ≡ Kind.Dictionary → r.line.p < 10
  index_fits e = omega (arith, line_p g.type.stands g.line, index_small (type_shape (to_storage t)) (line_rule_lem g.type.stands g.line) (sym (line_kind g.type.stands g.line) ∙ e))

  module _ (own : Option Part) (are : own ≡ columns_of first) where
    pub can_put : CanPutLine s r.at r.line own
    can_put = record { line = g.line; columns = subst (HasColumns s) (sym are) (columns_there k); short = f.short }

    pub can_put_kind : CanPutKind s own
    can_put_kind = record { columns = subst (HasColumns s) (sym are) (columns_there k); short = f.short }

    own_says : Says s own i
    own_says = subst (λ (c : Option Part). Says s c i) (sym are) says

    module _ (change : Change) where
      abbrev o : Walked
      o = type_walked (change_step (change_of change)) t i None

      -- so many bytes, for the line and the extensions that were passed
      abbrev sized : ℕ → Size
      sized len = record { len = len; lines = r.passed + 1 }

      abbrev Told : Bytes → Bytes → Refusing LineBegun → Type 0
      Told out out' z = BeginsAs (change_step (change_of change)) s tree.at tree.levels tree.inside o es out out' (begun_answer {S = Borne} (λ (levels : ℕ) (inside : Bool). None) z)

      -- what becomes of the type's line is what the call does with the type
      by_line : (c : LineChange) → c ≡ line_change_of change r.line.kind r.line.p → Becoming change (to_storage t) i c
      by_line c e =
          subst (Becoming change (to_storage t) i) (sym (e ∙ λ z. line_change_of change (line_kind g.type.stands g.line z) (line_p g.type.stands g.line z)))
          (becoming i change (to_storage t) (storage_plain t) (line_rule_lem g.type.stands g.line))

      pub undefined : Undefined ≡ line_change_of change r.line.kind r.line.p → o.0 ≡ refused undefined_mapping
      undefined e = ap (λ (w : Walked). w.0) (change_opened (change_of change) t i (refused undefined_mapping) (by_line Undefined e))

      -- the line stays
      pub stayed : Stays ≡ line_change_of change r.line.kind r.line.p → (w : Subtrees) → RowLeft s tree r.line false w → (out out' : Bytes) (len : ℕ) → LinePut s r.at r.line own out out' len
          → Told out out' (Ok (record { row = w; size = sized len; pending = Ok tt }))
      stayed e w left out out' len put =
          let (below, step, leaves) = by_line Stays e in
          let (laid, short) = put g.line i own_says in
          let same : line_with g.line.line i ≡ ended (head_text (head_with (type_shape (to_storage t)) i (type_count (to_storage t))) ∷ []) =
          ap (λ (h : Head). line_with h i) (sym (line_opened g.type.stands g.line).0) in
          begun tree f g (change_step (change_of change)) None o (writes (own_written (type_shape (to_storage t)) i (type_count (to_storage t))) below)
          (change_opened (change_of change) t i (given (writes (own_written (type_shape (to_storage t)) i (type_count (to_storage t))) below)) step)
          false w left out out' len (given tt) (subst (λ (y : Bytes). PutFirst y len out out') same laid) short leaves

      -- the line of a kind is left, and what is below it is skipped
      pub became : (kind : ℕ) → Becomes kind ≡ line_change_of change r.line.kind r.line.p → (w : Subtrees) → RowLeft s tree r.line true w → (out out' : Bytes) (len : ℕ) → KindPut s kind own out out' len
          → Told out out' (Ok (record { row = w; size = sized len; pending = Ok tt }))
      became kind e w left out out' len put =
          let (laid, short) = put i own_says in
          begun tree f g (change_step (change_of change)) None o (writes (own_written (of_scalar (leaf kind 0)) i 0) skip)
          (change_opened (change_of change) t i (given (writes (own_written (of_scalar (leaf kind 0)) i 0) skip)) (by_line (Becomes kind) e))
          true w left out out' len (given tt) laid short (passed refl refl)
