-- The format of a line by its kind: for each arm of `put_format`, what the definition is there. Assumes nothing.
use mathlib.Core.Path.{◌≡◌, refl, sym, ap, ap₂, subst, ◌∙◌}
use mathlib.Core.Logic.{◌≢◌}
use mathlib.Core.Bool.{Bool, true, false, cond, true≢false}
use mathlib.Core.List.{List, [], ◌∷◌, ◌++◌, append_assoc, append-nil}
use Rattle.std.specs.Prelude.{Option, None, Some}
use Prim.Native.Nat.{ℕ, ◌+◌, ◌<◌, ◌^◌}
use native.Mathlib.Omega.{arith}
use lib.Dec.{eqb, ltb}
use lib.IntN.{ℤ}
use borrow.Author.Tests.{ne_eqb, eqb-true, ltb-true}
use Rattle.sheets.specs.Refusal.{bad_lines}
use Rattle.sheets.specs.Rule.{passes, Meets}
use Rattle.sheets.specs.Bytes.{Bytes, ascii}
use Rattle.sheets.specs.Answer.{Answer, refused, given, ◌>>=◌}
use Rattle.sheets.specs.Number.{decimal, read_signed}
use Rattle.sheets.specs.Text.{read_text}
use Rattle.sheets.specs.Field.{TimeUnit, leaf, timestamp, map, union, is_leaf, leaf_rule}
use Rattle.sheets.specs.FieldSheet.{Shape, of_scalar, of_nesting, of_grouping, of_dictionary, columns, shape_at, unit_at, bool_at, read_list}
use Rattle.sheets.specs.FieldTrees.{shape_rule}
use Rattle.sheets.specs.Format.{or_empty, scalar_format, grouping_format, union_name}
use Rattle.sheets.specs.Kind
use Rattle.sheets.proofs.Tests.{same_given, not_given, every, at_each, meets}
use Rattle.hexadecimal.specs.Hex.{given_or}
use Rattle.datatypes.proofs.AtLaws.{Rest}
use Rattle.column_text.specs.ColumnText.{column_text}
use Rattle.put_format.specs.Formats.{CanPutLeaf}
use Rattle.put_format.specs.LineFormat.{shape_format, line_columns, line_shape, line_format, decimal_text, timestamp_format, ids_in, union_format, CanPutZone, CanPutUnion, CanFormat}

-- ── the shapes that are read in steps

pub record ZoneShape (p : ℕ) (text : Bytes) (shape : Shape) : Type 0 where
  pub unit : TimeUnit
  pub zone : Option Bytes
  pub is_unit : unit_at p ≡ given unit
  pub is_zone : read_text text ≡ given zone
  pub is : shape ≡ of_scalar (timestamp unit zone)

zone_shape : (p : ℕ) (text : Bytes) (shape : Shape) → (unit_at p >>= λ u. read_text text >>= λ z. given (of_scalar (timestamp u z))) ≡ given shape → ZoneShape p text shape
zone_shape p text shape h = go (unit_at p) (read_text text) refl refl h
  where
    go : (a : Answer TimeUnit) (b : Answer (Option Bytes)) → unit_at p ≡ a → read_text text ≡ b → (a >>= λ u. b >>= λ z. given (of_scalar (timestamp u z))) ≡ given shape → ZoneShape p text shape
    go (refused n) b e f k = not_given k
    go (given u) (refused n) e f k = not_given k
    go (given u) (given z) e f k = record { unit = u; zone = z; is_unit = e; is_zone = f; is = sym (same_given k) }

pub record UnionShape (p : ℕ) (text : Bytes) (shape : Shape) : Type 0 where
  pub mode : Bool
  pub ids : Option (List ℤ)
  pub is_mode : bool_at p ≡ given mode
  pub is_ids : read_list read_signed text ≡ given ids
  pub is : shape ≡ of_grouping (union mode ids)

union_shape : (p : ℕ) (text : Bytes) (shape : Shape) → (bool_at p >>= λ b. read_list read_signed text >>= λ ids. given (of_grouping (union b ids))) ≡ given shape → UnionShape p text shape
union_shape p text shape h = go (bool_at p) (read_list read_signed text) refl refl h
  where
    go : (a : Answer Bool) (b : Answer (Option (List ℤ))) → bool_at p ≡ a → read_list read_signed text ≡ b → (a >>= λ m. b >>= λ ids. given (of_grouping (union m ids))) ≡ given shape → UnionShape p text shape
    go (refused n) b e f k = not_given k
    go (given m) (refused n) e f k = not_given k
    go (given m) (given ids) e f k = record { mode = m; ids = ids; is_mode = e; is_ids = f; is = sym (same_given k) }

-- a shape that a number, 0 or 1, is part of
flag_shape : (p : ℕ) (make : Bool → Shape) (shape : Shape) → (bool_at p >>= λ b. given (make b)) ≡ given shape → (b : Bool) × (shape ≡ make b)
flag_shape p make shape h = go (bool_at p) h
  where
    go : (a : Answer Bool) → (a >>= λ b. given (make b)) ≡ given shape → (b : Bool) × (shape ≡ make b)
    go (refused n) k = not_given k
    go (given b) k = (b, sym (same_given k))

unit_small : (p : ℕ) (u : TimeUnit) → unit_at p ≡ given u → p < 4
unit_small p u h = pick (ltb p 4) refl
  where
    pick : (t : Bool) → ltb p 4 ≡ t → p < 4
    pick true e = ltb-true p 4 e
    pick false e =
        let f : refused bad_lines ≡ unit_at p = rw (ne_eqb p 0 (big 0 refl), ne_eqb p 1 (big 1 refl), ne_eqb p 2 (big 2 refl), ne_eqb p 3 (big 3 refl)) in
        not_given (f ∙ h)
      where
        big : (k : ℕ) → ltb k 4 ≡ true → p ≡ k → ⊥
        big k l q = true≢false (sym l ∙ ap (λ (x : ℕ). ltb x 4) (sym q) ∙ e)

mode_is : (p : ℕ) (b : Bool) → bool_at p ≡ given b → eqb p 1 ≡ b
mode_is p b h = pick (eqb p 0) (eqb p 1) refl refl h
  where
    pick : (t u : Bool) → eqb p 0 ≡ t → eqb p 1 ≡ u → cond t (given false) (cond u (given true) (refused bad_lines)) ≡ given b → eqb p 1 ≡ b
    pick true u e f k = ap (λ (x : ℕ). eqb x 1) (eqb-true p 0 e) ∙ same_given k
    pick false true e f k = f ∙ same_given k
    pick false false e f k = not_given k

-- an index type is a leaf
abbrev index_test : ℕ → Bool
index_test k = passes (leaf_rule (k + Kind.Int8) 0)

pub can_index : (p at : ℕ) → p < 10 → at < 2 ^ 62 → CanPutLeaf (p + Kind.Int8) 0 at
can_index p at h l = record { rule = meets (leaf_rule (p + Kind.Int8) 0) (at_each 10 index_test (meets (every 10 index_test) refl) p h); low = l }

-- ── the arms

module _ (kind p q : ℕ) (text : Bytes) (fields at : ℕ) (h : CanFormat kind p q text fields at) where
  -- what the definition is for the shape that was read
  pub is_format_lem : shape_format h.shape fields ≡ line_format kind p q text fields
  unfolding line_format
  is_format_lem = ap (λ (a : Answer Shape). a >>= λ s. shape_format s fields) (sym h.read)

  of_shape : (s : Shape) → h.shape ≡ s → shape_format s fields ≡ line_format kind p q text fields
  of_shape s e = ap (λ (x : Shape). shape_format x fields) (sym e) ∙ is_format_lem

  -- a kind at which the definition computes
  pub fixed_arm : (k : ℕ) (a : Answer Bytes) → kind ≡ k → line_format k p q text fields ≡ a → a ≡ line_format kind p q text fields
  fixed_arm k a e f = sym f ∙ ap (λ (x : ℕ). line_format x p q text fields) (sym e)

  read_at : (k : ℕ) → kind ≡ k → shape_at (line_columns k p q text) ≡ given h.shape
  unfolding line_shape
  read_at k e = ap (λ (x : ℕ). shape_at (line_columns x p q text)) (sym e) ∙ h.read

  pub map_arm : kind ≡ Kind.Map → given (ascii "+m") ≡ line_format kind p q text fields
  map_arm e = let s = flag_shape p (λ b. of_nesting (map b)) h.shape (read_at Kind.Map e) in of_shape (of_nesting (map s.0)) s.1

  module _ (e : kind ≡ Kind.Dictionary) where
    abbrev index : (b : Bool) × (h.shape ≡ of_dictionary p b)
    index = flag_shape q (λ b. of_dictionary p b) h.shape (read_at Kind.Dictionary e)

    pub index_arm : scalar_format (leaf (p + Kind.Int8) 0) ≡ line_format kind p q text fields
    index_arm = of_shape (of_dictionary p index.0) index.1

    pub index_small : p < 10
    index_small = ltb-true p 10 (subst (λ (s : Shape). Meets (shape_rule s)) index.1 h.rule)

  module _ (e : kind ≡ Kind.Timestamp) where
    abbrev stamp : ZoneShape p text h.shape
    stamp = zone_shape p text h.shape (read_at Kind.Timestamp e)

    pub can_zone : CanPutZone p text at
    can_zone =
        record {
          unit = unit_small p stamp.unit stamp.is_unit;
          zoned =
              record {
                text = stamp.zone;
                is = h.is ∙ ap (λ (s : Shape). (columns s).text) stamp.is;
                rule = subst (λ (s : Shape). Meets (shape_rule s)) stamp.is h.rule;
                short = h.short;
              };
          low = omega (arith, h.low);
        }

    pub zone_arm : timestamp_format p (column_text text) ≡ line_format kind p q text fields
    unfolding column_text
    zone_arm =
        ap₂ (λ (a : Answer TimeUnit) (z : Answer (Option Bytes)). a >>= λ u. scalar_format (timestamp u (given_or None z))) stamp.is_unit stamp.is_zone
        ∙ of_shape (of_scalar (timestamp stamp.unit stamp.zone)) stamp.is

  module _ (e : kind ≡ Kind.Union) where
    abbrev joint : UnionShape p text h.shape
    joint = union_shape p text h.shape (read_at Kind.Union e)

    pub can_union : CanPutUnion text fields at
    can_union =
        record {
          column = record { ids = joint.ids; is = h.is ∙ ap (λ (s : Shape). (columns s).text) joint.is; read = joint.is_ids; short = h.short };
          few = h.few;
          low = omega (arith, h.low);
        }

    by_ids : (m : Bool) (o : Option (List ℤ)) → union_format (union_name m) o fields ≡ grouping_format (union m o) fields
    by_ids m None = refl
    by_ids m (Some ids) = refl

    pub union_arm : union_format (union_name (eqb p 1)) (ids_in text) fields ≡ line_format kind p q text fields
    unfolding ids_in
    union_arm =
        ap₂ (λ (m : Bool) (a : Answer (Option (List ℤ))). union_format (union_name m) (given_or None a) fields) (mode_is p joint.mode joint.is_mode) joint.is_ids
        ∙ by_ids joint.mode joint.ids
        ∙ of_shape (of_grouping (union joint.mode joint.ids)) joint.is

  -- the kinds of the arms, the last arm's first
  abbrev format_arms : List (List ℕ)
  format_arms =
      (Kind.Union ∷ []) ∷ (Kind.Decimal256 ∷ []) ∷ (Kind.Decimal64 ∷ []) ∷ (Kind.Decimal32 ∷ []) ∷ (Kind.Decimal ∷ []) ∷ (Kind.Dictionary ∷ []) ∷ (Kind.Map ∷ []) ∷ (Kind.Struct ∷ []) ∷ (Kind.LargeList ∷ []) ∷ (Kind.FixedSizeList ∷ []) ∷ (Kind.List ∷ []) ∷ (Kind.FixedSizeBinary ∷ []) ∷ (Kind.Timestamp ∷ []) ∷ []

  module _ (r : Rest format_arms kind) where
    is_leaf_lem : h.shape ≡ of_scalar (leaf kind p)
    unfolding line_shape
    is_leaf_lem = pick (is_leaf kind) refl
      where
        pick : (t : Bool) → is_leaf kind ≡ t → h.shape ≡ of_scalar (leaf kind p)
        pick true e =
            let f : shape_at (line_columns kind p q text) ≡ given (of_scalar (leaf kind p)) = rw e in
            sym (same_given (sym f ∙ h.read))
        pick false e =
            let f : refused bad_lines ≡ shape_at (line_columns kind p q text) =
            rw (
              e,
              ne_eqb kind Kind.Timestamp r.0.0.0.0.0.0.0.0.0.0.0.0.1,
              ne_eqb kind Kind.FixedSizeBinary r.0.0.0.0.0.0.0.0.0.0.0.1,
              ne_eqb kind Kind.List r.0.0.0.0.0.0.0.0.0.0.1,
              ne_eqb kind Kind.FixedSizeList r.0.0.0.0.0.0.0.0.0.1,
              ne_eqb kind Kind.LargeList r.0.0.0.0.0.0.0.0.1,
              ne_eqb kind Kind.Struct r.0.0.0.0.0.0.0.1,
              ne_eqb kind Kind.Map r.0.0.0.0.0.0.1,
              ne_eqb kind Kind.Dictionary r.0.0.0.0.0.1,
              ne_eqb kind Kind.Decimal r.0.0.0.0.1,
              ne_eqb kind Kind.Decimal32 r.0.0.0.1,
              ne_eqb kind Kind.Decimal64 r.0.0.1,
              ne_eqb kind Kind.Decimal256 r.0.1,
              ne_eqb kind Kind.Extension h.plain,
              ne_eqb kind Kind.Union r.1,
            ) in
            not_given (f ∙ h.read)

    pub leaf_arm : scalar_format (leaf kind p) ≡ line_format kind p q text fields
    leaf_arm = of_shape (of_scalar (leaf kind p)) is_leaf_lem

    pub can_leaf : CanPutLeaf kind p at
    can_leaf = record { rule = subst (λ (s : Shape). Meets (shape_rule s)) is_leaf_lem h.rule; low = omega (arith, h.low) }

-- ── decimals

pub decimal_none : (p q : ℕ) → decimal_text p q [] ≡ ascii "d:" ++ (decimal p ++ (44 ∷ decimal q))
decimal_none p q = append-nil (((ascii "d:" ++ decimal p) ++ ascii ",") ++ decimal q) ∙ simp append_assoc

pub decimal_wide : (p q : ℕ) (w : Bytes) → decimal_text p q (44 ∷ w) ≡ ascii "d:" ++ (decimal p ++ (44 ∷ (decimal q ++ (44 ∷ w))))
decimal_wide p q w = simp append_assoc

-- ── units

module _ (zone : Option Bytes) where
  pub stamped : (p u : ℕ) (name : Bytes) → p ≡ u → timestamp_format u zone ≡ given (name ++ or_empty zone) → given (name ++ or_empty zone) ≡ timestamp_format p zone
  stamped p u name e f = sym f ∙ ap (λ (x : ℕ). timestamp_format x zone) (sym e)

  pub last_unit : (p : ℕ) → p < 4 → Rest ((2 ∷ []) ∷ (1 ∷ []) ∷ (0 ∷ []) ∷ []) p → p ≡ 3
  last_unit p h r =
      let a : p ≢ 0 = r.0.0.1 in
      let b : p ≢ 1 = r.0.1 in
      let c : p ≢ 2 = r.1 in
      omega arith
