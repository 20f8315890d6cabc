-- An export has one number and one length in both orders of the metadata (document 02, #104): what it refuses is not looked at in the metadata, and a count
-- or a length has four bytes in either order (`block_size`). By induction on the field, the answers in the two orders side by side. Assumes nothing.
use mathlib.Core.Path.{◌≡◌, refl, sym, ap}
use mathlib.Core.Bool.{Bool, true, false, cond}
use mathlib.Core.List.{List, [], ◌∷◌}
use Rattle.std.specs.Prelude.{Option, None, Some}
use Prim.Native.Nat.{ℕ, ◌+◌}
use native.Mathlib.Omega.{arith}
use lib.Dec.{leb}
use lib.ListN.{length}
use Rattle.sheets.specs.Refusal.{Refusal, zero_byte, number_of, no_room}
use Rattle.sheets.specs.Rule.{Rule, passes, ◌and◌}
use Rattle.sheets.specs.Bytes.{Bytes, lacks}
use Rattle.sheets.specs.Number.{decimal}
use Rattle.sheets.specs.Text.{write_text}
use Rattle.sheets.specs.Answer.{Answer, refused, given, ◌>>=◌, decide, when}
use Rattle.sheets.specs.Flags.{ORDERED}
use Rattle.sheets.specs.Schema.{Schema, schema, Schemas, end, ◌&◌, Dictionary, absent, present, count_schemas, count_dictionary, schema_lines, schema_heading}
use Rattle.sheets.specs.Field.{Pair, Info, ArrowDataType, scalar, nested, grouped, dictionary, extension, Fields, nil, add}
use Rattle.sheets.specs.FieldSheet.{read_field_sheet}
use Rattle.sheets.specs.Format.{to_format}
use Rattle.sheets.specs.Metadata.{Extension, name_key, insert_over, with_metadata, or_none, block_of, schema_metadata}
use Rattle.sheets.specs.Export.{flag, sorted_flag, schema_node, values_info, outermost, schema_new_of, schema_children}
use Rattle.sheets.specs.Outcome.{success, refusal, outcome, exported, export_outcome_in}
use Rattle.sheets.proofs.Tests.{never}
use Rattle.sheets.proofs.RoundTrip.{exported_node}
use Rattle.rooms.specs.Room.{EquallyLong}
use Rattle.rooms.proofs.Sizes.{sheet_size, schema_size, children_size, dictionary_size, child_size, schema_size_lem}
use Rattle.rooms.proofs.ExportRoomMetadata.{block_size}

-- ── two answers side by side

-- both refused with one number, or what both give is related
abbrev Related : {A : Type 0} → (A → A → Type 0) → Answer A → Answer A → Type 0
Related R (refused r) (refused s) = r ≡ s
Related R (refused r) (given b) = ⊥
Related R (given a) (refused s) = ⊥
Related R (given a) (given b) = R a b

record Beside {A : Type 0} (R : A → A → Type 0) (m n : Answer A) : Type 0 where
  related : Related R m n

beside_given : {A : Type 0} {R : A → A → Type 0} {a b : A} → R a b → Beside R (given a) (given b)
beside_given h = record { related = h }

beside_refused : {A : Type 0} {R : A → A → Type 0} {r s : Refusal} → r ≡ s → Beside R (refused r) (refused s)
beside_refused h = record { related = h }

-- a step of each, and the next from what these give
beside_then : {A B : Type 0} {Q : A → A → Type 0} {R : B → B → Type 0} {m n : Answer A} {f g : A → Answer B}
    → Beside Q m n → ((a b : A) → Q a b → Beside R (f a) (g b)) → Beside R (m >>= f) (n >>= g)
beside_then {A} {B} {Q} {R} {m} {n} {f} {g} h k = go m n h.related
  where
    go : (m n : Answer A) → Related Q m n → Beside R (m >>= f) (n >>= g)
    go (refused r) (refused s) e = beside_refused e
    go (refused r) (given b) e = absurd e
    go (given a) (refused s) e = absurd e
    go (given a) (given b) e = k a b e

-- a step that is the same for both
beside_after : {A B : Type 0} {R : B → B → Type 0} (m : Answer A) {f g : A → Answer B}
    → ((a : A) → Beside R (f a) (g a)) → Beside R (m >>= f) (m >>= g)
beside_after (refused r) k = beside_refused refl
beside_after (given a) k = k a

beside_when : {A : Type 0} {R : A → A → Type 0} (r : Refusal) (rule : Rule) (a b : A) → R a b → Beside R (when r rule a) (when r rule b)
beside_when {A} {R} r rule a b h = go (passes rule)
  where
    go : (t : Bool) → Beside R (decide r t a) (decide r t b)
    go true = beside_given h
    go false = beside_refused refl

abbrev SameLength : Bytes → Bytes → Type 0
SameLength s t = length s ≡ length t

-- from the sheets that are answered to the call
outcomes_beside : {m n : Answer Bytes} (out : Bytes) → Beside SameLength m n → EquallyLong (outcome m out) (outcome n out)
unfolding outcome
outcomes_beside {m} {n} out h = go m n h.related
  where
    answers : (s t : Bytes) (a b : Bool) → SameLength s t → a ≡ b
        → EquallyLong (cond a (success s out) (refusal no_room out)) (cond b (success t out) (refusal no_room out))
    answers s t true true l e = (refl, l)
    answers s t true false l e = never (sym e)
    answers s t false true l e = never e
    answers s t false false l e = (refl, refl)

    go : (m n : Answer Bytes) → Related SameLength m n → EquallyLong (outcome m out) (outcome n out)
    go (refused r) (refused s) e = (ap number_of e, refl)
    go (refused r) (given t) e = absurd e
    go (given s) (refused r) e = absurd e
    go (given s) (given t) l = answers s t (leb (length s) (length out)) (leb (length t) (length out)) l (ap (λ (n : ℕ). leb n (length out)) l)

-- ── schemas of one size

abbrev SameSize : Schema → Schema → Type 0
SameSize s t = schema_size s ≡ schema_size t

abbrev SameSizes : Schemas → Schemas → Type 0
SameSizes cs ds = (count_schemas cs ≡ count_schemas ds) × (children_size cs ≡ children_size ds)

abbrev SameValues : Dictionary → Dictionary → Type 0
SameValues d e = (count_dictionary d ≡ count_dictionary e) × (dictionary_size d ≡ dictionary_size e)

module _ (x y : Bool) where
  blocks_beside : (ps : List Pair) → length (write_text (block_of x ps)) ≡ length (write_text (block_of y ps))
  blocks_beside [] = refl
  blocks_beside (p ∷ ps) = omega (arith, block_size x (p ∷ ps), block_size y (p ∷ ps))

  metadata_beside : (ps : Option (List Pair)) (e : Option Extension) → length (write_text (schema_metadata x ps e)) ≡ length (write_text (schema_metadata y ps e))
  metadata_beside ps None = blocks_beside (or_none ps)
  metadata_beside ps (Some e) =
      let merged = insert_over (name_key, e.0) (with_metadata e.1 (or_none ps)) in
      omega (arith, block_size x merged, block_size y merged)

  node_beside : (i : Info) (e : Option Extension) (f : Bytes) (n : ℕ) (cs ds : Schemas) (c d : Dictionary)
      → SameSizes cs ds → SameValues c d → Beside SameSize (schema_node x i e f n cs c) (schema_node y i e f n ds d)
  node_beside i e f n cs ds c d children values =
      let s = exported_node x i e f n in
      let t = exported_node y i e f n in
      beside_when zero_byte (lacks 0 i.name and lacks 0 f) (schema s cs c) (schema t ds d)
      (omega (
        arith,
        schema_size_lem s cs c,
        schema_size_lem t ds d,
        metadata_beside i.pairs e,
        ap (λ (k : ℕ). length (decimal k)) children.0,
        ap (λ (k : ℕ). length (decimal k)) values.0,
        children.1,
        values.1,
      ))

  -- ── the tree

  mutual
    type_beside : (t : ArrowDataType) (i : Info) (e : Option Extension) → Beside SameSize (schema_new_of x t i e) (schema_new_of y t i e)
    type_beside (scalar s) i e =
        beside_after (to_format (scalar s))
        (λ f. node_beside i e f 0 end end absent absent (refl, refl) (refl, refl))
    type_beside (nested n j t) i e =
        beside_after (to_format (nested n j t))
        (λ f. beside_then (type_beside t j None)
        (λ a b h. node_beside i e f (sorted_flag n) (a & end) (b & end) absent absent (refl, omega (arith, h, child_size a end, child_size b end)) (refl, refl)))
    type_beside (grouped g fs) i e =
        beside_after (to_format (grouped g fs))
        (λ f. beside_then (fields_beside fs)
        (λ cs ds h. node_beside i e f 0 cs ds absent absent h (refl, refl)))
    type_beside (dictionary ix ordered t) i None =
        beside_after (to_format (dictionary ix ordered t))
        (λ f. beside_then (type_beside t values_info None)
        (λ a b h. node_beside i None f (flag ordered ORDERED) end end (present a) (present b) (refl, refl) (refl, h)))
    type_beside (dictionary ix ordered t) i (Some e) =
        beside_after (to_format (dictionary ix ordered t))
        (λ f. node_beside i (Some e) f 0 end end absent absent (refl, refl) (refl, refl))
    type_beside (extension n m t) i e = type_beside t i (Some (outermost e (n, m)))

    fields_beside : (fs : Fields) → Beside SameSizes (schema_children x fs) (schema_children y fs)
    fields_beside nil = beside_given (refl, refl)
    fields_beside (add i t fs) =
        beside_then (type_beside t i None)
        (λ a b first. beside_then (fields_beside fs)
        (λ cs ds rest. beside_given (omega (arith, rest.0), omega (arith, child_size a cs, child_size b ds, first, rest.1))))

  -- ── the sheet and the call

  sheet_beside : (b : Bytes) → Beside SameLength (exported x b) (exported y b)
  unfolding exported
  sheet_beside b =
      beside_after (read_field_sheet b)
      (λ f. beside_then (type_beside f.type f.info None)
      (λ s t h. beside_given (omega (arith, h, sheet_size schema_heading (schema_lines s), sheet_size schema_heading (schema_lines t)))))

  pub export_equally_long : (b out : Bytes) → EquallyLong (export_outcome_in x b out) (export_outcome_in y b out)
  export_equally_long b out = outcomes_beside out (sheet_beside b)
