-- A union's ids, read part by part and written as they are read: each but the last with a comma after it. By induction on the ids. Assumes nothing.
use mathlib.Core.Path.{◌≡◌, refl, sym, ◌∙◌, ap, subst}
use mathlib.Core.List.{List, [], ◌∷◌, ◌++◌, append_assoc}
use mathlib.Core.List.{map as map_list}
use Rattle.std.specs.Prelude.{Some, Ok}
use Prim.Native.Nat.{ℕ, ◌+◌, ◌≤◌}
use native.Mathlib.Omega.{arith}
use lib.IntN.{ℤ}
use lib.ListN.{length}
use Rattle.sheets.specs.Refusal.{bad_number}
use Rattle.sheets.specs.Bytes.{Bytes, join}
use Rattle.sheets.specs.Answer.{Answer, refused, given, ◌>>=◌, read_each}
use Rattle.sheets.specs.Number.{write_signed}
use Rattle.sheets.specs.FieldSheet.{write_list}
use Rattle.sheets.specs.Format.{read_id}
use Rattle.buffer.specs.Over.{PutAt}
use Rattle.buffer.proofs.OverLaws.{Written, none_yet, and_then}
use Rattle.field_line.proofs.ColumnLaws.{put_same}
use Rattle.sheets.specs.Parts.{parts_from}
use Rattle.format.specs.Parts.{read_ids, format_part}
use Rattle.import_type.specs.TypeColumns.{IdsPuts}
use Rattle.sheets.proofs.PartLaws.{PartEnds, parts_here, parts_past}

-- ── as they are written

abbrev with_commas : List ℤ → Bytes
with_commas [] = []
with_commas (z ∷ zs) = write_signed z ++ (44 ∷ with_commas zs)

one_more : (zs : List ℤ) (z : ℤ) → (with_commas zs ++ write_signed z) ++ (44 ∷ []) ≡ with_commas (zs ++ (z ∷ []))
one_more [] z = refl
one_more (y ∷ zs) z =
    ap (λ (t : Bytes). t ++ (44 ∷ [])) (append_assoc (write_signed y) (44 ∷ with_commas zs) (write_signed z))
    ∙ append_assoc (write_signed y) (44 ∷ (with_commas zs ++ write_signed z)) (44 ∷ [])
    ∙ ap (λ (t : Bytes). write_signed y ++ (44 ∷ t)) (one_more zs z)

join_more : (y z : ℤ) (zs : List ℤ) → write_signed y ++ (44 ∷ join 44 (map_list write_signed (zs ++ (z ∷ [])))) ≡ join 44 (map_list write_signed (y ∷ (zs ++ (z ∷ []))))
join_more y z [] = refl
join_more y z (x ∷ zs) = refl

the_last : (zs : List ℤ) (z : ℤ) → with_commas zs ++ write_signed z ≡ join 44 (map_list write_signed (zs ++ (z ∷ [])))
the_last [] z = refl
the_last (y ∷ zs) z =
    append_assoc (write_signed y) (44 ∷ with_commas zs) (write_signed z) ∙ ap (λ (t : Bytes). write_signed y ++ (44 ∷ t)) (the_last zs z) ∙ join_more y z zs

listed : (zs : List ℤ) (z : ℤ) → join 44 (map_list write_signed (zs ++ (z ∷ []))) ≡ write_list write_signed (Some (zs ++ (z ∷ [])))
listed [] z = refl
listed (y ∷ zs) z = refl

-- ── as they are read

-- the ids after others
abbrev after : List ℤ → Answer (List ℤ) → Answer (List ℤ)
after zs a = a >>= λ ys. given (zs ++ ys)

after_one : (zs : List ℤ) (z : ℤ) (a : Answer (List ℤ)) → after zs (a >>= λ ys. given (z ∷ ys)) ≡ after (zs ++ (z ∷ [])) a
after_one zs z (refused r) = refl
after_one zs z (given ys) = ap given (sym (append_assoc zs (z ∷ []) ys))

-- ── the loop

-- the ids before the part that begins at `from` are read and written
pub record Going (b : Bytes) (at : ℕ) (out₀ : Bytes) (from end : ℕ) (out : Bytes) : Type 0 where
  pub ids : List ℤ
  pub reads : read_ids b ≡ after ids (read_each read_id (parts_from b from))
  pub written : Written at (with_commas ids) out₀ end out

pub going_none : (b : Bytes) (at : ℕ) (out : Bytes) → Going b at out 0 at out
going_none b at out = record { ids = []; reads = start (read_ids b) ∙ ap (λ (l : List Bytes). after [] (read_each read_id l)) (sym (parts_here b 0 (omega arith))); written = none_yet at out }
  where
    start : (a : Answer (List ℤ)) → a ≡ after [] a
    start (refused r) = refl
    start (given zs) = refl

module _ (b : Bytes) (at : ℕ) (out₀ : Bytes) (from end : ℕ) (out : Bytes) (g : Going b at out₀ from end out) (to : ℕ) (p : PartEnds b from to) where
  part_read : (a : Answer ℤ) → a ≡ read_id (format_part from to b) → read_ids b ≡ after g.ids (a >>= λ z. read_each read_id (parts_from b (to + 1)) >>= λ zs. given (z ∷ zs))
  part_read a e =
      g.reads
      ∙ ap (λ (l : List Bytes). after g.ids (read_each read_id l)) p.parts
      ∙ ap (λ (x : Answer ℤ). after g.ids (x >>= λ z. read_each read_id (parts_from b (to + 1)) >>= λ zs. given (z ∷ zs))) (sym e)

  -- "A number that does not read ends the format there"
  pub going_refused : refused bad_number ≡ read_id (format_part from to b) → read_ids b ≡ refused bad_number
  going_refused e = part_read (refused bad_number) e

  module _ (z : ℤ) (e : given z ≡ read_id (format_part from to b)) (n : ℕ) (l : Bytes) (put : PutAt end (write_signed z) n out l) where
    pub going_last : length b ≤ to → IdsPuts at (read_ids b) out₀ l (Ok n)
    going_last h =
        let w = and_then (write_signed z) g.written put in
        let last = ap (λ (ps : List Bytes). after g.ids (read_each read_id ps >>= λ zs. given (z ∷ zs))) (parts_past b (to + 1) (omega arith)) in (
          g.ids ++ (z ∷ []),
          part_read (given z) e ∙ last,
          put_same at out₀ (with_commas g.ids ++ write_signed z) (write_list write_signed (Some (g.ids ++ (z ∷ [])))) (the_last g.ids z ∙ listed g.ids z) (w.place, w.holds),
        )

    pub going_more : (m : ℕ) (k : Bytes) → PutAt n (44 ∷ []) m l k → Going b at out₀ (to + 1) m k
    going_more m k comma =
        record {
          ids = g.ids ++ (z ∷ []);
          reads = part_read (given z) e ∙ after_one g.ids z (read_each read_id (parts_from b (to + 1)));
          written = subst (λ (t : Bytes). Written at t out₀ m k) (one_more g.ids z) (and_then (44 ∷ []) (and_then (write_signed z) g.written put) comma);
        }
