-- The columns of a line that are still to come, from a place on: one column after the other is read off, or put in front. Once for every column.
-- Assumes nothing.
use mathlib.Core.Path.{◌≡◌, refl, sym, ap, subst, ◌∙◌}
use mathlib.Core.List.{List, [], ◌∷◌, ◌++◌, append_assoc}
use mathlib.Core.Logic.{◌⊎◌, inl, inr}
use Prim.Native.Nat.{ℕ, ◌+◌}
use native.Mathlib.Omega.{arith}
use lib.ListN.{length, drop}
use Rattle.sheets.specs.Refusal.{bad_lines}
use Rattle.sheets.specs.Rule.{Meets}
use Rattle.sheets.specs.Bytes.{Bytes, lacks, split}
use Rattle.sheets.specs.Answer.{Answer, refused, given, ◌>>=◌}
use Rattle.sheets.specs.Codec.{Codec, ColumnsCodec as Columns, done, no_columns, read_column, ◌▸◌}
use Rattle.sheets.proofs.Tests.{first_gave}
use Rattle.sheets.proofs.BytesLaws.{all_append, split_next, split_last, Cut, first_of, cut_same}
use Rattle.sheets.proofs.InverseLaws.{split_some}
use Rattle.columns.specs.Columns.{part, stop_from, ColumnAt}
use Rattle.columns.specs.Tails.{Tail}
use Rattle.columns.proofs.ColumnLaws.{column_of_lem, column_end_lem}
use Rattle.columns.proofs.SplitLaws.{lacks_front, lacks_back, cut_space}

never : {A : Type 0} {a : A} → ◌≡◌ {A = Answer A} (refused bad_lines) (given a) → ⊥
never {A} {a} e = let y : ◌≡◌ {A = ℕ} 0 1 = cc in omega arith

-- ── the first column and the others

module _ {A B : Type 0} (k : Codec A) (row : Columns B) where
  first_read : (c : Bytes) (cs : List Bytes) (x : A × B) → read_column k.read row.reads (c ∷ cs) ≡ given x → (k.read c ≡ given x.0) × (row.reads cs ≡ given x.1)
  first_read c cs x e =
      let p = first_gave (k.read c) (λ a. row.reads cs >>= λ b. given (a, b)) x e in
      let q = first_gave (row.reads cs) (λ b. given (p.0, b)) x p.2 in
      both p.0 q.0 p.1 q.1 q.2
    where
      both : (a : A) (b : B) → k.read c ≡ given a → row.reads cs ≡ given b → ◌≡◌ {A = Answer (A × B)} (given (a, b)) (given x) → (k.read c ≡ given x.0) × (row.reads cs ≡ given x.1)
      both a b ea eb ex =
          let same : (a, b) ≡ x = cc in
          subst (λ (y : A × B). (k.read c ≡ given y.0) × (row.reads cs ≡ given y.1)) same (ea, eb)

  module _ {s : Bytes} {p e : ℕ} {rest : Bytes} where
    pub tail_next : {x : A × B} → Tail (k ▸ row) s p x rest → ColumnAt s p e 32 → (k.read (part s p e) ≡ given x.0) × Tail row s (e + 1) x.1 rest
    tail_next {x} t c = go (cut_space (part s p e) (drop (e + 1) s) t.bytes rest (sym c.is ∙ t.is) c.ends)
      where
        go : (n : Bytes) × (t.bytes ≡ part s p e ++ (32 ∷ n)) × (drop (e + 1) s ≡ n ++ (10 ∷ rest)) → (k.read (part s p e) ≡ given x.0) × Tail row s (e + 1) x.1 rest
        go w =
            let parts : split 32 t.bytes ≡ part s p e ∷ split 32 w.0 = ap (split 32) w.1 ∙ split_next 32 (part s p e) w.0 c.spaces in
            let r = first_read (part s p e) (split 32 w.0) x (sym (ap (read_column k.read row.reads) parts) ∙ t.reads) in
            let free : Meets (lacks 10 (part s p e ++ (32 ∷ w.0))) = subst (λ (y : Bytes). Meets (lacks 10 y)) w.1 t.free in
            (r.0, record { bytes = w.0; is = w.2; free = lacks_back 10 32 (part s p e) w.0 free; reads = r.1 })

    pub tail_cons : {a : A} {y : B} → ColumnAt s p e 32 → k.read (part s p e) ≡ given a → Tail row s (e + 1) y rest → Tail (k ▸ row) s p (a, y) rest
    tail_cons {a} {y} c reads t =
        let parts : split 32 (part s p e ++ (32 ∷ t.bytes)) ≡ part s p e ∷ split 32 t.bytes = split_next 32 (part s p e) t.bytes c.spaces in
        record {
          bytes = part s p e ++ (32 ∷ t.bytes);
          is = c.is ∙ ap (λ (l : Bytes). part s p e ++ (32 ∷ l)) t.is ∙ sym (append_assoc (part s p e) (32 ∷ t.bytes) (10 ∷ rest));
          free = all_append _ (part s p e) (32 ∷ t.bytes) c.ends (refl, t.free);
          reads = ap (read_column k.read row.reads) parts ∙ rw (reads, t.reads);
        }

-- ── a column that a space ends

module _ {A B C : Type 0} (k : Codec A) (j : Codec B) (row : Columns C) {s : Bytes} {p : ℕ} {x : A × (B × C)} {rest : Bytes} (t : Tail (k ▸ (j ▸ row)) s p x rest) where
  pub tail_column : (e : ℕ) × ColumnAt s p e 32
  tail_column = go (first_of 32 t.bytes)
    where
      go : Meets (lacks 32 t.bytes) ⊎ Cut 32 t.bytes → (e : ℕ) × ColumnAt s p e 32
      go (inl h) =
          let one : read_column k.read (j ▸ row).reads (t.bytes ∷ []) ≡ given x = sym (ap (read_column k.read (j ▸ row).reads) (split_last 32 t.bytes h)) ∙ t.reads in
          absurd (never (first_read k (j ▸ row) t.bytes [] x one).1)
      go (inr w) =
          let is : drop p s ≡ w.front ++ (32 ∷ (w.back ++ (10 ∷ rest))) =
          t.is ∙ ap (λ (b : Bytes). b ++ (10 ∷ rest)) w.is ∙ append_assoc w.front (32 ∷ w.back) (10 ∷ rest) in
          let free : Meets (lacks 10 (w.front ++ (32 ∷ w.back))) = subst (λ (b : Bytes). Meets (lacks 10 b)) w.is t.free in
          (p + length w.front, column_of_lem s p w.front (w.back ++ (10 ∷ rest)) 32 is w.free (lacks_front 10 w.front (32 ∷ w.back) free))

  -- so a column that is missing or does not read contradicts the line
  pub tail_bad : ((e : ℕ) → ColumnAt s p e 32 → k.read (part s p e) ≡ given x.0 → ⊥) → ⊥
  tail_bad miss = let c = tail_column in miss c.0 c.1 (tail_next k (j ▸ row) t c.1).0

-- ── the last column

module _ {A : Type 0} (k : Codec A) {s : Bytes} {p : ℕ} where
  pub tail_last : {x : A × Unit {0}} {rest : Bytes} {e : ℕ} → Tail (k ▸ done) s p x rest → ColumnAt s p e 10 → (k.read (part s p e) ≡ given x.0) × (drop (e + 1) s ≡ rest)
  tail_last {x} {rest} {e} t c =
      let w = cut_same 10 (part s p e) t.bytes (drop (e + 1) s) rest c.ends t.free (sym c.is ∙ t.is) in
      let one : read_column k.read no_columns (part s p e ∷ []) ≡ given x =
      sym (ap (read_column k.read no_columns) (ap (split 32) (sym w.0) ∙ split_last 32 (part s p e) c.spaces)) ∙ t.reads in
      ((first_read k done (part s p e) [] x one).0, w.1)

  pub tail_end : {a : A} {e : ℕ} → ColumnAt s p e 10 → k.read (part s p e) ≡ given a → Tail (k ▸ done) s p (a, tt) (drop (e + 1) s)
  tail_end {a} {e} c reads =
      record {
        bytes = part s p e;
        is = c.is;
        free = c.ends;
        reads = ap (read_column k.read no_columns) (split_last 32 (part s p e) c.spaces) ∙ rw reads;
      }

  module _ {x : A × Unit {0}} {rest : Bytes} (t : Tail (k ▸ done) s p x rest) where
    pub last_column : (e : ℕ) × ColumnAt s p e 10
    last_column = go (first_of 32 t.bytes)
      where
        go : Meets (lacks 32 t.bytes) ⊎ Cut 32 t.bytes → (e : ℕ) × ColumnAt s p e 10
        go (inl h) = (p + length t.bytes, column_of_lem s p t.bytes rest 10 t.is h t.free)
        go (inr w) =
            let more = split_some 32 w.back in
            let parts : split 32 t.bytes ≡ w.front ∷ more.0 ∷ more.1 =
            ap (split 32) w.is ∙ split_next 32 w.front w.back w.free ∙ ap (λ (l : List Bytes). w.front ∷ l) more.2 in
            let two : read_column k.read no_columns (w.front ∷ more.0 ∷ more.1) ≡ given x = sym (ap (read_column k.read no_columns) parts) ∙ t.reads in
            absurd (never (first_read k done w.front (more.0 ∷ more.1) x two).1)

    pub last_bad : ((e : ℕ) → ColumnAt s p e 10 → k.read (part s p e) ≡ given x.0 → ⊥) → ⊥
    last_bad miss = let c = last_column in miss c.0 c.1 (tail_last t c.1).0

-- ── a column whose end was found by looking at one byte after the other

-- the column whose end was found, and the columns after it
pub record Found {A B : Type 0} (k : Codec A) (row : Columns B) (s : Bytes) (p e : ℕ) (x : A × B) (rest : Bytes) : Type 0 where
  pub column : ColumnAt s p e 32
  pub reads : k.read (part s p e) ≡ given x.0
  pub after : Tail row s (e + 1) x.1 rest

pub found : {A B C : Type 0} (k : Codec A) (j : Codec B) (row : Columns C) {s : Bytes} {p e : ℕ} {x : A × (B × C)} {rest : Bytes}
    → Tail (k ▸ (j ▸ row)) s p x rest → e ≡ stop_from s p → Found k (j ▸ row) s p e x rest
found k j row {s} {p} {e} {x} {rest} t at =
    let c = tail_column k j row t in
    let here : c.0 ≡ e = column_end_lem c.1 refl ∙ sym at in
    let column : ColumnAt s p e 32 = subst (λ (i : ℕ). ColumnAt s p i 32) here c.1 in
    let n = tail_next k (j ▸ row) t column in
    record { column = column; reads = n.0; after = n.1 }

-- the last column
pub last_found : {A : Type 0} (k : Codec A) {s : Bytes} {p e : ℕ} {x : A × Unit {0}} {rest : Bytes} → Tail (k ▸ done) s p x rest → e ≡ stop_from s p → ColumnAt s p e 10
last_found k {s} {p} {e} t at =
    let c = last_column k t in
    let here : c.0 ≡ e = column_end_lem c.1 refl ∙ sym at in
    subst (λ (i : ℕ). ColumnAt s p i 10) here c.1
