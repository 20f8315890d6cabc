-- The whole field sheet: what 1, 2 and 3 make of it (`HeadingLaws`, `TreeWalks`), and what a strict reading asks then. A law for each way out of `read_as`; and
-- what stands after the heading of a sheet that is read (`sheet_opens`). Assumes nothing.
use mathlib.Core.Path.{◌≡◌, refl, sym, ap, subst, ◌∙◌}
use mathlib.Core.Bool.{Bool, true, false}
use mathlib.Core.List.{List, [], ◌∷◌, append-nil}
use Rattle.std.specs.Prelude.{Some, Result, Ok, Err}
use Prim.Native.Nat.{ℕ, ◌≤◌, ◌<◌}
use native.Mathlib.Omega.{arith}
use lib.ListN.{length, drop}
use borrow.Author.Tests.{leb-true}
use Rattle.sheets.specs.Refusal.{Refusal, not_sheet, bad_lines, too_deep}
use Rattle.sheets.specs.Bytes.{Bytes, after}
use Rattle.sheets.specs.Answer.{Answer, refused, given, ◌>>=◌}
use Rattle.sheets.specs.Sheet.{sheet_limit, level_limit, heading_line, is_headed, ended}
use Rattle.sheets.specs.Field.{Field, field_levels}
use Rattle.sheets.specs.FieldSheet.{field_heading, type_lines, write_field_sheet, read_field_sheet, Entry}
use Rattle.sheets.specs.LineTrees.{Row, Standing}
use Rattle.sheets.specs.FieldTrees.{fields}
use Rattle.sheets.specs.TreeWalks.{HasTree, TreeTo, TreeDeep}
use Rattle.sheets.proofs.Tests.{first_gave, not_given, same_given}
use Rattle.sheets.proofs.FieldSheetLaws.{field_read, field_sheet_read, field_sheet_short}
use Rattle.sheets.proofs.HeadingLaws.{headed_body, long_refused, headless_refused}
use Rattle.sheets.proofs.TreeWalks.{whole_broken, whole_bad, whole_deep, whole_formed, whole_good, whole_left}
use Rattle.sheets.proofs.FieldTrees.{field_sheet, fields_lawful, whole_field, standing_lines}
use Rattle.refusal.specs.Refusals.{refusal_of}
use Rattle.refusal.specs.declared.Refusal.{Refusal as Reason}
use Rattle.field_sheet.specs.Strict.{TreeTold}
use Rattle.field_sheet.specs.Trees.{Forms, ReadsTree}
use Rattle.field_sheet.specs.Sheets.{asked, body_as, sheet_body}
use Rattle.field_sheet.specs.declared.trees.NoTree.{NoTree}
use Rattle.field_sheet.specs.declared.trees.NoTree.TheVariants as Read

-- where the lines begin
abbrev start : ℕ
start = length (heading_line field_heading)

-- ── a sheet that is read

-- the sheet is read as the field f, whose lines stand from here on
pub record Opens (s : Bytes) (at : ℕ) (f : Field) : Type 0 where
  pub is_read : read_field_sheet s ≡ given f
  pub stands : Standing fields (drop at s) ((Some f.info, f.type) ∷ [])
  pub levels : field_levels f ≤ level_limit
  pub within : at ≤ length s
  pub short : length s ≤ sheet_limit

-- the lines after the heading are the field's
sheet_stands : (s : Bytes) (f : Field) → read_field_sheet s ≡ given f → Opens s start f
sheet_stands s f e =
    let kept = field_read s f e in
    let text : s ≡ write_field_sheet f = field_sheet_read s f e in
    let lines : drop start s ≡ ended (type_lines f.type (Some f.info)) = ap (drop start) text in
    record {
      is_read = e;
      stands = (standing_lines (drop start s) ((Some f.info, f.type) ∷ [])).1 (lines ∙ ap ended (sym (append-nil (type_lines f.type (Some f.info)))), (kept.0, refl));
      levels = leb-true (field_levels f) level_limit kept.1;
      within = subst (λ (b : Bytes). start ≤ length b) (sym text) (omega arith);
      short = subst (λ (b : Bytes). length b ≤ sheet_limit) (sym text) (leb-true (length (write_field_sheet f)) sheet_limit (field_sheet_short s f e));
    }

-- ── the ways out

-- a tree stands where a row of one does
pub row_tree : (s : Bytes) (at : ℕ) → Row fields 1 false (drop at s) → HasTree fields s at
row_tree s at r = pick r.trees r.stands r.count
  where
    pick : (ts : List Entry) → Standing fields (drop at s) ts → length ts ≡ 1 → HasTree fields s at
    pick [] d n = absurd (omega arith)
    pick (t ∷ ts) d n = (t, ts, d)

module _ (strict : Bool) (s : Bytes) where
  body_refused : (r : Refusal) → read_field_sheet s ≡ refused r → refused r ≡ body_as strict s
  unfolding body_as
  body_refused r h = sym (ap (λ (a : Answer Field). a >>= λ f. asked strict f >>= λ _. given start) h)

  body_asked : (f : Field) (a : Answer (Unit {0})) → read_field_sheet s ≡ given f → asked strict f ≡ a → (a >>= λ _. given start) ≡ body_as strict s
  unfolding body_as
  body_asked f a h e = sym (ap (λ (m : Answer Field). m >>= λ f. asked strict f >>= λ _. given start) h ∙ ap (λ (m : Answer (Unit {0})). m >>= λ _. given start) e)

  -- what a strict reading tells of the tree is what is asked of its field
  asked_told : (f : Field) → read_field_sheet s ≡ given f → (strict ≡ true → TreeTold s start (given tt)) → asked strict f ≡ given tt
  asked_told f e h = pick strict h
    where
      pick : (b : Bool) → (b ≡ true → TreeTold s start (given tt)) → asked b f ≡ given tt
      pick true h = h refl (Some f.info, f.type) [] (sheet_stands s f e).stands
      pick false h = refl

  asked_held : (f : Field) (q : Refusal) → read_field_sheet s ≡ given f → strict ≡ true → TreeTold s start (refused q) → asked strict f ≡ refused q
  asked_held f q e st h = ap (λ (b : Bool). asked b f) st ∙ h (Some f.info, f.type) [] (sheet_stands s f e).stands

  pub sheet_long : sheet_limit < length s → refused not_sheet ≡ body_as strict s
  sheet_long h = body_refused not_sheet (rw (long_refused field_heading s h))

  module _ (short : length s ≤ sheet_limit) where
    pub sheet_headless : is_headed field_heading s ≡ false → refused not_sheet ≡ body_as strict s
    sheet_headless h = body_refused not_sheet (rw (headless_refused field_heading s short h))

    module _ (headed : is_headed field_heading s ≡ true) where
      body : after (heading_line field_heading) s ≡ Some (drop start s)
      body = headed_body field_heading s headed

      pub sheet_broken : (r : Bool) → r ≡ false → Forms s start r → refused bad_lines ≡ body_as strict s
      sheet_broken r e f = body_refused bad_lines (whole_broken fields_lawful field_sheet s start short body (subst (Forms s start) e f))

      -- a tree of too many levels stands here
      pub sheet_tall : Row fields 1 false (drop start s) → TreeDeep fields s start false level_limit → refused too_deep ≡ body_as strict s
      sheet_tall f d = body_refused too_deep (whole_deep fields_lawful field_sheet s start short body f d)

      module _ (q : Result ℕ NoTree) (k : ReadsTree s start false false level_limit strict q) where
        told : (p : Result ℕ NoTree) → q ≡ p → ReadsTree s start false false level_limit strict p
        told p e = subst (λ (x : Result ℕ NoTree). ReadsTree s start false false level_limit strict x) e k

        pub sheet_bad : q ≡ (Err Read.Bad) → refused bad_lines ≡ body_as strict s
        sheet_bad e = body_refused bad_lines (whole_bad fields_lawful field_sheet s start short body (told (Err Read.Bad) e))

        pub sheet_deep : q ≡ (Err Read.Deep) → Row fields 1 false (drop start s) → refused too_deep ≡ body_as strict s
        sheet_deep e f = sheet_tall f (told (Err Read.Deep) e)

        -- a strict export refuses the tree, and 2 and 3 do not come before
        pub sheet_held : (r : Reason) → q ≡ Err (Read.Held r) → Row fields 1 false (drop start s) → (next : ℕ) → TreeTo fields s start false level_limit next → refused (refusal_of r) ≡ body_as strict s
        sheet_held r e f next d =
            let t = told (Err (Read.Held r)) e in
            let g = whole_field s (drop start s) (whole_formed fields_lawful field_sheet s start short body f next d) in
            body_asked g.0 (refused (refusal_of r)) g.3 (asked_held g.0 (refusal_of r) g.3 t.0 t.1)

        -- the tree ends where the sheet does, or something is left over
        module _ (next : ℕ) (e : q ≡ Ok next) where
          pub sheet_whole : length s ≤ next → given start ≡ body_as strict s
          sheet_whole h =
              let r = told (Ok next) e in
              let f = whole_field s (drop start s) (whole_good fields_lawful field_sheet s start short body next r.0 r.1 h) in
              body_asked f.0 (given tt) f.3 (asked_told f.0 f.3 r.2)

          pub sheet_left : next < length s → refused bad_lines ≡ body_as strict s
          sheet_left h = body_refused bad_lines (whole_left fields_lawful field_sheet s start short body next (told (Ok next) e).0 h)

-- ── what was read

module _ (strict : Bool) (s : Bytes) where
  pub strict_opens : {at : ℕ} → body_as strict s ≡ given at → (f : Field) × Opens s at f × (asked strict f ≡ given tt)
  unfolding body_as
  strict_opens {at} e =
      let a = first_gave (read_field_sheet s) (λ f. asked strict f >>= λ _. given start) at e in
      let b = first_gave (asked strict a.0) (λ _. given start) at a.2 in
      (a.0, subst (λ (i : ℕ). Opens s i a.0) (same_given b.2) (sheet_stands s a.0 a.1), b.1)

  -- what is refused is refused whatever is made of the field
  pub strict_refused : {A : Type 0} {r : Refusal} (make : Field → Answer A) → body_as strict s ≡ refused r → (read_field_sheet s >>= λ f. asked strict f >>= λ _. make f) ≡ refused r
  unfolding body_as
  strict_refused {A} {r} make e = pick (read_field_sheet s) e
    where
      last : (f : Field) (a : Answer (Unit {0})) → (a >>= λ _. given start) ≡ refused r → (a >>= λ _. make f) ≡ refused r
      last f (refused q) g =
          let same : q ≡ r = cc in
          ap refused same
      last f (given u) g = not_given (sym g)

      pick : (a : Answer Field) → (a >>= λ f. asked strict f >>= λ _. given start) ≡ refused r → (a >>= λ f. asked strict f >>= λ _. make f) ≡ refused r
      pick (refused q) g =
          let same : q ≡ r = cc in
          ap refused same
      pick (given f) g = last f (asked strict f) g

module _ (s : Bytes) where
  pub sheet_opens : {at : ℕ} → sheet_body s ≡ given at → (f : Field) × Opens s at f
  sheet_opens e = let f = strict_opens false s e in (f.0, f.1)

  -- why a sheet is refused
  pub sheet_refused : {r : Refusal} → sheet_body s ≡ refused r → read_field_sheet s ≡ refused r
  sheet_refused {r} e = sym (all (read_field_sheet s)) ∙ strict_refused false s (λ f. given f) e
    where
      all : (a : Answer Field) → (a >>= λ f. given f) ≡ a
      all (refused q) = refl
      all (given f) = refl
