-- The columns name nullable pairs of a line: they are a field's that keeps the rules, or a bare line's, exactly if they fit, column by column.
-- Assumes nothing.
use mathlib.Core.Path.{◌≡◌, refl, sym, ◌∙◌, ap, ap₂, subst}
use mathlib.Core.Bool.{Bool, true, false}
use mathlib.Core.List.{List, [], ◌∷◌, ◌++◌}
use Rattle.std.specs.Prelude.{Option, None, Some}
use Prim.Native.Nat.{ℕ}
use native.Mathlib.Omega.{arith}
use Rattle.sheets.specs.Rule.{is, Meets}
use Rattle.sheets.specs.Bytes.{Bytes, same, split, join}
use Rattle.sheets.specs.Answer.{Answer, given, ◌>>=◌}
use Rattle.sheets.specs.Number.{decimal}
use Rattle.sheets.specs.Text.{unhex, write_text, read_text}
use Rattle.sheets.specs.Utf8.{is_utf8}
use Rattle.sheets.specs.Field.{Pair, Info, metadata_rule}
use Rattle.sheets.specs.FieldSheet.{Own, no_text, to_nat, pair_text, pair_of, read_pair, read_list, write_list, info_columns, read_info}
use Rattle.sheets.specs.FieldTrees.{own_rule, is_bare}
use Rattle.sheets.proofs.Tests.{first_gave, same_given, not_given, passing}
use Rattle.sheets.proofs.BytesLaws.{same_eq}
use Rattle.sheets.proofs.NumberLaws.{read_decimal}
use Rattle.sheets.proofs.TextLaws.{read_text_lem}
use Rattle.sheets.proofs.InverseLaws.{number_read, unhex_read, join_split}
use Rattle.sheets.proofs.Utf8Laws.{utf8_bytes}
use Rattle.sheets.proofs.FieldSheetLaws.{bool_at_lem, pairs_listed, read_pairs, read_info_lem, info_read}
use Rattle.field_columns.specs.Lists.{keeps, is_pairs}
use Rattle.field_columns.specs.FieldColumns.{is_nothing, is_some_text, is_optional_text, is_flag, is_content}
use Rattle.field_columns.proofs.ContentLaws.{optional_some, flag_of_lem, bit}
use Rattle.field_kinds.specs.FieldKinds.{flag_content, pairs_content, OwnFits}
use Rattle.field_kinds.proofs.ListOnce.{keeps_given, list_once}
use Rattle.field_kinds.proofs.ShapeLaws.{name_is_lem}

-- ── a pair that was read is written as its text

pair_of_lem : (t : List Bytes) (p : Pair) → pair_of t ≡ given p → join 61 t ≡ pair_text p
pair_of_lem [] p e = not_given e
pair_of_lem (k ∷ []) p e = not_given e
pair_of_lem (k ∷ v ∷ []) p e =
    let a = first_gave (unhex k) (λ x. unhex v >>= λ y. given (x, y)) p e in
    let b = first_gave (unhex v) (λ y. given (a.0, y)) p a.2 in
    sym (ap pair_text (sym (same_given b.2)) ∙ ap₂ (λ (x y : Bytes). x ++ (61 ∷ y)) (unhex_read k a.0 a.1) (unhex_read v b.0 b.1))
pair_of_lem (k ∷ v ∷ x ∷ xs) p e = not_given e

pair_once : (t : Bytes) (p : Pair) → read_pair t ≡ given p → pair_text p ≡ t
pair_once t p e = sym (pair_of_lem (split 61 t) p e) ∙ join_split 61 t

-- ── from the field to the columns

pub record OwnFit (o : Own) (i : Option Info) : Type 0 where
  pub fits : OwnFits o
  pub bare : is_nothing o.0 ≡ is_bare i

some_name : (n : Bytes) → is_utf8 n ≡ true → (is_some_text (write_text (Some n)) ≡ true) × (is_nothing (write_text (Some n)) ≡ false)
unfolding is_some_text is_nothing
some_name n h = (rw (read_text_lem (Some n) (utf8_bytes n h)) h, not_none n (read_text_lem (Some n) (utf8_bytes n h)))
  where
    not_none : (n : Bytes) → read_text (write_text (Some n)) ≡ given (Some n) → same no_text (write_text (Some n)) ≡ false
    not_none n e = pick (same no_text (write_text (Some n))) refl
      where
        pick : (t : Bool) → same no_text (write_text (Some n)) ≡ t → t ≡ false
        pick false g = refl
        pick true g =
            let z : ◌≡◌ {A = Answer (Option Bytes)} (given None) (given (Some n)) = ap read_text (same_eq no_text (write_text (Some n)) g) ∙ e in
            absurd (let y : ◌≡◌ {A = ℕ} 0 1 = cc in omega arith)

flag_fits : (b : Bool) → is_flag (decimal (to_nat b)) ≡ true
unfolding is_flag
flag_fits b = rw (read_decimal (to_nat b), bool_at_lem b)

pairs_fit_lem : (ps : Option (List Pair)) → Meets (metadata_rule ps) → is_pairs (write_list pair_text ps) ≡ true
unfolding is_pairs
pairs_fit_lem ps h = ap (keeps metadata_rule) (read_pairs ps (pairs_listed ps h)) ∙ passing (metadata_rule ps) h

fit_of : (i : Option Info) → Meets (own_rule i) → OwnFit (info_columns i) i
unfolding is_nothing is_optional_text
fit_of None h = record { fits = record { name_fit = refl; flag_fit = refl; pairs_fit = refl }; bare = refl }
fit_of (Some i) h =
    let n = some_name i.name h.0 in
    record {
      fits =
          record {
            name_fit = optional_some (write_text (Some i.name)) n.1 ∙ n.0;
            flag_fit = ap (λ (b : Bool). is_content (flag_content b) (decimal (to_nat i.nullable))) n.1 ∙ flag_fits i.nullable;
            pairs_fit = ap (λ (b : Bool). is_content (pairs_content b) (write_list pair_text i.pairs)) n.1 ∙ pairs_fit_lem i.pairs h.1;
          };
      bare = n.1;
    }

pub info_fits : (o : Own) (i : Option Info) → read_info o ≡ given i → Meets (own_rule i) → OwnFit o i
info_fits o i e h = subst (λ (x : Own). OwnFit x i) (info_read o i e) (fit_of i h)

-- ── from the columns to the field

pub record Informed (o : Own) : Type 0 where
  pub info : Option Info
  pub reads : read_info o ≡ given info
  pub rule : Meets (own_rule info)
  pub written : info_columns info ≡ o
  pub bare : is_nothing o.0 ≡ is_bare info

made : {o : Own} (i : Option Info) → Meets (own_rule i) → info_columns i ≡ o → Informed o
made {o} i h e =
    let r : read_info o ≡ given i = ap read_info (sym e) ∙ read_info_lem i h in
    record { info = i; reads = r; rule = h; written = e; bare = (info_fits o i r h).bare }

nothing_is : (c : Bytes) → is_nothing c ≡ true → no_text ≡ c
unfolding is_nothing
nothing_is c h = same_eq no_text c h

pairs_are : (c : Bytes) → is_pairs c ≡ true → (ps : Option (List Pair)) × (write_list pair_text ps ≡ c) × Meets (metadata_rule ps)
unfolding is_pairs
pairs_are c h =
    let w = keeps_given metadata_rule (read_list read_pair c) h in
    (w.0, list_once pair_text read_pair pair_once c w.0 w.1, w.2)

flag_is : (c : Bytes) → is_flag c ≡ true → (b : Bool) × (decimal (to_nat b) ≡ c)
flag_is c h =
    let w = flag_of_lem c h in
    (w.1, ap decimal (sym (bit w.0 w.1 w.3)) ∙ number_read c w.0 w.2)

pub fits_info : (o : Own) → OwnFits o → Informed o
fits_info o f = pick (is_nothing o.0) refl
  where
    pick : (t : Bool) → is_nothing o.0 ≡ t → Informed o
    pick true e =
        let flag : is_nothing o.1.0 ≡ true = sym (ap (λ (b : Bool). is_content (flag_content b) o.1.0) e) ∙ f.flag_fit in
        let pairs : is_nothing o.1.1 ≡ true = sym (ap (λ (b : Bool). is_content (pairs_content b) o.1.1) e) ∙ f.pairs_fit in
        made None refl (λ i. (nothing_is o.0 e i, (nothing_is o.1.0 flag i, nothing_is o.1.1 pairs i)))
    pick false e =
        let name = name_is_lem o.0 (sym (optional_some o.0 e) ∙ f.name_fit) in
        let flag = flag_is o.1.0 (sym (ap (λ (b : Bool). is_content (flag_content b) o.1.0) e) ∙ f.flag_fit) in
        let pairs = pairs_are o.1.1 (sym (ap (λ (b : Bool). is_content (pairs_content b) o.1.1) e) ∙ f.pairs_fit) in
        made (Some (record { name = name.0; nullable = flag.0; pairs = pairs.0 })) (name.2, pairs.2) (λ i. (name.1 i, (flag.1 i, pairs.1 i)))
