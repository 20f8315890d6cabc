-- What is told of the front of a window: what stands there is of its kind and passed the test, and what is still to be read after it stands in the
-- window; and what a first line says of the buffers. Assumes nothing.
use mathlib.Core.Path.{◌≡◌, refl, sym, ap, subst, ◌∙◌}
use mathlib.Core.Bool.{Bool, true, false, not, cond}
use Rattle.std.specs.Prelude.{Option, None, Some}
use Rattle.std.proofs.lemmas.Option.{same_Some}
use Prim.Native.Nat.{ℕ, ◌≤◌}
use native.Mathlib.Omega.{arith}
use lib.Dec.{eqb, leb}
use lib.ListN.{length, take}
use lib.Seq.{length-take-le}
use borrow.Author.Tests.{leb-true}
use Rattle.sheets.specs.Bytes.{Bytes}
use Rattle.sheets.proofs.Tests.{not_some, and_left, and_right}
use Rattle.recorded_list.specs.ListText.{first_line_text}
use Rattle.recorded_list.specs.Reads.{Reads, IsFirstLine}
use Rattle.recorded_list.specs.Moving.{Within}
use Rattle.recorded_list.specs.Reading.{fitting, front, ReadsOn, ReadsStart}
use Rattle.recorded_list.specs.declared.records.FirstLine.{FirstLine}
use Rattle.recorded_list.specs.declared.window.Window.{Window}

module _ {A : Type 0} (test : A → Bool) (w : Window) where
  pub front_passed : (x : A) (next : ℕ) → test x ≡ true → Some (x, record { at = next; end = w.end; ended = w.ended }) ≡ front test w (Some (x, next))
  front_passed x next e = sym (ap (λ (b : Bool). cond b (Some (x, record { at = next; end = w.end; ended = w.ended })) None) e)

  pub front_failed : (x : A) (next : ℕ) → test x ≡ false → None ≡ front test w (Some (x, next))
  front_failed x next e = sym (ap (λ (b : Bool). cond b (Some (x, record { at = next; end = w.end; ended = w.ended })) None) e)

  -- what stands there, if something is told
  pub record Front (x : A) (rest : Window) (there : Option (A × ℕ)) : Type 0 where
    pub passed : test x ≡ true
    pub stands : there ≡ Some (x, rest.at)
    pub same_end : rest.end ≡ w.end

  passed_told : (b : Bool) (x : A) (rest : Window) (p : A × ℕ) → test p.0 ≡ b
      → ◌≡◌ {A = Option (A × Window)} (Some (x, rest)) (cond b (Some (p.0, record { at = p.1; end = w.end; ended = w.ended })) None)
      → Front x rest (Some p)
  passed_told false x rest p h e = not_some (sym e)
  passed_told true x rest p h e =
      let q = same_Some _ _ e in
      record { passed = ap (λ (v : A × Window). test v.0) q ∙ h; stands = ap {B = Option (A × ℕ)} (λ (v : A × Window). Some (v.0, v.1.at)) (sym q); same_end = ap (λ (v : A × Window). v.1.end) q }

  pub front_told : (there : Option (A × ℕ)) (x : A) (rest : Window) → ◌≡◌ {A = Option (A × Window)} (Some (x, rest)) (front test w there) → Front x rest there
  front_told None x rest e = not_some (sym e)
  front_told (Some p) x rest e = passed_told (test p.0) x rest p refl e

module _ {A : Type 0} (Kind : A → Type 0) (text : A → Bytes) (test : A → Bool) (before : Bytes) (w : Window) (after : Bytes) (x : A) (rest : Window) (r : ReadsOn Kind text test before w after (Some (x, rest))) where
  told : Front test r.from x rest r.there
  told = front_told test r.from r.there x rest r.told

  pub read_passed : test x ≡ true
  read_passed = told.passed

  stands : Reads Kind text (take r.from.end after) r.from.at (Some (x, rest.at))
  stands = subst (Reads Kind text (take r.from.end after) r.from.at) told.stands r.reads

  pub read_kind : Kind x
  read_kind = stands.0

  pub rest_within : Within rest (length after)
  rest_within =
      let high = r.refilled.within.high in
      let same = told.same_end in
      record { low = omega (arith, stands.1.within, length-take-le r.from.end after high); high = omega arith }

-- ── the first line

module _ (input output : ℕ) (before after : Bytes) (l : FirstLine) (rest : Window) (r : ReadsStart input output before after (Some (l, rest))) where
  pub start_fits : (l.input ≤ input) × (l.output ≤ output)
  start_fits =
      let t = and_right (not (eqb l.records 0)) _ (read_passed IsFirstLine first_line_text (fitting input output) before (record { at = 0; end = 0; ended = false }) after l rest r) in
      (leb-true l.input input (and_left _ _ t), leb-true l.output output (and_right (leb l.input input) _ t))

  pub start_within : Within rest (length after)
  start_within = rest_within IsFirstLine first_line_text (fitting input output) before (record { at = 0; end = 0; ended = false }) after l rest r
