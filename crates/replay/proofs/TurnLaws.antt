-- The next record of the list: a law for each way out of `replay_next`, and that what is still to be read after a record stands in the window. Assumes
-- nothing.
use mathlib.Core.Path.{◌≡◌, refl, sym, ap, subst, ◌∙◌}
use mathlib.Core.Bool.{Bool, true, false, cond}
use Rattle.std.specs.Prelude.{Option, None, Some}
use Rattle.std.proofs.lemmas.Option.{same_Some}
use Prim.Native.Nat.{ℕ}
use lib.Dec.{ltb}
use lib.ListN.{length}
use borrow.Author.Tests.{leb-true}
use Rattle.sheets.specs.Bytes.{Bytes}
use Rattle.sheets.proofs.Tests.{not_some, and_right}
use Rattle.recorded_list.specs.Codes.{calls}
use Rattle.recorded_list.specs.ListText.{Record, record_text}
use Rattle.recorded_list.specs.Reads.{IsRecord}
use Rattle.recorded_list.specs.Moving.{Within}
use Rattle.recorded_list.specs.Reading.{ReadsNext}
use Rattle.recorded_list.specs.declared.window.Window.{Window}
use Rattle.recorded_list.proofs.ReadingLaws.{read_kind, rest_within}
use Rattle.judge.specs.declared.Numbers.{Numbers}
use Rattle.judge.specs.Judging.{replayed}
use Rattle.replay.specs.Turns.{longest_buffer, Lendable, Told, proper, turn, ReplaysNext}

module _ (input output : ℕ) (before : Bytes) (w : Window) (after : Bytes) where
  pub no_record : ReadsNext input output before w after None → ReplaysNext input output before w after None
  no_record r = record { next = None; reads = r; told = refl }

  module _ (r : Record) (rest : Window) (reads : ReadsNext input output before w after (Some (r, rest))) where
    pub not_proper : proper r.header ≡ false → ReplaysNext input output before w after None
    not_proper e = record { next = Some (r, rest); reads = reads; told = sym (ap (λ (b : Bool). cond b (Some (rest, r.header.call, replayed r.header.room r)) None) e) }

    pub lendable : proper r.header ≡ true → Lendable r.header input output
    lendable e =
        let is = read_kind (IsRecord input output) record_text (λ r. true) before w after r rest reads in
        record { input_fits = is.input.fits; output_fits = is.output.fits; room_fits = leb-true r.header.room longest_buffer (and_right (ltb r.header.call calls) _ e) }

    pub one_turn : proper r.header ≡ true → (told : Option Numbers) → told ≡ replayed r.header.room r → ReplaysNext input output before w after (Some (rest, r.header.call, told))
    one_turn e told h =
        let t : Told = (rest, r.header.call, replayed r.header.room r) in
        let same : ◌≡◌ {A = Option Told} (Some (rest, r.header.call, told)) (Some t) = λ i. Some (rest, r.header.call, h i) in
        record { next = Some (r, rest); reads = reads; told = same ∙ sym (ap (λ (b : Bool). cond b (Some t) None) e) }

  -- what a turn leaves is what its record leaves
  left : (next : Option (Record × Window)) (t : Told) → ReadsNext input output before w after next → Some t ≡ turn next → Within t.0 (length after)
  left None t reads e = not_some (sym e)
  left (Some p) t reads e = pick (proper p.0.header) e
    where
      pick : (b : Bool) → ◌≡◌ {A = Option Told} (Some t) (cond b (Some (p.1, p.0.header.call, replayed p.0.header.room p.0)) None) → Within t.0 (length after)
      pick false e = not_some (sym e)
      pick true e = subst (λ (v : Window). Within v (length after)) (ap (λ (u : Told). u.0) (sym (same_Some _ _ e))) (rest_within (IsRecord input output) record_text (λ r. true) before w after p.0 p.1 reads)

  pub turn_within : (t : Told) → ReplaysNext input output before w after (Some t) → Within t.0 (length after)
  turn_within t r = left r.next t r.reads r.told
