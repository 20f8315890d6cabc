-- What is told of the list at the front of its window: the first line, or the next record of a window that was refilled, and what is still to be
-- read after it; or that nothing is left. Assumes nothing.
use Rattle.std.specs.Prelude.{◌≡◌, Bool, true, false, ◌&&◌, not, cond, ℕ, eqb, leb, take, Option, None, Some}
use Rattle.sheets.specs.Bytes.{Bytes}
use Rattle.recorded_list.specs.ListText.{Record, first_line_text, record_text}
use Rattle.recorded_list.specs.Reads.{Reads, IsFirstLine, IsRecord}
use Rattle.recorded_list.specs.Moving.{Refilled}
use Rattle.recorded_list.specs.declared.records.FirstLine.{FirstLine}
use Rattle.recorded_list.specs.declared.window.Window.{Window}

-- there are records, and buffers of so many bytes hold the longest input and the longest output
abbrev pub fitting : ℕ → ℕ → FirstLine → Bool
fitting input output l = not (eqb l.records 0) && (leb l.input input && leb l.output output)

-- what stands at the front of a window, if it passes the test, and what is still to be read after it
abbrev pub front : {A : Type 0} → (A → Bool) → Window → Option (A × ℕ) → Option (A × Window)
front test w None = None
front test w (Some p) = cond (test p.0) (Some (p.0, record { at = p.1; end = w.end; ended = w.ended })) None

-- the thing of the kind at the front of the refilled window, if it passes the test, and what is still to be read after it
pub record ReadsOn {A : Type 0} (Kind : A → Type 0) (text : A → Bytes) (test : A → Bool) (before : Bytes) (w : Window) (after : Bytes) (o : Option (A × Window)) : Type 0 where
  pub from : Window
  pub refilled : Refilled before w after from
  pub there : Option (A × ℕ)
  pub reads : Reads Kind text (take from.end after) from.at there
  pub told : o ≡ front test from there

-- the first line, for buffers of so many bytes, when nothing was read yet
abbrev pub ReadsStart : ℕ → ℕ → Bytes → Bytes → Option (FirstLine × Window) → Type 0
ReadsStart input output before after o = ReadsOn IsFirstLine first_line_text (fitting input output) before (record { at = 0; end = 0; ended = false }) after o

-- the next record, for buffers of so many bytes
abbrev pub ReadsNext : ℕ → ℕ → Bytes → Window → Bytes → Option (Record × Window) → Type 0
ReadsNext input output before w after o = ReadsOn (IsRecord input output) record_text (λ r. true) before w after o

-- whether nothing stands in the refilled window
pub record ReadsEnd (before : Bytes) (w : Window) (after : Bytes) (r : Bool) : Type 0 where
  pub from : Window
  pub refilled : Refilled before w after from
  pub told : r ≡ eqb from.at from.end
