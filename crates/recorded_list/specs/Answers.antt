-- The answers of the list's readers, case by case: what was read and the place after it, or nothing. Assumes nothing.
use Rattle.std.specs.Prelude.{ℕ, take, Option, None, Some}
use Rattle.sheets.specs.Bytes.{Bytes}
use Rattle.recorded_list.specs.ListText.{Record}
use Rattle.recorded_list.specs.declared.records.Header.{Header}
use Rattle.recorded_list.specs.declared.window.Window.{Window}

-- ── at a place of the text

-- what was read stands in a buffer
abbrev pub text_option : {A : Type 0} → A → Option ℕ → Option (A × ℕ)
text_option x (Some next) = Some (x, next)
text_option x None = None

-- the parts stand in the first bytes of two buffers
abbrev pub record_in : Bytes → Bytes → Header → Record
record_in ins outs h = record { header = h; input = take h.input ins; output = take h.output outs }

abbrev pub record_option : Bytes → Bytes → Option (Header × ℕ) → Option (Record × ℕ)
record_option ins outs (Some (h, next)) = Some (record_in ins outs h, next)
record_option ins outs None = None

-- ── through the window

abbrev pub next_option : Bytes → Bytes → Option (Header × Window) → Option (Record × Window)
next_option ins outs (Some (h, rest)) = Some (record_in ins outs h, rest)
next_option ins outs None = None
