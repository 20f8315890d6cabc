-- What is told of the next record of the list: it is replayed, or the list is malformed there. Assumes nothing.
use Rattle.std.specs.Prelude.{◌≡◌, Bool, ◌&&◌, cond, ℕ, ◌≤◌, leb, ltb, Option, None, Some}
use Rattle.sheets.specs.Bytes.{Bytes}
use Rattle.recorded_list.specs.Codes.{calls}
use Rattle.recorded_list.specs.ListText.{Record}
use Rattle.recorded_list.specs.Reading.{ReadsNext}
use Rattle.recorded_list.specs.declared.records.Header.{Header}
use Rattle.recorded_list.specs.declared.window.Window.{Window}
use Rattle.judge.specs.declared.Numbers.{Numbers}
use Rattle.judge.specs.Judging.{replayed}
use Rattle.replay.specs.declared.Turn.{Turn}

-- "the length of the buffer that is lent, at most 1,048,576"
abbrev pub longest_buffer : ℕ
longest_buffer = 1048576

abbrev pub record_of : Header → Bytes → Bytes → Record
record_of h x y = record { header = h; input = x; output = y }

-- buffers of so many bytes hold the record's parts, and the buffer that it lends is no longer than it may be
pub record Lendable (h : Header) (input output : ℕ) : Type 0 where
  pub input_fits : h.input ≤ input
  pub output_fits : h.output ≤ output
  pub room_fits : h.room ≤ longest_buffer

-- what is still to be read after a record, its call, and what is told of it
abbrev pub Told : Type 0
Told = Window × ℕ × Option Numbers

-- the answer, case by case
abbrev pub turn_option : Option Turn → Option Told
turn_option (Some t) = Some (t.rest, t.call, t.told)
turn_option None = None

-- there is such a call, and no longer buffer is lent than there may be
abbrev pub proper : Header → Bool
proper h = ltb h.call calls && leb h.room longest_buffer

-- a record is replayed if it is proper; no record, or one that is not, is malformed
abbrev pub turn : Option (Record × Window) → Option Told
turn None = None
turn (Some p) = cond (proper p.0.header) (Some (p.1, p.0.header.call, replayed p.0.header.room p.0)) None

-- the next record, for parts in buffers of so many bytes
pub record ReplaysNext (input output : ℕ) (before : Bytes) (w : Window) (after : Bytes) (o : Option Told) : Type 0 where
  pub next : Option (Record × Window)
  pub reads : ReadsNext input output before w after next
  pub told : o ≡ turn next
