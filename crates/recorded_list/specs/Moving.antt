-- The window that moves along a text: where it may stand, and what refilling it keeps and leaves. Assumes nothing.
use Rattle.std.specs.Prelude.{◌≡◌, false, ℕ, List, Option, ◌++◌, ◌+◌, ◌-◌, ◌*◌, ◌≤◌, min, length, take, drop}
use Rattle.std.specs.Io.KnownBytes.{Consumes}
use Rattle.sheets.specs.Bytes.{Bytes}
use Rattle.recorded_list.specs.declared.window.Window.{Window}

-- a part of a record is read that has at most so many bytes
abbrev pub longest_part : ℕ
longest_part = 131072

-- the longest text of such a record (`record_short`): eight numbers of at most 20 digits, two parts with three bytes of text for each byte, and the byte
-- after each of these ten
abbrev pub longest_record : ℕ
longest_record = 8 * (20 + 1) + 2 * (3 * longest_part + 1)

-- what is still to be read stands in a text of so many bytes
pub record Within (w : Window) (size : ℕ) : Type 0 where
  pub low : w.at ≤ w.end
  pub high : w.end ≤ size

-- nothing of what was still to be read is lost, and a whole record stands in the window, unless the input ended or the text is too short for one
pub record Refilled (before : Bytes) (w : Window) (after : Bytes) (r : Window) : Type 0 where
  pub within : Within r (length after)
  pub most : w.end - w.at ≤ r.end - r.at
  pub kept : take (w.end - w.at) (drop r.at after) ≡ take (w.end - w.at) (drop w.at before)
  pub enough : r.ended ≡ false → min longest_record (length after) ≤ r.end - r.at

-- what is still to be read in the window
abbrev pub still : Window → Bytes → Bytes
still w text = take (w.end - w.at) (drop w.at text)

-- what an input gave, where that is known, stands behind what was still to be read
pub record ReadsBehind (given left : Option (List ℕ)) (before after : Bytes) : Type 0 where
  pub more : Bytes
  pub behind : after ≡ before ++ more
  pub taken : Consumes given left more
