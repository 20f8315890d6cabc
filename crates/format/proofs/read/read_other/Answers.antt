-- `read_other` meets its contract: the first colon splits. Assumes nothing.
use mathlib.Core.Path.{◌≡◌, sym, ◌∙◌, ap}
use mathlib.Core.Logic.{◌≢◌}
use Prim.Native.Nat.{◌+◌, ◌/◌, ◌<◌}
use native.Mathlib.Omega.{arith}
use lib.ListN.{length, take, drop}
use Rattle.sheets.specs.Format.{cut, read_cut, read_other}
use Rattle.hexadecimal.specs.Hex.{bytes_of}
use Rattle.hexadecimal.proofs.HexLaws.{length_bytes}
use Rattle.sheets.specs.Parts.{bytes_before}
use Rattle.format.proofs.ReadLaws.{reads_as}
use Rattle.sheets.proofs.PartLaws.{before_within}
use Rattle.format.proofs.PartLaws.{cut_at, cut_none}
use Rattle.format.proofs.read.read_other.Goals as goal

pub returns-then-k-f : goal.returns-then-k-f
returns-then-k-f c =
    let f = c.args.f.now in
    let k = c.place_of-k in
    (ap read_other (sym (cut_none (bytes_of f) k.result (k.ensures ∙ omega arith) (omega (arith, length_bytes f c.requires, c.if-k-f.true)))), tt)

pub read_cut-requires : goal.read_cut-requires
read_cut-requires c =
    let f = c.args.f.now in
    let k = c.place_of-k in
    let e : k.result ≡ bytes_before 58 (bytes_of f) = omega (arith, k.ensures) in
    let d : k.result ≢ length f / 2 = c.if-k-f.false in
    let l : k.result < length (bytes_of f) = omega (arith, e, before_within 58 (bytes_of f), length_bytes f c.requires, d) in
    (c.requires, omega (arith, l))

pub returns : goal.returns
returns c =
    let f = c.args.f.now in
    let k = c.place_of-k in
    let e : k.result ≡ bytes_before 58 (bytes_of f) = omega (arith, k.ensures) in
    let d : k.result ≢ length f / 2 = c.if-k-f.false in
    let l : k.result < length (bytes_of f) = omega (arith, e, before_within 58 (bytes_of f), length_bytes f c.requires, d) in
    reads_as f c.read_cut.result (read_cut (take k.result (bytes_of f)) (drop (k.result + 1) (bytes_of f))) (read_other (cut (bytes_of f))) (ap read_other (sym (cut_at (bytes_of f) k.result e l))) c.read_cut.ensures
