-- `put_entry` meets its contract: the pair of an entry, from its two texts. Assumes nothing.
use mathlib.Core.Path.{subst}
use Prim.Native.Nat.{ℕ, ◌+◌}
use Rattle.sheets.specs.Bytes.{Bytes}
use Rattle.buffer.specs.Over.{PutAt, IsUsize}
use Rattle.metadata.proofs.PutLaws.{pair_size, pair_written}
use Rattle.metadata.proofs.put.put_entry.Goals as goal

pub put_pair-requires : goal.put_pair-requires
put_pair-requires c =
    let a = c.args in
    let h = c.requires in
    subst (λ (n : ℕ). IsUsize (a.at + n)) (pair_size a.big a.m.now h.0.0 a.e h.0.1 _ _ c.key_of.ensures c.value_of.ensures) h.1

pub returns : goal.returns
returns c =
    let a = c.args in
    let h = c.requires in
    let p = c.put_pair in
    let e = pair_written a.big a.m.now h.0.0 a.e h.0.1 _ _ c.key_of.ensures c.value_of.ensures in
    subst (λ (t : Bytes). PutAt a.at t p.result a.out.now p.new.out) e p.ensures
