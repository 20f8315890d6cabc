-- `put_name` meets its contract: `~` and `-` are an empty name, any other column is the name as it stands. Assumes nothing.
use mathlib.Core.List.{[], ◌∷◌}
use Rattle.buffer.proofs.OverLaws.{none_yet, and_then}
use Rattle.put_schema_line.proofs.LineLaws.{name_one, name_long, name_put}
use Rattle.put_schema_line.proofs.put_name.Goals as goal

pub returns-then-name-eq1 : goal.returns-then-name-eq1
returns-then-name-eq1 c =
    let a = c.args in
    let h = c.requires.named in
    let v = and_then (45 ∷ []) (and_then (32 ∷ []) (none_yet a.at a.out.now) c.put_byte-after.ensures) c.put_byte.ensures in
    name_put a.name.now (45 ∷ []) (name_one a.name.now h c.if-name-eq1.true) a.at c.put_byte.result a.out.now c.put_byte.new.out (v.place, v.holds)

pub returns : goal.returns
returns c =
    let a = c.args in
    let h = c.requires.named in
    let v = and_then a.name.now (and_then (32 ∷ []) (none_yet a.at a.out.now) c.put_byte-after.ensures) c.put_at.ensures in
    name_put a.name.now a.name.now (name_long a.name.now h c.if-name-eq1.false) a.at c.put_at.result a.out.now c.put_at.new.out (v.place, v.holds)
