-- `decimal_kind` meets its contract: in each arm the definition computes. Assumes nothing.
use mathlib.Core.Path.{sym, ap}
use Prim.Native.Nat.{ℕ}
use Rattle.sheets.specs.Format.{width_of}
use Rattle.sheets.specs.FieldSheet.{decimal_kind}
use Rattle.import_type.proofs.PutLaws.{other_width}
use Rattle.import_type.proofs.put.decimal_kind.Goals as goal

pub returns-in-32 : goal.returns-in-32
returns-in-32 c = sym (ap (λ (n : ℕ). decimal_kind (width_of n)) c.in-32.is)

pub returns-in-64 : goal.returns-in-64
returns-in-64 c = sym (ap (λ (n : ℕ). decimal_kind (width_of n)) c.in-64.is)

pub returns-in-256 : goal.returns-in-256
returns-in-256 c = sym (ap (λ (n : ℕ). decimal_kind (width_of n)) c.in-256.is)

pub returns-in_default : goal.returns-in_default
returns-in_default c =
    let no = c.in_default.in_default-own.rest in other_width c.args.width no.0.0.1 no.0.1 no.1
