-- `begin_one` meets its contract: each case of the call is that call's own. Assumes nothing.
use mathlib.Core.Path.{sym, subst}
use Rattle.field_walk.specs.declared.Call.{Call}
use Rattle.field_walk.specs.Calls.{CallBegins}
use Rattle.field_walk.proofs.begin_one.Goals as goal

pub returns-in-Export : goal.returns-in-Export
returns-in-Export c =
    let a = c.args in let r = c.begin_export in subst (λ (x : Call). CallBegins x a.s.now a.tree a.out.now r.new.out r.result) (sym c.in-Export.is) r.ensures

pub returns-in-Plain : goal.returns-in-Plain
returns-in-Plain c =
    let a = c.args in let r = c.begin_plain in subst (λ (x : Call). CallBegins x a.s.now a.tree a.out.now r.new.out r.result) (sym c.in-Plain.is) r.ensures

pub returns-in-ToStorageRecursive : goal.returns-in-ToStorageRecursive
returns-in-ToStorageRecursive c =
    let a = c.args in let r = c.begin_change in subst (λ (x : Call). CallBegins x a.s.now a.tree a.out.now r.new.out r.result) (sym c.in-ToStorageRecursive.is) r.ensures

pub returns-in-UnderlyingPhysicalType : goal.returns-in-UnderlyingPhysicalType
returns-in-UnderlyingPhysicalType c =
    let a = c.args in let r = c.begin_change-in-UnderlyingPhysicalType in subst (λ (x : Call). CallBegins x a.s.now a.tree a.out.now r.new.out r.result) (sym c.in-UnderlyingPhysicalType.is) r.ensures

pub returns-in-Page : goal.returns-in-Page
returns-in-Page c =
    let a = c.args in let r = c.begin_page in subst (λ (x : Call). CallBegins x a.s.now a.tree a.out.now r.new.out r.result) (sym c.in-Page.is) r.ensures
