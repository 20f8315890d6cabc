-- `put_opening` meets its contract: each call's opening is the fixed byte string; that of a page is empty. Assumes nothing.
use mathlib.Core.Path.{refl, sym, subst}
use Rattle.buffer.specs.Over.{PutAt}
use Rattle.buffer.proofs.OverLaws.{over_at_nothing}
use Rattle.field_walk.specs.declared.Call.{Call}
use Rattle.field_calls.specs.Answers.{opening_of}
use Rattle.field_calls.proofs.put_opening.Goals as goal

pub returns-in-Export : goal.returns-in-Export
returns-in-Export c =
    let a = c.args in let r = c.put_at in subst (λ (x : Call). PutAt 0 (opening_of x) r.result a.out.now r.new.out) (sym c.in-Export.is) r.ensures

pub returns-in-Plain : goal.returns-in-Plain
returns-in-Plain c =
    let a = c.args in let r = c.put_heading in subst (λ (x : Call). PutAt 0 (opening_of x) r.result a.out.now r.new.out) (sym c.in-Plain.is) r.ensures

pub returns-in-ToStorageRecursive : goal.returns-in-ToStorageRecursive
returns-in-ToStorageRecursive c =
    let a = c.args in let r = c.put_heading-in-ToStorageRecursive in subst (λ (x : Call). PutAt 0 (opening_of x) r.result a.out.now r.new.out) (sym c.in-ToStorageRecursive.is) r.ensures

pub returns-in-UnderlyingPhysicalType : goal.returns-in-UnderlyingPhysicalType
returns-in-UnderlyingPhysicalType c =
    let a = c.args in let r = c.put_heading-in-UnderlyingPhysicalType in subst (λ (x : Call). PutAt 0 (opening_of x) r.result a.out.now r.new.out) (sym c.in-UnderlyingPhysicalType.is) r.ensures

pub returns-in-Page : goal.returns-in-Page
returns-in-Page c =
    let out = c.args.out.now in subst (λ (x : Call). PutAt 0 (opening_of x) 0 out out) (sym c.in-Page.is) (refl, sym (over_at_nothing 0 out))
