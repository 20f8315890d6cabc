-- `keep` meets its contract: one law for each kind of key. Assumes nothing.
use mathlib.Core.Path.{sym, ap, ◌∙◌}
use Rattle.sheets.specs.Bytes.{Bytes, same}
use Rattle.sheets.specs.Metadata.{name_key, metadata_key}
use Rattle.hexadecimal.specs.Hex.{bytes_of}
use Rattle.metadata.proofs.EntryLaws.{key_hex, key_bytes}
use Rattle.metadata.proofs.KeepLaws.{adds_name, adds_more, adds_pair}
use Rattle.metadata.proofs.keep.Goals as goal

pub is_name-requires : goal.is_name-requires
is_name-requires c =
    let a = c.args in
    let h = c.requires.1 in
    key_hex _ a.m.now h.block.is_text a.e h.entry c.key_of-key.result.now c.key_of-key.ensures

pub returns-then-is_name : goal.returns-then-is_name
returns-then-is_name c =
    λ big h.
    let a = c.args in
    adds_name big (bytes_of a.m.now) a.entries.now a.f a.e h.entry h.standing
    (ap (λ (k : Bytes). same k name_key) (sym (key_bytes big a.m.now h.block.is_text a.e h.entry c.key_of-key.result.now c.key_of-key.ensures)) ∙ sym c.is_name.ensures ∙ c.if-is_name.true)

pub is_more-requires : goal.is_more-requires
is_more-requires c =
    let a = c.args in
    let h = c.requires.1 in
    key_hex _ a.m.now h.block.is_text a.e h.entry c.key_of-key.result.now c.key_of-key.ensures

pub returns-then-is_more : goal.returns-then-is_more
returns-then-is_more c =
    λ big h.
    let a = c.args in
    adds_more big (bytes_of a.m.now) a.entries.now a.f a.e h.entry h.standing
    (ap (λ (k : Bytes). same k name_key) (sym (key_bytes big a.m.now h.block.is_text a.e h.entry c.key_of-key.result.now c.key_of-key.ensures)) ∙ sym c.is_name.ensures ∙ c.if-is_name.false)
    (ap (λ (k : Bytes). same k metadata_key) (sym (key_bytes big a.m.now h.block.is_text a.e h.entry c.key_of-key.result.now c.key_of-key.ensures)) ∙ sym c.is_more.ensures ∙ c.if-is_more.true)

pub returns : goal.returns
returns c =
    λ big h.
    let a = c.args in
    adds_pair big (bytes_of a.m.now) a.entries.now a.f a.e h.entry h.standing
    (ap (λ (k : Bytes). same k name_key) (sym (key_bytes big a.m.now h.block.is_text a.e h.entry c.key_of-key.result.now c.key_of-key.ensures)) ∙ sym c.is_name.ensures ∙ c.if-is_name.false)
    (ap (λ (k : Bytes). same k metadata_key) (sym (key_bytes big a.m.now h.block.is_text a.e h.entry c.key_of-key.result.now c.key_of-key.ensures)) ∙ sym c.is_more.ensures ∙ c.if-is_more.false) h.room
