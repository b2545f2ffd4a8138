use Rattle.std.proofs.Common.{◌≡◌, ◌-◌, List, Result, Ok, Err, Some, IfOk, length, sym, ap, ◌∙◌, subst, arith}
use Rattle.std.proofs.lemmas.List.FromFn.{length-map-range_with_len}
use Rattle.kb_machine.specs.Lines.{numbered}
use Rattle.kb_book.specs.declared.versions.Life.{Life}
use Rattle.kb_book.specs.Lives.{VersionsParts, numbers_from}
use Rattle.kb_book.proofs.Lives.{version_numbered}
use Rattle.kb_book.proofs.versions.Versions.numbers.Goals as goal

if_ok : {V E : Type 0} (P Q : V → Type 0) → ((v : V) → P v → Q v) → (result : Result V E) → IfOk result P → IfOk result Q
if_ok P Q leads (Ok v) holds = leads v holds
if_ok P Q leads (Err e) holds = tt

pub returns : goal.returns
returns c =
    let lives = c.self.inside.lives.items in
    let count = c.self.inside.count in
    let number = c.args.version in
    let P : VersionsParts → Type 0 = λ v. IfOk c.numbers_at.result (λ numbers. numbered v.published number ≡ Some numbers.items) in
    let counted : count ≡ length c.args.self.now.published =
    sym (length-map-range_with_len (numbers_from 1 lives) 0 count) ∙ ap (λ (v : VersionsParts). length v.published) c.self.view_is in
    subst P c.self.view_is (if_ok _ _ (λ numbers is.
    version_numbered (numbers_from 1 lives) count number numbers.items c.requires.0 (omega (arith, counted, c.requires.1))
    (is ∙ ap (λ (l : List Life). numbers_from 1 l (number - 1)) c.deref.ensures.value)) c.numbers_at.result c.numbers_at.ensures)
