use Rattle.std.proofs.Common.{◌≡◌, ◌+◌, ℕ, List, [], ◌∷◌, ◌++◌, suc, length, ap, ◌∙◌, arith}
use Rattle.kb_book.specs.declared.versions.Life.{Life}
use Rattle.kb_book.specs.Lives.{VersionsParts, most, numbers_from}
use Rattle.kb_book.proofs.Lives.{numbers_with, numbers_without, published_kept, comes_now, is_there}
use Rattle.kb_book.proofs.versions.Versions.add_line.Goals as goal

pub returns-clause-published : goal.returns-clause-published
returns-clause-published c =
    let lives = c.self.inside.lives.items in
    let count = c.self.inside.count in
    let life : Life = record { born = count; gone = suc most } in
    published_kept (numbers_from 1 c.add.new.list.items) (numbers_from 1 lives) count (λ place earlier.
    ap (λ (l : List Life). numbers_from 1 l place) c.add.ensures.items ∙ numbers_without 1 lives life place (comes_now count place earlier))
    ∙ ap (λ (v : VersionsParts). v.published) c.self.view_is

pub returns-clause-live : goal.returns-clause-live
returns-clause-live c =
    let lives = c.self.inside.lives.items in
    let count = c.self.inside.count in
    let life : Life = record { born = count; gone = suc most } in
    let number : 1 + length lives ≡ length lives + 1 = omega arith in
    ap (λ (l : List Life). numbers_from 1 l count) c.add.ensures.items ∙ numbers_with 1 lives life count (is_there count c.self.invariant.2)
    ∙ ap (λ (n : ℕ). numbers_from 1 lives count ++ n ∷ []) number
    ∙ ap (λ (v : VersionsParts). v.live ++ (v.lines + 1) ∷ []) c.self.view_is
